-- `script::changes::with_fault` meets its contract. Assumes nothing.
use mathlib.Core.Path.{◌∙◌}
use Rattle.script.specs.Changes.{FaultsOn}
use Rattle.script.proofs.changes.with_fault.Goals as goal

pub returns : goal.returns
unfolding FaultsOn
returns c = λ text places g. c.with_faults.ensures text places (c.unless.ensures ∙ g)
