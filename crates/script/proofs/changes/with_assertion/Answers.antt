-- `script::changes::with_assertion` meets its contract. Assumes nothing.
use Rattle.script.specs.Changes.{KeepsOn, AssertsOn}
use Rattle.script.proofs.Keeping.{asserted_kept}
use Rattle.script.proofs.changes.with_assertion.Goals as goal

pub returns : goal.returns
unfolding KeepsOn AssertsOn
returns c = λ text k g s keeps. asserted_kept keeps k _ _ c.lower-outside.ensures g
