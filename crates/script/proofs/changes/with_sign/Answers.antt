-- `script::changes::with_sign` meets its contract. Assumes nothing.
use Rattle.script.specs.Changes.{KeepsOn, SignsOn}
use Rattle.script.proofs.Keeping.{signed_kept}
use Rattle.script.proofs.changes.with_sign.Goals as goal

pub returns : goal.returns
unfolding KeepsOn SignsOn
returns c = λ text w found s keeps. signed_kept keeps w _ c.requires found
