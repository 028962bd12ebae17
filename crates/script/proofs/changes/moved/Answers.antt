-- `script::changes::moved` meets its contract. Assumes nothing.
use Rattle.script.specs.Changes.{MovesOn}
use Rattle.script.proofs.Keeping.{moved_kept}
use Rattle.script.proofs.changes.moved.Goals as goal

pub returns : goal.returns
unfolding MovesOn
returns c = λ text s stage places keeps e g. moved_kept keeps stage places _ _ _ c.lower-outside.ensures e g
