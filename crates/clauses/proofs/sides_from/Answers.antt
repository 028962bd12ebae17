-- `clauses::sides_from` meets its contract. Assumes nothing.
use native.Mathlib.Omega.{arith}
use Rattle.clauses.proofs.Reading.{sides_read}
use Rattle.clauses.proofs.sides_from.Goals as goal

pub returns : goal.returns
returns c =
    rw c.of.ensures (record { inside = omega arith; read = sides_read _ _ _ _ _ _ _ (omega arith) (omega arith) c.terms_from-sides.ensures.read })
