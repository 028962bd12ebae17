-- `records::shape::Shape::grow` meets its contract, in its three cases.
use native.Mathlib.Omega.{arith}
use Prim.Native.Nat.{◌≤◌}
use Rattle.records.proofs.Shapes.{grown_atom, grown_one, grown_two}
use Rattle.records.proofs.shape.Shape.grow.Goals as goal
use Rattle.records.proofs.shape.Shape.grow.Goals.{in_default-via-then-code-lt1, in_default-via-else-code-lt1+else-code-lt3}

pub returns-in-1 : goal.returns-in-1
returns-in-1 c = grown_atom _ _ c.requires (omega arith)

pub returns-in-3 : goal.returns-in-3
returns-in-3 c = grown_one _ _ c.requires c.in-3.is

pub returns-in_default : goal.returns-in_default
returns-in_default c =
    let four : 4 ≤ c.args.code = elim c.in_default.branch [ in_default-via-then-code-lt1 w ↦ omega (arith, c.requires.node) | in_default-via-else-code-lt1+else-code-lt3 w ↦ omega arith ] in
    grown_two _ _ c.requires four
