use mathlib.Core.Path.{◌≡◌}
use Rattle.step.specs.Cells.{digit_adds}
use Rattle.step.proofs.digit_adds.Given as goal

abbrev pub invariant-loop-i : goal.invariant-loop-i
invariant-loop-i l = (l.adds ≡ digit_adds l.i l.coefficients l.j)
