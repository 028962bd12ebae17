use mathlib.Core.Path.{◌≡◌}
use lib.ListN.{length}
use Rattle.step.specs.Cells.{Sums}
use Rattle.step.proofs.letter_sums.Given as goal

abbrev pub invariant-loop-j : goal.invariant-loop-j
invariant-loop-j l = (length l.sums ≡ 512) × Sums l.j l.m l.coefficients l.sums
