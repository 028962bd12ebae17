use mathlib.Core.Path.{◌≡◌}
use lib.ListN.{replicate}
use lib.IntN.{pos}
use Rattle.scope.specs.Whole.{at_front}
use Rattle.step.specs.Eight.{listed}
use Rattle.step.specs.Cells.{step_at}
use Rattle.step.proofs.step_row.Given as goal

abbrev pub invariant-loop-i : goal.invariant-loop-i
invariant-loop-i l = (l.target ≡ at_front (listed (step_at l.kinds l.sums l.letter l.row) l.i) (replicate 8 (pos 0)))
