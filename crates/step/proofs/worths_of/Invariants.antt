use mathlib.Core.Path.{◌≡◌}
use mathlib.Core.Bool.{false}
use lib.ListN.{replicate}
use Rattle.scope.specs.Whole.{at_front}
use Rattle.step.specs.Eight.{listed}
use Rattle.step.specs.Cells.{worth_at}
use Rattle.step.proofs.worths_of.Given as goal

abbrev pub invariant-loop-i : goal.invariant-loop-i
invariant-loop-i l = (l.worths ≡ at_front (listed (worth_at l.kinds l.row) l.i) (replicate 8 false))
