use Rattle.step.specs.Cells.{SumsAdded}
use Rattle.step.proofs.digit_row.Given as goal

abbrev pub invariant-loop-i : goal.invariant-loop-i
invariant-loop-i l = SumsAdded l.adds l.initial.sums l.sums l.from l.to l.i
