use Prim.Native.Nat.{◌*◌}
use Rattle.step.specs.Cells.{SumsAdded}
use Rattle.step.proofs.digit_sums.Given as goal

abbrev pub invariant-loop-letter : goal.invariant-loop-letter
invariant-loop-letter l = SumsAdded l.adds l.initial.sums l.sums 0 (8 * l.count) (8 * l.letter)
