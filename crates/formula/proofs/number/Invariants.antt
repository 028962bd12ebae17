use Rattle.std.proofs.Common.{◌≡◌, drop}
use Rattle.formula.specs.Truths.{worths_number}
use Rattle.formula.proofs.number.Given as goal

abbrev pub invariant-loop-i : goal.invariant-loop-i
invariant-loop-i l = l.number ≡ worths_number (drop l.i l.worths)
