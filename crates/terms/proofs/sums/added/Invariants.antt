use Rattle.terms.proofs.Sevens.{LanesAdding}
use Rattle.terms.proofs.sums.added.Given as goal

abbrev pub invariant-loop-i : goal.invariant-loop-i
invariant-loop-i l = LanesAdding l.part l.initial.low l.initial.high l.low l.high l.i
