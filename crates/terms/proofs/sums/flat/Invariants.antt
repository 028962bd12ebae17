use Rattle.terms.specs.Seven.{lane, LaneFlat}
use Rattle.terms.proofs.Sevens.{FilledTo}
use Rattle.terms.proofs.sums.flat.Given as goal

abbrev pub invariant-loop-i : goal.invariant-loop-i
invariant-loop-i l = FilledTo (λ k z. LaneFlat (lane l.low k) (lane l.high k) z) l.numbers l.i
