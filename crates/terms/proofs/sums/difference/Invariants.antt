use mathlib.Core.Path.{◌≡◌}
use lib.IntN.{◌-ℤ◌}
use Rattle.terms.specs.Seven.{lane}
use Rattle.terms.proofs.Sevens.{FilledTo}
use Rattle.terms.proofs.sums.difference.Given as goal

abbrev pub invariant-loop-i : goal.invariant-loop-i
invariant-loop-i l = FilledTo (λ k z. z ≡ lane l.first k -ℤ lane l.second k) l.numbers l.i
