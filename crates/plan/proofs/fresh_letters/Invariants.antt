use Rattle.plan.specs.Machine.{FreshBits}
use Rattle.plan.proofs.fresh_letters.Given as goal

abbrev pub invariant-loop-letter : goal.invariant-loop-letter
invariant-loop-letter l = FreshBits l.sums l.letter l.fresh
