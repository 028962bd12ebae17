use Rattle.judge.proofs.Noting.{WorthsNoted}
use Rattle.judge.proofs.worths_of.Given as goal

abbrev pub invariant-loop-code : goal.invariant-loop-code
invariant-loop-code l = WorthsNoted l.question l.values l.worths l.atom l.code-index
