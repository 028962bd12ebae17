use Rattle.writing.proofs.Placing.{NodesLeft}
use Rattle.writing.proofs.putting.put_question.Given as goal

abbrev pub invariant-loop-i : goal.invariant-loop-i
invariant-loop-i l = NodesLeft l.question l.nodes l.initial.bytes l.bytes l.at l.atoms l.i
