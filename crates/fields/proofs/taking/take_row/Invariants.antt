use Rattle.fields.proofs.Bodies.{TakenFrom}
use Rattle.fields.proofs.taking.take_row.Given as goal

abbrev pub invariant-loop-i : goal.invariant-loop-i
invariant-loop-i l = TakenFrom l.bytes l.start l.n l.cell l.initial.coefficients l.coefficients l.i
