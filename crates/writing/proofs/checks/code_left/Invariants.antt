use Rattle.writing.proofs.Sweeps.{LeftFrom}
use Rattle.writing.proofs.checks.code_left.Given as goal

abbrev pub invariant-loop-i : goal.invariant-loop-i
invariant-loop-i l = LeftFrom l.question.codes l.from l.i
