use Rattle.writing.proofs.Sweeps.{RowsFrom}
use Rattle.writing.proofs.checks.coefficients_clear.Given as goal

abbrev pub invariant-loop-atom : goal.invariant-loop-atom
invariant-loop-atom l = RowsFrom l.n l.atoms l.question.coefficients l.atom
