use mathlib.Core.Path.{◌≡◌}
use lib.ListN.{drop}
use Rattle.scope.specs.States.{dot}
use Rattle.judge.specs.Sums.{coefficients_from}
use Rattle.judge.proofs.sum_at.Given as goal

abbrev pub invariant-loop-j : goal.invariant-loop-j
invariant-loop-j l = (l.s ≡ dot (drop l.j (coefficients_from l.coefficients l.at l.values)) (drop l.j l.values))
