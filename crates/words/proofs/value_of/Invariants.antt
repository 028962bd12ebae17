use mathlib.Core.Path.{◌≡◌}
use lib.ListN.{drop}
use Rattle.scope.specs.Words.{value}
use Rattle.words.proofs.value_of.Given as goal

abbrev pub invariant-loop-i : goal.invariant-loop-i
invariant-loop-i l = (l.v ≡ value (drop l.i l.word) l.j)
