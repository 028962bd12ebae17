use Prim.Native.Nat.{◌<◌}
use mathlib.Core.Path.{◌≡◌}
use lib.ListN.{drop}
use Rattle.scope.specs.Running.{table_rows, row_after}
use Rattle.words.proofs.says_yes.Given as goal

abbrev pub invariant-loop-letter : goal.invariant-loop-letter
invariant-loop-letter l = (l.row < table_rows l.n l.cells) × (row_after l.n l.cells l.row (drop l.letter-index l.word) ≡ row_after l.n l.cells 0 l.word)
