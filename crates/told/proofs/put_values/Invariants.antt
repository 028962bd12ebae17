use Prim.Native.Nat.{◌+◌, ◌*◌, ◌≤◌}
use mathlib.Core.Path.{◌≡◌}
use lib.ListN.{length}
use Rattle.scope.specs.Words.{spelled}
use Rattle.told.specs.Text.{numbers}
use Rattle.told.specs.Writers.{Put}
use Rattle.told.proofs.put_values.Given as goal

abbrev pub invariant-loop-j : goal.invariant-loop-j
invariant-loop-j l = (l.next ≤ l.at + 21 * l.j) × (length l.out ≡ length l.initial.out) × Put (numbers (spelled l.j l.word)) l.at l.initial.out l.next l.out
