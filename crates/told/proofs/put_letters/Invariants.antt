use Prim.Native.Nat.{◌+◌, ◌*◌, ◌≤◌}
use mathlib.Core.Path.{◌≡◌}
use lib.ListN.{length, take}
use Rattle.told.specs.Text.{numbers}
use Rattle.told.specs.Writers.{Put}
use Rattle.told.proofs.put_letters.Given as goal

abbrev pub invariant-loop-letter : goal.invariant-loop-letter
invariant-loop-letter l = (l.next ≤ l.at + 4 * l.letter-index) × (length l.out ≡ length l.initial.out) × Put (numbers (take l.letter-index l.word)) l.at l.initial.out l.next l.out
