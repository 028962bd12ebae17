use Prim.Native.Nat.{◌+◌, ◌*◌, ◌≤◌}
use mathlib.Core.Path.{◌≡◌}
use lib.ListN.{length}
use Rattle.scope.specs.Words.{spelled}
use Rattle.told.specs.Writers.{Put}
use Rattle.said.specs.Said.{define_lines}
use Rattle.said.proofs.define_lines.Given as goal

abbrev pub invariant-loop-i : goal.invariant-loop-i
invariant-loop-i l =
    (l.next ≤ l.at + l.i * (length l.text + 64)) × (length l.out ≡ length l.initial.out) × Put (define_lines l.text l.bounds 0 (spelled l.i l.word)) l.at l.initial.out l.next l.out
