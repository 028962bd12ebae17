use mathlib.Core.Path.{◌≡◌}
use Prim.Native.Nat.{◌≤◌}
use lib.ListN.{length}
use Rattle.scope.specs.Whole.{at_front}
use Rattle.path.specs.Path.{path_word}
use Rattle.path.proofs.write_word.Given as goal

abbrev pub invariant-loop-t : goal.invariant-loop-t
invariant-loop-t l =
    (l.t ≤ l.state) × (l.left ≡ length (path_word l.path l.t)) × (l.left ≤ l.letters) × (length l.word ≡ length l.initial.word) × (at_front (path_word l.path l.t) l.word ≡ at_front (path_word l.path l.state) l.initial.word)

abbrev pub decreases-loop-t : goal.decreases-loop-t
decreases-loop-t l = l.t
