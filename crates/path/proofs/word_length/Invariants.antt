use mathlib.Core.Path.{◌≡◌}
use Prim.Native.Nat.{◌+◌, ◌≤◌}
use lib.ListN.{length}
use Rattle.path.specs.Path.{path_word}
use Rattle.path.proofs.word_length.Given as goal

abbrev pub invariant-loop-t : goal.invariant-loop-t
invariant-loop-t l = (l.t ≤ l.state) × (l.letters + length (path_word l.path l.t) ≡ length (path_word l.path l.state))

abbrev pub decreases-loop-t : goal.decreases-loop-t
decreases-loop-t l = l.t
