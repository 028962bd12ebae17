use mathlib.Core.Path.{◌≡◌}
use Prim.Native.Nat.{◌≤◌}
use lib.ListN.{length}
use lib.Seq.{paste}
use Rattle.index.proofs.store_row.Given as goal

abbrev pub invariant-loop-i : goal.invariant-loop-i
invariant-loop-i l = (l.i ≤ l.width) × (length l.keys ≡ length l.initial.keys) × (l.keys ≡ paste l.initial.keys l.base l.key l.i)
