use mathlib.Core.Path.{◌≡◌}
use Prim.Native.Nat.{ℕ, ◌+◌, ◌≤◌, ◌<◌}
use lib.ListN.{get_or}
use lib.IntN.{pos}
use Rattle.index.specs.Index.{Key}
use Rattle.index.proofs.load_row.Given as goal

abbrev pub invariant-loop-i : goal.invariant-loop-i
invariant-loop-i l = (l.i ≤ l.width) × Key l.i l.key × ((k : ℕ) → k < l.i → get_or l.keys (l.base + k) (pos 0) ≡ get_or l.key k (pos 0))
