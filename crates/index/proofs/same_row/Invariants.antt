use mathlib.Core.Path.{◌≡◌}
use mathlib.Core.List.{List}
use Prim.Native.Nat.{ℕ, ◌+◌, ◌≤◌, ◌<◌}
use lib.ListN.{get_or}
use lib.IntN.{ℤ, pos}
use Rattle.index.proofs.same_row.Given as goal

-- at most four cells are left from `from` on, and those before from + i agree
pub record Begun (keys : List ℤ) (width base : ℕ) (key : List ℤ) (from i : ℕ) : Type 0 where
  pub few : from ≤ 4
  pub left : width ≤ from + 4
  pub low : i ≤ 4
  pub agree : (k : ℕ) → k < from + i → k < width → get_or keys (base + k) (pos 0) ≡ get_or key k (pos 0)

abbrev pub invariant-loop-i : goal.invariant-loop-i
invariant-loop-i l = Begun l.keys l.width l.base l.key l.from l.i
