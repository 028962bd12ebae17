use mathlib.Core.Path.{◌≡◌}
use mathlib.Core.List.{List}
use Prim.Native.Nat.{ℕ, ◌≤◌}
use lib.ListN.{length}
use lib.IntN.{ℤ}
use Rattle.index.specs.Index.{Indexed}
use Rattle.index.proofs.insert_rows.Given as goal

-- the rows before `row` are indexed, in links as long as they were
pub record Begun (keys : List ℤ) (width : ℕ) (links₀ : List ℕ) (count : ℕ) (links : List ℕ) (row : ℕ) : Type 0 where
  pub low : row ≤ count
  pub long : length links ≡ length links₀
  pub indexed : Indexed keys width links row

abbrev pub invariant-loop-row : goal.invariant-loop-row
invariant-loop-row l = Begun l.keys l.width l.initial.links l.count l.links l.row
