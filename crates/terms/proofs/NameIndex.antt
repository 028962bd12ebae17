-- A name looked for among the declared ones, from one of them on. Assumes nothing.
use Prim.Native.Nat.{ℕ, suc, ◌+◌, ◌-◌, ◌≤◌, ◌<◌}
use native.Mathlib.Omega.{arith}
use native.Mathlib.Numerals.{add-one}
use mathlib.Core.Path.{◌≡◌}
use mathlib.Core.Bool.{true, false}
use mathlib.Core.Option.{none, some}
use mathlib.Core.List.{List}
use Rattle.smtlib.specs.Spelling.{same}
use Rattle.smtlib.specs.Terms.{index_from}
use Rattle.terms.specs.Names.{name_at, names_from}

module _ (text bounds w : List ℕ) (count i : ℕ) where
  pub index_here : i < count → same w (name_at text bounds i) ≡ true → index_from i w (names_from text bounds i (count - i)) ≡ some i
  unfolding index_from names_from
  index_here h e = let k : count - i ≡ suc (count - suc i) = omega arith in rw (k, e)

  pub index_next : i < count → same w (name_at text bounds i) ≡ false
      → index_from i w (names_from text bounds i (count - i)) ≡ index_from (i + 1) w (names_from text bounds (i + 1) (count - (i + 1)))
  unfolding index_from names_from
  index_next h e = let k : count - i ≡ suc (count - suc i) = omega arith in rw (k, e, add-one i)

  pub index_end : count ≤ i → index_from i w (names_from text bounds i (count - i)) ≡ none
  unfolding index_from names_from
  index_end h = let k : count - i ≡ 0 = omega arith in rw k
