-- Sums of products: how large they are, and one term more.
use Prim.Native.Nat.{ℕ, suc, ◌+◌, ◌*◌, ◌≤◌, ◌<◌}
use native.Mathlib.Nat.{mul-le-mul}
use native.Mathlib.Omega.{arith}
use mathlib.Core.Path.{◌≡◌, refl, sym}
use mathlib.Core.List.{List, [], ◌∷◌}
use lib.ListN.{length, get_or, drop, length-take, length-drop}
use lib.Seq.{drop-length, drop-cons, get_or-take, get_or-drop}
use lib.IntN.{ℤ, pos, nat_abs, ◌+ℤ◌, ◌*ℤ◌}
use mir.Syntax.{w32, w64}
use mir.Val.{SFits}
use Rattle.scope.specs.Sizes.{most_coefficient, most_value}
use Rattle.scope.specs.States.{dot}
use Rattle.theory.specs.Numbers.Magnitude.{abs_add, abs_mul, fits_abs}
use Rattle.judge.specs.Sums.{coefficients_from, Summable}

-- 4096 * (2 ^ 40 - 1)
abbrev most_product : ℕ
most_product = most_coefficient * most_value

pub product_small : (a : ℤ) (x : ℕ) → nat_abs a ≤ most_coefficient → x ≤ most_value → nat_abs (a *ℤ pos x) ≤ most_product
product_small a x ha hx = rw (abs_mul a (pos x)) (mul-le-mul ha hx)

-- every coefficient and every value within its limit
record Small (cs : List ℤ) (xs : List ℕ) : Type 0 where
  coefficient : (j : ℕ) → j < length cs → nat_abs (get_or cs j (pos 0)) ≤ most_coefficient
  value : (j : ℕ) → j < length xs → get_or xs j 0 ≤ most_value

small_rest : (a : ℤ) (cs : List ℤ) (x : ℕ) (xs : List ℕ) → Small (a ∷ cs) (x ∷ xs) → Small cs xs
small_rest a cs x xs s = record {
  coefficient = λ j h. s.coefficient (suc j) (omega arith);
  value = λ j h. s.value (suc j) (omega arith);
}

dot_small : (cs : List ℤ) (xs : List ℕ) → Small cs xs → nat_abs (dot cs xs) ≤ most_product * length xs
unfolding dot
dot_small [] xs s = omega arith
dot_small (a ∷ cs) [] s = omega arith
dot_small (a ∷ cs) (x ∷ xs) s =
    omega (arith, abs_add (a *ℤ pos x) (dot cs xs), product_small a x (s.coefficient 0 (omega arith)) (s.value 0 (omega arith)), dot_small cs xs (small_rest a cs x xs s))

dot_none : (cs : List ℤ) → dot cs [] ≡ pos 0
unfolding dot
dot_none [] = refl
dot_none (a ∷ cs) = refl

-- ---- from a variable on

module _ {coefficients : List ℤ} {at : ℕ} {values : List ℕ} (h : Summable coefficients at values) where
  abbrev row : List ℤ
  row = coefficients_from coefficients at values

  row_length : length row ≡ length values
  row_length = simp (length-take, length-drop) (omega (arith, h.within, h.whole))

  row_at_lem : (j : ℕ) → j < length values → get_or row j (pos 0) ≡ get_or coefficients (at + j) (pos 0)
  row_at_lem j l = rw (get_or-take (length values) (drop at coefficients) j (pos 0), get_or-drop at coefficients j (pos 0))

  rest_small : (j : ℕ) → Small (drop j row) (drop j values)
  rest_small j = record {
    coefficient = λ i l.
        let n : j + i < length values = omega (arith, length-drop j row, row_length) in
        rw (get_or-drop j row i (pos 0), row_at_lem (j + i) n) (h.coefficient (j + i) n);
    value = λ i l.
        let n : j + i < length values = omega (arith, length-drop j values) in
        rw (get_or-drop j values i 0) (h.value (j + i) n);
  }

  -- the sum from a variable on fits 64 bits
  pub sum_fits : (j : ℕ) → SFits w64 (dot (drop j row) (drop j values))
  sum_fits j =
      fits_abs w64 (dot (drop j row) (drop j values))
      (omega (arith, dot_small (drop j row) (drop j values) (rest_small j), length-drop j values, h.few))

  -- one term more, before the others
  pub sum_more : (j : ℕ) → j < length values → dot (drop j row) (drop j values) ≡ get_or coefficients (at + j) (pos 0) *ℤ pos (get_or values j 0) +ℤ dot (drop (suc j) row) (drop (suc j) values)
  unfolding dot
  sum_more j l =
      let n : j < length row = omega (arith, row_length) in
      rw (drop-cons row j (pos 0) n, drop-cons values j 0 l, row_at_lem j l)

  -- the coefficient of a variable fits 32 bits
  pub coefficient_fits_lem : (j : ℕ) → j < length values → SFits w32 (get_or coefficients (at + j) (pos 0))
  coefficient_fits_lem j l = fits_abs w32 (get_or coefficients (at + j) (pos 0)) (omega (arith, h.coefficient j l))

  pub sum_none : pos 0 ≡ dot (drop (length values) row) (drop (length values) values)
  sum_none = rw (drop-length values) (sym (dot_none (drop (length values) row)))
