-- An atom's numbers: on the other side of a comparison, and in a row. Assumes nothing.
use mathlib.Core.Path.{◌≡◌, refl, ap, ◌∙◌}
use mathlib.Core.Bool.{Bool, true, false, cond}
use mathlib.Core.List.{List}
use Prim.Native.Nat.{ℕ, suc, ◌+◌, ◌-◌, ◌≤◌, ◌<◌}
use native.Mathlib.Omega.{arith}
use borrow.Author.Tests.{leb-true, eq-eqb, ne_eqb, eqb-false}
use lib.Dec.{T, leb, eqb}
use lib.Ieee.Bits.{is_true}
use lib.IntN.{ℤ, pos, nat_abs, neg_ℤ, ◌-ℤ◌, +ℤ_idl}
use lib.ListN.{length, get_or, set, take, drop, length-drop}
use lib.Seq.{sets, drop-cons, get_or-drop}
use mir.Syntax.{w64}
use mir.Val.{SFits}
use Rattle.scope.specs.Sizes.{most_constant, coefficient_fits}
use Rattle.std.specs.List.{list_all}
use Rattle.scope.specs.Question.{Node, code_of}
use Rattle.smtlib.specs.Terms.{at_most, below, at_least, above, most_collected, collected_fit}
use Rattle.smtlib.specs.Formulas.{kind_for, lowered}
use Rattle.theory.specs.Numbers.Magnitude.{abs_sub, fits_abs}
use Rattle.theory.specs.Numbers.Tests.{all_each}
use Rattle.laying.specs.Noted.{relation_of, comparison_code}

-- ---- the other side

pub record OtherSide (z : ℤ) : Type 0 where
  pub itself : SFits w64 z
  pub other : SFits w64 (pos 0 -ℤ z)
  pub lower : SFits w64 ((pos 0 -ℤ z) -ℤ pos 1)
  pub is : pos 0 -ℤ z ≡ neg_ℤ z

pub other_side : (z : ℤ) → nat_abs z ≤ most_collected → OtherSide z
other_side z h = record {
  itself = fits_abs w64 z (omega arith);
  other = fits_abs w64 (pos 0 -ℤ z) (omega (arith, abs_sub (pos 0) z));
  lower = fits_abs w64 ((pos 0 -ℤ z) -ℤ pos 1) (omega (arith, abs_sub (pos 0) z, abs_sub (pos 0 -ℤ z) (pos 1)));
  is = +ℤ_idl (neg_ℤ z);
}

pub not_lowered : (head : ℕ) (z : ℤ) → 3 ≤ head → head ≤ 7 → (head ≡ 5 → ⊥) → (head ≡ 7 → ⊥) → z ≡ lowered (relation_of head) z
not_lowered head z h k f g = go (eqb head 3) (eqb head 4) refl refl
  where
    go : (b d : Bool) → eqb head 3 ≡ b → eqb head 4 ≡ d → z ≡ lowered (relation_of head) z
    go true d p q = rw p
    go false true p q = rw (p, q)
    go false false p q = rw (p, q, ne_eqb head 5 f, eq-eqb head 6 (omega (arith, eqb-false head 3 p, eqb-false head 4 q)))

pub no_equation : (head : ℕ) → (head ≡ 3 → ⊥) → 2 ≡ comparison_code head
no_equation head f = rw (ne_eqb head 3 f) (go (eqb head 4) (eqb head 5) (eqb head 6))
  where
    go : (b d e : Bool) → 2 ≡ code_of (Node.atom (kind_for (cond b at_most (cond d below (cond e at_least above)))))
    go true d e = refl
    go false true e = refl
    go false false true = refl
    go false false false = refl

-- ---- a row

-- what is still to be put gives the whole
pub record RowOnward (cell n : ℕ) (numbers row₀ row : List ℤ) (i : ℕ) : Type 0 where
  pub most : i ≤ n
  pub rest : sets row (cell + i) (take (n - i) (drop (i + 1) numbers)) ≡ sets row₀ cell (take n (drop 1 numbers))

module _ (cell n : ℕ) (numbers row₀ : List ℤ) where
  pub row_begun : RowOnward cell n numbers row₀ row₀ 0
  row_begun =
      let z : cell + 0 ≡ cell = omega arith in
      let y : n - 0 ≡ n = omega arith in
      record { most = omega arith; rest = rw (z, y) }

  module _ (row : List ℤ) (i : ℕ) (r : RowOnward cell n numbers row₀ row i) where
    pub row_onward : i < n → i + 1 < length numbers → RowOnward cell n numbers row₀ (set row (cell + i) (get_or numbers (i + 1) (pos 0))) (i + 1)
    row_onward h k =
        let z : cell + (i + 1) ≡ suc (cell + i) = omega arith in
        let y : n - i ≡ suc (n - (i + 1)) = omega arith in
        let x : suc (i + 1) ≡ i + 1 + 1 = omega arith in
        record { most = omega arith; rest = rw (z, ← x) (rw (y, drop-cons numbers (i + 1) (pos 0) k) at r.rest) }

    pub row_ended : n ≤ i → row ≡ sets row₀ cell (take n (drop 1 numbers))
    row_ended h = let y : n - i ≡ 0 = omega arith in rw y at r.rest

-- ---- sizes

pub drop_one : (numbers : List ℤ) (i : ℕ) → get_or (drop 1 numbers) i (pos 0) ≡ get_or numbers (i + 1) (pos 0)
drop_one numbers i = get_or-drop 1 numbers i (pos 0) ∙ ap (λ (j : ℕ). get_or numbers j (pos 0)) (let e : 1 + i ≡ i + 1 = omega arith in e)

pub collected_small : (numbers : List ℤ) → T (collected_fit numbers) → 0 < length numbers → nat_abs (get_or numbers 0 (pos 0)) ≤ most_collected
unfolding collected_fit
collected_small numbers t h = leb-true (nat_abs (get_or numbers 0 (pos 0))) most_collected (all_each (λ z. leb (nat_abs z) most_collected) numbers (pos 0) (is_true (collected_fit numbers) t) 0 h)

-- a coefficient that was passed
pub coefficient_small : (numbers : List ℤ) (i : ℕ) → list_all coefficient_fits (drop 1 numbers) ≡ true → i + 1 < length numbers → nat_abs (get_or numbers (i + 1) (pos 0)) ≤ most_constant
coefficient_small numbers i e h =
    let f : coefficient_fits (get_or (drop 1 numbers) i (pos 0)) ≡ true = all_each coefficient_fits (drop 1 numbers) (pos 0) e i (omega (arith, length-drop 1 numbers)) in
    rw (← drop_one numbers i) (omega (arith, leb-true (nat_abs (get_or (drop 1 numbers) i (pos 0))) 4096 f))
