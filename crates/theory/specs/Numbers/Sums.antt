-- A letter's sum, one coefficient after another, and its size where each coefficient is at most B in size.
use Rattle.std.specs.Prelude.{◌≡◌, refl, Bool, true, false, cond, List, [], ◌∷◌, get_or, take, eqb, ℤ, pos, negsuc, nat_abs, ◌+ℤ◌}
use Rattle.std.proofs.Common.{sym, ◌∙◌, pow-suc, add-zero, zero-add, mul-le-mul_left, le_trans, add-one, pow_pos}
use Rattle.std.proofs.Math.Path.{ap}
use Prim.Native.Nat.{ℕ, zero, suc, ◌+◌, ◌-◌, ◌*◌, ◌^◌, ◌≤◌, ◌<◌, zero-le}
use native.Mathlib.Omega.{arith}
use Rattle.std.proofs.Math.Nat.{add-mul-div_left, div-eq_of_lt}
use Rattle.std.proofs.Math.Pow.{pow-add}
use Rattle.std.proofs.Math.ListN.{length, length-take}
use Rattle.std.proofs.Math.IntN.{+ℤ_assoc, +ℤ_idl, +ℤ_idr}
use Rattle.scope.specs.Words.{digit}
use Rattle.scope.specs.States.{sum_from, sum_at}
use Rattle.scope.specs.Bound.{positives, negatives}
use Rattle.theory.specs.Numbers.Magnitude.{abs_add}

-- each coefficient is at most B in size
abbrev pub Small : ℕ → List ℤ → Type 0
Small B [] = Unit {0}
Small B (a ∷ cs) = (nat_abs a ≤ B) × Small B cs

pub small_take : (B i : ℕ) (a : List ℤ) → Small B a → Small B (take i a)
small_take B zero [] h = tt
small_take B zero (a ∷ cs) h = tt
small_take B (suc i) [] h = tt
small_take B (suc i) (a ∷ cs) h = (h.0, small_take B i cs h.1)

pub small_get_d : (B i : ℕ) (a : List ℤ) → Small B a → nat_abs (get_or a i (pos 0)) ≤ B
small_get_d B i [] h = zero-le
small_get_d B zero (a ∷ cs) h = h.0
small_get_d B (suc i) (a ∷ cs) h = small_get_d B i cs h.1

-- ---- sizes

taken_small : (t : Bool) (a : ℤ) → nat_abs (cond t a (pos 0)) ≤ nat_abs a
taken_small true a = omega arith
taken_small false a = omega arith

sum_small : (B letter j : ℕ) (a : List ℤ) → Small B a → nat_abs (sum_from letter j a) ≤ B * length a
unfolding sum_from
sum_small B letter j [] h = zero-le
sum_small B letter j (a ∷ cs) h =
    let t : Bool = eqb (digit letter j) 1 in
    omega (arith, abs_add (cond t a (pos 0)) (sum_from letter (suc j) cs), taken_small t a, sum_small B letter (suc j) cs h.1, h.0)

pub positives_small : (B : ℕ) (a : List ℤ) → Small B a → positives a ≤ B * length a
unfolding positives
positives_small B [] h = zero-le
positives_small B (pos a ∷ cs) h = omega (arith, positives_small B cs h.1, h.0)
positives_small B (negsuc a ∷ cs) h = omega (arith, positives_small B cs h.1)

pub negatives_small : (B : ℕ) (a : List ℤ) → Small B a → negatives a ≤ B * length a
unfolding negatives
negatives_small B [] h = zero-le
negatives_small B (pos a ∷ cs) h = omega (arith, negatives_small B cs h.1)
negatives_small B (negsuc a ∷ cs) h = omega (arith, negatives_small B cs h.1, h.0)

-- where there are at most n coefficients
pub sum_at_small : (B n letter : ℕ) (a : List ℤ) → Small B a → length a ≤ n → nat_abs (sum_at a letter) ≤ B * n
unfolding sum_at
sum_at_small B n letter a h k = le_trans (sum_small B letter 0 a h) (mul-le-mul_left B k)

-- ---- the sum of the first coefficients, then one more

taken_first : (z : ℤ) → z +ℤ pos 0 ≡ pos 0 +ℤ z
taken_first z = +ℤ_idr z ∙ sym (+ℤ_idl z)

sum_next : (letter j i : ℕ) (a : List ℤ) → i < length a
    → sum_from letter j (take (suc i) a) ≡ sum_from letter j (take i a) +ℤ cond (eqb (digit letter (j + i)) 1) (get_or a i (pos 0)) (pos 0)
unfolding sum_from
sum_next letter j i [] h = absurd (omega arith)
sum_next letter j zero (a ∷ []) h = rw (add-zero j) (taken_first (cond (eqb (digit letter j) 1) a (pos 0)))
sum_next letter j zero (a ∷ (b ∷ cs)) h = rw (add-zero j) (taken_first (cond (eqb (digit letter j) 1) a (pos 0)))
sum_next letter j (suc i) (a ∷ cs) h =
    let e : suc j + i ≡ j + suc i = omega arith in
    let first : ℤ = cond (eqb (digit letter j) 1) a (pos 0) in
    let rest : ℤ = sum_from letter (suc j) (take i cs) in
    ap (λ (z : ℤ). first +ℤ z) (sum_next letter (suc j) i cs (omega arith))
    ∙ sym (+ℤ_assoc first rest (cond (eqb (digit letter (suc j + i)) 1) (get_or cs i (pos 0)) (pos 0)))
    ∙ ap (λ (k : ℕ). (first +ℤ rest) +ℤ cond (eqb (digit letter k) 1) (get_or cs i (pos 0)) (pos 0)) e

-- ---- one digit more: a letter below 2 ^ i is without digit i, and 2 ^ i + letter is the same with it

module _ (letter i : ℕ) where
  digit_none : letter < 2 ^ i → digit letter i ≡ 0
  unfolding digit
  digit_none l = rw (div-eq_of_lt l)

  digit_one : letter < 2 ^ i → digit (2 ^ i + letter) i ≡ 1
  unfolding digit
  digit_one l =
      let e : 2 ^ i + letter ≡ letter + 2 ^ i * 1 = omega arith in
      rw (e, add-mul-div_left letter 1 {y = 2 ^ i} (omega arith), div-eq_of_lt l)

  -- the lower digits are the same
  digit_lower : (j : ℕ) → j < i → digit (2 ^ i + letter) j ≡ digit letter j
  unfolding digit
  digit_lower j h =
      let rest : ℕ = 2 ^ (i - suc j) in
      let s : i ≡ j + suc (i - suc j) = omega arith in
      let p : 2 ^ i ≡ 2 ^ j * (rest * 2) = ap (λ (k : ℕ). 2 ^ k) s ∙ pow-add 2 j (suc (i - suc j)) ∙ rw (pow-suc 2 (i - suc j)) in
      let e : 2 ^ i + letter ≡ letter + 2 ^ j * (rest * 2) = omega (arith, p) in
      rw (e, add-mul-div_left letter (rest * 2) {y = 2 ^ j} (pow_pos j)) (omega arith)

-- letters of the same digits have the same sum
sum_alike : (a b j : ℕ) (cs : List ℤ) (end : ℕ) → j + length cs ≤ end → ((k : ℕ) → k < end → digit a k ≡ digit b k) → sum_from a j cs ≡ sum_from b j cs
unfolding sum_from
sum_alike a b j [] end h same = refl
sum_alike a b j (c ∷ cs) end h same = rw (same j (omega arith), sum_alike a b (suc j) cs end (omega arith) same)

module _ (a : List ℤ) (i : ℕ) (h : i < length a) (letter : ℕ) (l : letter < 2 ^ i) where
  pub sum_without : sum_at (take (i + 1) a) letter ≡ sum_at (take i a) letter
  unfolding sum_at
  sum_without = rw (add-one i) (sum_next letter 0 i a h ∙ rw (zero-add i, digit_none letter i l) (+ℤ_idr (sum_from letter 0 (take i a))))

  pub sum_with : sum_at (take (i + 1) a) (2 ^ i + letter) ≡ sum_at (take i a) letter +ℤ get_or a i (pos 0)
  unfolding sum_at
  sum_with =
      let few : 0 + length (take i a) ≤ i = omega (arith, length-take i a) in
      rw (add-one i)
      (sum_next (2 ^ i + letter) 0 i a h ∙ rw (zero-add i, digit_one letter i l, sum_alike (2 ^ i + letter) letter 0 (take i a) i few (digit_lower letter i)))
