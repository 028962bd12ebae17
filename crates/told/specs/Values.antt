-- The values of a word that spelling takes, one by one, and numbers one after the other.
use Rattle.std.specs.Prelude.{ℕ, zero, suc, ◌+◌, ◌-◌, ◌≤◌, ◌≡◌, refl, Bool, true, false, ◌&&◌, List, [], ◌∷◌, ◌++◌, length, leb, Ok, Err}
use Rattle.std.proofs.Common.{add-zero, add-one, arith, sym, ap, ◌∙◌, append_assoc, append-nil, le-leb}
use Rattle.scope.specs.declared.Refusal.{Refusal}
use Rattle.scope.specs.Sizes.{variables_fit, most_spelled}
use Rattle.scope.specs.Refusals.{first_refusal}
use Rattle.scope.specs.Words.{Word, value, values_from, spelled, spelt, letters_fit}
use Rattle.theory.specs.Numbers.Tests.{from_one}
use Rattle.told.specs.Text.{spaced, numbers}

-- a word that spelling takes for each of n variables
pub record Spellable (n : ℕ) (w : Word) : Type 0 where
  pub variables : variables_fit n ≡ true
  pub letters : letters_fit n w ≡ true
  pub short : leb (length w) most_spelled ≡ true

-- a value is no refusal
differ : {r : Refusal} {v : ℕ} → Err r ≡ Ok v → ⊥
differ e = let z : ◌≡◌ {A = ℕ} 0 1 = cc in omega arith

pub spellable : (n variable : ℕ) (w : Word) (v : ℕ) → spelt n variable w ≡ Ok v → Spellable n w
unfolding spelt first_refusal
spellable n variable w v e = go (variables_fit n) (leb 1 variable && leb variable n) (letters_fit n w) (leb (length w) most_spelled) refl refl refl refl
  where
    go : (a b c d : Bool) → variables_fit n ≡ a → leb 1 variable && leb variable n ≡ b → letters_fit n w ≡ c → leb (length w) most_spelled ≡ d → Spellable n w
    go true true true true p q r s = record { variables = p; letters = r; short = s }
    go true true true false p q r s = absurd (differ (rw (p, q, r, s) at e))
    go true true false d p q r s = absurd (differ (rw (p, q, r) at e))
    go true false c d p q r s = absurd (differ (rw (p, q) at e))
    go false b c d p q r s = absurd (differ (rw p at e))

within : (a b : Bool) → a ≡ true → b ≡ true → a && b ≡ true
within true b p q = q
within false b p q = p

module _ (n variable : ℕ) (w : Word) (s : Spellable n w) (h : 1 ≤ variable) (g : variable ≤ n) where
  pub spelt_value : spelt n variable w ≡ Ok (value w (variable - 1))
  unfolding spelt first_refusal
  spelt_value = rw (s.variables, within (leb 1 variable) (leb variable n) (le-leb 1 variable h) (le-leb variable n g), s.letters, s.short)

  -- whatever spelling gives is that value, and no refusal
  pub value_is : (v : ℕ) → spelt n variable w ≡ Ok v → v ≡ value w (variable - 1)
  value_is v e = let z = spelt_value in cc

  pub no_refusal : (r : Refusal) → spelt n variable w ≡ Err r → ⊥
  no_refusal r e = differ (sym e ∙ spelt_value)

pub six_variables : (n : ℕ) (w : Word) → Spellable n w → n ≤ 6
six_variables n w s = (from_one n 6 s.variables).1

-- ---- one after the other

pub numbers_more : (l : List ℕ) (v : ℕ) → numbers (l ++ (v ∷ [])) ≡ numbers l ++ spaced v
unfolding numbers
numbers_more [] v = append-nil (spaced v)
numbers_more (a ∷ l) v = ap (λ (t : List ℕ). spaced a ++ t) (numbers_more l v) ∙ sym (append_assoc (spaced a) (numbers l) (spaced v))

pub values_more : (count j : ℕ) (w : Word) → values_from (suc count) j w ≡ values_from count j w ++ (value w (j + count) ∷ [])
unfolding values_from
values_more zero j w = rw (add-zero j)
values_more (suc count) j w =
    let n : j + suc count ≡ suc j + count = omega arith in
    ap (λ (t : List ℕ). value w j ∷ t) (rw n (values_more count (suc j) w))

-- the values of one variable more
pub spelled_more : (j : ℕ) (w : Word) → numbers (spelled (j + 1) w) ≡ numbers (spelled j w) ++ spaced (value w j)
unfolding spelled
spelled_more j w =
    let n : 0 + j ≡ j = omega arith in
    rw (add-one j, values_more j 0 w, n) (numbers_more (values_from j 0 w) (value w j))
