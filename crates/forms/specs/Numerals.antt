-- A numeral's value, clipped at each digit, and whether all of a word's bytes are digits.
use Rattle.std.specs.Prelude.{ℕ, suc, ◌+◌, ◌*◌, ◌-◌, ◌≤◌, ◌<◌, ◌≡◌, refl, Bool, true, false, cond, ◌&&◌, leb, length, get_or}
use Prim.Native.Char.{code}
use Rattle.std.proofs.Common.{arith, sym, ◌∙◌, leb-true, leb-false}
use Rattle.std.proofs.Math.Path.{ap}
use Rattle.std.proofs.Math.Bool.{and-eq-true_iff}
use mathlib.Core.List.{List, [], ◌∷◌}
use Rattle.std.proofs.lemmas.Bool.{lt-leb}
use Rattle.std.specs.List.{list_all}
use Rattle.smtlib.specs.Lexicon.{is_digit}
use Rattle.smtlib.specs.Forms.{numeral_from}
use Rattle.smtlib.specs.Terms.{most_numeral}
use Rattle.lexicon.specs.Spots.{stretch}
use Rattle.forms.specs.Read.{clipped}
use Rattle.forms.specs.Stretches.{stretch_none, stretch_more}

pub digit_bounds : (b : ℕ) → is_digit b ≡ true → (code "0" ≤ b) × (b ≤ code "9")
unfolding is_digit
digit_bounds b e =
    let h = (and-eq-true_iff (leb (code "0") b) (leb b (code "9"))).0 e in
    (leb-true (code "0") b h.0, leb-true b (code "9") h.1)

-- ---- clipped

pub clipped_same : (v : ℕ) → v ≤ suc most_numeral → clipped v ≡ v
clipped_same v h = go (leb v most_numeral) refl
  where
    go : (t : Bool) → leb v most_numeral ≡ t → cond t v (suc most_numeral) ≡ v
    go true e = refl
    go false e = omega (arith, leb-false v most_numeral e)

pub clipped_most : (v : ℕ) → most_numeral < v → clipped v ≡ suc most_numeral
clipped_most v h = rw (lt-leb v most_numeral h)

-- what is clipped grows as the value does
pub clipped_grows : (v d : ℕ) → clipped (10 * clipped v + d) ≡ clipped (10 * v + d)
clipped_grows v d = go (leb v most_numeral) refl
  where
    go : (t : Bool) → leb v most_numeral ≡ t → clipped (10 * clipped v + d) ≡ clipped (10 * v + d)
    go true e = rw e
    go false e =
        let h = leb-false v most_numeral e in
        let big : most_numeral < 10 * clipped v + d = rw e (omega arith) in
        clipped_most (10 * clipped v + d) big ∙ sym (clipped_most (10 * v + d) (omega arith))

-- so does the rest of the numeral
pub clipped_onward : (v w : ℕ) (ds : List ℕ) → clipped v ≡ clipped w → clipped (numeral_from v ds) ≡ clipped (numeral_from w ds)
unfolding numeral_from
clipped_onward v w [] e = e
clipped_onward v w (d ∷ ds) e =
    clipped_onward (10 * v + (d - code "0")) (10 * w + (d - code "0")) ds
    (sym (clipped_grows v (d - code "0")) ∙ ap (λ (x : ℕ). clipped (10 * x + (d - code "0"))) e ∙ clipped_grows w (d - code "0"))

pub clipped_small : (v : ℕ) → clipped v ≤ suc most_numeral
clipped_small v = go (leb v most_numeral) refl
  where
    go : (t : Bool) → leb v most_numeral ≡ t → cond t v (suc most_numeral) ≤ suc most_numeral
    go true e = omega (arith, leb-true v most_numeral e)
    go false e = omega arith

-- ---- digit by digit

pub record DigitsSoFar (text : List ℕ) (place next i v : ℕ) : Type 0 where
  pub digits : list_all is_digit (stretch text place next) ≡ list_all is_digit (stretch text i next)
  pub value : clipped (numeral_from 0 (stretch text place next)) ≡ clipped (numeral_from v (stretch text i next))
  pub small : v ≤ suc most_numeral

module _ (text : List ℕ) (place next : ℕ) where
  pub digits_start : DigitsSoFar text place next place 0
  digits_start = record { digits = refl; value = refl; small = omega arith }

  module _ (i v : ℕ) (so_far : DigitsSoFar text place next i v) where
    pub digits_end : next ≤ i → (list_all is_digit (stretch text place next) ≡ true) × (clipped (numeral_from 0 (stretch text place next)) ≡ v)
    unfolding numeral_from
    digits_end h =
        let none_left = stretch_none text i next h in (
          so_far.digits ∙ ap (list_all is_digit) none_left,
          so_far.value ∙ ap (λ (ds : List ℕ). clipped (numeral_from v ds)) none_left ∙ clipped_same v so_far.small,
        )

    module _ (h : i < next) (inside : i < length text) where
      pub digits_stop : is_digit (get_or text i 0) ≡ false → list_all is_digit (stretch text place next) ≡ false
      digits_stop e = so_far.digits ∙ ap (list_all is_digit) (stretch_more text i next h inside) ∙ rw e

      pub digits_on : is_digit (get_or text i 0) ≡ true → (w : ℕ) → w ≡ clipped (10 * v + (get_or text i 0 - code "0")) → DigitsSoFar text place next (suc i) w
      unfolding numeral_from
      digits_on e w f =
          let n = 10 * v + (get_or text i 0 - code "0") in
          let more = stretch_more text i next h inside in
          record {
            digits = so_far.digits ∙ ap (list_all is_digit) more ∙ ap (λ (t : Bool). t && list_all is_digit (stretch text (suc i) next)) e;
            value = so_far.value ∙ ap (λ (ds : List ℕ). clipped (numeral_from v ds)) more ∙ clipped_onward n w (stretch text (suc i) next) (sym (ap clipped f ∙ clipped_same _ (clipped_small n)));
            small = rw f (clipped_small n);
          }
