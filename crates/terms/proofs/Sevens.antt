-- Arrays of seven numbers, filled from the front; and a term's numbers one by one. Assumes nothing.
use Prim.Native.Nat.{ℕ, zero, suc, ◌+◌, ◌≤◌, ◌<◌, zero-le}
use native.Mathlib.Omega.{arith}
use mathlib.Core.Path.{◌≡◌, refl, sym, ap, ◌∙◌}
use mathlib.Core.Logic.{by_cases}
use mathlib.Core.Bool.{Bool, true, false, ◌&&◌}
use mathlib.Core.List.{List, [], ◌∷◌}
use native.Mathlib.Decide.{dec_lt}
use lib.Dec.{T, leb→le}
use lib.ListN.{length, set, replicate, length-set, length-map, get_or-map}
use lib.Seq.{ext_get_or, get_or-set_same, get_or-set_other}
use lib.IntN.{ℤ, pos, neg_ℤ, nat_abs, ◌+ℤ◌, ◌-ℤ◌, ◌*ℤ◌, *ℤ-zero}
use Rattle.smtlib.specs.Terms.{most_collected, sums, opposite, scaled, less, collected_fit}
use Rattle.terms.specs.Seven.{number_count, LaneAdded, small_number, lane}

-- ---- an array of seven, of which the first i cells are as P says

pub record FilledTo (P : ℕ → ℤ → Type 0) (l : List ℤ) (i : ℕ) : Type 0 where
  pub seven : length l ≡ number_count
  pub few : i ≤ number_count
  pub cells : (k : ℕ) → k < i → P k (lane l k)

module _ {P : ℕ → ℤ → Type 0} where
  pub filled_none : FilledTo P (replicate number_count (pos 0)) 0
  filled_none = record { seven = refl; few = omega arith; cells = λ k h. absurd (omega arith) }

  pub filled_next : {l : List ℤ} {i : ℕ} {z : ℤ} → FilledTo P l i → i < number_count → P i z → FilledTo P (set l i z) (i + 1)
  filled_next {l} {i} {z} f h p = record {
    seven = length-set l i z ∙ f.seven;
    few = omega arith;
    cells = λ k b.
        by_cases (dec_lt k i)
        (λ s. rw (get_or-set_other l i k z (pos 0) (λ e. omega arith)) (f.cells k s))
        (λ s.
        let e : k ≡ i = omega arith in
        rw (e, get_or-set_same l i z (pos 0) (omega (arith, f.seven))) p);
  }

-- a list of seven is known by its cells
pub filled_is : {f : ℕ → ℤ} {l : List ℤ} {i : ℕ} (m : List ℤ) → FilledTo (λ k z. z ≡ f k) l i → number_count ≤ i → length m ≡ number_count
    → ((k : ℕ) → k < number_count → f k ≡ lane m k) → l ≡ m
filled_is {f} {l} {i} m s h e same =
    ext_get_or (pos 0) l m (s.seven ∙ sym e) (λ k b. s.cells k (omega (arith, s.seven)) ∙ same k (omega (arith, s.seven)))

-- ---- a term's numbers

pub lane_sums : (k l : List ℤ) (i : ℕ) → length k ≡ length l → lane (sums k l) i ≡ lane k i +ℤ lane l i
unfolding sums
lane_sums [] [] i e = refl
lane_sums [] (b ∷ l) i e = absurd (omega arith)
lane_sums (a ∷ k) [] i e = absurd (omega arith)
lane_sums (a ∷ k) (b ∷ l) zero e = refl
lane_sums (a ∷ k) (b ∷ l) (suc i) e = lane_sums k l i (omega arith)

pub lane_opposite : (l : List ℤ) (i : ℕ) → lane (opposite l) i ≡ neg_ℤ (lane l i)
unfolding opposite
lane_opposite l i = get_or-map neg_ℤ l i (pos 0)

opposite_long : (l : List ℤ) → length (opposite l) ≡ length l
unfolding opposite
opposite_long l = length-map l neg_ℤ

pub lane_less : (k l : List ℤ) (i : ℕ) → length k ≡ length l → lane k i -ℤ lane l i ≡ lane (less k l) i
lane_less k l i e = sym (lane_sums k (opposite l) i (e ∙ sym (opposite_long l)) ∙ ap (λ (z : ℤ). lane k i +ℤ z) (lane_opposite l i))

pub lane_scaled : (z : ℤ) (l : List ℤ) (i : ℕ) → z *ℤ lane l i ≡ lane (scaled z l) i
unfolding scaled
lane_scaled z [] i = *ℤ-zero z
lane_scaled z (a ∷ l) zero = refl
lane_scaled z (a ∷ l) (suc i) = lane_scaled z l i

pub scaled_long : (z : ℤ) (l : List ℤ) → length (scaled z l) ≡ length l
unfolding scaled
scaled_long z l = length-map l (λ c. z *ℤ c)

-- ---- the limit

pub both_true : (a b : Bool) → T (a && b) → T a × T b
both_true true b t = (tt, t)
both_true false b t = absurd t

pub both_hold : (a b : Bool) → T a → T b → T (a && b)
both_hold true b s t = t
both_hold false b s t = absurd s

pub fit_each : (l : List ℤ) (i : ℕ) → T (collected_fit l) → nat_abs (lane l i) ≤ most_collected
unfolding collected_fit
fit_each [] i t = zero-le
fit_each (a ∷ l) zero t = leb→le (nat_abs a) most_collected (both_true (small_number a) (collected_fit l) t).0
fit_each (a ∷ l) (suc i) t = fit_each l i (both_true (small_number a) (collected_fit l) t).1

-- ---- a part added to a sum, of which the first i numbers are done

pub record LanesAdding (part low₀ high₀ low high : List ℤ) (i : ℕ) : Type 0 where
  pub seven : (length low ≡ number_count) × (length high ≡ number_count)
  pub few : i ≤ number_count
  pub done : (k : ℕ) → k < i → LaneAdded (lane low₀ k) (lane high₀ k) (lane part k) (lane low k) (lane high k)
  pub left : (k : ℕ) → i ≤ k → (lane low k ≡ lane low₀ k) × (lane high k ≡ lane high₀ k)

pub adding_none : {part low high : List ℤ} → length low ≡ number_count → length high ≡ number_count → LanesAdding part low high low high 0
adding_none e f = record { seven = (e, f); few = omega arith; done = λ k h. absurd (omega arith); left = λ k h. (refl, refl) }

pub adding_next : {part low₀ high₀ low high : List ℤ} {i : ℕ} {l h : ℤ} → LanesAdding part low₀ high₀ low high i → i < number_count
    → LaneAdded (lane low i) (lane high i) (lane part i) l h → LanesAdding part low₀ high₀ (set low i l) (set high i h) (i + 1)
adding_next {part} {low₀} {high₀} {low} {high} {i} {l} {h} a b added = record {
  seven = (length-set low i l ∙ a.seven.0, length-set high i h ∙ a.seven.1);
  few = omega arith;
  done = λ k s.
      by_cases (dec_lt k i)
      (λ p. rw (get_or-set_other low i k l (pos 0) (λ e. omega arith), get_or-set_other high i k h (pos 0) (λ e. omega arith)) (a.done k p))
      (λ p.
      let e : k ≡ i = omega arith in
      rw (e, get_or-set_same low i l (pos 0) (omega (arith, a.seven.0)), get_or-set_same high i h (pos 0) (omega (arith, a.seven.1)), sym (a.left i (omega arith)).0, sym (a.left i (omega arith)).1) added);
  left = λ k s. (
    get_or-set_other low i k l (pos 0) (λ e. omega arith) ∙ (a.left k (omega arith)).0,
    get_or-set_other high i k h (pos 0) (λ e. omega arith) ∙ (a.left k (omega arith)).1,
  );
}
