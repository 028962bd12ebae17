-- Cells set from a place on, as far as there are cells.
use Rattle.std.proofs.Common.{◌≡◌, refl, sym, ap, ◌∙◌, ℕ, zero, suc, ◌+◌, ◌-◌, ◌<◌, ◌≤◌, min, List, [], ◌∷◌, ◌++◌, arith, length, get_or, set, take, drop, add-zero, length-set}
use Rattle.std.proofs.Math.Decide.{dec_lt}
use Rattle.std.proofs.Math.Logic.{by_cases}
use Rattle.std.proofs.lemmas.List.Edits.{sets, sets-eq}
use lib.Seq.{set_out, length-take-le}

module _ {ℓ} {A : Type ℓ} where
  -- nothing is set past the end
  sets_out : (l : List A) (i : ℕ) (vs : List A) → length l ≤ i → sets l i vs ≡ l
  sets_out l i [] h = refl
  sets_out l i (v ∷ vs) h = rw (set_out l i v h) (sets_out l (suc i) vs (omega arith))

  take_all : (vs : List A) (n : ℕ) → length vs ≤ n → take n vs ≡ vs
  take_all [] zero h = refl
  take_all [] (suc n) h = refl
  take_all (v ∷ vs) zero h = absurd (omega (arith, h))
  take_all (v ∷ vs) (suc n) h = ap (λ (l : List A). v ∷ l) (take_all vs n (omega (arith, h)))

  past_end : (l vs : List A) (i n : ℕ) → length l ≤ i + n → sets l i (take n vs) ≡ sets l i vs
  past_end l vs i zero h = sym (sets_out l i vs (omega arith))
  past_end l [] i (suc n) h = refl
  past_end l (v ∷ vs) i (suc n) h = past_end (set l i v) vs (suc i) n (omega (arith, h, length-set l i v))

  -- the first n of them are all that are set, where n are all, or reach the end
  pub sets_first : (l vs : List A) (i n : ℕ) → min (length vs) (length l - i) ≤ n → sets l i (take n vs) ≡ sets l i vs
  sets_first l vs i n h =
      by_cases (dec_lt n (length vs))
      (λ p. past_end l vs i n (omega (arith, h)))
      (λ p. ap (sets l i) (take_all vs n (omega arith)))

  -- one more
  pub sets_more : (l vs : List A) (i k : ℕ) (d : A) → k < length vs → sets l i (take (suc k) vs) ≡ set (sets l i (take k vs)) (i + k) (get_or vs k d)
  sets_more l [] i k d h = absurd (omega (arith, h))
  sets_more l (v ∷ vs) i zero d h = rw (add-zero i)
  sets_more l (v ∷ vs) i (suc k) d h =
      let e : i + suc k ≡ suc i + k = omega arith in
      rw e (sets_more (set l i v) vs (suc i) k d (omega (arith, h)))

  pub copied : (from to : List A) (n : ℕ) → n ≡ min (length from) (length to) → take n from ++ drop n to ≡ sets to 0 from
  copied from to n e =
      let long : length (take n from) ≡ n = length-take-le n from (omega (arith, e)) in
      let s : sets to 0 (take n from) ≡ take n from ++ drop n to = sets-eq (take n from) to 0 (omega (arith, e, long)) ∙ ap (λ (k : ℕ). take n from ++ drop k to) (omega (arith, long)) in
      sym s ∙ sets_first to from 0 n (omega (arith, e))
