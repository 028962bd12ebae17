-- Lists by their elements, and such a list in an array of eight: with the rest filled up, or left as it was.
use Rattle.std.specs.Prelude.{◌≡◌, drop, set}
use Rattle.std.proofs.Math.Path.{refl, sym, ap}
use Rattle.std.proofs.Common.{◌∙◌, ext_get_or}
use mathlib.Core.List.{List, [], ◌∷◌, ◌++◌, append_assoc}
use Prim.Native.Nat.{ℕ, zero, suc, ◌+◌, ◌-◌, ◌≤◌, ◌<◌}
use native.Mathlib.Omega.{arith}
use Rattle.std.proofs.Math.Decide.{dec_lt}
use Rattle.std.proofs.Math.Numerals.{add-one}
use Rattle.std.proofs.Math.Logic.{by_cases}
use Rattle.std.proofs.Math.ListN.{length, get_or, replicate, length-append, get_or-append, get_or-eq_default}
use Rattle.std.proofs.Math.Seq.{drop-cons, set-append_seam, get_or-append-add}
use Rattle.std.proofs.lemmas.List.{set_at, get_or_at}
use Rattle.scope.specs.Whole.{at_front}
use Rattle.scope.specs.Sizes.{most_atoms}

-- f 0, f 1, .., the first n
unfoldable pub listed {ℓ} : {A : Type ℓ} → (ℕ → A) → ℕ → List A
listed f zero = []
listed f (suc n) = listed f n ++ (f n ∷ [])

-- a list of at most eight, filled up with z
unfoldable pub padded {ℓ} : {A : Type ℓ} → A → List A → List A
padded z l = l ++ replicate (most_atoms - length l) z

module _ {ℓ} {A : Type ℓ} where
  pub length_listed : (f : ℕ → A) (n : ℕ) → length (listed f n) ≡ n
  unfolding listed
  length_listed f zero = refl
  length_listed f (suc n) = simp (length-append, length_listed f n) (omega arith)

  pub get_d_listed : (f : ℕ → A) (n i : ℕ) (d : A) → i < n → get_or (listed f n) i d ≡ f i
  unfolding listed
  get_d_listed f zero i d h = absurd (omega arith)
  get_d_listed f (suc n) i d h =
      by_cases (dec_lt i n)
      (λ p. get_or-append (listed f n) (f n ∷ []) d i (rw (length_listed f n) p) ∙ get_d_listed f n i d p)
      (λ p. let e : n ≡ i = omega arith in rw (← e) (get_or_at (listed f n) (f n) [] d n (length_listed f n)))

  -- a list is known by its elements
  pub listed_is : (d : A) (f : ℕ → A) (n : ℕ) (l : List A) → length l ≡ n → ((i : ℕ) → i < n → f i ≡ get_or l i d) → listed f n ≡ l
  listed_is d f n l e same =
      ext_get_or d (listed f n) l (length_listed f n ∙ sym e)
      (λ i h. let b : i < n = rw (length_listed f n) at h in get_d_listed f n i d b ∙ same i b)

  -- filled up, it reads as before
  pub get_d_padded : (z : A) (l : List A) (i : ℕ) → get_or (padded z l) i z ≡ get_or l i z
  unfolding padded
  get_d_padded z l i =
      by_cases (dec_lt i (length l))
      (λ p. get_or-append l (replicate (most_atoms - length l) z) z i p)
      (λ p.
      let e : length l + (i - length l) ≡ i = omega arith in
      let o : length l ≤ i = omega arith in
      ap (λ (k : ℕ). get_or (l ++ replicate (most_atoms - length l) z) k z) (sym e)
      ∙ get_or-append-add l (replicate (most_atoms - length l) z) (i - length l) z
      ∙ filled (most_atoms - length l) (i - length l)
      ∙ sym (get_or-eq_default l z o))
    where
      filled : (n k : ℕ) → get_or (replicate n z) k z ≡ z
      filled zero k = refl
      filled (suc n) zero = refl
      filled (suc n) (suc k) = filled n k

  pub padded_next : (z v : A) (l : List A) → length l < most_atoms → set (padded z l) (length l) v ≡ padded z (l ++ (v ∷ []))
  unfolding padded
  padded_next z v l h =
      let e : most_atoms - length l ≡ suc (most_atoms - (length l + 1)) = omega arith in
      rw (e, length-append) (set-append_seam l z (replicate (most_atoms - (length l + 1)) z) v ∙ sym (append_assoc l (v ∷ []) (replicate (most_atoms - (length l + 1)) z)))

  -- such a list at the front of a buffer: none of it, and one more element stored
  pub front_none : (f : ℕ → A) (buffer : List A) → buffer ≡ at_front (listed f 0) buffer
  unfolding listed at_front
  front_none f buffer = refl

  pub front_next : (f : ℕ → A) (i : ℕ) (buffer : List A) → i < length buffer → set (at_front (listed f i) buffer) i (f i) ≡ at_front (listed f (i + 1)) buffer
  unfolding listed at_front
  front_next f i buffer h =
      rw (add-one i, length-append, length_listed f i, add-one i, append_assoc, drop-cons buffer i (f i) h)
      (set_at (listed f i) (get_or buffer i (f i)) (drop (suc i) buffer) (f i) i (length_listed f i))
