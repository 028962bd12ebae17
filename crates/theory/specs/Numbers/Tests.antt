-- Tests: one that was denied, bounds of a number, and tests of every element of a list, from an index on.
use Rattle.std.specs.Prelude.{ℕ, zero, suc, ◌+◌, ◌≤◌, ◌<◌, ◌≡◌, refl, Bool, true, false, not, ◌&&◌, List, [], ◌∷◌, length, get_or, drop, T, leb}
use Rattle.std.proofs.Common.{add-zero, add-one, arith, sym, ap, ◌∙◌, drop_of_length-le, leb-true}
use Rattle.std.proofs.Math.Bool.{and-eq-true_iff}
use Rattle.std.proofs.Math.Seq.{drop-cons}
use Rattle.std.proofs.lemmas.Bool.{not-true, not-false}
use Rattle.scope.specs.Whole.{all_from}
use Rattle.std.specs.List.{list_all}

-- ---- a test b, known as t, by what its denial is

pub failed : {t b : Bool} → t ≡ b → not t ≡ true → b ≡ false
failed {t} e h = sym e ∙ not-true t h

pub passed : {t b : Bool} → t ≡ b → not t ≡ false → b ≡ true
passed {t} e h = sym e ∙ not-false t h

pub from_one : (k most : ℕ) → leb 1 k && leb k most ≡ true → (1 ≤ k) × (k ≤ most)
from_one k most e =
    let h = (and-eq-true_iff (leb 1 k) (leb k most)).0 e in
    (leb-true 1 k h.0, leb-true k most h.1)

-- ---- from an index on

module _ {A : Type 0} (f : A → Bool) (l : List A) (d : A) (i : ℕ) where
  all_at : i < length l → list_all f (drop i l) ≡ f (get_or l i d) && list_all f (drop (i + 1) l)
  all_at h = rw (add-one, drop-cons l i d)

  pub all_more : i < length l → f (get_or l i d) ≡ true → list_all f (drop i l) ≡ list_all f (drop (i + 1) l)
  all_more h e = all_at h ∙ ap (λ (b : Bool). b && list_all f (drop (i + 1) l)) e

  pub all_fails : i < length l → f (get_or l i d) ≡ false → list_all f (drop i l) ≡ false
  all_fails h e = all_at h ∙ ap (λ (b : Bool). b && list_all f (drop (i + 1) l)) e

  pub all_done : length l ≤ i → list_all f (drop i l) ≡ true
  all_done h = rw (drop_of_length-le l {i = i} h)

module _ {A : Type 0} (f : ℕ → A → Bool) (l : List A) (d : A) (i : ℕ) where
  all_from_at : i < length l → all_from f i (drop i l) ≡ f i (get_or l i d) && all_from f (i + 1) (drop (i + 1) l)
  unfolding all_from
  all_from_at h = rw (add-one, drop-cons l i d)

  pub all_from_more : i < length l → f i (get_or l i d) ≡ true → all_from f i (drop i l) ≡ all_from f (i + 1) (drop (i + 1) l)
  all_from_more h e = all_from_at h ∙ ap (λ (b : Bool). b && all_from f (i + 1) (drop (i + 1) l)) e

  pub all_from_fails : i < length l → f i (get_or l i d) ≡ false → all_from f i (drop i l) ≡ false
  all_from_fails h e = all_from_at h ∙ ap (λ (b : Bool). b && all_from f (i + 1) (drop (i + 1) l)) e

  pub all_from_done : length l ≤ i → all_from f i (drop i l) ≡ true
  unfolding all_from
  all_from_done h = rw (drop_of_length-le l {i = i} h)

-- ---- what every element passed

pub all_each : {A : Type 0} (f : A → Bool) (l : List A) (d : A) → list_all f l ≡ true → (i : ℕ) → i < length l → f (get_or l i d) ≡ true
all_each f [] d e i h = absurd (omega arith)
all_each f (a ∷ l) d e zero h = ((and-eq-true_iff (f a) (list_all f l)).0 e).0
all_each f (a ∷ l) d e (suc i) h = all_each f l d ((and-eq-true_iff (f a) (list_all f l)).0 e).1 i (omega arith)

pub all_from_each : {A : Type 0} (f : ℕ → A → Bool) (k : ℕ) (l : List A) (d : A) → all_from f k l ≡ true → (i : ℕ) → i < length l → f (k + i) (get_or l i d) ≡ true
unfolding all_from
all_from_each f k [] d e i h = absurd (omega arith)
all_from_each f k (a ∷ l) d e zero h = rw (add-zero k) ((and-eq-true_iff (f k a) (all_from f (suc k) l)).0 e).0
all_from_each f k (a ∷ l) d e (suc i) h =
    let n : k + suc i ≡ suc k + i = omega arith in
    rw n (all_from_each f (suc k) l d ((and-eq-true_iff (f k a) (all_from f (suc k) l)).0 e).1 i (omega arith))

-- two tests that pass together are one
pub same_test : (a b : Bool) → (T a → T b) → (T b → T a) → a ≡ b
same_test true true f g = refl
same_test true false f g = absurd (f tt)
same_test false true f g = absurd (g tt)
same_test false false f g = refl
