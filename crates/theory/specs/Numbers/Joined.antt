-- Lists by their cells: parts of one width, one after the other; cells at the front of a buffer; what holds of each element; and a test of every cell.
use Rattle.std.specs.Prelude.{◌≡◌, Bool, get_or, T}
use Rattle.std.proofs.Math.Path.{refl, sym, ap}
use Rattle.std.proofs.Common.{◌∙◌, zero-mul, drop-cons, drop-drop, get_or-drop}
use mathlib.Core.List.{List, [], ◌∷◌, ◌++◌, map, append_assoc}
use Prim.Native.Nat.{ℕ, zero, suc, ◌+◌, ◌*◌, ◌≤◌, ◌<◌}
use Rattle.std.proofs.Math.Nat.{suc-mul, add-sub_of_le}
use Rattle.std.proofs.Math.Numerals.{add-one}
use native.Mathlib.Omega.{arith}
use Rattle.std.proofs.Math.ListN.{length, set, take, drop, length-append, length-drop, get_or-append}
use Rattle.std.proofs.lemmas.List.Edits.{sets}
use Rattle.std.proofs.Math.Seq.{sets-eq, set-append_seam, append_snoc, take-append_seam, drop-append-add, get_or-append-add, take_at}
use Rattle.std.proofs.Math.Facts.{yes_and}
use Rattle.scope.specs.Whole.{all_from, joined, at_front}

-- ---- parts of one width w, part t from cell t * w on

module _ {B A : Type 0} (part : B → List A) (w : ℕ) (b : B) where
  pub joined_length : (l : List B) → ((t : ℕ) → t < length l → length (part (get_or l t b)) ≡ w) → length (joined (map part l)) ≡ length l * w
  unfolding joined
  joined_length [] wide = sym (zero-mul w)
  joined_length (x ∷ l) wide =
      rw (length-append, suc-mul) (omega (arith, wide 0 (omega arith), joined_length l (λ t h. wide (suc t) (omega arith))))

  pub joined_at_lem : (l : List B) → ((t : ℕ) → t < length l → length (part (get_or l t b)) ≡ w)
      → (t c : ℕ) (a : A) → t < length l → c < w → get_or (joined (map part l)) (t * w + c) a ≡ get_or (part (get_or l t b)) c a
  unfolding joined
  joined_at_lem [] wide t c a h g = absurd (omega arith)
  joined_at_lem (x ∷ l) wide zero c a h g =
      let e : 0 * w + c ≡ c = omega arith in
      rw e (get_or-append (part x) (joined (map part l)) a c (omega (arith, wide 0 (omega arith))))
  joined_at_lem (x ∷ l) wide (suc t) c a h g =
      let e : suc t * w + c ≡ length (part x) + (t * w + c) = omega (arith, suc-mul t w, wide 0 (omega arith)) in
      rw (e, get_or-append-add) (joined_at_lem l (λ s p. wide (suc s) (omega arith)) t c a (omega arith) g)

module _ {A : Type 0} where
  pub joined_append : (l k : List (List A)) → joined (l ++ k) ≡ joined l ++ joined k
  unfolding joined
  joined_append [] k = refl
  joined_append (x ∷ l) k = rw (joined_append l k, append_assoc)

-- ---- cells at the front of a buffer that has room for them

module _ {A : Type 0} (cells buffer : List A) where
  pub at_front_cells : (n : ℕ) → length cells ≡ n → take n (at_front cells buffer) ≡ cells
  unfolding at_front
  at_front_cells n e = take_at cells (drop (length cells) buffer) n e

  pub at_front_before : (i : ℕ) (a : A) → i < length cells → get_or (at_front cells buffer) i a ≡ get_or cells i a
  unfolding at_front
  at_front_before i a h = get_or-append cells (drop (length cells) buffer) a i h

  pub at_front_beyond : (i : ℕ) (a : A) → length cells ≤ i → get_or (at_front cells buffer) i a ≡ get_or buffer i a
  unfolding at_front
  at_front_beyond i a h =
      let e = add-sub_of_le h in
      rw (← e, get_or-append-add, get_or-drop)

  pub at_front_length : length cells ≤ length buffer → length (at_front cells buffer) ≡ length buffer
  unfolding at_front
  at_front_length h = rw (length-append, length-drop) (omega arith)

module _ {A : Type 0} where
  -- a cell more at the front
  pub at_front_set : (l b : List A) (v : A) → length l < length b → set (at_front l b) (length l) v ≡ at_front (l ++ (v ∷ [])) b
  unfolding at_front
  at_front_set l b v h =
      let next : length (l ++ (v ∷ [])) ≡ suc (length l) = length-append l (v ∷ []) ∙ add-one (length l) in
      ap (λ (r : List A). set (l ++ r) (length l) v) (drop-cons b (length l) v h)
      ∙ set-append_seam l (get_or b (length l) v) (drop (suc (length l)) b) v
      ∙ sym (append_snoc l v (drop (suc (length l)) b))
      ∙ ap (λ (k : ℕ). l ++ (v ∷ []) ++ drop k b) (sym next)

  -- more cells at the front
  pub at_front_sets : (l b vs : List A) → length l + length vs ≤ length b → sets (at_front l b) (length l) vs ≡ at_front (l ++ vs) b
  unfolding at_front
  at_front_sets l b vs h =
      let long : length (l ++ drop (length l) b) ≡ length b = length-append l (drop (length l) b) ∙ omega (arith, length-drop (length l) b) in
      sets-eq vs (l ++ drop (length l) b) (length l) (omega (arith, long))
      ∙ (λ i. take-append_seam l (drop (length l) b) i ++ vs ++ drop-append-add l (drop (length l) b) (length vs) i)
      ∙ ap (λ (r : List A). l ++ vs ++ r) (drop-drop (length vs) (length l) b)
      ∙ ap (λ (k : ℕ). l ++ vs ++ drop k b) (sym (length-append l vs))

  -- what stands there already changes nothing
  pub at_front_same : (l b : List A) (k : ℕ) → at_front (l ++ take k (drop (length l) b)) b ≡ at_front l b
  unfolding at_front
  at_front_same l b k =
      let rest : List A = drop (length l) b in
      ap (λ (j : ℕ). l ++ take k rest ++ drop j b) (length-append l (take k rest))
      ∙ append_assoc l (take k rest) (drop (length l + length (take k rest)) b)
      ∙ ap (λ (r : List A). l ++ (take k rest ++ r)) (sym (drop-drop (length (take k rest)) (length l) b))
      ∙ ap (λ (r : List A). l ++ r) (both k rest)
    where
      both : (k : ℕ) (l : List A) → take k l ++ drop (length (take k l)) l ≡ l
      both zero l = refl
      both (suc k) [] = refl
      both (suc k) (x ∷ l) = ap (λ (r : List A). x ∷ r) (both k l)

-- ---- what holds of each element

module _ {A : Type 0} (P : A → Type 0) where
  abbrev pub Each : List A → Type 0
  Each [] = Unit {0}
  Each (a ∷ l) = P a × Each l

  pub each_append : (l k : List A) → Each l → Each k → Each (l ++ k)
  each_append [] k p q = q
  each_append (a ∷ l) k p q = (p.0, each_append l k p.1 q)

  pub each_at : (l : List A) (d : A) → Each l → (t : ℕ) → t < length l → P (get_or l t d)
  each_at [] d e t h = absurd (omega arith)
  each_at (a ∷ l) d e zero h = e.0
  each_at (a ∷ l) d e (suc t) h = each_at l d e.1 t (omega arith)

-- ---- each cell passes the test of its index

pub all_from_lem : {A : Type 0} (test : ℕ → A → Bool) (i : ℕ) (l : List A) (a : A)
    → ((c : ℕ) → c < length l → T (test (i + c) (get_or l c a))) → T (all_from test i l)
unfolding all_from
all_from_lem test i [] a h = tt
all_from_lem test i (x ∷ l) a h = yes_and (test i x) (all_from test (suc i) l) first (all_from_lem test (suc i) l a later)
  where
    first : T (test i x)
    first = let e : i + 0 ≡ i = omega arith in rw e at (h 0 (omega arith))

    later : (c : ℕ) → c < length l → T (test (suc i + c) (get_or l c a))
    later c g = let e : i + suc c ≡ suc i + c = omega arith in rw e at (h (suc c) (omega arith))
