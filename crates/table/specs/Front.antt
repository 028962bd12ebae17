-- Lists that are written from the front on: a row of the table cell by cell, and the table row by row, in the part that is lent for each.
use Rattle.std.specs.Prelude.{◌≡◌, cond, length, get_or, take, drop, set}
use Rattle.std.proofs.Math.Path.{refl, ap}
use Rattle.std.proofs.Common.{◌∙◌, zero-add, length-append, length-take, take-suc-set, take_at, drop_at, drop-drop}
use mathlib.Core.List.{List, [], ◌∷◌, ◌++◌, map, map-append, append_assoc, append-nil}
use Prim.Native.Nat.{ℕ, zero, suc, ◌+◌, ◌*◌, ◌≤◌, ◌<◌}
use Rattle.std.proofs.Math.Numerals.{add-one}
use native.Mathlib.Omega.{arith}
use Rattle.std.proofs.Math.Seq.{take-suc, take-length}
use borrow.Rule.Slice.PartMut.{put_mid}
use Rattle.scope.specs.Whole.{joined, at_front}
use Rattle.scope.specs.Numbering.{Machine, Row, Rows, row, start_row, number_of}
use Rattle.scope.specs.Building.{next_states, table_row, table_cells}
use Rattle.theory.specs.Numbers.Joined.{joined_length, joined_append}

module _ {S : Type 0} (M : Machine S) (l : Rows S) where
  -- one letter more
  next_from : (s : S) (a n : ℕ) → next_states M l s a (suc n) ≡ next_states M l s a n ++ (number_of M l (M.step s (a + n)) ∷ [])
  unfolding next_states
  next_from s a zero = let e : a + 0 ≡ a = omega arith in rw e
  next_from s a (suc n) = let e : a + suc n ≡ suc a + n = omega arith in rw e (ap (λ (k : List ℕ). number_of M l (M.step s a) ∷ k) (next_from s (suc a) n))

  next_length : (s : S) (a n : ℕ) → length (next_states M l s a n) ≡ n
  unfolding next_states
  next_length s a zero = refl
  next_length s a (suc n) = ap suc (next_length s (suc a) n)

  -- the mark and the next states of the first a letters
  abbrev pub marked_row : S → ℕ → List ℕ
  marked_row s a = cond (M.accepts s) 1 0 ∷ next_states M l s 0 a

  pub marked_none : (s : S) → marked_row s 0 ≡ cond (M.accepts s) 1 0 ∷ []
  unfolding next_states
  marked_none s = refl

  pub marked_next : (s : S) (a : ℕ) → marked_row s (a + 1) ≡ marked_row s a ++ (number_of M l (M.step s a) ∷ [])
  marked_next s a = rw (add-one a, next_from s 0 a, zero-add)

  pub marked_row_lem : (r : Row S) → marked_row r.state M.letters ≡ table_row M l r
  unfolding table_row
  marked_row_lem r = refl

-- a list with one more element stored behind its first i
pub front_set : {A : Type 0} (l cells : List A) (i : ℕ) (v : A) → i < length l → take i l ≡ cells → take (i + 1) (set l i v) ≡ cells ++ (v ∷ [])
front_set l cells i v h e = rw (add-one i) (take-suc-set l i v h ∙ ap (λ (k : List _). k ++ (v ∷ [])) e)

-- the part behind the cells at the front comes back
pub front_part : {A : Type 0} (cells part buffer : List A) (n k : ℕ) → length cells ≡ n → length part ≡ k
    → put_mid n k (at_front cells buffer) part ≡ at_front (cells ++ part) buffer
unfolding at_front
front_part cells part buffer n k e f =
    rw (take_at cells (drop (length cells) buffer) n e, drop_at cells (drop (length cells) buffer) n e, drop-drop, length-append, f, append_assoc)

-- ---- the first rows of the table

module _ {S : Type 0} (M : Machine S) (l : Rows S) where
  pub row_length : (r : Row S) → length (table_row M l r) ≡ 1 + M.letters
  unfolding table_row
  row_length r = omega (arith, next_length M l r.state 0 M.letters)

  abbrev pub first_rows : ℕ → List ℕ
  first_rows s = joined (map (table_row M l) (take s l))

  pub rows_none : first_rows 0 ≡ []
  unfolding joined
  rows_none = refl

  pub rows_length : (s : ℕ) → s ≤ length l → length (first_rows s) ≡ s * (1 + M.letters)
  rows_length s h =
      let e : length (take s l) ≡ s = omega (arith, length-take s l) in
      joined_length (table_row M l) (1 + M.letters) (start_row M) (take s l) (λ t g. row_length (get_or (take s l) t (start_row M)))
      ∙ ap (λ (n : ℕ). n * (1 + M.letters)) e

  pub rows_more : (s : ℕ) → s < length l → first_rows (s + 1) ≡ first_rows s ++ table_row M l (row M l s)
  unfolding joined
  rows_more s h =
      rw (
        add-one s,
        take-suc l s (start_row M) h,
        map-append (table_row M l) (take s l) (row M l s ∷ []),
        joined_append (map (table_row M l) (take s l)) (table_row M l (row M l s) ∷ []),
        append-nil,
      )

  pub rows_all : (s : ℕ) → s ≡ length l → first_rows s ≡ table_cells M l
  unfolding table_cells
  rows_all s e = rw (e, take-length)
