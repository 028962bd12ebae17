-- Runs of stores: one after the other, at the front of a buffer, and the parts of a record.
use mathlib.Core.Path.{◌≡◌, refl, sym, ap, ◌∙◌}
use mathlib.Core.List.{List, [], ◌∷◌, ◌++◌, map}
use Prim.Native.Nat.{ℕ, suc, ◌+◌, ◌-◌, ◌*◌, ◌<◌, ◌≤◌}
use native.Mathlib.Omega.{arith}
use lib.IntN.{ℤ, pos}
use lib.ListN.{length, get_or, set, take, drop}
use lib.Seq.{sets, drop-cons}
use Rattle.scope.specs.declared.Question.{Question}
use Rattle.scope.specs.Whole.{joined}
use Rattle.scope.specs.Sizes.{most_variables}
use Rattle.scope.specs.Question.{coefficients_of, constant_of}
use Rattle.scope.specs.Writing.{number_bytes, atom_body}

pub sets_append : (l : List ℕ) (i : ℕ) (xs ys : List ℕ) → sets l i (xs ++ ys) ≡ sets (sets l i xs) (i + length xs) ys
sets_append l i [] ys = let e : i + 0 ≡ i = omega arith in rw e
sets_append l i (x ∷ xs) ys = let e : i + suc (length xs) ≡ suc i + length xs = omega arith in rw e (sets_append (set l i x) (suc i) xs ys)

-- ---- the body of an atom: the coefficients of a row from j on, and the constant, are still to be put

abbrev row_bytes : List ℤ → ℤ → ℕ → ℕ → List ℕ
row_bytes l k row n = joined (map number_bytes (take n (drop row l))) ++ number_bytes k

pub record RowLeft (l : List ℤ) (k : ℤ) (row n at : ℕ) (buf₀ buf : List ℕ) (j : ℕ) : Type 0 where
  pub within : j ≤ n
  pub same : length buf ≡ length buf₀
  pub rest : sets buf (at + 4 * j) (row_bytes l k (row + j) (n - j)) ≡ sets buf₀ at (row_bytes l k row n)

row_first : (l : List ℤ) (k : ℤ) (row n j : ℕ) → j < n → row + n ≤ length l
    → row_bytes l k (row + j) (n - j) ≡ number_bytes (get_or l (row + j) (pos 0)) ++ row_bytes l k (row + (j + 1)) (n - (j + 1))
unfolding joined
row_first l k row n j h g =
    let z : n - j ≡ suc (n - (j + 1)) = omega arith in
    let y : row + (j + 1) ≡ suc (row + j) = omega arith in
    let m : row + j < length l = omega arith in
    rw (z, y, drop-cons l (row + j) (pos 0) m)

row_none : (l : List ℤ) (k : ℤ) (row n j : ℕ) → n ≤ j → row_bytes l k (row + j) (n - j) ≡ number_bytes k
unfolding joined
row_none l k row n j h = let z : n - j ≡ 0 = omega arith in rw z

module _ (l : List ℤ) (k : ℤ) (row n at : ℕ) where
  pub put_start : (buf : List ℕ) → RowLeft l k row n at buf buf 0
  put_start buf =
      let x : at + 4 * 0 ≡ at = omega arith in
      let y : row + 0 ≡ row = omega arith in
      let z : n - 0 ≡ n = omega arith in
      record { within = omega arith; same = refl; rest = rw (x, y, z) }

module _ {l : List ℤ} {k : ℤ} {row n at : ℕ} {buf₀ buf : List ℕ} {j : ℕ} (inv : RowLeft l k row n at buf₀ buf j) (after : List ℕ) where
  pub put_again : (v : ℤ) → v ≡ get_or l (row + j) (pos 0) → j < n → row + n ≤ length l → length after ≡ length buf → after ≡ sets buf (at + 4 * j) (number_bytes v)
      → RowLeft l k row n at buf₀ after (j + 1)
  put_again v e h g s f =
      let x : at + 4 * (j + 1) ≡ at + 4 * j + 4 = omega arith in
      record {
        within = omega arith;
        same = s ∙ inv.same;
        rest = rw (x, f, e) (sym (sets_append buf (at + 4 * j) (number_bytes (get_or l (row + j) (pos 0))) (row_bytes l k (row + (j + 1)) (n - (j + 1))))
            ∙ ap (sets buf (at + 4 * j)) (sym (row_first l k row n j h g)) ∙ inv.rest);
      }

  pub put_last : (v : ℤ) → v ≡ k → n ≤ j → after ≡ sets buf (at + 4 * n) (number_bytes v) → after ≡ sets buf₀ at (row_bytes l k row n)
  put_last v e h f =
      let y : 4 * n ≡ 4 * j = omega (arith, inv.within) in
      f
      ∙ ap (λ (p : ℕ). sets buf (at + p) (number_bytes v)) y
      ∙ ap (λ (z : ℤ). sets buf (at + 4 * j) (number_bytes z)) e
      ∙ ap (sets buf (at + 4 * j)) (sym (row_none l k row n j h))
      ∙ inv.rest

pub atom_bytes : (q : Question) (a n : ℕ) → n ≡ q.n → row_bytes q.coefficients (get_or q.constants a (pos 0)) (most_variables * a) n ≡ atom_body (coefficients_of q a) (constant_of q a)
unfolding atom_body coefficients_of constant_of
atom_bytes q a n e = rw e
