-- Tests that sweep a list: every element by its index, and what is left over of numbers and codes.
use mathlib.Core.Path.{◌≡◌, refl, sym, ◌∙◌}
use mathlib.Core.Bool.{Bool, true, false, cond, ◌&&◌, ◌||◌}
use Rattle.std.specs.Prelude.{Some, None}
use mathlib.Core.Option as maybe
use mathlib.Core.List.{List, [], ◌∷◌}
use Prim.Native.Nat.{ℕ, zero, suc, ◌+◌, ◌-◌, ◌*◌, ◌/◌, ◌%◌, ◌<◌, ◌≤◌}
use native.Mathlib.Omega.{arith}
use native.Mathlib.Numerals.{add-one}
use native.Mathlib.Nat.{add-zero}
use borrow.Author.Tests.{lt-ltb, le-ltb, eq-eqb, ne_eqb}
use lib.Dec.{eqb, ltb}
use lib.IntN.{ℤ, pos, negsuc}
use lib.ListN.{length, get_or, take, drop, drop_of_length-le}
use lib.Seq.{drop-cons}
use mir.Syntax.{w32}
use mir.Val.{SFits, of_z}
use Rattle.scope.specs.declared.Rule.{Rule}
use Rattle.scope.specs.Whole.{eq_z, all_from}
use Rattle.std.specs.List.{list_all}
use Rattle.scope.specs.Sizes.{most_variables, most_atoms, most_nodes}
use Rattle.scope.specs.Refusals.{Check, refusal, first_refusal}
use Rattle.scope.specs.Writing.{code_checks}
use Rattle.writing.specs.Writes.{CodeLeft, is_zero, coefficient_clear, constant_clear}

-- a number is zero exactly if its bits are
pub zero_test : (z : ℤ) → SFits w32 z → eqb (of_z w32 z) 0 ≡ eq_z z (pos 0)
zero_test (pos n) f = refl
zero_test (negsuc n) f = ne_eqb (4294967296 - suc n) 0 (λ e. omega (arith, f.sfits))

-- ---- every element by its index, a stretch at a time

and_all : (a b c : Bool) → (a && (b && c)) ≡ ((a && b) && c)
and_all true b c = refl
and_all false b c = refl

all_pass : (l : List ℤ) → list_all (λ z. true) l ≡ true
all_pass [] = refl
all_pass (z ∷ l) = all_pass l

module _ (f : ℕ → ℤ → Bool) (l : List ℤ) where
  -- where the test goes by the element alone
  stretch : (g : ℤ → Bool) (c k : ℕ) → c + k ≤ length l → ((j : ℕ) (z : ℤ) → c ≤ j → j < c + k → f j z ≡ g z)
      → all_from f c (drop c l) ≡ list_all g (take k (drop c l)) && all_from f (c + k) (drop (c + k) l)
  unfolding all_from
  stretch g c zero h e = rw add-zero
  stretch g c (suc k) h e =
      let b : c < length l = omega arith in
      let d : c + suc k ≡ suc c + k = omega arith in
      let z = get_or l c (pos 0) in
      let r = stretch g (suc c) k (omega arith) (λ j y p q. e j y (omega arith) (omega arith)) in
      rw (d, drop-cons l c (pos 0) b, e c z (omega arith) (omega arith), r)
      (and_all (g z) (list_all g (take k (drop (suc c) l))) (all_from f (suc c + k) (drop (suc c + k) l)))

  -- where each passes by its index
  stretch_passed : (c k : ℕ) → c + k ≤ length l → ((j : ℕ) (z : ℤ) → c ≤ j → j < c + k → f j z ≡ true) → all_from f c (drop c l) ≡ all_from f (c + k) (drop (c + k) l)
  stretch_passed c k h e = stretch (λ z. true) c k h e ∙ rw (all_pass (take k (drop c l)))

  -- where the rest goes by the element alone
  stretch_last : (g : ℤ → Bool) (c k : ℕ) → c + k ≡ length l → ((j : ℕ) (z : ℤ) → c ≤ j → j < c + k → f j z ≡ g z) → all_from f c (drop c l) ≡ list_all g (take k (drop c l))
  unfolding all_from
  stretch_last g c k h e = stretch g c k (omega arith) e ∙ rw (drop_of_length-le l {i = c + k} (omega arith)) (and-true (list_all g (take k (drop c l))))
    where
      and-true : (a : Bool) → (a && true) ≡ a
      and-true true = refl
      and-true false = refl

-- ---- numbers that are left over

unused : (a b : Bool) → ((a && false) || b) ≡ b
unused true b = refl
unused false b = refl

module _ (n atoms : ℕ) (l : List ℤ) where
  abbrev clear : ℕ → ℤ → Bool
  clear = coefficient_clear n atoms

  -- every cell before row i is clear
  abbrev pub RowsFrom : ℕ → Type 0
  RowsFrom i = (i ≤ atoms) × (all_from clear (most_variables * i) (drop (most_variables * i) l) ≡ all_from clear 0 l)

  pub rows_start : RowsFrom 0
  rows_start = (omega arith, refl)

  module _ (few : n ≤ most_variables) (held : atoms ≤ most_atoms) (full : length l ≡ most_variables * most_atoms) (i : ℕ) (inv : RowsFrom i) where
    rows_next : i < atoms → all_from clear 0 l ≡ list_all is_zero (take (most_variables - n) (drop (most_variables * i + n) l)) && all_from clear (most_variables * (i + 1)) (drop (most_variables * (i + 1)) l)
    rows_next h =
        let d : most_variables * i + n + (most_variables - n) ≡ most_variables * (i + 1) = omega arith in
        sym inv.1
        ∙ stretch_passed clear l (most_variables * i) n (omega arith) (λ j z p q. rw (lt-ltb (j % most_variables) n (omega arith), lt-ltb (j / most_variables) atoms (omega arith)))
        ∙ rw d at (stretch clear l is_zero (most_variables * i + n) (most_variables - n) (omega arith) (λ j z p q. rw (le-ltb (j % most_variables) n (omega arith))))

    pub rows_again : i < atoms → list_all is_zero (take (most_variables - n) (drop (most_variables * i + n) l)) ≡ true → RowsFrom (i + 1)
    rows_again h t = (omega arith, rw t at (sym (rows_next h)))

    pub rows_not : i < atoms → list_all is_zero (take (most_variables - n) (drop (most_variables * i + n) l)) ≡ false → false ≡ all_from clear 0 l
    rows_not h t = rw t at (sym (rows_next h))

    pub rows_whole : atoms ≤ i → list_all is_zero (take (most_variables * most_atoms - most_variables * atoms) (drop (most_variables * atoms) l)) ≡ all_from clear 0 l
    rows_whole h =
        let e : i ≡ atoms = omega arith in
        sym (stretch_last clear l is_zero (most_variables * atoms) (most_variables * most_atoms - most_variables * atoms) (omega arith) (λ j z p q. rw (le-ltb (j / most_variables) atoms (omega arith)) (unused (ltb (j % most_variables) n) (is_zero z))))
        ∙ (rw e at inv.1)

pub constants_left : (atoms : ℕ) (l : List ℤ) → atoms ≤ most_atoms → length l ≡ most_atoms → list_all is_zero (take (most_atoms - atoms) (drop atoms l)) ≡ all_from (constant_clear atoms) 0 l
constants_left atoms l held full =
    let e : 0 + atoms ≡ atoms = omega arith in
    sym ((rw e at (stretch_passed (constant_clear atoms) l 0 atoms (omega arith) (λ j z p q. rw (lt-ltb j atoms (omega arith)))))
    ∙ stretch_last (constant_clear atoms) l is_zero atoms (most_atoms - atoms) (omega arith) (λ j z p q. rw (le-ltb j atoms p)))

-- ---- codes that are left over

abbrev pub LeftFrom : List ℕ → ℕ → ℕ → Type 0
LeftFrom codes start i = (i ≤ most_nodes) × ((later : List Check) → first_refusal (code_checks (most_nodes - i) codes i later) ≡ first_refusal (code_checks (most_nodes - start) codes start later))

module _ (codes : List ℕ) (start i : ℕ) where
  code_first : i < most_nodes → (t : Bool) → eqb (get_or codes i 0) 0 ≡ t → (later : List Check)
      → first_refusal (code_checks (most_nodes - i) codes i later) ≡ cond t (first_refusal (code_checks (most_nodes - (i + 1)) codes (i + 1) later)) (maybe.some (refusal Rule.LeftOver i))
  unfolding code_checks first_refusal
  code_first h true e later = let z : most_nodes - i ≡ suc (most_nodes - suc i) = omega arith in rw (add-one, z, e)
  code_first h false e later = let z : most_nodes - i ≡ suc (most_nodes - (i + 1)) = omega arith in rw (z, e)

  pub left_again : i < most_nodes → get_or codes i 0 ≡ 0 → LeftFrom codes start i → LeftFrom codes start (i + 1)
  left_again h e inv = (omega arith, λ later. sym (code_first h true (eq-eqb (get_or codes i 0) 0 e) later) ∙ inv.1 later)

  pub left_found : i < most_nodes → (get_or codes i 0 ≡ 0 → ⊥) → LeftFrom codes start i → CodeLeft codes start (Some i)
  left_found h e inv = λ later. sym (inv.1 later) ∙ code_first h false (ne_eqb (get_or codes i 0) 0 e) later

  pub left_none : most_nodes ≤ i → LeftFrom codes start i → CodeLeft codes start None
  unfolding code_checks
  left_none h inv = λ later. let z : most_nodes - i ≡ 0 = omega arith in rw z at (sym (inv.1 later))
