-- A table that has passed its check: where a row ends, and that every next state is a row.
use Prim.Native.Nat.{ℕ, ◌+◌, ◌*◌, ◌/◌, ◌%◌, ◌^◌, ◌≤◌, ◌<◌}
use native.Mathlib.Nat.{zero-add, mul-le-mul_right, div-add-mod', add-mul}
use native.Mathlib.Numerals.{add-one}
use native.Mathlib.Omega.{arith}
use mathlib.Core.Path.{◌≡◌, refl, sym, ap, ◌∙◌, subst}
use mathlib.Core.Bool.{Bool, true, false, cond, ◌&&◌, and-eq-true_iff}
use mathlib.Core.List.{List}
use lib.ListN.{length, get_or, drop, drop_of_length-le}
use lib.Seq.{drop-cons}
use lib.Dec.{leb, ltb, eqb}
use lib.Arith.{digits_mod}
use borrow.Author.Tests.{eqb-true, leb-true, ltb-true, eq-eqb, ne_eqb}
use Rattle.scope.specs.Whole.{all_from}
use Rattle.scope.specs.Building.{table_width}
use Rattle.scope.specs.Running.{table_rows, cell_fits, table_fits, row_after}
use Rattle.words.specs.Tables.{TableRuns}
use Rattle.theory.specs.Numbers.Tests.{all_each, all_from_each}

-- ---- the check, at a width

unfoldable fits_at : ℕ → List ℕ → Bool
fits_at width cells =
    let rows = length cells / width in
    eqb (length cells % width) 0 && (leb 1 rows && (leb rows 65535 && all_from (cell_fits width rows) 0 cells))

fits_at_lem : (n width : ℕ) (cells : List ℕ) → width ≡ table_width n → table_fits n cells ≡ fits_at width cells
unfolding table_fits fits_at
fits_at_lem n width cells e = ap (λ (k : ℕ). fits_at k cells) (sym e)

both_fail : (a b c : Bool) → a && b ≡ false → a && (b && c) ≡ false
both_fail true true c e = let z : ◌≡◌ {A = ℕ} 0 1 = cc in absurd (omega arith)
both_fail true false c e = refl
both_fail false b c e = refl

both_pass : (a b c : Bool) → a && b ≡ true → a && (b && c) ≡ c
both_pass true true c e = refl
both_pass true false c e = let z : ◌≡◌ {A = ℕ} 0 1 = cc in absurd (omega arith)
both_pass false b c e = let z : ◌≡◌ {A = ℕ} 0 1 = cc in absurd (omega arith)

module _ (n width : ℕ) (cells : List ℕ) (e : width ≡ table_width n) where
  pub table_ragged : (length cells % width ≡ 0 → ⊥) → table_fits n cells ≡ false
  unfolding fits_at
  table_ragged h = rw (fits_at_lem n width cells e, ne_eqb _ _ h)

  pub table_miscounted : length cells % width ≡ 0 → leb 1 (length cells / width) && leb (length cells / width) 65535 ≡ false → table_fits n cells ≡ false
  unfolding fits_at
  table_miscounted h b = rw (fits_at_lem n width cells e, eq-eqb _ _ h) (both_fail (leb 1 (length cells / width)) (leb (length cells / width) 65535) _ b)

  pub table_counted :
      length cells % width ≡ 0 →
      leb 1 (length cells / width) && leb (length cells / width) 65535 ≡ true →
      table_fits n cells ≡ all_from (cell_fits width (length cells / width)) 0 cells
  unfolding fits_at
  table_counted h b = rw (fits_at_lem n width cells e, eq-eqb _ _ h) (both_pass (leb 1 (length cells / width)) (leb (length cells / width) 65535) _ b)

-- ---- what running leans on

pub record TableWalk (n width rows : ℕ) (cells word : List ℕ) : Type 0 where
  pub wide : width ≡ table_width n
  pub whole : rows * width ≡ length cells
  pub first : 0 < rows
  pub cell : (c : ℕ) → c < length cells → cell_fits width rows c (get_or cells c 0) ≡ true
  pub letter : (i : ℕ) → i < length word → get_or word i 0 < 2 ^ n

at_n : (n : ℕ) (cells word : List ℕ) → TableRuns n cells word → TableWalk n (table_width n) (table_rows n cells) cells word
unfolding table_fits
at_n n cells word r =
    let rows = table_rows n cells in
    let fits = all_from (cell_fits (table_width n) rows) 0 cells in
    let e = (and-eq-true_iff (eqb (length cells % table_width n) 0) (leb 1 rows && (leb rows 65535 && fits))).0 r.table in
    let f = (and-eq-true_iff (leb 1 rows) (leb rows 65535 && fits)).0 e.1 in
    let g = (and-eq-true_iff (leb rows 65535) fits).0 f.1 in
    let z : length cells % table_width n ≡ 0 = eqb-true _ _ e.0 in
    record {
      wide = refl;
      whole = omega (arith, div-add-mod' (length cells) (table_width n));
      first = leb-true 1 rows f.0;
      cell = λ c h. rw (zero-add c) at (all_from_each (cell_fits (table_width n) rows) 0 cells 0 g.1 c h);
      letter = λ i h. ltb-true _ _ (all_each (λ (letter : ℕ). ltb letter (2 ^ n)) word 0 r.letters i h);
    }

pub walk : {n width : ℕ} {cells word : List ℕ} → TableRuns n cells word → width ≡ table_width n → TableWalk n width (table_rows n cells) cells word
walk {n} {width} {cells} {word} r e = rw e (at_n n cells word r)

-- a row below the rows ends within the cells
row_end : (s rows width : ℕ) → s < rows → s * width + width ≤ rows * width
row_end s rows width h =
    let p : (s + 1) * width ≤ rows * width = mul-le-mul_right width (omega arith) in
    omega (arith, rw (add-mul s 1 width) at p)

module _ {n width rows : ℕ} {cells word : List ℕ} (w : TableWalk n width rows cells word) (row : ℕ) (h : row < rows) where
  pub row_within : row * width + width ≤ length cells
  row_within = omega (arith, row_end row rows width h, w.whole)

  pub accept_within : row * width < length cells
  accept_within = omega (arith, row_within, w.wide)

  module _ (i : ℕ) (l : i < length word) where
    pub next_within : row * width + 1 + get_or word i 0 < length cells
    next_within = omega (arith, row_within, w.wide, w.letter i l)

    pub next_row : get_or cells (row * width + 1 + get_or word i 0) 0 < rows
    next_row =
        let c = row * width + 1 + get_or word i 0 in
        let r : 1 + get_or word i 0 < width = omega (arith, w.wide, w.letter i l) in
        let m : c % width ≡ 1 + get_or word i 0 = ap (λ (k : ℕ). k % width) (omega arith) ∙ digits_mod row r in
        ltb-true (get_or cells c 0) rows
        (subst (λ (b : Bool). cond b (leb (get_or cells c 0) 1) (ltb (get_or cells c 0) rows) ≡ true) (ne_eqb (c % width) 0 (λ z. omega arith)) (w.cell c next_within))

    pub row_step : row_after n cells row (drop i word) ≡ row_after n cells (get_or cells (row * width + 1 + get_or word i 0) 0) (drop (i + 1) word)
    unfolding row_after
    row_step = rw (add-one i, drop-cons word i 0 l, w.wide)

pub row_last : (n : ℕ) (cells word : List ℕ) (row i : ℕ) → length word ≤ i → row_after n cells row (drop i word) ≡ row
unfolding row_after
row_last n cells word row i h = rw (drop_of_length-le word {i = i} h)
