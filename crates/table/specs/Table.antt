-- The table as it is written, row by row, each in the part that is lent for it: its first rows stand at the front of what was there.
use Rattle.std.specs.Prelude.{◌≡◌, refl, List, ℕ, ◌+◌, ◌*◌, ◌≤◌, ◌<◌, length, ℤ}
use Rattle.std.proofs.Common.{sym, ap, ◌∙◌, arith}
use borrow.Rule.Slice.PartMut.{put_mid}
use Rattle.scope.specs.Whole.{at_front}
use Rattle.scope.specs.Numbering.{Machine, row, numbered}
use Rattle.scope.specs.Building.{table_cells}
use Rattle.plan.specs.declared.Plan.{Plan}
use Rattle.plan.specs.Machine.{machine, machine_runs}
use Rattle.table.specs.Front.{front_part, first_rows, row_length, rows_none, rows_length, rows_more, rows_all}
use Rattle.table.specs.Tabling.{Tabling}
use Rattle.table.specs.Row.{table_row_of}

-- all its rows at the front of what was there
abbrev pub table_after : Plan → List ℤ → List ℤ → ℕ → List ℕ → List ℕ
table_after plan sums keys count table =
    let M = machine plan sums keys in
    at_front (table_cells M (numbered M count)) table

-- its first s rows at the front of what was there
pub record RowsWritten (plan : Plan) (sums keys : List ℤ) (count s : ℕ) (before table : List ℕ) : Type 0 where
  pub low : s ≤ count
  pub size : length table ≡ length before
  pub cells : let M = machine plan sums keys in
      table ≡ at_front (first_rows M (numbered M count) s) before

module _ {plan : Plan} {sums keys : List ℤ} {count : ℕ} (t : Tabling plan sums keys count) (before : List ℕ) where
  abbrev M : Machine (List ℤ)
  M = machine plan sums keys

  pub no_row_written : RowsWritten plan sums keys count 0 before before
  unfolding at_front
  no_row_written = record { low = omega arith; size = refl; cells = rw (rows_none M (numbered M count)) }

  -- the part lent for row s comes back as the row
  module _ (s : ℕ) (below : s < count) {table : List ℕ} (w : RowsWritten plan sums keys count s before table) (part : List ℕ)
      (is : part ≡ table_row_of plan sums keys count s) (k : ℕ) (wide : k ≡ 1 + plan.letters) where
    pub row_more : length (put_mid (s * (1 + plan.letters)) k table part) ≡ length before
        → RowsWritten plan sums keys count (s + 1) before (put_mid (s * (1 + plan.letters)) k table part)
    row_more size =
        let l = numbered M count in
        let a : s < length l = omega (arith, t.there.size) in
        let b : s ≤ length l = omega arith in
        let h = (machine_runs plan sums keys).letters_are in
        let n : length (first_rows M l s) ≡ s * (1 + plan.letters) = rows_length M l s b ∙ ap (λ (k : ℕ). s * (1 + k)) h in
        let p : length part ≡ k = ap length is ∙ row_length M l (row M l s) ∙ ap (λ (k : ℕ). 1 + k) h ∙ sym wide in
        record {
          low = omega arith;
          size = size;
          cells = rw w.cells (front_part (first_rows M l s) part before (s * (1 + plan.letters)) k n p ∙ rw (rows_more M l s a, is));
        }

  pub all_rows_written : (s : ℕ) → count ≤ s → {table : List ℕ} → RowsWritten plan sums keys count s before table
      → table ≡ table_after plan sums keys count before
  all_rows_written s h w =
      let e : s ≡ length (numbered M count) = omega (arith, w.low, t.there.size) in
      w.cells ∙ ap (λ (c : List ℕ). at_front c before) (rows_all M (numbered M count) s e)
