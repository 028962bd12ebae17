-- Building: the cells of a table, row by row; and what a table that has every row says of a word, run without the question.
use Rattle.std.specs.Prelude.{◌≡◌, Bool, false, cond, List, length, get_or, T, leb, Ok}
use Rattle.std.proofs.Math.Path.{refl, sym, ap}
use Rattle.std.proofs.Common.{◌∙◌, mod-eq_of_lt, mul-div_cancel, div-add-mod', mod-lt, div-lt_iff_lt-mul, zero-add, le→leb, lt→ltb}
use Rattle.std.proofs.Math.Bool.{true}
use Prim.Native.Nat.{ℕ, zero, suc, ◌+◌, ◌*◌, ◌/◌, ◌%◌, ◌≤◌, ◌<◌}
use Rattle.std.proofs.Math.Nat.{mul-add-mod_self_right, mul-mod_left}
use native.Mathlib.Omega.{arith}
use Rattle.std.proofs.Math.Dec.{eqb, eqb-suc-zero}
use Rattle.std.specs.Float.Ieee.Bits.{is_true}
use Rattle.scope.specs.declared.Question.{Question}
use Rattle.scope.specs.Whole.{all_from}
use Rattle.scope.specs.Sizes.{most_states, variables_fit}
use Rattle.scope.specs.Refusals.{first_refusal}
use Rattle.scope.specs.Words.{Word, letters, spelled, letters_fit, Over, over-[], over-∷}
use Rattle.scope.specs.States.{satisfied}
use Rattle.scope.specs.Numbering.{Machine, Row, Rows, machine_of, start_row, row, after, number_of}
use Rattle.scope.specs.Building.{table_width, next_states, table_row, table_cells}
use Rattle.scope.specs.Running.{table_rows, cell_fits, table_fits, row_after, says_yes, ran}
use Rattle.theory.specs.Machine.Lawful.{machine_lawful}
use Rattle.theory.specs.Machine.Prefix.{numbered_stays_le}
use Rattle.theory.specs.Machine.Table.{numbered_rooted}
use Rattle.theory.specs.Machine.NumberOf.{HasNumber, number_is, number_step, number_word}
use Rattle.theory.specs.Entries.Meaning.{word_means}
use Rattle.theory.specs.Words.Spelling.{letters_fit_lem}
use Rattle.theory.specs.Numbers.Joined.{joined_length, joined_at_lem, all_from_lem}
use Rattle.theory.specs.Calls.Deciding.{rows_of, to_machine}

-- ---- the cells: row t from cell t * (1 + letters) on

module _ {S : Type 0} (m : Machine S) (l : Rows S) where
  next_length : (s : S) (a count : ℕ) → length (next_states m l s a count) ≡ count
  unfolding next_states
  next_length s a zero = refl
  next_length s a (suc count) = ap suc (next_length s (suc a) count)

  next_at : (s : S) (a count c : ℕ) → c < count → get_or (next_states m l s a count) c 0 ≡ number_of m l (m.step s (a + c))
  unfolding next_states
  next_at s a zero c h = absurd (omega arith)
  next_at s a (suc count) zero h = let e : a + 0 ≡ a = omega arith in rw e
  next_at s a (suc count) (suc c) h = let e : a + suc c ≡ suc a + c = omega arith in rw e (next_at s (suc a) count c (omega arith))

  row_wide : (r : Row S) → length (table_row m l r) ≡ 1 + m.letters
  unfolding table_row
  row_wide r = omega (arith, next_length r.state 0 m.letters)

  table_length : length (table_cells m l) ≡ length l * (1 + m.letters)
  unfolding table_cells
  table_length = joined_length (table_row m l) (1 + m.letters) (start_row m) l (λ t h. row_wide (row m l t))

  table_at : (t c : ℕ) → t < length l → c < 1 + m.letters → get_or (table_cells m l) (t * (1 + m.letters) + c) 0 ≡ get_or (table_row m l (row m l t)) c 0
  unfolding table_cells
  table_at t c h g = joined_at_lem (table_row m l) (1 + m.letters) (start_row m) l (λ t h. row_wide (row m l t)) t c 0 h g

  -- 1 if accepting else 0
  table_accept : (t : ℕ) → t < length l → get_or (table_cells m l) (t * (1 + m.letters)) 0 ≡ cond (m.accepts (row m l t).state) 1 0
  unfolding table_row
  table_accept t h =
      let e : t * (1 + m.letters) ≡ t * (1 + m.letters) + 0 = omega arith in
      rw e (table_at t 0 h (omega arith))

  -- then the next state for each letter in order
  table_next : (t a : ℕ) → t < length l → a < m.letters
      → get_or (table_cells m l) (t * (1 + m.letters) + 1 + a) 0 ≡ number_of m l (m.step (row m l t).state a)
  unfolding table_row
  table_next t a h g =
      let e : t * (1 + m.letters) + 1 + a ≡ t * (1 + m.letters) + suc a = omega arith in
      rw e (table_at t (suc a) h (omega arith) ∙ next_at (row m l t).state 0 m.letters a g ∙ ap (λ (b : ℕ). number_of m l (m.step (row m l t).state b)) (zero-add a))

-- ---- the table of a question, where r rows are lent

abbrev pub table_of : Question → ℕ → List ℕ
table_of q r = table_cells (machine_of q) (rows_of q r)

module _ (q : Question) (r : ℕ) where
  pub table_size : length (table_of q r) ≡ length (rows_of q r) * table_width q.n
  unfolding machine_of
  table_size = table_length (machine_of q) (rows_of q r)

  accept_cell : (t : ℕ) → t < length (rows_of q r) → get_or (table_of q r) (t * table_width q.n) 0 ≡ cond ((machine_of q).accepts (row (machine_of q) (rows_of q r) t).state) 1 0
  unfolding machine_of
  accept_cell t h = table_accept (machine_of q) (rows_of q r) t h

  next_cell : (t a : ℕ) → t < length (rows_of q r) → a < letters q.n
      → get_or (table_of q r) (t * table_width q.n + 1 + a) 0 ≡ number_of (machine_of q) (rows_of q r) ((machine_of q).step (row (machine_of q) (rows_of q r) t).state a)
  unfolding machine_of
  next_cell t a h g = table_next (machine_of q) (rows_of q r) t a h g

-- more rows lent give the same table, once they are enough
pub table_stays : (q : Question) {r r' : ℕ} → r ≤ r' → length (rows_of q r) ≤ r → table_of q r' ≡ table_of q r
table_stays q g h = ap (table_cells (machine_of q)) (numbered_stays_le (machine_of q) g h)

-- ---- a table that has every row

marked : (b : Bool) → eqb (cond b 1 0) 1 ≡ b
marked true = refl
marked false = refl

mark_fits : (b : Bool) → T (leb (cond b 1 0) 1)
mark_fits true = tt
mark_fits false = tt

module _ (q : Question) (r : ℕ) (room : length (rows_of q r) ≤ r) where
  step_number : (t a : ℕ) → t < length (rows_of q r) → a < letters q.n
      → HasNumber (machine_of q) (rows_of q r) ((machine_of q).step (row (machine_of q) (rows_of q r) t).state a)
  unfolding machine_of
  step_number t a h g = number_step (machine_of q) (machine_lawful q) r t a (omega arith) h g

  run_from : (t : ℕ) {w : Word} → t < length (rows_of q r) → Over (letters q.n) w
      → row_after q.n (table_of q r) t w ≡ number_of (machine_of q) (rows_of q r) (after (machine_of q) (row (machine_of q) (rows_of q r) t).state w)
  unfolding row_after after
  run_from t h over-[] = sym (number_is (machine_of q) (machine_lawful q) (numbered_rooted (machine_of q) (machine_lawful q) r) t h)
  run_from t h (over-∷ {a} {w} g o) =
      let n = step_number t a h g in
      rw (next_cell q r t a h g) (rw n.is at (run_from (number_of (machine_of q) (rows_of q r) ((machine_of q).step (row (machine_of q) (rows_of q r) t).state a)) n.inside o))

  -- run on a word it comes to the row of the state that the word leads to
  table_run : {w : Word} → Over (letters q.n) w
      → row_after q.n (table_of q r) 0 w ≡ number_of (machine_of q) (rows_of q r) (after (machine_of q) (machine_of q).start w)
  unfolding start_row
  table_run o =
      let k = numbered_rooted (machine_of q) (machine_lawful q) r in
      rw k.start_row at (run_from 0 k.not_empty o)

  -- and says yes exactly if the naturals that the word spells satisfy the question
  pub table_says : {w : Word} → Over (letters q.n) w → says_yes q.n (table_of q r) w ≡ satisfied q (spelled q.n w)
  unfolding says_yes
  table_says {w} o =
      let n = number_word (machine_of q) (machine_lawful q) r room (to_machine q o) in
      rw (table_run o, accept_cell q r (number_of (machine_of q) (rows_of q r) (after (machine_of q) (machine_of q).start w)) n.inside, n.is, marked) (word_means q w)

  -- ---- it is no malformed table

  rows_are : table_rows q.n (table_of q r) ≡ length (rows_of q r)
  rows_are = rw (table_size q r) (mul-div_cancel (length (rows_of q r)) (omega arith))

  cell_fits_lem : (t c : ℕ) → t < length (rows_of q r) → c < table_width q.n
      → T (cell_fits (table_width q.n) (length (rows_of q r)) (t * table_width q.n + c) (get_or (table_of q r) (t * table_width q.n + c) 0))
  cell_fits_lem t zero h g =
      let e : t * table_width q.n + 0 ≡ t * table_width q.n = omega arith in
      rw (e, mul-mod_left t (table_width q.n), accept_cell q r t h) (mark_fits ((machine_of q).accepts (row (machine_of q) (rows_of q r) t).state))
  cell_fits_lem t (suc a) h g =
      let k : a < letters q.n = omega arith in
      let d : (t * table_width q.n + suc a) % table_width q.n ≡ suc a = mul-add-mod_self_right t (table_width q.n) (suc a) ∙ mod-eq_of_lt g in
      let e : t * table_width q.n + suc a ≡ t * table_width q.n + 1 + a = omega arith in
      rw (d, eqb-suc-zero, e, next_cell q r t a h k) (lt→ltb _ _ (step_number t a h k).inside)

  cells_fit : (c : ℕ) → c < length (table_of q r) → T (cell_fits (table_width q.n) (length (rows_of q r)) (0 + c) (get_or (table_of q r) c 0))
  cells_fit c h =
      let w : 0 < table_width q.n = omega arith in
      let t : c / table_width q.n < length (rows_of q r) = (div-lt_iff_lt-mul w).1 (rw (table_size q r) at h) in
      rw zero-add (rw (div-add-mod' c (table_width q.n)) at (cell_fits_lem (c / table_width q.n) (c % table_width q.n) t (mod-lt c w)))

  pub table_fits_lem : length (rows_of q r) ≤ most_states → table_fits q.n (table_of q r) ≡ true
  unfolding table_fits
  table_fits_lem h = rw (rows_are, whole, some_row, few, each)
    where
      whole : eqb (length (table_of q r) % table_width q.n) 0 ≡ true
      whole = rw (table_size q r, mul-mod_left (length (rows_of q r)) (table_width q.n))

      some_row : leb 1 (length (rows_of q r)) ≡ true
      some_row = is_true (leb 1 (length (rows_of q r))) (le→leb _ _ (numbered_rooted (machine_of q) (machine_lawful q) r).not_empty)

      few : leb (length (rows_of q r)) most_states ≡ true
      few = is_true (leb (length (rows_of q r)) most_states) (le→leb _ _ h)

      each : all_from (cell_fits (table_width q.n) (length (rows_of q r))) 0 (table_of q r) ≡ true
      each =
          let fits = cell_fits (table_width q.n) (length (rows_of q r)) in
          is_true (all_from fits 0 (table_of q r)) (all_from_lem fits 0 (table_of q r) 0 cells_fit)

  -- so on a word of its letters it is never refused, and its answer is whether the naturals that the word spells satisfy the question
  pub held_table_answers : T (variables_fit q.n) → length (rows_of q r) ≤ most_states → {w : Word} → Over (letters q.n) w
      → ran q.n (table_of q r) w ≡ Ok (satisfied q (spelled q.n w))
  unfolding ran first_refusal
  held_table_answers v h {w} o =
      rw (is_true (variables_fit q.n) v, table_fits_lem h, is_true (letters_fit q.n w) ((letters_fit_lem q.n w).1 o), table_says o)
