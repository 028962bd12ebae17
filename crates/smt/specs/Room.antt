-- What the room of the program smt means for an accepted text: R is 8,191 for any m, a found word has room, and its values are told up to 64 letters.
use Rattle.std.specs.Prelude.{ℕ, ◌*◌, ◌/◌, ◌≤◌, ◌<◌, ◌≡◌, refl, ◌≢◌, true, List, length, ℤ, pos, Ok, Result, IsOk, is_ok}
use Rattle.std.proofs.Common.{le-div_iff_mul-le, arith, sym, ap, ◌∙◌, subst, le-leb}
use Rattle.std.proofs.lemmas.List.{length-replicate}
use Rattle.std.specs.Float.Ieee.Bits.{is_true}
use Rattle.scope.specs.declared.Refusal.{Refusal}
use Rattle.scope.specs.declared.Decision.{Decision}
use Rattle.scope.specs.declared.Question.{Question}
use Rattle.scope.specs.Sizes.{variables_fit}
use Rattle.scope.specs.Question.{atom_count}
use Rattle.scope.specs.Wire.{read_held, question_held}
use Rattle.scope.specs.Words.{Word, Over, letters, letters_fit}
use Rattle.scope.specs.Tree.{question_bytes, true_for, IsQuestion}
use Rattle.scope.specs.Deciding.{decide_room}
use Rattle.theory.specs.Wire.Octets.{Octets}
use Rattle.theory.specs.Wire.ReadWritten.{written_octets}
use Rattle.theory.specs.Wire.Accepted.{WithinLimits}
use Rattle.theory.specs.Wire.Accepted as wire
use Rattle.theory.specs.Wire.Answers.{atom_count_lem}
use Rattle.theory.specs.Words.Spelling.{letters_fit_lem}
use Rattle.theory.specs.Trees.Parsed.{question_read}
use Rattle.theory.specs.Trees.Written.{held_written}
use Rattle.theory.specs.Calls.Decided.{RowFound, letters_fewer}
use Rattle.theory.specs.Calls.Questions.{found_as, short_as}
use Rattle.smtlib.specs.Imported.{imported}
use Rattle.smtlib.specs.Cases.{question_in, accepted_exactly, accepted_import}
use Rattle.smtlib.proofs.Accepted.{accepted_faultless, accepted_few, accepted_within}
use Rattle.told.specs.Values.{Spellable, spelt_value}
use Rattle.said.specs.Said.{model_lines, model_said}
use Rattle.smt.specs.Solved.{solve_keys, solve_path, solve_word, names_count, text_tree, text_bytes, solved_for}

-- ---- areas of 65,528 and 16,382 cells hold 8,191 states

abbrev pub most_rows : ℕ
most_rows = 8191

room_is : (q : Question) (keys : List ℤ) (path : List ℕ) → WithinLimits q → length keys ≡ 65528 → length path ≡ 16382 → decide_room q keys path ≡ most_rows
unfolding decide_room
room_is q keys path w e f =
    let c = atom_count_lem q in
    let a : 8191 * atom_count q ≤ 65528 = omega (arith, w.atoms) in
    let p : 0 < atom_count q = omega (arith, w.some_atom) in
    let h : 8191 ≤ 65528 / atom_count q = (le-div_iff_mul-le p).1 a in
    rw (e, f) (omega arith)

-- ---- an accepted text

pub text_bytes_are : (text : List ℕ) → text_bytes text ≡ question_bytes (names_count text) (text_tree text)
unfolding text_bytes
text_bytes_are text = refl

module _ (text : List ℕ) (accepted : IsOk (imported text)) where
  pub text_imported : imported text ≡ Ok (question_in text)
  text_imported = accepted_import text ((accepted_exactly text).0 accepted)

  abbrev pub text_question : IsQuestion (text_bytes text)
  text_question = record { n = names_count text; tree = text_tree text; within = accepted_within text accepted; bytes_are = text_bytes_are text }

  pub text_read : read_held (text_bytes text) ≡ Ok (question_in text)
  text_read = question_read (text_bytes text) text_question

  pub text_octets : Octets (text_bytes text)
  text_octets =
      let (w, e, b) = held_written (names_count text) (text_tree text) (accepted_within text accepted) in
      subst Octets (b ∙ sym (text_bytes_are text)) (written_octets (question_in text) w e)

  -- R is 8,191, however many atoms the question has
  pub text_room : decide_room (question_in text) solve_keys solve_path ≡ most_rows
  text_room =
      ap (λ (h : Result Question Refusal). decide_room (question_held h) solve_keys solve_path) (sym text_read)
      ∙ room_is (question_held (read_held (text_bytes text))) solve_keys solve_path (wire.accepted_within (text_bytes text) (ap is_ok text_read)) (length-replicate 65528 (pos 0)) (length-replicate {A = ℕ} 16382 0)

  pub found_in_lem : (states k : ℕ) → (solved_for text).answer ≡ Ok (Decision.Found states k) → RowFound (question_in text) (true_for (text_tree text)) most_rows states k
  unfolding solved_for
  found_in_lem states k e = rw text_room at ((found_as (text_bytes text) solve_keys solve_path solve_word text_question states k).0 e).0

  -- a found word always has room
  few_letters : {states k : ℕ} → RowFound (question_in text) (true_for (text_tree text)) most_rows states k → k ≤ length solve_word
  few_letters f = omega (arith, f.states_are, f.found_at.room, letters_fewer f, length-replicate {A = ℕ} 8191 0)

  pub in_found : (states k : ℕ) → RowFound (question_in text) (true_for (text_tree text)) most_rows states k → (solved_for text).answer ≡ Ok (Decision.Found states k)
  unfolding solved_for
  in_found states k f = (found_as (text_bytes text) solve_keys solve_path solve_word text_question states k).1 (rw (sym text_room) at f, few_letters f)

  pub not_short : (states k : ℕ) → (solved_for text).answer ≢ Ok (Decision.Short states k)
  unfolding solved_for
  not_short states k e =
      let s = (short_as (text_bytes text) solve_keys solve_path solve_word text_question states k).0 e in
      let f : RowFound (question_in text) (true_for (text_tree text)) most_rows states k = rw text_room at s.0 in
      omega (arith, s.1, few_letters f)

  pub variables_fit_lem : variables_fit (names_count text) ≡ true
  variables_fit_lem =
      rw (le-leb 1 (names_count text) (omega (arith, (accepted_faultless text accepted).named)), le-leb (names_count text) 6 (omega (arith, accepted_few text accepted)))

  -- the values of a word of at most 64 letters are told
  pub model_told : (bounds : List ℕ) (w : Word) → Over (letters (names_count text)) w → length w ≤ 64 → model_said text bounds (names_count text) w ≡ model_lines text bounds (names_count text) w
  model_told bounds w o h =
      let s : Spellable (names_count text) w = record {
        variables = variables_fit_lem;
        letters = is_true (letters_fit (names_count text) w) ((letters_fit_lem (names_count text) w).1 o);
        short = le-leb (length w) 64 h;
      } in
      rw (spelt_value (names_count text) 1 w s (omega arith) (omega (arith, (accepted_faultless text accepted).named)))
