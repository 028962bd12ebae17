-- Demand 1, what is left after a refusal, of any outcome that the contracts allow.
use Rattle.std.specs.Prelude.{◌≡◌, ◌≢◌, List, ℕ, ◌*◌, ◌≤◌, length, get_or, take, ℤ, Ok, Err, Result, replicate}
use Rattle.std.proofs.Common.{sym, ◌∙◌, arith}
use Rattle.std.proofs.Math.Path.{ap}
use Rattle.scope.specs.declared.Decision.{Decision}
use Rattle.scope.specs.declared.Building.{Building}
use Rattle.scope.specs.declared.Question.{Question}
use Rattle.scope.specs.declared.Refusal.{Refusal}
use Rattle.scope.specs.Question.{atom_count, empty_question}
use Rattle.scope.specs.Writing.{Wrote}
use Rattle.scope.specs.Tree.{true_for, IsQuestion}
use Rattle.scope.specs.Deciding.{Decided}
use Rattle.scope.specs.Building.{table_width, Built}
use Rattle.theory.specs.Trees.Parsed.{question_read}
use Rattle.theory.specs.Calls.Decided as deciding
use Rattle.theory.specs.Calls.Decided.{RowFound}
use Rattle.theory.specs.Calls.Built as building
use Rattle.theory.specs.Calls.Building.{table_of}
use Rattle.theory.specs.Calls.Areas.{states_told, built_told, Filled, key_cell, path_cell, decided_keys, decided_path, built_keys}
use Rattle.theory.specs.Calls.Lengths.{decided_keys_length, decided_path_length, decided_word_length, built_keys_length, built_table_length, wrote_length}
use Rattle.theory.specs.Wire.Buffers.{wrote_refused}
use Rattle.theory.specs.Calls.Questions.{held_in, room_for, short_as, no_room_as, rows_for, unbuilt_as}
use Rattle.smtlib.specs.Imported.{imported}
use Rattle.smtlib.specs.Cases.{ImportRefused}
use Rattle.importing.specs.declared.answer.Import.{Import}
use Rattle.importing.specs.Given.{import_given, given_is, question_given}
use Rattle.lent.specs.Lent.{part_into}
use Rattle.scope.specs.Wire.{question_held}
use Rattle.pelohuaki_c.specs.Bounds.{bounds_told}
use Rattle.scope.specs.Sizes.{most_variables}
use Rattle.promises.specs.Calls.{ImportOutcome, WriteOutcome, DecideOutcome, BuildOutcome}
use Rattle.promises.specs.Once.{write_is, decide_is, build_is}
use Rattle.promises.specs.Demand1.{decided_refused, built_refused, import_refused}
use Rattle.promises.specs.Exported.{ReadCells, ImportExported}

-- ---- "A refused question changes no lent cell"

pub decide_unchanged : (bytes : List ℕ) (keys : List ℤ) (path word : List ℕ) {o : Decided} → DecideOutcome bytes keys path word o → (ρ : Refusal) → o.answer ≡ Err ρ
    → o ≡ record { answer = Err ρ; keys = keys; path = path; word = word }
decide_unchanged bytes keys path word out ρ e =
    decide_is bytes keys path word out ∙ deciding.decide_refused_unchanged bytes keys path word ρ ((decided_refused bytes keys path word ρ).0 (sym out.answer ∙ e))

pub build_unchanged : (bytes : List ℕ) (keys : List ℤ) (table : List ℕ) {o : Built} → BuildOutcome bytes keys table o → (ρ : Refusal) → o.answer ≡ Err ρ
    → o ≡ record { answer = Err ρ; keys = keys; table = table }
build_unchanged bytes keys table out ρ e =
    build_is bytes keys table out ∙ building.build_refused_unchanged bytes keys table ρ ((built_refused bytes keys table ρ).0 (sym out.answer ∙ e))

pub write_unchanged : (q : Question) (buffer : List ℕ) {o : Wrote} → WriteOutcome q buffer o → (ρ : Refusal) → o.answer ≡ Err ρ → o.buffer ≡ buffer
write_unchanged q buffer out ρ e = out.buffer ∙ wrote_refused q buffer ρ (sym out.answer ∙ e)

-- a text that is refused: its refusal, and what is told beside it are the empty question and no names
pub import_nothing : (text : List ℕ) {r : Result Import Refusal} → ImportOutcome text r → (ρ : Refusal) → ImportRefused text ρ
    → (r ≡ Err ρ) × (question_held (question_given r) ≡ empty_question) × (bounds_told r ≡ replicate (2 * most_variables) 0)
import_nothing text {r} out ρ b =
    let e : r ≡ Err ρ = (import_refused text out ρ).1 b in
    (e, ap (λ (s : Result Import Refusal). question_held (question_given s)) e, ap bounds_told e)

-- and the parts that are lent to the exported call are as they were
module _ (text codes : List ℕ) (coefficients constants : List ℤ) (told : List ℕ) {o : ReadCells} (out : ImportExported text codes coefficients constants told o) where
  pub import_unchanged : (ρ : Refusal) → imported text ≡ Err ρ → (o.codes ≡ codes) × (o.coefficients ≡ coefficients) × (o.constants ≡ constants)
  unfolding import_given
  import_unchanged ρ e = (
    out.parts.codes ∙ ap (λ (a : Result Question Refusal). part_into a (λ (q : Question). q.codes) codes) (given_is (imported text) text ∙ e),
    out.parts.coefficients ∙ ap (λ (a : Result Question Refusal). part_into a (λ (q : Question). q.coefficients) coefficients) (given_is (imported text) text ∙ e),
    out.parts.constants ∙ ap (λ (a : Result Question Refusal). part_into a (λ (q : Question). q.constants) constants) (given_is (imported text) text ∙ e),
  )

-- ---- "for every other refusal 01 fixes what is left" (judging, running and spelling are lent nothing that they could write)

-- the first rows of the key and path areas are filled: the state that each row's word leads to, and the state and letter from which it
-- was numbered; the cells beyond are as they were
pub record RowsFilled (q : Question) (r rows : ℕ) (keys keys₁ : List ℤ) (path path₁ : List ℕ) : Type 0 where
  pub keys_after : Filled rows (atom_count q) (key_cell q r) keys keys₁
  pub path_after : Filled rows 2 (path_cell q r) path path₁

module _ (bytes : List ℕ) (keys : List ℤ) (path word : List ℕ) (q : IsQuestion bytes) {o : Decided} (out : DecideOutcome bytes keys path word o) where
  -- rows of every state counted are filled, whatever the answer
  pub decide_rows : RowsFilled (held_in q) (room_for q keys path) (states_told o.answer) keys o.keys path o.path
  decide_rows = rw (decide_is bytes keys path word out) (record {
    keys_after = decided_keys bytes keys path word (held_in q) (question_read bytes q);
    path_after = decided_path bytes keys path word (held_in q) (question_read bytes q);
  })

  -- found alone writes a word
  word_as_it_was : ((s k : ℕ) → o.answer ≢ Ok (Decision.Found s k)) → o.word ≡ word
  word_as_it_was n = out.word ∙ deciding.word_kept bytes keys path word (held_in q) (question_read bytes q) (λ s k y. n s k (out.answer ∙ y))

  -- 7: R as the states, rows 0 to R - 1 filled, the word unchanged
  pub decide_no_room_left : (states : ℕ) → o.answer ≡ Ok (Decision.NoRoom states)
      → (states ≡ room_for q keys path) × RowsFilled (held_in q) (room_for q keys path) states keys o.keys path o.path × (o.word ≡ word)
  decide_no_room_left states e = (
    ((no_room_as bytes keys path word q states).0 (sym out.answer ∙ e)).states_are,
    rw e at decide_rows,
    word_as_it_was (λ s k y. let z : ◌≡◌ {A = ℕ} 0 1 = cc in omega arith),
  )

  -- 8: states w + 1 and rows as for found, the word unchanged
  pub decide_short_left : (states letters : ℕ) → o.answer ≡ Ok (Decision.Short states letters)
      → RowFound (held_in q) (true_for q.tree) (room_for q keys path) states letters × RowsFilled (held_in q) (room_for q keys path) states keys o.keys path o.path × (o.word ≡ word)
  decide_short_left states letters e = (
    ((short_as bytes keys path word q states letters).0 (sym out.answer ∙ e)).0,
    rw e at decide_rows,
    word_as_it_was (λ s k y. let z : ◌≡◌ {A = ℕ} 0 1 = cc in omega arith),
  )

  -- and never leaves the word too
  pub decide_never_left : (states : ℕ) → o.answer ≡ Ok (Decision.Never states) → RowsFilled (held_in q) (room_for q keys path) states keys o.keys path o.path × (o.word ≡ word)
  decide_never_left states e = (rw e at decide_rows, word_as_it_was (λ s k y. let z : ◌≡◌ {A = ℕ} 0 1 = cc in omega arith))

module _ (bytes : List ℕ) (keys : List ℤ) (table : List ℕ) (q : IsQuestion bytes) {o : Built} (out : BuildOutcome bytes keys table o) where
  pub build_rows : Filled (built_told o.answer) (atom_count (held_in q)) (key_cell (held_in q) (rows_for q keys table)) keys o.keys
  build_rows = rw (build_is bytes keys table out) (built_keys bytes keys table (held_in q) (question_read bytes q))

  -- 7: R as the states, key rows 0 to R - 1 filled, the table unchanged
  pub build_no_room_left : (states : ℕ) → o.answer ≡ Ok (Building.NoRoom states)
      → (states ≡ rows_for q keys table) × Filled states (atom_count (held_in q)) (key_cell (held_in q) (rows_for q keys table)) keys o.keys × (o.table ≡ table)
  build_no_room_left states e =
      let x = sym out.answer ∙ e in (
        ((unbuilt_as bytes keys table q states).0 x).0,
        rw e at build_rows,
        out.table ∙ building.table_kept bytes keys table (held_in q) (question_read bytes q) states x,
      )

  pub build_built_left : (states : ℕ) → o.answer ≡ Ok (Building.Built states)
      → (take (states * table_width q.n) o.table ≡ table_of (held_in q) (rows_for q keys table))
      × ((i a : ℕ) → states * table_width q.n ≤ i → get_or o.table i a ≡ get_or table i a)
  build_built_left states e =
      let handed = building.built_hands_over bytes keys table (held_in q) (question_read bytes q) states (sym out.answer ∙ e) in
      rw out.table (handed.filled, handed.rest)

-- ---- every lent buffer keeps its length

pub decide_lengths : (bytes : List ℕ) (keys : List ℤ) (path word : List ℕ) {o : Decided} → DecideOutcome bytes keys path word o
    → (length o.keys ≡ length keys) × (length o.path ≡ length path) × (length o.word ≡ length word)
decide_lengths bytes keys path word out =
    rw (decide_is bytes keys path word out) (decided_keys_length bytes keys path word, decided_path_length bytes keys path word, decided_word_length bytes keys path word)

pub build_lengths : (bytes : List ℕ) (keys : List ℤ) (table : List ℕ) {o : Built} → BuildOutcome bytes keys table o
    → (length o.keys ≡ length keys) × (length o.table ≡ length table)
build_lengths bytes keys table out = rw (build_is bytes keys table out) (built_keys_length bytes keys table, built_table_length bytes keys table)

pub write_length : (q : Question) (buffer : List ℕ) {o : Wrote} → WriteOutcome q buffer o → length o.buffer ≡ length buffer
write_length q buffer out = rw (write_is q buffer out) (wrote_length q buffer)
