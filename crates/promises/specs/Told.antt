-- The answers by document 01's own numbers, places and values (the definitions of scope that set them out for each case of an answer):
-- what any outcome tells, by what was lent. Each case of each answer has its line. Number 0 is no refusal.
use Rattle.std.specs.Prelude.{◌≡◌, refl, true, false, List, [], ◌∷◌, ℕ, ◌+◌, ◌-◌, ◌≤◌, ◌<◌, length, ℤ, Result, Bool, IsOk, Err, Ok}
use Rattle.std.proofs.Common.{ap, ◌∙◌, inl, inr, true≢false, sym}
use Rattle.scope.specs.declared.Record.{Record}
use Rattle.scope.specs.declared.Rule.{Rule}
use Rattle.scope.specs.declared.Question.{Question}
use Rattle.scope.specs.declared.Refusal.{Refusal}
use Rattle.scope.specs.Refusals.{refused, given, refused_with, record_told, read_told, write_told, truth_told, decide_told, build_told, spell_told}
use Rattle.scope.specs.Wire.{kind_at, length_at, record_checks}
use Rattle.scope.specs.Writing.{Wrote}
use Rattle.scope.specs.Words.{Word, value, spell_checks}
use Rattle.scope.specs.Tree.{true_for, IsQuestion}
use Rattle.scope.specs.Numbering.{machine_of}
use Rattle.scope.specs.Deciding.{Decided}
use Rattle.scope.specs.Building.{Built}
use Rattle.scope.specs.Running.{says_yes, run_checks}
use Rattle.theory.specs.Wire.Held.{Sized}
use Rattle.theory.specs.Wire.Checks.{Passed, FirstFailing}
use Rattle.theory.specs.Wire.Answers.{refused_iff}
use Rattle.theory.specs.Wire.WritingStopped.{RefusedAt}
use Rattle.theory.specs.Machine.Reachable.{AtMost}
use Rattle.theory.specs.Calls.Deciding.{StatesAre}
use Rattle.theory.specs.Calls.Decided.{RowFound, NeverAt, NoRoomAt}
use Rattle.theory.specs.Calls.Agreement.{Taken}
use Rattle.theory.specs.Calls.Questions.{judged_unread, judged_others, held_in, room_for, found_as, short_as, never_as, no_room_as, rows_for, built_as, unbuilt_as}
use Rattle.smtlib.specs.Cases.{ImportRefused, ImportAccepted}
use Rattle.importing.specs.declared.answer.Import.{Import}
use Rattle.importing.specs.Given.{question_given}
use Rattle.promises.specs.Calls.{RecordOutcome, ReadOutcome, ImportOutcome, JudgeOutcome, RunOutcome, SpellOutcome, WriteOutcome, DecideOutcome, BuildOutcome}
use Rattle.promises.specs.Demand1.{Breaks, read_question, record_refused, record_there, read_refused, decide_refused, build_refused, run_refused, run_answered, spell_refused, spell_answered, TooLong, write_refused, WrittenFor, write_written, import_refused, import_accepted}
use Rattle.promises.specs.Demand2.{judge_is}

-- ---- reading, importing, a bare step and writing

module _ (bytes : List ℕ) {r : Result Question Refusal} (out : ReadOutcome bytes r) where
  pub read_broken : (ρ : Refusal) → Breaks bytes ρ → read_told r ≡ refused ρ
  read_broken ρ b = ap read_told ((read_refused bytes out ρ).1 b)

  pub read_taken : IsQuestion bytes → read_told r ≡ given []
  read_taken q = ap read_told (read_question bytes out q)

module _ (text : List ℕ) {r : Result Import Refusal} (out : ImportOutcome text r) where
  pub import_failing : (ρ : Refusal) → ImportRefused text ρ → read_told (question_given r) ≡ refused ρ
  import_failing ρ b = ap (λ (s : Result Import Refusal). read_told (question_given s)) ((import_refused text out ρ).1 b)

  pub import_passed : ImportAccepted text → read_told (question_given r) ≡ given []
  import_passed a = go r ((import_accepted text out).1 a)
    where
      go : (s : Result Import Refusal) → IsOk s → read_told (question_given s) ≡ given []
      go (Ok i) h = refl
      go (Err ρ) h = absurd (true≢false (sym h))

module _ (bytes : List ℕ) (at : ℕ) {r : Result Record Refusal} (out : RecordOutcome bytes at r) where
  pub record_failing : (ρ : Refusal) → FirstFailing (record_checks bytes at) ρ → record_told r ≡ refused ρ
  record_failing ρ f = ap record_told ((record_refused bytes at out ρ).1 f)

  pub record_passed : Passed (record_checks bytes at) → record_told r ≡ given (kind_at bytes at ∷ (at + 4) ∷ length_at bytes at ∷ (at + 4 + length_at bytes at) ∷ [])
  record_passed p = ap record_told (record_there bytes at out p)

module _ (q : Question) (buffer : List ℕ) {o : Wrote} (out : WriteOutcome q buffer o) where
  pub write_broken : (ρ : Refusal) → RefusedAt q ρ → write_told o.answer ≡ refused ρ
  write_broken ρ s = ap write_told ((write_refused q buffer out ρ).1 (inl s))

  pub write_long : (ρ : Refusal) → TooLong q buffer ρ → write_told o.answer ≡ refused_with Rule.TooShort []
  write_long ρ t = ap write_told ((write_refused q buffer out ρ).1 (inr t)) ∙ ap refused t.told

  pub write_fitting : Sized q → (count : ℕ) → WrittenFor q buffer count → write_told o.answer ≡ given (count ∷ [])
  write_fitting sized count w = ap write_told ((write_written q buffer sized out count).1 w)

-- ---- judging, running and spelling

module _ (bytes values : List ℕ) {t : Result Bool Refusal} (out : JudgeOutcome bytes values t) where
  pub judge_broken : (ρ : Refusal) → Breaks bytes ρ → truth_told t ≡ refused ρ
  judge_broken ρ b = ap truth_told (out ∙ judged_unread bytes values ρ ((refused_iff bytes ρ).1 b))

  pub judge_others : (q : IsQuestion bytes) → ¬ Taken q.n values → truth_told t ≡ refused_with Rule.Values []
  judge_others q n = ap truth_told (out ∙ judged_others bytes values q n)

  module _ (q : IsQuestion bytes) (taken : Taken q.n values) where
    pub judge_yes : true_for q.tree values ≡ true → truth_told t ≡ given (1 ∷ [])
    judge_yes s = ap truth_told (judge_is bytes values q taken out) ∙ rw s

    pub judge_no : true_for q.tree values ≡ false → truth_told t ≡ given (0 ∷ [])
    judge_no s = ap truth_told (judge_is bytes values q taken out) ∙ rw s

module _ (n : ℕ) (cells : List ℕ) (word : Word) {t : Result Bool Refusal} (out : RunOutcome n cells word t) where
  pub run_failing : (ρ : Refusal) → FirstFailing (run_checks n cells word) ρ → truth_told t ≡ refused ρ
  run_failing ρ f = ap truth_told ((run_refused n cells word out ρ).1 f)

  module _ (passed : Passed (run_checks n cells word)) where
    pub run_yes : says_yes n cells word ≡ true → truth_told t ≡ given (1 ∷ [])
    run_yes s = ap truth_told (run_answered n cells word out passed) ∙ rw s

    pub run_no : says_yes n cells word ≡ false → truth_told t ≡ given (0 ∷ [])
    run_no s = ap truth_told (run_answered n cells word out passed) ∙ rw s

module _ (n variable : ℕ) (word : Word) {t : Result ℕ Refusal} (out : SpellOutcome n variable word t) where
  pub spell_failing : (ρ : Refusal) → FirstFailing (spell_checks n variable word) ρ → spell_told t ≡ refused ρ
  spell_failing ρ f = ap spell_told ((spell_refused n variable word out ρ).1 f)

  pub spell_passed : Passed (spell_checks n variable word) → spell_told t ≡ given (value word (variable - 1) ∷ [])
  spell_passed p = ap spell_told (spell_answered n variable word out p)

-- ---- deciding

module _ (bytes : List ℕ) (keys : List ℤ) (path word : List ℕ) {o : Decided} (out : DecideOutcome bytes keys path word o) where
  pub decide_broken : (ρ : Refusal) → Breaks bytes ρ → decide_told o.answer ≡ refused ρ
  decide_broken ρ b = ap decide_told ((decide_refused bytes keys path word out ρ).1 b)

  module _ (q : IsQuestion bytes) where
    pub decide_found : (states count : ℕ) → RowFound (held_in q) (true_for q.tree) (room_for q keys path) states count → count ≤ length word → decide_told o.answer ≡ given (states ∷ count ∷ [])
    decide_found states count f h = ap decide_told (out.answer ∙ (found_as bytes keys path word q states count).1 (f, h))

    pub decide_short : (states count : ℕ) → RowFound (held_in q) (true_for q.tree) (room_for q keys path) states count → length word < count
        → decide_told o.answer ≡ refused_with Rule.TooShort (states ∷ count ∷ [])
    decide_short states count f h = ap decide_told (out.answer ∙ (short_as bytes keys path word q states count).1 (f, h))

    pub decide_never : (states : ℕ) → NeverAt (held_in q) (true_for q.tree) (room_for q keys path) states → decide_told o.answer ≡ given (states ∷ [])
    decide_never states n = ap decide_told (out.answer ∙ (never_as bytes keys path word q states).1 n)

    pub decide_no_room : (states : ℕ) → NoRoomAt (held_in q) (true_for q.tree) (room_for q keys path) states → decide_told o.answer ≡ refused_with Rule.NoRoom (states ∷ [])
    decide_no_room states n = ap decide_told (out.answer ∙ (no_room_as bytes keys path word q states).1 n)

-- ---- building

module _ (bytes : List ℕ) (keys : List ℤ) (table : List ℕ) {o : Built} (out : BuildOutcome bytes keys table o) where
  pub build_broken : (ρ : Refusal) → Breaks bytes ρ → build_told o.answer ≡ refused ρ
  build_broken ρ b = ap build_told ((build_refused bytes keys table out ρ).1 b)

  module _ (q : IsQuestion bytes) where
    pub build_built : (states : ℕ) → StatesAre (machine_of (held_in q)) states → states ≤ rows_for q keys table → build_told o.answer ≡ given (states ∷ [])
    build_built states s h = ap build_told (out.answer ∙ (built_as bytes keys table q states).1 (s, h))

    pub build_no_room : ¬ AtMost (machine_of (held_in q)) (rows_for q keys table) → build_told o.answer ≡ refused_with Rule.NoRoom (rows_for q keys table ∷ [])
    build_no_room n = ap build_told (out.answer ∙ (unbuilt_as bytes keys table q (rows_for q keys table)).1 (refl, n))
