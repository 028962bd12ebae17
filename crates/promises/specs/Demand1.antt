-- Demand 1, sentence by sentence, of any outcome that the contracts allow: what is refused, and by which number. What is left is in Left.
--
-- "Any question, table, word or value lent to it gets an answer, and nothing is assumed to have been looked at before." No call has a
-- `requires` (Tied), and each is proved to end. `Octets` and `Sized` are what the code's types say of every value: bytes below 256, arrays of their lengths.
use Rattle.std.proofs.Math.Path.{◌≡◌, refl, ap}
use Rattle.std.proofs.Common.{true≢false, sym, ◌∙◌, inl, inr, arith, leb→le, le→leb}
use Rattle.std.specs.Prelude.{◌↔◌, ◌⊎◌, ◌≢◌, Bool, cond, List, [], ◌∷◌, ℕ, ◌+◌, ◌-◌, ◌≤◌, ◌<◌, length, ℤ, Ok, Err, Result, IsOk, is_ok}
use Rattle.std.proofs.Math.Logic.{⊎_elim}
use mathlib.Core.Logic.Iff
use Rattle.std.proofs.Math.Bool.{true, false}
use Rattle.std.proofs.Math.Option.{Option, none, some}
use Rattle.std.proofs.Math.Dec.{leb, nleb→lt, not_T}
use Rattle.std.specs.Float.Ieee.Bits.{is_true, is_false}
use Rattle.scope.specs.declared.Record.{Record}
use Rattle.scope.specs.declared.Rule.{Rule}
use Rattle.scope.specs.declared.Question.{Question}
use Rattle.scope.specs.declared.Refusal.{Refusal}
use Rattle.scope.specs.Whole.{at_front}
use Rattle.scope.specs.Refusals.{rule_number, check, refusal, first_refusal, unless_refused, Progress, stopped, going, ended}
use Rattle.scope.specs.Wire.{kind_at, length_at, header_there, body_there, record_here, record_at, Reading, Ended, read_from, read_held, head_checks, node_at, coefficients_at, constant_at, field_checks, node_checks, end_checks, record_checks}
use Rattle.scope.specs.Writing.{Walk, written, Wrote, fitted, wrote_of, wrote}
use Rattle.scope.specs.Words.{Word, value, spelt, spell_checks}
use Rattle.scope.specs.Question.{is_atom}
use Rattle.scope.specs.Tree.{question_bytes, true_for, IsQuestion, IsHeld}
use Rattle.scope.specs.Running.{says_yes, ran, run_checks}
use Rattle.scope.specs.Judging.{judged}
use Rattle.scope.specs.Deciding.{Decided, decided}
use Rattle.scope.specs.Building.{Built, built}
use Rattle.scope.specs.Sizes.{most_bytes, variables_fit}
use Rattle.theory.specs.Wire.Buffers.{written_short}
use Rattle.theory.specs.Wire.Checks.{Passed, none_iff_passed, FirstFailing, some_iff_failing, EveryRule, failing_numbered}
use Rattle.theory.specs.Wire.Fields.{fields_numbered}
use Rattle.theory.specs.Wire.WhichNumber.{StoppedByNumber, number_stopped_iff, StoppedByVariables, variables_stopped_iff, RefusedByNumber, number_refused_iff, variables_refused_iff}
use Rattle.theory.specs.Wire.Stopped.{StoppedAt, at_head, at_node, at_end, stopped_iff, never_going, LeftBytes}
use Rattle.theory.specs.Wire.Answers.{refused_iff}
use Rattle.theory.specs.Wire.WritingStopped.{RefusedAt, written_stopped_iff, never_half_written}
use Rattle.theory.specs.Calls.Decided as deciding
use Rattle.theory.specs.Calls.Built as building
use Rattle.theory.specs.Wire.Octets.{Octets}
use Rattle.theory.specs.Wire.Held.{Sized}
use Rattle.theory.specs.Trees.Parsed.{question_read, accepted_iff_question}
use Rattle.theory.specs.Trees.Written.{written_question, held_written}
use Rattle.theory.specs.Calls.Agreement.{Taken}
use Rattle.theory.specs.Calls.Questions.{held_in, not_both, Read, a_question, no_question, either_way, judged_unread, judged_as, judged_others}
use Rattle.reading.specs.declared.ReadPart.{ReadPart}
use Rattle.reading.specs.Answers.{part_read}
use Rattle.smtlib.specs.Lexicon.{broken_at}
use Rattle.smtlib.specs.Script.{all_outside, all_beyond}
use Rattle.smtlib.specs.Lowest.{LowestFault}
use Rattle.smtlib.specs.Imported.{imported}
use Rattle.smtlib.specs.Cases.{script_in, fault_in, limit_in, FaultRule, LimitRule, ImportRefused, ImportAccepted, refused_exactly, accepted_exactly, broken_exactly, fault_lowest, limit_exactly}
use Rattle.importing.specs.declared.answer.Import.{Import}
use Rattle.importing.specs.Given.{import_given, question_given, given_is}
use Rattle.promises.specs.Calls.{RecordOutcome, ReadOutcome, PartOutcome, ImportOutcome, JudgeOutcome, RunOutcome, SpellOutcome, WriteOutcome, DecideOutcome, BuildOutcome}

-- ---- bytes that break a rule

-- the first rule that the bytes break has this number and this place: a check fails at a record that is reached by passing every record
-- before it, and it is the first to fail there; or all is read and bytes are left
abbrev pub Breaks : List ℕ → Refusal → Type 0
Breaks bytes ρ = StoppedAt bytes 0 ρ ⊎ LeftBytes bytes ρ

-- reading accepts the bytes, as a held question, or refuses them
by_answer : (bytes : List ℕ) {X : Type 0} → ((q : Question) → read_held bytes ≡ Ok q → X)
    → ((ρ : Refusal) → read_held bytes ≡ Err ρ → X) → X
by_answer bytes {X} accepted refused = go (read_held bytes) refl
  where
    go : (a : Result Question Refusal) → read_held bytes ≡ a → X
    go (Ok q) e = accepted q e
    go (Err ρ) e = refused ρ e

-- ---- "What breaks the rules is refused by the number in document 01, and a question that breaks none is accepted."

module _ (bytes : List ℕ) where
  pub read_refused : {r : Result Question Refusal} → ReadOutcome bytes r → (ρ : Refusal) → (r ≡ Err ρ) ↔ Breaks bytes ρ
  read_refused out ρ = rw out (refused_iff bytes ρ)

  -- a question's bytes are read as its held value
  pub read_question : {r : Result Question Refusal} → ReadOutcome bytes r → (q : IsQuestion bytes) → r ≡ Ok (held_in q)
  read_question out q = out ∙ question_read bytes q

  -- what breaks none is accepted: it is a question's bytes
  pub read_unbroken : {r : Result Question Refusal} → ReadOutcome bytes r → IsOk r ↔ ((ρ : Refusal) → ¬ Breaks bytes ρ)
  read_unbroken out = rw out (unbroken, λ n. by_answer bytes (λ q e. ap is_ok e) (λ ρ e. absurd (n ρ ((refused_iff bytes ρ).0 e))))
    where
      unbroken : IsOk (read_held bytes) → (ρ : Refusal) → ¬ Breaks bytes ρ
      unbroken e ρ b = true≢false (sym e ∙ ap is_ok ((refused_iff bytes ρ).1 b))

  pub read_accepted : Octets bytes → {r : Result Question Refusal} → ReadOutcome bytes r → IsOk r ↔ IsQuestion bytes
  read_accepted octets out = rw out (accepted_iff_question bytes octets)

  -- so bytes break a rule exactly if they are no question's
  pub question_unbroken : Octets bytes → IsQuestion bytes ↔ ((ρ : Refusal) → ¬ Breaks bytes ρ)
  question_unbroken octets = (λ q ρ b. not_both bytes q ρ ((refused_iff bytes ρ).1 b), λ n. go n (either_way bytes octets))
    where
      go : ((ρ : Refusal) → ¬ Breaks bytes ρ) → Read bytes → IsQuestion bytes
      go n (a_question q) = q
      go n (no_question ρ e) = absurd (n ρ ((refused_iff bytes ρ).0 e))

  pub other_broken : Octets bytes → (¬ IsQuestion bytes) ↔ ((ρ : Refusal) × Breaks bytes ρ)
  other_broken octets = (λ n. go n (either_way bytes octets), λ (ρ, b) q. not_both bytes q ρ ((refused_iff bytes ρ).1 b))
    where
      go : ¬ IsQuestion bytes → Read bytes → (ρ : Refusal) × Breaks bytes ρ
      go n (a_question q) = absurd (n q)
      go n (no_question ρ e) = (ρ, (refused_iff bytes ρ).0 e)

  -- by one number, at one place
  pub breaks_once : (ρ σ : Refusal) → Breaks bytes ρ → Breaks bytes σ → ρ ≡ σ
  breaks_once ρ σ b c = let x = (refused_iff bytes ρ).1 b in let y = (refused_iff bytes σ).1 c in cc

-- an answer is refused exactly where there is a refusal, and by that one
unless_iff : {A : Type 0} (o : Option Refusal) (a : A) (ρ : Refusal) → (unless_refused o a ≡ Err ρ) ↔ (o ≡ some ρ)
unless_iff none a ρ = (λ e. let z : ◌≡◌ {A = ℕ} 0 1 = cc in absurd (omega arith), λ e. let z : ◌≡◌ {A = ℕ} 0 1 = cc in absurd (omega arith))
unless_iff (some σ) a ρ = (λ e. cc, λ e. cc)

-- a bare step refuses only where the bytes end, at the record
module _ (bytes : List ℕ) (at : ℕ) where
  pub record_refused : {r : Result Record Refusal} → RecordOutcome bytes at r → (ρ : Refusal) → (r ≡ Err ρ) ↔ FirstFailing (record_checks bytes at) ρ
  unfolding record_at
  record_refused out ρ = rw out (Iff.trans (unless_iff (first_refusal (record_checks bytes at)) (record_here bytes at) ρ) (some_iff_failing (record_checks bytes at) ρ))

  -- else the record, its body all there
  pub record_there : {r : Result Record Refusal} → RecordOutcome bytes at r → Passed (record_checks bytes at)
      → r ≡ Ok (record { kind = kind_at bytes at; start = at + 4; len = length_at bytes at; next = at + 4 + length_at bytes at })
  unfolding record_at
  record_there out p = rw (out, (none_iff_passed (record_checks bytes at)).1 p)

  pub record_cut : {r : Result Record Refusal} → RecordOutcome bytes at r → (ρ : Refusal) → r ≡ Err ρ → ρ ≡ refusal Rule.BytesEnd at
  unfolding record_at first_refusal
  record_cut out ρ e = go (header_there bytes at) (body_there bytes at) (sym out ∙ e)
    where
      go : (x y : Bool) → unless_refused (first_refusal (check Rule.BytesEnd at x ∷ check Rule.BytesEnd at y ∷ [])) (record_here bytes at) ≡ Err ρ → ρ ≡ refusal Rule.BytesEnd at
      go true true e = let z : ◌≡◌ {A = ℕ} 0 1 = cc in absurd (omega arith)
      go true false e = cc
      go false y e = cc

  -- reading from a place on
  pub part_refused : {r : Result ReadPart Refusal} → PartOutcome bytes at r → (ρ : Refusal) → (r ≡ Err ρ) ↔ StoppedAt bytes at ρ
  part_refused out ρ = rw out (said (read_from bytes at) refl, λ s. ap part_read ((stopped_iff bytes at ρ).1 s))
    where
      said : (p : Progress Reading Ended) → read_from bytes at ≡ p → part_read p ≡ Err ρ → StoppedAt bytes at ρ
      said (stopped σ) x e = let s : σ ≡ ρ = cc in (stopped_iff bytes at ρ).0 (x ∙ ap stopped s)
      said (going s) x e = absurd (never_going bytes at s x)
      said (ended d) x e = let z : ◌≡◌ {A = ℕ} 0 1 = cc in absurd (omega arith)

-- the number is one from 1 to 6, or 12 or 13
abbrev OfQuestion : Rule → Type 0
OfQuestion rule = ((1 ≤ rule_number rule) × (rule_number rule ≤ 6)) ⊎ ((rule_number Rule.CoefficientBeyond ≤ rule_number rule) × (rule_number rule ≤ rule_number Rule.ConstantBeyond))

pub breaks_number : (bytes : List ℕ) (ρ : Refusal) → Breaks bytes ρ → OfQuestion ρ.rule
breaks_number bytes ρ = ⊎_elim stops (λ l. rw l.told (low Rule.LeftOver (omega arith) (omega arith)))
  where
    low : (rule : Rule) → 1 ≤ rule_number rule → rule_number rule ≤ 6 → OfQuestion rule
    low rule h k = inl (h, k)

    one : OfQuestion Rule.BytesEnd
    one = low Rule.BytesEnd (omega arith) (omega arith)

    two : OfQuestion Rule.NotDue
    two = low Rule.NotDue (omega arith) (omega arith)

    three : OfQuestion Rule.BodyLength
    three = low Rule.BodyLength (omega arith) (omega arith)

    four : OfQuestion Rule.BeyondLimit
    four = low Rule.BeyondLimit (omega arith) (omega arith)

    five : OfQuestion Rule.TooMany
    five = low Rule.TooMany (omega arith) (omega arith)

    numbers : (t : Bool) (place : ℕ) (cs : List ℤ) (k : ℤ) → EveryRule OfQuestion (cond t (field_checks place 4 cs k) [])
    numbers true place cs k = fields_numbered OfQuestion place 4 cs k (inr (omega arith, omega arith)) (inr (omega arith, omega arith))
    numbers false place cs k = tt

    stops : StoppedAt bytes 0 ρ → OfQuestion ρ.rule
    stops (at_head f) = failing_numbered OfQuestion (head_checks bytes 0) ρ (one, (two, (three, (one, (four, tt))))) f
    stops (at_node s depth due h d f) =
        failing_numbered OfQuestion (node_checks bytes depth s) ρ
        (one, (two, (three, (one, (five, (five, (five, numbers (is_atom (node_at bytes s)) (s.place + 4) (coefficients_at bytes s) (constant_at bytes s)))))))) f
    stops (at_end s h d f) = failing_numbered OfQuestion (end_checks bytes s.place) ρ (one, (two, (three, (one, tt)))) f

-- ---- "Tell us which number is wrong" (document 02, E1)

module _ (bytes : List ℕ) (ρ : Refusal) where
  -- 12 or 13 exactly if an atom is reached one of whose numbers is beyond its limit: the first of them in field order, at its first byte
  pub breaks_numbers : (Breaks bytes ρ × (rule_number Rule.CoefficientBeyond ≤ rule_number ρ.rule)) ↔ StoppedByNumber bytes 0 ρ
  breaks_numbers = (λ p. ⊎_elim (λ s. (number_stopped_iff bytes 0 ρ).0 (s, p.1)) (λ l. absurd (omega (arith, p.1, ap (λ (r : Refusal). rule_number r.rule) l.told))) p.0, λ n. let s = (number_stopped_iff bytes 0 ρ).1 n in (inl s.0, s.1))

  -- and 4 exactly for n, at 0
  pub breaks_variables : (Breaks bytes ρ × (ρ.rule ≡ Rule.BeyondLimit)) ↔ StoppedByVariables bytes 0 ρ
  breaks_variables = (λ p. ⊎_elim (λ s. (variables_stopped_iff bytes 0 ρ).0 (s, p.1)) (λ l. absurd (omega (arith, ap rule_number p.1, ap (λ (r : Refusal). rule_number r.rule) l.told))) p.0, λ v. let s = (variables_stopped_iff bytes 0 ρ).1 v in (inl s.0, s.1))

-- deciding
module _ (bytes : List ℕ) (keys : List ℤ) (path word : List ℕ) where
  pub decided_refused : (ρ : Refusal) → ((decided bytes keys path word).answer ≡ Err ρ) ↔ (read_held bytes ≡ Err ρ)
  decided_refused ρ = (by_answer bytes (λ q e x. absurd (deciding.decide_says_not_refused bytes keys path word q e ρ x)) said, back)
    where
      said : (σ : Refusal) → read_held bytes ≡ Err σ → (decided bytes keys path word).answer ≡ Err ρ → read_held bytes ≡ Err ρ
      said σ e x =
          let y = ap (λ (d : Decided). d.answer) (deciding.decide_refused_unchanged bytes keys path word σ e) in
          let s : σ ≡ ρ = cc in
          e ∙ ap Err s

      back : read_held bytes ≡ Err ρ → (decided bytes keys path word).answer ≡ Err ρ
      back e = ap (λ (d : Decided). d.answer) (deciding.decide_refused_unchanged bytes keys path word ρ e)

  pub decide_refused : {o : Decided} → DecideOutcome bytes keys path word o → (ρ : Refusal) → (o.answer ≡ Err ρ) ↔ Breaks bytes ρ
  decide_refused out ρ = rw out.answer (Iff.trans (decided_refused ρ) (refused_iff bytes ρ))

  pub question_not_refused : IsQuestion bytes → {o : Decided} → DecideOutcome bytes keys path word o → (ρ : Refusal) → o.answer ≢ Err ρ
  question_not_refused q out ρ e = not_both bytes q ρ ((decided_refused ρ).0 (sym out.answer ∙ e))

-- building
module _ (bytes : List ℕ) (keys : List ℤ) (table : List ℕ) where
  pub built_refused : (ρ : Refusal) → ((built bytes keys table).answer ≡ Err ρ) ↔ (read_held bytes ≡ Err ρ)
  built_refused ρ = (by_answer bytes (λ q e x. absurd (building.build_says_not_refused bytes keys table q e ρ x)) said, back)
    where
      said : (σ : Refusal) → read_held bytes ≡ Err σ → (built bytes keys table).answer ≡ Err ρ → read_held bytes ≡ Err ρ
      said σ e x =
          let y = ap (λ (b : Built). b.answer) (building.build_refused_unchanged bytes keys table σ e) in
          let s : σ ≡ ρ = cc in
          e ∙ ap Err s

      back : read_held bytes ≡ Err ρ → (built bytes keys table).answer ≡ Err ρ
      back e = ap (λ (b : Built). b.answer) (building.build_refused_unchanged bytes keys table ρ e)

  pub build_refused : {o : Built} → BuildOutcome bytes keys table o → (ρ : Refusal) → (o.answer ≡ Err ρ) ↔ Breaks bytes ρ
  build_refused out ρ = rw out.answer (Iff.trans (built_refused ρ) (refused_iff bytes ρ))

-- judging: the question first; then 9 for other than n values or a value above the limit
pub record OtherValues (bytes values : List ℕ) (ρ : Refusal) : Type 0 where
  pub question : IsQuestion bytes
  pub others : ¬ Taken question.n values
  pub told : ρ ≡ refusal Rule.Values 0

pub truth_not_refused : (b : Bool) (ρ : Refusal) → ◌≡◌ {A = Result Bool Refusal} (Ok b) (Err ρ) → ⊥
truth_not_refused b ρ e = let z : ◌≡◌ {A = ℕ} 0 1 = cc in omega arith

pub judge_refused : (bytes values : List ℕ) → Octets bytes → {t : Result Bool Refusal} → JudgeOutcome bytes values t
    → (ρ : Refusal) → (t ≡ Err ρ) ↔ (Breaks bytes ρ ⊎ OtherValues bytes values ρ)
judge_refused bytes values octets out ρ =
    rw out (said (either_way bytes octets), ⊎_elim (λ b. judged_unread bytes values ρ ((refused_iff bytes ρ).1 b)) (λ v. judged_others bytes values v.question v.others ∙ ap Err (sym v.told)))
  where
    said : Read bytes → judged bytes values ≡ Err ρ → Breaks bytes ρ ⊎ OtherValues bytes values ρ
    said (no_question σ e) x =
        let y = judged_unread bytes values σ e in
        let s : σ ≡ ρ = cc in
        inl ((refused_iff bytes ρ).0 (e ∙ ap Err s))
    said (a_question q) x =
        let n : ¬ Taken q.n values = λ t. truth_not_refused (true_for q.tree values) ρ (sym (judged_as bytes values q t) ∙ x) in
        let z = judged_others bytes values q n in
        let s : ρ ≡ refusal Rule.Values 0 = cc in
        inr (record { question = q; others = n; told = s })

-- running: n, the table, the letters, in this order
module _ (n : ℕ) (cells : List ℕ) (word : Word) where
  pub run_refused : {t : Result Bool Refusal} → RunOutcome n cells word t → (ρ : Refusal) → (t ≡ Err ρ) ↔ FirstFailing (run_checks n cells word) ρ
  unfolding ran
  run_refused out ρ = rw out (Iff.trans (unless_iff (first_refusal (run_checks n cells word)) (says_yes n cells word) ρ) (some_iff_failing (run_checks n cells word) ρ))

  pub run_answered : {t : Result Bool Refusal} → RunOutcome n cells word t → Passed (run_checks n cells word) → t ≡ Ok (says_yes n cells word)
  unfolding ran
  run_answered out p = rw (out, (none_iff_passed (run_checks n cells word)).1 p)

-- spelling: n and the variable, the letters, the length
module _ (n variable : ℕ) (word : Word) where
  pub spell_refused : {t : Result ℕ Refusal} → SpellOutcome n variable word t → (ρ : Refusal) → (t ≡ Err ρ) ↔ FirstFailing (spell_checks n variable word) ρ
  unfolding spelt
  spell_refused out ρ =
      rw out (Iff.trans (unless_iff (first_refusal (spell_checks n variable word)) (value word (variable - 1)) ρ) (some_iff_failing (spell_checks n variable word) ρ))

  pub spell_answered : {t : Result ℕ Refusal} → SpellOutcome n variable word t → Passed (spell_checks n variable word) → t ≡ Ok (value word (variable - 1))
  unfolding spelt
  spell_answered out p = rw (out, (none_iff_passed (spell_checks n variable word)).1 p)

-- writing: the checks on the held question, then 8 where the bytes are longer than the buffer
pub record TooLong (q : Question) (buffer : List ℕ) (ρ : Refusal) : Type 0 where
  pub walk : Walk
  pub accepted : written q ≡ ended walk
  pub long : length buffer < length walk.bytes
  pub told : ρ ≡ refusal Rule.TooShort 0

-- it is a question's held value, and its bytes, so many, have room
pub record WrittenFor (q : Question) (buffer : List ℕ) (count : ℕ) : Type 0 where
  pub held : IsHeld q
  pub count_is : count ≡ length (question_bytes held.n held.tree)
  pub room : count ≤ length buffer

-- so written, the bytes stand at the front of the buffer
pub wrote_question : (q : Question) (buffer : List ℕ) (h : IsHeld q) → length (question_bytes h.n h.tree) ≤ length buffer
    → wrote q buffer ≡ record { answer = Ok (length (question_bytes h.n h.tree)); buffer = at_front (question_bytes h.n h.tree) buffer }
unfolding wrote
wrote_question q buffer h room =
    let w = held_written h.n h.tree h.within in
    let bytes : List ℕ = question_bytes h.n h.tree in
    ap (λ (p : Progress Walk Walk). wrote_of p buffer) (ap written h.held_is ∙ w.1)
    ∙ ap (λ (l : List ℕ). fitted (leb (length l) (length buffer)) l buffer) w.2
    ∙ ap (λ (b : Bool). fitted b bytes buffer) (is_true (leb (length bytes) (length buffer)) (le→leb (length bytes) (length buffer) room))

module _ (q : Question) (buffer : List ℕ) where
  wrote_as : (p : Progress Walk Walk) → written q ≡ p → (wrote q buffer).answer ≡ (wrote_of p buffer).answer
  unfolding wrote
  wrote_as p x = ap (λ (p : Progress Walk Walk). (wrote_of p buffer).answer) x

  wrote_refused_iff : (ρ : Refusal) → ((wrote q buffer).answer ≡ Err ρ) ↔ (RefusedAt q ρ ⊎ TooLong q buffer ρ)
  unfolding wrote
  wrote_refused_iff ρ = (said (written q) refl, ⊎_elim (λ s. ap (λ (p : Progress Walk Walk). (wrote_of p buffer).answer) ((written_stopped_iff q ρ).1 s)) long)
    where
      fit : (w : Walk) → written q ≡ ended w → (b : Bool) → leb (length w.bytes) (length buffer) ≡ b → (fitted b w.bytes buffer).answer ≡ Err ρ → TooLong q buffer ρ
      fit w x true d e = let z : ◌≡◌ {A = ℕ} 0 1 = cc in absurd (omega arith)
      fit w x false d e = record { walk = w; accepted = x; long = nleb→lt (length w.bytes) (length buffer) (rw d tt); told = cc }

      said : (p : Progress Walk Walk) → written q ≡ p → (wrote_of p buffer).answer ≡ Err ρ → RefusedAt q ρ ⊎ TooLong q buffer ρ
      said (stopped σ) x e = let s : σ ≡ ρ = cc in inl ((written_stopped_iff q ρ).0 (x ∙ ap stopped s))
      said (going w) x e = absurd (never_half_written q w x)
      said (ended w) x e = inr (fit w x (leb (length w.bytes) (length buffer)) refl e)

      long : TooLong q buffer ρ → (wrote_of (written q) buffer).answer ≡ Err ρ
      long t =
          let b : leb (length t.walk.bytes) (length buffer) ≡ false =
          is_false (leb (length t.walk.bytes) (length buffer))
          (not_T (leb (length t.walk.bytes) (length buffer)) (λ h. omega (arith, t.long, leb→le (length t.walk.bytes) (length buffer) h))) in
          rw (t.accepted, b, t.told)

  pub write_refused : {o : Wrote} → WriteOutcome q buffer o → (ρ : Refusal) → (o.answer ≡ Err ρ) ↔ (RefusedAt q ρ ⊎ TooLong q buffer ρ)
  write_refused out ρ = rw out.answer (wrote_refused_iff ρ)

  -- 12 or 13 exactly if an atom is reached one of whose numbers is beyond its limit: the first of them in field order, at the node
  pub write_numbers : {o : Wrote} → WriteOutcome q buffer o → (ρ : Refusal) → ((o.answer ≡ Err ρ) × (rule_number Rule.CoefficientBeyond ≤ rule_number ρ.rule)) ↔ RefusedByNumber q ρ
  write_numbers out ρ = (
    λ p. ⊎_elim (λ s. (number_refused_iff q ρ).0 (s, p.1)) (λ t. absurd (omega (arith, p.1, ap (λ (r : Refusal). rule_number r.rule) t.told))) ((write_refused out ρ).0 p.0),
    λ n. let s = (number_refused_iff q ρ).1 n in ((write_refused out ρ).1 (inl s.0), s.1),
  )

  -- and 4 exactly for n, at 0
  pub write_variables : {o : Wrote} → WriteOutcome q buffer o → (ρ : Refusal) → ((o.answer ≡ Err ρ) × (ρ.rule ≡ Rule.BeyondLimit)) ↔ ((variables_fit q.n ≡ false) × (ρ ≡ refusal Rule.BeyondLimit 0))
  write_variables out ρ = (
    λ p. ⊎_elim (λ s. (variables_refused_iff q ρ).0 (s, p.1)) (λ t. absurd (omega (arith, ap rule_number p.1, ap (λ (r : Refusal). rule_number r.rule) t.told))) ((write_refused out ρ).0 p.0),
    λ v. let s = (variables_refused_iff q ρ).1 v in ((write_refused out ρ).1 (inl s.0), s.1),
  )

  -- a buffer of `most_bytes`, 489, is long enough for every question: writing is then refused for what the held question breaks alone
  pub bytes_suffice : Sized q → most_bytes ≤ length buffer → {o : Wrote} → WriteOutcome q buffer o → (ρ : Refusal) → (o.answer ≡ Err ρ) ↔ RefusedAt q ρ
  bytes_suffice sized room out ρ =
      (λ e. ⊎_elim (λ s. s) (λ t. absurd (omega (arith, t.long, written_short q t.walk sized t.accepted))) ((write_refused out ρ).0 e), λ s. (write_refused out ρ).1 (inl s))

  -- a held value is written exactly if it is a question's and its bytes have room; they then stand at the front of the buffer
  pub write_written : Sized q → {o : Wrote} → WriteOutcome q buffer o → (count : ℕ) → (o.answer ≡ Ok count) ↔ WrittenFor q buffer count
  write_written sized out count = rw out.answer (said (written q) refl, back)
    where
      fit : (w : Walk) → written q ≡ ended w → (b : Bool) → leb (length w.bytes) (length buffer) ≡ b → (fitted b w.bytes buffer).answer ≡ Ok count → WrittenFor q buffer count
      fit w x true d e =
          let a = written_question q w sized x in
          let n : length w.bytes ≡ count = cc in
          record { held = a.held; count_is = sym n ∙ ap length a.bytes_are; room = omega (arith, n, leb→le (length w.bytes) (length buffer) (rw d tt)) }
      fit w x false d e = let z : ◌≡◌ {A = ℕ} 0 1 = cc in absurd (omega arith)

      said : (p : Progress Walk Walk) → written q ≡ p → (wrote q buffer).answer ≡ Ok count → WrittenFor q buffer count
      said (stopped σ) x e = let y = wrote_as (stopped σ) x in let z : ◌≡◌ {A = ℕ} 0 1 = cc in absurd (omega arith)
      said (going w) x e = absurd (never_half_written q w x)
      said (ended w) x e = fit w x (leb (length w.bytes) (length buffer)) refl (sym (wrote_as (ended w) x) ∙ e)

      back : WrittenFor q buffer count → (wrote q buffer).answer ≡ Ok count
      back f = ap (λ (o : Wrote). o.answer) (wrote_question q buffer f.held (omega (arith, f.room, f.count_is))) ∙ ap Ok (sym f.count_is)

  pub write_bytes : {o : Wrote} → WriteOutcome q buffer o → (h : IsHeld q) → length (question_bytes h.n h.tree) ≤ length buffer → o.buffer ≡ at_front (question_bytes h.n h.tree) buffer
  write_bytes out h room = out.buffer ∙ ap (λ (o : Wrote). o.buffer) (wrote_question q buffer h room)

-- ---- "Read my SMT-LIB files" (document 02, E2)

given_refused : (r : Result Import Refusal) (ρ : Refusal) → (r ≡ Err ρ) ↔ (question_given r ≡ Err ρ)
given_refused (Ok i) ρ = (λ e. let z : ◌≡◌ {A = ℕ} 0 1 = cc in absurd (omega arith), λ e. let z : ◌≡◌ {A = ℕ} 0 1 = cc in absurd (omega arith))
given_refused (Err σ) ρ = (λ e. cc, λ e. cc)

given_accepted : (r : Result Import Refusal) → IsOk r ↔ IsOk (question_given r)
given_accepted (Ok i) = Iff.rfl
given_accepted (Err σ) = Iff.rfl

module _ (text : List ℕ) {r : Result Import Refusal} (out : ImportOutcome text r) where
  pub import_held : question_given r ≡ imported text
  unfolding import_given
  import_held = ap question_given out ∙ given_is (imported text) text

  -- a text is refused by 14, else by 15 or 4, else by 5, 12 or 13
  pub import_refused : (ρ : Refusal) → (r ≡ Err ρ) ↔ ImportRefused text ρ
  import_refused ρ = Iff.trans (given_refused r ρ) (rw import_held (refused_exactly text ρ))

  -- by 14 exactly where it is not well formed, at the first byte that is not
  pub import_broken : (at : ℕ) → (r ≡ Err (refusal Rule.NotWellFormed at)) ↔ (broken_at text ≡ some at)
  import_broken at = Iff.trans (given_refused r (refusal Rule.NotWellFormed at)) (rw import_held (broken_exactly text at))

  -- by 15 or 4 exactly at the lowest place of what is outside the subset or beyond six names
  pub import_fault : (ρ : Refusal) → ((r ≡ Err ρ) × FaultRule ρ.rule)
      ↔ ((broken_at text ≡ none) × LowestFault (all_outside (length text) (script_in text)) (all_beyond (script_in text)) ρ)
  import_fault ρ = Iff.trans (Iff.and (given_refused r ρ) Iff.rfl) (rw import_held (fault_lowest text ρ))

  -- by 5, 12 or 13 exactly by the first limit of a question that is passed
  pub import_limit : (ρ : Refusal) → ((r ≡ Err ρ) × LimitRule ρ.rule) ↔ ((broken_at text ≡ none) × (fault_in text ≡ none) × (limit_in text ≡ some ρ))
  import_limit ρ = Iff.trans (Iff.and (given_refused r ρ) Iff.rfl) (rw import_held (limit_exactly text ρ))

  -- a text that breaks nothing is accepted
  pub import_accepted : IsOk r ↔ ImportAccepted text
  import_accepted = Iff.trans (given_accepted r) (rw import_held (accepted_exactly text))

  pub import_unbroken : IsOk r ↔ ((ρ : Refusal) → ¬ ImportRefused text ρ)
  import_unbroken = (λ e ρ b. true≢false (sym e ∙ ap is_ok ((import_refused ρ).1 b)), λ n. go n r refl)
    where
      go : ((ρ : Refusal) → ¬ ImportRefused text ρ) → (a : Result Import Refusal) → r ≡ a → IsOk r
      go n (Ok i) e = ap is_ok e
      go n (Err ρ) e = absurd (n ρ ((import_refused ρ).0 e))
