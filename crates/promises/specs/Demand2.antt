-- Demand 2, sentence by sentence, of any outcome that the contracts allow, in the words of the tree that the bytes are.
use Rattle.std.specs.Prelude.{◌≡◌, refl, ◌↔◌, ◌≢◌, true, false, List, ℕ, ◌-◌, ◌*◌, ◌≤◌, ◌<◌, length, get_or, take, T, leb, ℤ, Ok, Err, Result, is_ok, Bool, IsOk, replicate, []}
use Rattle.std.proofs.Common.{sym, ◌∙◌, subst, true≢false, le-div_iff_mul-le, arith, le→leb}
use Rattle.std.proofs.Math.Path.{ap}
use Rattle.std.specs.Float.Ieee.Bits.{is_true}
use Rattle.scope.specs.declared.Refusal.{Refusal}
use Rattle.scope.specs.declared.Decision.{Decision}
use Rattle.scope.specs.declared.Question.{Question}
use Rattle.scope.specs.Whole.{at_front}
use Rattle.scope.specs.Sizes.{most_states, variables_fit, most_variables}
use Rattle.scope.specs.Question.{atom_count}
use Rattle.scope.specs.Refusals.{ended}
use Rattle.scope.specs.Wire.{read_held, question_held}
use Rattle.scope.specs.Writing.{Walk, written, Wrote, wrote}
use Rattle.scope.specs.Words.{Word, letters, spelled, Over, spell_checks}
use Rattle.scope.specs.States.{satisfied}
use Rattle.scope.specs.Tree.{question_bytes, true_for, IsQuestion, IsHeld}
use Rattle.scope.specs.Bound.{bound}
use Rattle.scope.specs.Numbering.{machine_of, after}
use Rattle.scope.specs.Deciding.{decide_room, Decided}
use Rattle.theory.specs.Wire.Checks.{and_both, Passed}
use Rattle.theory.specs.Wire.Octets.{Octets}
use Rattle.theory.specs.Wire.Held.{Sized}
use Rattle.theory.specs.Wire.WrittenRead.{WrittenBack, written_read}
use Rattle.theory.specs.Wire.Buffers.{wrote_back}
use Rattle.theory.specs.Words.Spelling.{word_of_values, spelled_at, letters_fit_lem, length_spelled}
use Rattle.theory.specs.Wire.Accepted.{WithinLimits, accepted_within, accepted_variables}
use Rattle.theory.specs.Wire.Answers.{atom_count_lem}
use Rattle.theory.specs.Trees.Parsed.{question_read}
use Rattle.theory.specs.Trees.Means.{tree_means}
use Rattle.theory.specs.Numbers.Joined.{at_front_cells}
use Rattle.theory.specs.Calls.Decided as deciding
use Rattle.theory.specs.Calls.Decided.{RowFound, letters_fewer, NeverAt, NoRoomAt}
use Rattle.theory.specs.Calls.Agreement.{truth_yes, Taken, judged_accepted, judged_machine}
use Rattle.theory.specs.Calls.Questions as questions
use Rattle.theory.specs.Calls.Questions.{held_in, room_for, Guarded, short_as, never_as, HandsOver, found_hands_over, judged_as}
use Rattle.smtlib.specs.Forms.{forms_of}
use Rattle.smtlib.specs.Meaning.{text_holds}
use Rattle.smtlib.specs.Names.{GivesNames, valued}
use Rattle.smtlib.specs.Imported.{bounds_of, imported}
use Rattle.smtlib.specs.Cases.{script_in}
use Rattle.smtlib.specs.Accepted.{declared_names}
use Rattle.smtlib.proofs.Accepted.{imported_question}
use Rattle.smtlib.proofs.Means.{text_means, model_natural, never_no_integers, found_holds}
use Rattle.importing.specs.declared.answer.Import.{Import}
use Rattle.importing.specs.Given.{names_given, given_by, import_given}
use Rattle.promises.specs.Calls.{ReadOutcome, ImportOutcome, JudgeOutcome, SpellOutcome, WriteOutcome, DecideOutcome}
use Rattle.promises.specs.Once.{write_is}
use Rattle.promises.specs.Demand1.{question_not_refused, spell_answered, wrote_question, write_written, write_bytes, import_held}

-- ---- "It is right by whole-number arithmetic and by the automaton that Boudet and Comon published."
-- (That the automaton, step by step and for every word, says what whole-number arithmetic does is `step_says` and `word_means` of theory.)

module _ (bytes values : List ℕ) (q : IsQuestion bytes) (taken : Taken q.n values) {t : Result Bool Refusal} (out : JudgeOutcome bytes values t) where
  pub judge_is : t ≡ Ok (true_for q.tree values)
  judge_is = out ∙ judged_as bytes values q taken

  pub judge_arithmetic : (t ≡ (Ok true)) ↔ (true_for q.tree values ≡ true)
  judge_arithmetic = rw judge_is (truth_yes (true_for q.tree values))

  -- the word of 40 letters spells the values
  pub judge_automaton : (t ≡ (Ok true)) ↔ ((machine_of (held_in q)).accepts (after (machine_of (held_in q)) (machine_of (held_in q)).start (word_of_values 40 values)) ≡ true)
  judge_automaton = rw (out ∙ judged_accepted bytes values (held_in q) (question_read bytes q) ∙ judged_machine (held_in q) values taken)
      (truth_yes ((machine_of (held_in q)).accepts (after (machine_of (held_in q)) (machine_of (held_in q)).start (word_of_values 40 values))))

-- ---- spelling: what a word of at most 64 letters spells for a variable from 1 to n

pub spell_value : (n variable : ℕ) (word : Word) → T (variables_fit n) → 1 ≤ variable → variable ≤ n → Over (letters n) word → length word ≤ 64
    → {t : Result ℕ Refusal} → SpellOutcome n variable word t → t ≡ Ok (get_or (spelled n word) (variable - 1) 0)
spell_value n variable word fits some most over short out =
    let v = and_both (leb 1 variable) (leb variable n) (le→leb 1 variable some) (le→leb variable n most) in
    let p : Passed (spell_checks n variable word) = (fits, (v, ((letters_fit_lem n word).1 over, (le→leb (length word) 64 short, tt)))) in
    spell_answered n variable word out p ∙ ap Ok (sym (spelled_at n word (variable - 1) (omega arith)))

-- ---- deciding any bytes that are lent

-- an atom at least
pub some_atom : {bytes : List ℕ} (q : IsQuestion bytes) → 0 < atom_count (held_in q)
some_atom {bytes} q =
    let w : WithinLimits (held_in q) = subst WithinLimits (ap question_held (question_read bytes q)) (accepted_within bytes (ap is_ok (question_read bytes q))) in
    rw (atom_count_lem (held_in q)) w.some_atom

module _ (bytes : List ℕ) (keys : List ℤ) (path word : List ℕ) {o : Decided} (out : DecideOutcome bytes keys path word o) where
  module _ (octets : Octets bytes) where
    -- "Never is said exactly if the rows lent hold every reachable state and no naturals, however large, satisfy the question."
    pub never_guarded : ((states : ℕ) × (o.answer ≡ Ok (Decision.Never states))) ↔ Guarded bytes keys path
    never_guarded = rw out.answer (questions.never_guarded bytes keys path word octets)

    -- and the states are as many as are reachable
    pub never_exactly : (states : ℕ) → (o.answer ≡ Ok (Decision.Never states)) ↔ ((q : IsQuestion bytes) × NeverAt (held_in q) (true_for q.tree) (room_for q keys path) states)
    never_exactly states = rw out.answer (questions.never_exactly bytes keys path word octets states)

    -- found exactly if a state below R accepts; the states are those up to the smallest one, whose word is the first satisfying word
    pub found_exactly : (states count : ℕ) → (o.answer ≡ Ok (Decision.Found states count))
        ↔ ((q : IsQuestion bytes) × (RowFound (held_in q) (true_for q.tree) (room_for q keys path) states count × (count ≤ length word)))
    found_exactly states count = rw out.answer (questions.found_exactly bytes keys path word octets states count)

    -- and 8 in its place exactly if that word is longer than the buffer
    pub short_exactly : (states count : ℕ) → (o.answer ≡ Ok (Decision.Short states count))
        ↔ ((q : IsQuestion bytes) × (RowFound (held_in q) (true_for q.tree) (room_for q keys path) states count × (length word < count)))
    short_exactly states count = rw out.answer (questions.short_exactly bytes keys path word octets states count)

    -- "No room is said exactly as 01's numbering has it."
    pub no_room_exactly : (states : ℕ) → (o.answer ≡ Ok (Decision.NoRoom states)) ↔ ((q : IsQuestion bytes) × NoRoomAt (held_in q) (true_for q.tree) (room_for q keys path) states)
    no_room_exactly states = rw out.answer (questions.no_room_exactly bytes keys path word octets states)

  -- ---- of a question's bytes

  module _ (q : IsQuestion bytes) where
    -- "Found hands over the first satisfying word in 01's order."
    pub found_first : (states count : ℕ) → o.answer ≡ Ok (Decision.Found states count) → HandsOver q word o.word count
    found_first states count e = rw out.word (found_hands_over bytes keys path word q states count (sym out.answer ∙ e))

    -- the naturals that it spells satisfy the question
    pub found_satisfies : (states count : ℕ) → o.answer ≡ Ok (Decision.Found states count) → true_for q.tree (spelled q.n (take count o.word)) ≡ true
    found_satisfies states count e = (found_first states count e).first.satisfies

    -- they are spelled out by the word that was handed over, and judged yes
    pub found_spelt : (states count : ℕ) → o.answer ≡ Ok (Decision.Found states count) → count ≤ 64 → (variable : ℕ) → 1 ≤ variable → variable ≤ q.n
        → {t : Result ℕ Refusal} → SpellOutcome q.n variable (take count o.word) t → t ≡ Ok (get_or (spelled q.n (take count o.word)) (variable - 1) 0)
    found_spelt states count e short variable some most spell =
        let h = found_first states count e in
        spell_value q.n variable (take count o.word) (accepted_variables bytes (held_in q) (question_read bytes q)) some most h.first.over (rw h.count_is short) spell

    pub found_judged : (states count : ℕ) → o.answer ≡ Ok (Decision.Found states count) → Taken q.n (spelled q.n (take count o.word))
        → {t : Result Bool Refusal} → JudgeOutcome bytes (spelled q.n (take count o.word)) t → t ≡ (Ok true)
    found_judged states count e taken judge =
        (judge_arithmetic bytes (spelled q.n (take count o.word)) q taken judge).1 (found_satisfies states count e)

    -- never is said of no question that some naturals satisfy
    pub satisfied_not_never : (xs : List ℕ) → length xs ≡ q.n → true_for q.tree xs ≡ true → (states : ℕ) → o.answer ≢ Ok (Decision.Never states)
    satisfied_not_never xs n h states e = true≢false (sym h ∙ ((never_as bytes keys path word q states).0 (sym out.answer ∙ e)).none_satisfies xs n)

    -- no room is never said where the rows reach the bound
    pub bound_is_room : bound (held_in q) ≤ room_for q keys path → (states : ℕ) → o.answer ≢ Ok (Decision.NoRoom states)
    bound_is_room h states e = deciding.bound_is_room bytes keys path word (held_in q) (question_read bytes q) states h (sym out.answer ∙ e)

    -- so some word is found, where that many rows and letters are lent and some naturals satisfy
    pub satisfied_found : bound (held_in q) ≤ room_for q keys path → room_for q keys path ≤ length word → (xs : List ℕ) → length xs ≡ q.n → true_for q.tree xs ≡ true
        → (states : ℕ) × (count : ℕ) × (o.answer ≡ Ok (Decision.Found states count))
    satisfied_found room letters xs n h = go o.answer refl
      where
        go : (a : Result Decision Refusal) → o.answer ≡ a → (states : ℕ) × (count : ℕ) × (o.answer ≡ Ok (Decision.Found states count))
        go (Ok (Decision.Found states count)) e = (states, count, e)
        go (Ok (Decision.Never states)) e = absurd (satisfied_not_never xs n h states e)
        go (Ok (Decision.NoRoom states)) e = absurd (bound_is_room room states e)
        go (Ok (Decision.Short states count)) e =
            let s = (short_as bytes keys path word q states count).0 (sym out.answer ∙ e) in
            absurd (omega (arith, s.1, letters_fewer s.0, s.0.states_are, s.0.found_at.room))
        go (Err ρ) e = absurd (question_not_refused bytes keys path word q out ρ e)

-- the rows lent, by the cells lent
pub decide_rows_lent : {bytes : List ℕ} (q : IsQuestion bytes) (rows : ℕ) → rows ≤ most_states → (keys : List ℤ) (path : List ℕ)
    → rows * atom_count (held_in q) ≤ length keys → rows * 2 ≤ length path → rows ≤ room_for q keys path
unfolding decide_room
decide_rows_lent q rows few keys path k p =
    let m : 0 < atom_count (held_in q) = some_atom q in
    omega (arith, (le-div_iff_mul-le m).1 k, few, p)

-- ---- "Questions written and read back are equal"

-- (the arrays of a held question have their type's lengths)
pub written_read_back : (q : Question) (buffer : List ℕ) → Sized q → {o : Wrote} → WriteOutcome q buffer o → (count : ℕ) → o.answer ≡ Ok count
    → {r : Result Question Refusal} → ReadOutcome (take count o.buffer) r → r ≡ Ok q
written_read_back q buffer z out count e back =
    back ∙ ap (λ (l : List ℕ). read_held (take count l)) out.buffer ∙ (wrote_back q buffer count z (sym out.answer ∙ e)).front

-- ---- "accepted bytes read and written back are equal."

wrote_whole : (q : Question) (buffer : List ℕ) (w : Walk) → written q ≡ ended w → length w.bytes ≤ length buffer
    → wrote q buffer ≡ record { answer = Ok (length w.bytes); buffer = at_front w.bytes buffer }
unfolding wrote
wrote_whole q buffer w e h = rw (e, is_true (leb (length w.bytes) (length buffer)) (le→leb (length w.bytes) (length buffer) h))

-- (each byte is one; into any buffer that has room)
pub read_written_back : (bytes : List ℕ) → Octets bytes → {q : Question} → ReadOutcome bytes (Ok q)
    → (buffer : List ℕ) → length bytes ≤ length buffer → {o : Wrote} → WriteOutcome q buffer o
    → o ≡ record { answer = Ok (length bytes); buffer = at_front bytes buffer }
read_written_back bytes octets {q} out buffer h {o} back =
    let w : WrittenBack bytes q = subst (WrittenBack bytes) (sym (ap question_held out)) (written_read bytes octets (ap is_ok (sym out))) in
    write_is q buffer back
    ∙ wrote_whole q buffer w.walk w.written (rw w.bytes h)
    ∙ ap (λ (l : List ℕ). record { answer = Ok (length l); buffer = at_front l buffer }) w.bytes

-- ---- what is written is a question's bytes

held_sized : {q : Question} → IsHeld q → Sized q
held_sized h =
    let bytes : List ℕ = question_bytes h.n h.tree in
    let b : IsQuestion bytes = record { n = h.n; tree = h.tree; within = h.within; bytes_are = refl } in
    let e = question_read bytes b in
    let w : WithinLimits (held_in b) = subst WithinLimits (ap question_held e) (accepted_within bytes (ap is_ok e)) in
    subst Sized (sym h.held_is) w.sized

pub written_bytes : (q : Question) (buffer : List ℕ) → Sized q → {o : Wrote} → WriteOutcome q buffer o → (count : ℕ) → o.answer ≡ Ok count
    → (b : IsQuestion (take count o.buffer)) × (q ≡ held_in b)
written_bytes q buffer sized {o} out count e =
    let f = (write_written q buffer sized out count).0 e in
    let h = f.held in
    let bytes : List ℕ = question_bytes h.n h.tree in
    let room : length bytes ≤ length buffer = omega (arith, f.count_is, f.room) in
    let are : take count o.buffer ≡ bytes = ap (take count) (write_bytes q buffer out h room) ∙ at_front_cells bytes buffer count (sym f.count_is) in
    (record { n = h.n; tree = h.tree; within = h.within; bytes_are = are }, h.held_is)

-- ---- "Read my SMT-LIB files": what is imported says what the text says (document 02, E2)

module _ (text : List ℕ) {i : Import} (out : ImportOutcome text (Ok i)) where
  taken : IsOk (imported text)
  taken = ap is_ok (sym (import_held text out))

  question_is : i.question ≡ question_held (imported text)
  question_is = ap question_held (import_held text out)

  -- for the naturals that the names have
  pub import_means : (v : List ℕ → ℤ) (xs : List ℕ) → GivesNames v (declared_names text) xs → text_holds v (forms_of text) ≡ satisfied i.question xs
  import_means v xs g = text_means text taken v xs g ∙ ap (λ (q : Question). satisfied q xs) (sym question_is)

  -- integers that are a model of the text are naturals
  pub import_natural : (v : List ℕ → ℤ) → text_holds v (forms_of text) ≡ true → (xs : List ℕ) × (length xs ≡ i.question.n) × GivesNames v (declared_names text) xs
  import_natural v e =
      let (xs, long, g) = model_natural text taken v e in
      (xs, long ∙ ap (λ (q : Question). q.n) (sym question_is), g)

  -- where each name is spelt, zeros behind them
  pub import_names : i.names ≡ at_front (bounds_of text (script_in text).declarations) (replicate (2 * most_variables) 0)
  unfolding import_given
  import_names = ap names_in out ∙ go (imported text) taken
    where
      names_in : Result Import Refusal → List ℕ
      names_in (Ok j) = j.names
      names_in (Err ρ) = []

      go : (a : Result Question Refusal) → IsOk a → names_in (given_by a text) ≡ names_given text
      go (Ok q) h = refl
      go (Err ρ) h = absurd (true≢false (sym h))

  -- the question is a tree within the limits
  pub import_question : IsHeld i.question
  import_question = subst IsHeld (sym question_is) (imported_question text taken)

  -- so writing accepts it, as the bytes of its tree
  pub import_written : (buffer : List ℕ) → length (question_bytes import_question.n import_question.tree) ≤ length buffer → {o : Wrote} → WriteOutcome i.question buffer o
      → let bytes = question_bytes import_question.n import_question.tree in o ≡ record { answer = Ok (length bytes); buffer = at_front bytes buffer }
  import_written buffer room out = write_is i.question buffer out ∙ wrote_question i.question buffer import_question room

  -- ---- the written bytes decided

  module _ (buffer : List ℕ) {o : Wrote} (write : WriteOutcome i.question buffer o) (count : ℕ) (fits : o.answer ≡ Ok count)
      (keys : List ℤ) (path word : List ℕ) {d : Decided} (decide : DecideOutcome (take count o.buffer) keys path word d) where
    bytes_of : (b : IsQuestion (take count o.buffer)) × (i.question ≡ held_in b)
    bytes_of = written_bytes i.question buffer (held_sized import_question) write count fits

    says : (xs : List ℕ) → satisfied (question_held (imported text)) xs ≡ true_for bytes_of.0.tree xs
    says xs = let b = bytes_of.0 in ap (λ (q : Question). satisfied q xs) (sym question_is ∙ bytes_of.1) ∙ tree_means b.n b.tree b.within xs

    names_are : (question_held (imported text)).n ≡ bytes_of.0.n
    names_are = ap (λ (q : Question). q.n) (sym question_is ∙ bytes_of.1)

    -- where never is said, no integers are a model of the text
    pub import_never : (states : ℕ) → d.answer ≡ Ok (Decision.Never states) → (v : List ℕ → ℤ) → text_holds v (forms_of text) ≡ false
    import_never states e v =
        let none = ((never_as (take count o.buffer) keys path word bytes_of.0 states).0 (sym decide.answer ∙ e)).none_satisfies in
        never_no_integers text taken (λ xs long. says xs ∙ none xs (long ∙ names_are)) v

    -- where found is said, the naturals that the word spells are one
    pub import_found : (states letters : ℕ) → d.answer ≡ Ok (Decision.Found states letters)
        → text_holds (valued (declared_names text) (spelled i.question.n (take letters d.word))) (forms_of text) ≡ true
    import_found states letters e =
        let n : ℕ = i.question.n in
        let n_is : n ≡ bytes_of.0.n = ap (λ (q : Question). q.n) bytes_of.1 in
        let xs : List ℕ = spelled n (take letters d.word) in
        let holds : true_for bytes_of.0.tree xs ≡ true =
        ap (λ (k : ℕ). true_for bytes_of.0.tree (spelled k (take letters d.word))) n_is ∙ found_satisfies (take count o.buffer) keys path word decide bytes_of.0 states letters e in
        (found_holds text taken xs (length_spelled n (take letters d.word) ∙ ap (λ (q : Question). q.n) question_is) (says xs ∙ holds)).1
