-- From the printed text back to the text that was read: what its first line says, in the words of the question's tree and of the text itself.
use Prim.Native.Nat.{ℕ, ◌≤◌, ◌<◌}
use Rattle.std.proofs.Math.Decide.{dec_lt}
use Rattle.std.proofs.Common.{arith, ◌∙◌, le-leb, true≢false}
use Rattle.std.specs.Prelude.{◌≡◌, refl, ◌↔◌, ◌≢◌, true, false, length, ℤ, Ok, Err, Result, IsOk, is_ok}
use Rattle.std.proofs.Math.Path.{sym, ap, subst}
use Rattle.std.proofs.Math.Logic.{by_cases}
use mathlib.Core.List.{List, ◌++◌}
use Rattle.std.proofs.Math.ListN.{take}
use Rattle.std.proofs.lemmas.Bool.{lt-leb}
use Rattle.scope.specs.declared.Decision.{Decision}
use Rattle.scope.specs.Wire.{question_held}
use Rattle.scope.specs.declared.Question.{Question}
use Rattle.scope.specs.declared.Refusal.{Refusal}
use Rattle.scope.specs.Words.{Word, spelled}
use Rattle.scope.specs.States.{satisfied}
use Rattle.scope.specs.Tree.{true_for}
use Rattle.scope.specs.Numbering.{machine_of}
use Rattle.scope.specs.Deciding.{decide_room}
use Rattle.theory.specs.Words.Spelling.{length_spelled}
use Rattle.theory.specs.Trees.Parsed.{question_read}
use Rattle.theory.specs.Trees.Means.{tree_means}
use Rattle.theory.specs.Machine.Reachable.{AtMost}
use Rattle.theory.specs.Calls.Deciding.{NoneSatisfies, FirstSatisfying}
use Rattle.theory.specs.Calls.Decided.{RowFound, NoRoomAt, decide_says_not_refused}
use Rattle.theory.specs.Calls.Questions.{held_in, never_guarded, never_as, no_room_as, found_hands_over}
use Rattle.smtlib.specs.Forms.{forms_of}
use Rattle.smtlib.specs.Imported.{imported}
use Rattle.smtlib.specs.Meaning.{text_holds}
use Rattle.smtlib.specs.Cases.{question_in}
use Rattle.smtlib.specs.Names.{GivesNames, valued}
use Rattle.smtlib.specs.Accepted.{declared_names}
use Rattle.smtlib.proofs.Accepted.{accepted_question, accepted_within}
use Rattle.smtlib.proofs.Means.{never_no_integers, found_holds}
use Rattle.told.specs.Text.{ascii}
use Rattle.said.specs.Said.{error_line, model_lines, sat_said, said_of}
use Rattle.importing.specs.Given.{names_given}
use Rattle.smt.specs.Solved.{most_text, solve_keys, solve_path, solve_word, names_count, text_tree, text_bytes, solved_for, solved}
use Rattle.smt.specs.Room.{most_rows, text_imported, text_question, text_read, text_octets, text_room, found_in_lem, in_found, not_short, model_told}

-- the text begins so
abbrev pub StartsWith : List ℕ → List ℕ → Type 0
StartsWith front text = take (length front) text ≡ front

-- ---- the first line tells the answer

abbrev pub unsat_line : List ℕ
unsat_line = ascii "unsat\n"

abbrev pub sat_line : List ℕ
sat_line = ascii "sat\n"

abbrev pub unknown_line : List ℕ
unknown_line = ascii "unknown\n"

abbrev pub error_word : List ℕ
error_word = ascii "(error "

module _ (text bounds : List ℕ) (n : ℕ) (word : List ℕ) where
  is_unsat : (a : Result Decision Refusal) → StartsWith unsat_line (said_of text bounds n a word) → (states : ℕ) × (a ≡ Ok (Decision.Never states))
  is_unsat (Ok (Decision.Found states letters)) e = let z : ◌≡◌ {A = ℕ} 115 117 = cc in absurd (omega arith)
  is_unsat (Ok (Decision.Never states)) e = (states, refl)
  is_unsat (Ok (Decision.NoRoom states)) e = let z : ◌≡◌ {A = ℕ} 107 115 = cc in absurd (omega arith)
  is_unsat (Ok (Decision.Short states letters)) e = let z : ◌≡◌ {A = ℕ} 115 117 = cc in absurd (omega arith)
  is_unsat (Err r) e = let z : ◌≡◌ {A = ℕ} 40 117 = cc in absurd (omega arith)

  is_unknown : (a : Result Decision Refusal) → StartsWith unknown_line (said_of text bounds n a word) → (states : ℕ) × (a ≡ Ok (Decision.NoRoom states))
  is_unknown (Ok (Decision.Found states letters)) e = let z : ◌≡◌ {A = ℕ} 115 117 = cc in absurd (omega arith)
  is_unknown (Ok (Decision.Never states)) e = let z : ◌≡◌ {A = ℕ} 115 107 = cc in absurd (omega arith)
  is_unknown (Ok (Decision.NoRoom states)) e = (states, refl)
  is_unknown (Ok (Decision.Short states letters)) e = let z : ◌≡◌ {A = ℕ} 115 117 = cc in absurd (omega arith)
  is_unknown (Err r) e = let z : ◌≡◌ {A = ℕ} 40 117 = cc in absurd (omega arith)

  is_sat : (a : Result Decision Refusal) → StartsWith sat_line (said_of text bounds n a word) → ((s k : ℕ) → a ≢ Ok (Decision.Short s k)) → (states : ℕ) × (letters : ℕ) × (a ≡ Ok (Decision.Found states letters))
  is_sat (Ok (Decision.Found states letters)) e long = (states, letters, refl)
  is_sat (Ok (Decision.Never states)) e long = let z : ◌≡◌ {A = ℕ} 117 115 = cc in absurd (omega arith)
  is_sat (Ok (Decision.NoRoom states)) e long = let z : ◌≡◌ {A = ℕ} 117 115 = cc in absurd (omega arith)
  is_sat (Ok (Decision.Short states letters)) e long = absurd (long states letters refl)
  is_sat (Err r) e long = let z : ◌≡◌ {A = ℕ} 40 115 = cc in absurd (omega arith)

  is_error : (a : Result Decision Refusal) → StartsWith error_word (said_of text bounds n a word) → (r : Refusal) × (a ≡ Err r)
  is_error (Ok (Decision.Found states letters)) e = let z : ◌≡◌ {A = ℕ} 115 40 = cc in absurd (omega arith)
  is_error (Ok (Decision.Never states)) e = let z : ◌≡◌ {A = ℕ} 117 40 = cc in absurd (omega arith)
  is_error (Ok (Decision.NoRoom states)) e = let z : ◌≡◌ {A = ℕ} 117 40 = cc in absurd (omega arith)
  is_error (Ok (Decision.Short states letters)) e = let z : ◌≡◌ {A = ℕ} 115 40 = cc in absurd (omega arith)
  is_error (Err r) e = (r, refl)

error_other : {l : List ℕ} (r : Refusal) → error_line r ≡ l → (StartsWith unsat_line l → ⊥) × (StartsWith sat_line l → ⊥) × (StartsWith unknown_line l → ⊥)
error_other r e = rw (sym e) (
  λ b. let z : ◌≡◌ {A = ℕ} 40 117 = cc in omega arith,
  λ b. let z : ◌≡◌ {A = ℕ} 40 115 = cc in omega arith,
  λ b. let z : ◌≡◌ {A = ℕ} 40 117 = cc in omega arith,
)

long_other : {l : List ℕ} → unknown_line ≡ l → (StartsWith unsat_line l → ⊥) × (StartsWith sat_line l → ⊥) × (StartsWith error_word l → ⊥)
long_other e = rw (sym e) (
  λ b. let z : ◌≡◌ {A = ℕ} 107 115 = cc in omega arith,
  λ b. let z : ◌≡◌ {A = ℕ} 117 115 = cc in omega arith,
  λ b. let z : ◌≡◌ {A = ℕ} 117 40 = cc in omega arith,
)

-- ---- the three ways

data Way (text : List ℕ) : Type 0 where
  too_long : most_text < length text → unknown_line ≡ solved text → Way text
  refused : (r : Refusal) → length text ≤ most_text → imported text ≡ Err r → error_line r ≡ solved text → Way text
  taken : length text ≤ most_text → IsOk (imported text) → Way text

way : (text : List ℕ) → Way text
unfolding solved
way text = by_cases (dec_lt most_text (length text)) (λ p. too_long p (rw (lt-leb (length text) most_text p))) (λ p. short (omega arith) (imported text) refl)
  where
    short : length text ≤ most_text → (a : Result Question Refusal) → imported text ≡ a → Way text
    short h (Ok q) e = taken h (ap is_ok e)
    short h (Err r) e = refused r h e (rw (le-leb (length text) most_text h, e))

-- what is printed of an accepted text
abbrev told_of : List ℕ → List ℕ
told_of text = said_of text (names_given text) (names_count text) (solved_for text).answer (solved_for text).word

-- ---- what each first line says

-- an accepted text of at most 65,536 bytes whose question has at most 8,191 reachable states, and no naturals, however large, satisfy it
pub record UnsatPrinted (text : List ℕ) : Type 0 where
  pub short : length text ≤ most_text
  pub accepted : IsOk (imported text)
  pub few : AtMost (machine_of (question_in text)) most_rows
  pub none_satisfies : NoneSatisfies (names_count text) (true_for (text_tree text))

-- an accepted text, and a state of its question below 8,191 is the first whose word satisfies it
pub record SatPrinted (text : List ℕ) : Type 0 where
  pub short : length text ≤ most_text
  pub accepted : IsOk (imported text)
  pub states : ℕ
  pub letters : ℕ
  pub row : RowFound (question_in text) (true_for (text_tree text)) most_rows states letters

-- a text of more bytes, or one whose question has more reachable states, and the word of none of the first 8,191 satisfies it
pub data UnknownPrinted (text : List ℕ) : Type 0 where
  by_length : most_text < length text → UnknownPrinted text
  by_states : length text ≤ most_text → IsOk (imported text) → (states : ℕ) → NoRoomAt (question_in text) (true_for (text_tree text)) most_rows states → UnknownPrinted text

pub record ErrorPrinted (text : List ℕ) (r : Refusal) : Type 0 where
  pub short : length text ≤ most_text
  pub refused_by : imported text ≡ Err r

module _ (text : List ℕ) where
  module _ (short : length text ≤ most_text) (accepted : IsOk (imported text)) where
    n_is : (question_held (imported text)).n ≡ names_count text
    n_is = ap (λ (q : Question). q.n) (accepted_question text accepted)

    told_is : told_of text ≡ solved text
    unfolding solved
    told_is = rw (le-leb (length text) most_text short, text_imported text accepted)

    says_tree_lem : (xs : List ℕ) → satisfied (question_in text) xs ≡ true_for (text_tree text) xs
    says_tree_lem = tree_means (names_count text) (text_tree text) (accepted_within text accepted)

    says_imported : (xs : List ℕ) → satisfied (question_held (imported text)) xs ≡ true_for (text_tree text) xs
    says_imported xs = ap (λ (q : Question). satisfied q xs) (accepted_question text accepted) ∙ says_tree_lem xs

    never_back : AtMost (machine_of (question_in text)) most_rows → NoneSatisfies (names_count text) (true_for (text_tree text)) → (states : ℕ) × ((solved_for text).answer ≡ Ok (Decision.Never states))
    unfolding solved_for
    never_back few none =
        (never_guarded (text_bytes text) solve_keys solve_path solve_word (text_octets text accepted)).1
        (record { question = text_question text accepted; room = subst (AtMost (machine_of (question_in text))) (sym (text_room text accepted)) few; none_satisfies = none })

    never_there : (states : ℕ) → (solved_for text).answer ≡ Ok (Decision.Never states) → UnsatPrinted text
    unfolding solved_for
    never_there states e =
        let g = (never_guarded (text_bytes text) solve_keys solve_path solve_word (text_octets text accepted)).0 (states, e) in
        let same : held_in g.question ≡ question_in text = ap question_held (sym (question_read (text_bytes text) g.question) ∙ text_read text accepted) in
        let few : AtMost (machine_of (question_in text)) (decide_room (question_in text) solve_keys solve_path) =
        subst (λ (q : Question). AtMost (machine_of q) (decide_room q solve_keys solve_path)) same g.room in
        record {
          short = short;
          accepted = accepted;
          few = subst (AtMost (machine_of (question_in text))) (text_room text accepted) few;
          none_satisfies = ((never_as (text_bytes text) solve_keys solve_path solve_word (text_question text accepted) states).0 e).none_satisfies;
        }

    no_room_there : (states : ℕ) → (solved_for text).answer ≡ Ok (Decision.NoRoom states) → NoRoomAt (question_in text) (true_for (text_tree text)) most_rows states
    unfolding solved_for
    no_room_there states e = rw (text_room text accepted) at ((no_room_as (text_bytes text) solve_keys solve_path solve_word (text_question text accepted) states).0 e)

    no_room_back : (states : ℕ) → NoRoomAt (question_in text) (true_for (text_tree text)) most_rows states → (solved_for text).answer ≡ Ok (Decision.NoRoom states)
    unfolding solved_for
    no_room_back states r = (no_room_as (text_bytes text) solve_keys solve_path solve_word (text_question text accepted) states).1 (rw (sym (text_room text accepted)) at r)

    not_refused : (r : Refusal) → (solved_for text).answer ≢ Err r
    unfolding solved_for
    not_refused r = decide_says_not_refused (text_bytes text) solve_keys solve_path solve_word (question_in text) (text_read text accepted) r

    told_by : (a : Result Decision Refusal) → (solved_for text).answer ≡ a → said_of text (names_given text) (names_count text) a (solved_for text).word ≡ solved text
    told_by a e = ap (λ (a : Result Decision Refusal). said_of text (names_given text) (names_count text) a (solved_for text).word) (sym e) ∙ told_is

  pub unsat_printed : StartsWith (ascii "unsat\n") (solved text) ↔ UnsatPrinted text
  unsat_printed = (said (way text), back)
    where
      said : Way text → StartsWith unsat_line (solved text) → UnsatPrinted text
      said (too_long h e) b = absurd ((long_other e).0 b)
      said (refused r h a e) b = absurd ((error_other r e).0 b)
      said (taken h a) b =
          let s = is_unsat text (names_given text) (names_count text) (solved_for text).word (solved_for text).answer (rw (sym (told_is h a)) at b) in
          never_there h a s.0 s.1

      back : UnsatPrinted text → StartsWith unsat_line (solved text)
      back p =
          let s = never_back p.short p.accepted p.few p.none_satisfies in
          ap (take (length unsat_line)) (sym (told_by p.short p.accepted (Ok (Decision.Never s.0)) s.1))

  pub unknown_printed : StartsWith (ascii "unknown\n") (solved text) ↔ UnknownPrinted text
  unknown_printed = (said (way text), back)
    where
      said : Way text → StartsWith unknown_line (solved text) → UnknownPrinted text
      said (too_long h e) b = by_length h
      said (refused r h a e) b = absurd ((error_other r e).2 b)
      said (taken h a) b =
          let s = is_unknown text (names_given text) (names_count text) (solved_for text).word (solved_for text).answer (rw (sym (told_is h a)) at b) in
          by_states h a s.0 (no_room_there h a s.0 s.1)

      long : most_text < length text → Way text → StartsWith unknown_line (solved text)
      long p (too_long h e) = ap (take (length unknown_line)) (sym e)
      long p (refused r h a e) = absurd (omega arith)
      long p (taken h a) = absurd (omega arith)

      back : UnknownPrinted text → StartsWith unknown_line (solved text)
      back (by_length p) = long p (way text)
      back (by_states h a states r) = ap (take (length unknown_line)) (sym (told_by h a (Ok (Decision.NoRoom states)) (no_room_back h a states r)))

  pub sat_printed : StartsWith (ascii "sat\n") (solved text) ↔ SatPrinted text
  sat_printed = (said (way text), back)
    where
      said : Way text → StartsWith sat_line (solved text) → SatPrinted text
      said (too_long h e) b = absurd ((long_other e).1 b)
      said (refused r h a e) b = absurd ((error_other r e).1 b)
      said (taken h a) b =
          let s = is_sat text (names_given text) (names_count text) (solved_for text).word (solved_for text).answer (rw (sym (told_is h a)) at b) (not_short text a) in
          record { short = h; accepted = a; states = s.0; letters = s.1; row = found_in_lem text a s.0 s.1 s.2 }

      back : SatPrinted text → StartsWith sat_line (solved text)
      back p =
          ap (take (length sat_line)) (sym (told_by p.short p.accepted (Ok (Decision.Found p.states p.letters)) (in_found text p.accepted p.states p.letters p.row)))

  -- and other texts are refused, with the number and the place of the import's refusal
  pub error_printed : StartsWith (ascii "(error ") (solved text) ↔ ((r : Refusal) × ErrorPrinted text r)
  error_printed = (said (way text), λ (r, p). back r p (way text))
    where
      said : Way text → StartsWith error_word (solved text) → (r : Refusal) × ErrorPrinted text r
      said (too_long h e) b = absurd ((long_other e).2 b)
      said (refused r h a e) b = (r, record { short = h; refused_by = a })
      said (taken h a) b =
          let s = is_error text (names_given text) (names_count text) (solved_for text).word (solved_for text).answer (rw (sym (told_is h a)) at b) in
          absurd (not_refused h a s.0 s.1)

      back : (r : Refusal) → ErrorPrinted text r → Way text → StartsWith error_word (solved text)
      back r p (too_long h e) = absurd (omega (arith, p.short))
      back r p (refused s h a e) = ap (take (length error_word)) (sym e)
      back r p (taken h a) = absurd (true≢false (sym a ∙ ap is_ok p.refused_by))

  pub error_line_lem : (r : Refusal) → ErrorPrinted text r → solved text ≡ error_line r
  unfolding solved
  error_line_lem r p = rw (le-leb (length text) most_text p.short, p.refused_by)

  -- ---- what is printed says of the text

  -- unsat: no integers satisfy the text
  pub unsat_means : UnsatPrinted text → (v : List ℕ → ℤ) → text_holds v (forms_of text) ≡ false
  unsat_means p v =
      never_no_integers text p.accepted (λ xs l. says_imported p.short p.accepted xs ∙ p.none_satisfies xs (l ∙ n_is p.short p.accepted)) v

  -- sat: the word's values satisfy the text, and where it has at most 64 letters they are printed
  pub record ModelPrinted (p : SatPrinted text) : Type 0 where
    pub word : Word
    pub letters_are : length word ≡ p.letters
    pub first : FirstSatisfying (names_count text) (true_for (text_tree text)) word
    pub printed : solved text ≡ sat_said text (names_given text) (names_count text) word
    pub values_printed : p.letters ≤ 64 → solved text ≡ sat_line ++ model_lines text (names_given text) (names_count text) word
    pub gives : GivesNames (valued (declared_names text) (spelled (names_count text) word)) (declared_names text) (spelled (names_count text) word)
    pub holds : text_holds (valued (declared_names text) (spelled (names_count text) word)) (forms_of text) ≡ true

  pub sat_model : (p : SatPrinted text) → ModelPrinted p
  unfolding solved_for
  sat_model p =
      let h = p.short in
      let a = p.accepted in
      let k = p.letters in
      let e = in_found text a p.states k p.row in
      let w : Word = take k (solved_for text).word in
      let o = found_hands_over (text_bytes text) solve_keys solve_path solve_word (text_question text a) p.states k e in
      let t : sat_said text (names_given text) (names_count text) w ≡ solved text = told_by h a (Ok (Decision.Found p.states k)) e in
      let xs : List ℕ = spelled (names_count text) w in
      let m = found_holds text a xs (length_spelled (names_count text) w ∙ sym (n_is h a)) (says_imported h a xs ∙ o.first.satisfies) in
      record {
        word = w;
        letters_are = o.count_is;
        first = o.first;
        printed = sym t;
        values_printed = λ l. sym t ∙ ap (λ (s : List ℕ). sat_line ++ s) (model_told text a (names_given text) w o.first.over (omega (arith, o.count_is, l)));
        gives = m.0;
        holds = m.1;
      }
