-- From the printed text back to the question: what its first line says, in the words of the tree that the bytes are.
use Rattle.std.specs.Prelude.{ℕ, ◌↔◌, ◌≢◌, List, length, Ok, Err, Result, is_ok}
use Rattle.std.proofs.Common.{arith, sym, ◌∙◌}
use Rattle.std.proofs.Math.Path.{◌≡◌, refl, ap, subst}
use Rattle.std.proofs.Math.ListN.{take}
use Rattle.scope.specs.declared.Question.{Question}
use Rattle.scope.specs.declared.Decision.{Decision}
use Rattle.scope.specs.declared.Refusal.{Refusal}
use Rattle.scope.specs.Words.{Word}
use Rattle.scope.specs.Tree.{true_for, IsQuestion}
use Rattle.scope.specs.Numbering.{machine_of}
use Rattle.scope.specs.Deciding.{decide_room, Decided}
use Rattle.theory.specs.Wire.Octets.{Octets}
use Rattle.theory.specs.Trees.Parsed.{question_read}
use Rattle.theory.specs.Machine.Reachable.{AtMost}
use Rattle.theory.specs.Calls.Deciding.{NoneSatisfies, FirstSatisfying}
use Rattle.theory.specs.Calls.Decided.{RowFound, NoRoomAt, decide_refused_unchanged, decide_says_not_refused}
use Rattle.theory.specs.Calls.Questions.{held_in, Read, a_question, no_question, either_way, Guarded, never_guarded, found_exactly, no_room_exactly, found_hands_over}
use Rattle.scope.specs.Wire.{question_held}
use Rattle.told.specs.Text.{ascii, found_text, short_text, never_text, no_room_text, refused_text, text_of}
use Rattle.ask.specs.Asked.{variables, key_area, path_area, word_area, decided_for, asked}
use Rattle.ask.specs.Room.{room, never_short}

-- the text begins so
abbrev pub Begins : List ℕ → List ℕ → Type 0
Begins front text = take (length front) text ≡ front

-- ---- the first line tells the answer

abbrev found_line : List ℕ
found_line = ascii "verdict found\n"

abbrev never_line : List ℕ
never_line = ascii "verdict never\n"

abbrev no_room_line : List ℕ
no_room_line = ascii "verdict no-room\n"

abbrev refused_word : List ℕ
refused_word = ascii "refused "

module _ (n : ℕ) (word : List ℕ) where
  is_never : (a : Result Decision Refusal) → Begins never_line (text_of n a word) → (states : ℕ) × (a ≡ Ok (Decision.Never states))
  unfolding found_text short_text never_text no_room_text refused_text
  is_never (Ok (Decision.Found states letters)) e = let z : ◌≡◌ {A = ℕ} 102 110 = cc in absurd (omega arith)
  is_never (Ok (Decision.Never states)) e = (states, refl)
  is_never (Ok (Decision.NoRoom states)) e = let z : ◌≡◌ {A = ℕ} 111 101 = cc in absurd (omega arith)
  is_never (Ok (Decision.Short states letters)) e = let z : ◌≡◌ {A = ℕ} 102 110 = cc in absurd (omega arith)
  is_never (Err r) e = let z : ◌≡◌ {A = ℕ} 114 118 = cc in absurd (omega arith)

  says_never : (states : ℕ) → Begins never_line (text_of n (Ok (Decision.Never states)) word)
  unfolding never_text
  says_never states = refl

  is_no_room : (a : Result Decision Refusal) → Begins no_room_line (text_of n a word) → (states : ℕ) × (a ≡ Ok (Decision.NoRoom states))
  unfolding found_text short_text never_text no_room_text refused_text
  is_no_room (Ok (Decision.Found states letters)) e = let z : ◌≡◌ {A = ℕ} 102 110 = cc in absurd (omega arith)
  is_no_room (Ok (Decision.Never states)) e = let z : ◌≡◌ {A = ℕ} 101 111 = cc in absurd (omega arith)
  is_no_room (Ok (Decision.NoRoom states)) e = (states, refl)
  is_no_room (Ok (Decision.Short states letters)) e = let z : ◌≡◌ {A = ℕ} 102 110 = cc in absurd (omega arith)
  is_no_room (Err r) e = let z : ◌≡◌ {A = ℕ} 114 118 = cc in absurd (omega arith)

  says_no_room : (states : ℕ) → Begins no_room_line (text_of n (Ok (Decision.NoRoom states)) word)
  unfolding no_room_text
  says_no_room states = refl

  is_found : (a : Result Decision Refusal) → Begins found_line (text_of n a word) → ((s k : ℕ) → a ≢ Ok (Decision.Short s k)) → (states : ℕ) × (letters : ℕ) × (a ≡ Ok (Decision.Found states letters))
  unfolding found_text short_text never_text no_room_text refused_text
  is_found (Ok (Decision.Found states letters)) e long = (states, letters, refl)
  is_found (Ok (Decision.Never states)) e long = let z : ◌≡◌ {A = ℕ} 110 102 = cc in absurd (omega arith)
  is_found (Ok (Decision.NoRoom states)) e long = let z : ◌≡◌ {A = ℕ} 110 102 = cc in absurd (omega arith)
  is_found (Ok (Decision.Short states letters)) e long = absurd (long states letters refl)
  is_found (Err r) e long = let z : ◌≡◌ {A = ℕ} 114 118 = cc in absurd (omega arith)

  says_found : (states : ℕ) (w : Word) → Begins found_line (found_text n states w)
  unfolding found_text
  says_found states w = refl

  is_refused : (a : Result Decision Refusal) → Begins refused_word (text_of n a word) → (ρ : Refusal) × (a ≡ Err ρ)
  unfolding found_text short_text never_text no_room_text refused_text
  is_refused (Ok (Decision.Found states letters)) e = let z : ◌≡◌ {A = ℕ} 118 114 = cc in absurd (omega arith)
  is_refused (Ok (Decision.Never states)) e = let z : ◌≡◌ {A = ℕ} 118 114 = cc in absurd (omega arith)
  is_refused (Ok (Decision.NoRoom states)) e = let z : ◌≡◌ {A = ℕ} 118 114 = cc in absurd (omega arith)
  is_refused (Ok (Decision.Short states letters)) e = let z : ◌≡◌ {A = ℕ} 118 114 = cc in absurd (omega arith)
  is_refused (Err ρ) e = (ρ, refl)

  says_refused : (ρ : Refusal) → Begins refused_word (text_of n (Err ρ) word)
  unfolding refused_text
  says_refused ρ = refl

-- ---- back to the question

-- a question whose reachable states are at most 1,024, and no naturals, however large, satisfy it
pub record NeverPrinted (bytes : List ℕ) : Type 0 where
  pub question : IsQuestion bytes
  pub few : AtMost (machine_of (held_in question)) 1024
  pub none_satisfies : NoneSatisfies question.n (true_for question.tree)

-- a question, and the first word that satisfies it, of a state below 1,024; the lines are those of its values, its letters and the states
pub record FoundPrinted (bytes : List ℕ) : Type 0 where
  pub question : IsQuestion bytes
  pub states : ℕ
  pub letters : ℕ
  pub word : Word
  pub row : RowFound (held_in question) (true_for question.tree) 1024 states letters
  pub first : FirstSatisfying question.n (true_for question.tree) word
  pub text : asked bytes ≡ found_text question.n states word

-- a question with more reachable states, and the word of none of the first 1,024 satisfies it
pub record NoRoomPrinted (bytes : List ℕ) : Type 0 where
  pub question : IsQuestion bytes
  pub states : ℕ
  pub row : NoRoomAt (held_in question) (true_for question.tree) 1024 states

module _ (bytes : List ℕ) where
  room_lent : (q : IsQuestion bytes) → decide_room (held_in q) key_area path_area ≡ 1024
  room_lent q =
      ap (λ (h : Result Question Refusal). decide_room (question_held h) key_area path_area) (sym (question_read bytes q)) ∙ room bytes (ap is_ok (question_read bytes q))

  n_held : (q : IsQuestion bytes) → variables bytes ≡ q.n
  unfolding variables
  n_held q = ap (λ (h : Result Question Refusal). (question_held h).n) (question_read bytes q)

  abbrev d : Decided
  d = decided_for bytes

  module _ (octets : Octets bytes) where
    pub never_printed : Begins (ascii "verdict never\n") (asked bytes) ↔ NeverPrinted bytes
    unfolding asked decided_for
    never_printed = (said, back)
      where
        said : Begins never_line (text_of (variables bytes) d.answer d.word) → NeverPrinted bytes
        said e =
            let g = (never_guarded bytes key_area path_area word_area octets).0 (is_never (variables bytes) d.word d.answer e) in
            record { question = g.question; few = subst (AtMost (machine_of (held_in g.question))) (room_lent g.question) g.room; none_satisfies = g.none_satisfies }

        back : NeverPrinted bytes → Begins never_line (text_of (variables bytes) d.answer d.word)
        back p =
            let g : Guarded bytes key_area path_area = record {
              question = p.question;
              room = subst (AtMost (machine_of (held_in p.question))) (sym (room_lent p.question)) p.few;
              none_satisfies = p.none_satisfies;
            } in
            let a = (never_guarded bytes key_area path_area word_area octets).1 g in
            subst (λ (x : Result Decision Refusal). Begins never_line (text_of (variables bytes) x d.word)) (sym a.1) (says_never (variables bytes) d.word a.0)

    pub no_room_printed : Begins (ascii "verdict no-room\n") (asked bytes) ↔ NoRoomPrinted bytes
    unfolding asked decided_for
    no_room_printed = (said, back)
      where
        said : Begins no_room_line (text_of (variables bytes) d.answer d.word) → NoRoomPrinted bytes
        said e =
            let a = is_no_room (variables bytes) d.word d.answer e in
            let r = (no_room_exactly bytes key_area path_area word_area octets a.0).0 a.1 in
            record { question = r.0; states = a.0; row = subst (λ (rows : ℕ). NoRoomAt (held_in r.0) (true_for r.0.tree) rows a.0) (room_lent r.0) r.1 }

        back : NoRoomPrinted bytes → Begins no_room_line (text_of (variables bytes) d.answer d.word)
        back p =
            let q = p.question in
            let row = subst (λ (rows : ℕ). NoRoomAt (held_in q) (true_for q.tree) rows p.states) (sym (room_lent q)) p.row in
            let a = (no_room_exactly bytes key_area path_area word_area octets p.states).1 (q, row) in
            subst (λ (x : Result Decision Refusal). Begins no_room_line (text_of (variables bytes) x d.word)) (sym a) (says_no_room (variables bytes) d.word p.states)

    pub found_printed : Begins (ascii "verdict found\n") (asked bytes) ↔ FoundPrinted bytes
    unfolding asked decided_for
    found_printed = (said, λ p. ap (take (length found_line)) p.text ∙ says_found p.question.n d.word p.states p.word)
      where
        said : Begins found_line (text_of (variables bytes) d.answer d.word) → FoundPrinted bytes
        said e =
            let a = is_found (variables bytes) d.word d.answer e (never_short bytes) in
            let r = (found_exactly bytes key_area path_area word_area octets a.0 a.1).0 a.2 in
            let q = r.0 in
            record {
              question = q;
              states = a.0;
              letters = a.1;
              word = take a.1 d.word;
              row = subst (λ (rows : ℕ). RowFound (held_in q) (true_for q.tree) rows a.0 a.1) (room_lent q) r.1.0;
              first = (found_hands_over bytes key_area path_area word_area q a.0 a.1 a.2).first;
              text = ap (λ (x : Result Decision Refusal). text_of (variables bytes) x d.word) a.2 ∙ ap (λ (n : ℕ). found_text n a.0 (take a.1 d.word)) (n_held q);
            }

    -- and other bytes are refused
    pub refused_printed : Begins (ascii "refused ") (asked bytes) ↔ (¬ IsQuestion bytes)
    unfolding asked decided_for
    refused_printed = (said, λ n. back n (either_way bytes octets))
      where
        said : Begins refused_word (text_of (variables bytes) d.answer d.word) → ¬ IsQuestion bytes
        said e q =
            let a = is_refused (variables bytes) d.word d.answer e in
            decide_says_not_refused bytes key_area path_area word_area (held_in q) (question_read bytes q) a.0 a.1

        back : ¬ IsQuestion bytes → Read bytes → Begins refused_word (text_of (variables bytes) d.answer d.word)
        back n (a_question q) = absurd (n q)
        back n (no_question ρ e) =
            let a = ap (λ (d : Decided). d.answer) (decide_refused_unchanged bytes key_area path_area word_area ρ e) in
            subst (λ (x : Result Decision Refusal). Begins refused_word (text_of (variables bytes) x d.word)) (sym a) (says_refused (variables bytes) d.word ρ)
