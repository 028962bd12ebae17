-- The call of deciding: what each of its answers says of bytes that were accepted, and what stands in the word buffer afterwards.
use Rattle.std.specs.Prelude.{◌≡◌, refl, ◌↔◌, ◌≢◌, Bool, true, false, List, ℕ, suc, ◌≤◌, ◌<◌, length, get_or, take, leb, ℤ, Ok, Err, Result}
use Rattle.std.proofs.Common.{sym, ◌∙◌, arith, leb→le, le→leb}
use Rattle.std.proofs.Math.Path.{ap}
use Rattle.std.proofs.Math.Logic.{by_cases}
use Rattle.std.proofs.Math.Decide.{dec_lt}
use Rattle.std.proofs.Math.Dec.{nleb→lt, not_T}
use Rattle.std.specs.Float.Ieee.Bits.{is_true, is_false}
use Rattle.scope.specs.declared.Decision.{Decision}
use Rattle.scope.specs.declared.Question.{Question}
use Rattle.scope.specs.declared.Refusal.{Refusal}
use Rattle.scope.specs.Whole.{at_front}
use Rattle.scope.specs.Wire.{read_held}
use Rattle.scope.specs.Words.{Word, spelled}
use Rattle.scope.specs.States.{satisfied}
use Rattle.scope.specs.Bound.{bound}
use Rattle.scope.specs.Numbering.{machine_of}
use Rattle.scope.specs.Deciding.{Verdict, found, never, no_room, decide_room, decide_answer, found_answer, found_word, word_after, Decided, decided_question, decided}
use Rattle.theory.specs.Machine.Lawful.{Lawful, machine_lawful}
use Rattle.theory.specs.Machine.Reachable.{AtMost, rows_few, room_iff}
use Rattle.theory.specs.Numbers.Joined.{at_front_cells, at_front_beyond}
use Rattle.theory.specs.Calls.Deciding.{StatesAre, states_unique, states_at_most, states_are, rows_of, row_word, verdict_of, bound_at_most, NoneSatisfies, FirstSatisfying, FoundAt, held_found_exactly, row_short, held_never_exactly, held_no_room_exactly, no_word_satisfies}

-- ---- the answer where r rows and a word buffer are lent

abbrev pub answer_of : Question → ℕ → List ℕ → Result Decision Refusal
answer_of q r word = decide_answer (verdict_of q r) r (rows_of q r) (machine_of q) word

abbrev pub word_of_answer : Question → ℕ → List ℕ → List ℕ
word_of_answer q r word = word_after (verdict_of q r) (rows_of q r) (machine_of q) word

-- row `states - 1` is found, and its word has k letters
pub record RowFound (q : Question) (says : List ℕ → Bool) (r states k : ℕ) : Type 0 where
  pub row : ℕ
  pub states_are : states ≡ suc row
  pub found_at : FoundAt q says r row
  pub letters_are : k ≡ length (row_word q r row)

-- so a word buffer of as many letters as states has room
pub letters_fewer : {q : Question} {says : List ℕ → Bool} {r states k : ℕ} → RowFound q says r states k → k < states
letters_fewer {q} {says} {r} f = omega (arith, f.states_are, f.letters_are, row_short q r f.row f.found_at.inside)

-- the reachable states are so many, the rows lent hold them, and no naturals satisfy the question
pub record NeverAt (q : Question) (says : List ℕ → Bool) (r states : ℕ) : Type 0 where
  pub states_are : StatesAre (machine_of q) states
  pub room : states ≤ r
  pub none_satisfies : NoneSatisfies q.n says

-- the reachable states are more than the rows lent, and the word of none of the first r satisfies
pub record NoRoomAt (q : Question) (says : List ℕ → Bool) (r states : ℕ) : Type 0 where
  pub states_are : states ≡ r
  pub more : ¬ AtMost (machine_of q) r
  pub none_satisfies : (t : ℕ) → t < r → says (spelled q.n (row_word q r t)) ≡ false

-- by what an answer is given
data Answered (q : Question) (r : ℕ) (word : List ℕ) : Result Decision Refusal → Type 0 where
  by_found : {states k : ℕ} → RowFound q (satisfied q) r states k → k ≤ length word → Answered q r word (Ok (Decision.Found states k))
  by_short : {states k : ℕ} → RowFound q (satisfied q) r states k → length word < k → Answered q r word (Ok (Decision.Short states k))
  by_never : {states : ℕ} → states ≡ length (rows_of q r) → verdict_of q r ≡ never → Answered q r word (Ok (Decision.Never states))
  by_no_room : {states : ℕ} → states ≡ r → verdict_of q r ≡ no_room → Answered q r word (Ok (Decision.NoRoom states))

module _ (q : Question) (r : ℕ) (word : List ℕ) where
  answered : Answered q r word (answer_of q r word)
  answered = go (verdict_of q r) refl
    where
      handed : (w : ℕ) → verdict_of q r ≡ found w → (b : Bool) → leb (length (row_word q r w)) (length word) ≡ b
          → Answered q r word (found_answer b (suc w) (row_word q r w))
      handed w e true d =
          by_found (record { row = w; states_are = refl; found_at = (held_found_exactly q r w).0 e; letters_are = refl })
          (leb→le (length (row_word q r w)) (length word) (rw d tt))
      handed w e false d =
          by_short (record { row = w; states_are = refl; found_at = (held_found_exactly q r w).0 e; letters_are = refl })
          (nleb→lt (length (row_word q r w)) (length word) (rw d tt))

      go : (v : Verdict) → verdict_of q r ≡ v → Answered q r word (decide_answer v r (rows_of q r) (machine_of q) word)
      go (found w) e = handed w e (leb (length (row_word q r w)) (length word)) refl
      go never e = by_never refl e
      go no_room e = by_no_room refl e

  by_answered : {a : Result Decision Refusal} → Answered q r word a → answer_of q r word ≡ a
  by_answered (by_found f h) =
      let v : Word = row_word q r f.row in
      let b = is_true (leb (length v) (length word)) (le→leb (length v) (length word) (omega (arith, f.letters_are))) in
      rw ((held_found_exactly q r f.row).1 f.found_at, b, f.states_are, f.letters_are)
  by_answered (by_short f h) =
      let v : Word = row_word q r f.row in
      let b = is_false (leb (length v) (length word)) (not_T (leb (length v) (length word)) (λ t. omega (arith, f.letters_are, leb→le (length v) (length word) t))) in
      rw ((held_found_exactly q r f.row).1 f.found_at, b, f.states_are, f.letters_are)
  by_answered (by_never d e) = rw (e, d)
  by_answered (by_no_room d e) = rw (e, d)

  answers_found : (states k : ℕ) → (answer_of q r word ≡ Ok (Decision.Found states k)) ↔ (RowFound q (satisfied q) r states k × (k ≤ length word))
  answers_found states k = (λ e. go (rw e at answered), λ f. by_answered (by_found f.0 f.1))
    where
      go : Answered q r word (Ok (Decision.Found states k)) → RowFound q (satisfied q) r states k × (k ≤ length word)
      go (by_found f h) = (f, h)

  answers_short : (states k : ℕ) → (answer_of q r word ≡ Ok (Decision.Short states k)) ↔ (RowFound q (satisfied q) r states k × (length word < k))
  answers_short states k = (λ e. go (rw e at answered), λ f. by_answered (by_short f.0 f.1))
    where
      go : Answered q r word (Ok (Decision.Short states k)) → RowFound q (satisfied q) r states k × (length word < k)
      go (by_short f h) = (f, h)

  answers_never : (states : ℕ) → (answer_of q r word ≡ Ok (Decision.Never states)) ↔ NeverAt q (satisfied q) r states
  answers_never states = (λ e. go (rw e at answered), back)
    where
      ok : Lawful (machine_of q)
      ok = machine_lawful q

      go : Answered q r word (Ok (Decision.Never states)) → NeverAt q (satisfied q) r states
      go (by_never d e) =
          let n = (held_never_exactly q r).0 e in
          let h = rows_few (machine_of q) ok r n.0 in
          record { states_are = rw d (states_are (machine_of q) ok r h); room = omega arith; none_satisfies = n.1 }

      back : NeverAt q (satisfied q) r states → answer_of q r word ≡ Ok (Decision.Never states)
      back n =
          let a = (states_at_most r n.states_are).0 n.room in
          let h = rows_few (machine_of q) ok r a in
          by_answered (by_never (states_unique n.states_are (states_are (machine_of q) ok r h)) ((held_never_exactly q r).1 (a, n.none_satisfies)))

  decide_answers_no_room : (states : ℕ) → (answer_of q r word ≡ Ok (Decision.NoRoom states)) ↔ NoRoomAt q (satisfied q) r states
  decide_answers_no_room states = (λ e. go (rw e at answered), λ n. by_answered (by_no_room n.states_are ((held_no_room_exactly q r).1 (n.more, (no_word_satisfies q r (more_rows n.more)).1 n.none_satisfies))))
    where
      more_rows : ¬ AtMost (machine_of q) r → r < length (rows_of q r)
      more_rows m = by_cases (dec_lt r (length (rows_of q r))) (λ p. p) (λ p. absurd (m ((room_iff (machine_of q) (machine_lawful q) r).0 (omega arith))))

      go : Answered q r word (Ok (Decision.NoRoom states)) → NoRoomAt q (satisfied q) r states
      go (by_no_room d e) = let n = (held_no_room_exactly q r).0 e in record { states_are = d; more = n.0; none_satisfies = (no_word_satisfies q r (more_rows n.0)).0 n.1 }

  decide_answers_refused : (f : Refusal) → answer_of q r word ≢ Err f
  decide_answers_refused f e = go (rw e at answered)
    where
      go : Answered q r word (Err f) → ⊥
      go = elim [ ]

  -- ---- the word buffer afterwards

  answers_word : {states k : ℕ} (f : RowFound q (satisfied q) r states k) → k ≤ length word → word_of_answer q r word ≡ at_front (row_word q r f.row) word
  answers_word f h =
      let v : Word = row_word q r f.row in
      let b = le→leb (length v) (length word) (omega (arith, f.letters_are)) in
      rw ((held_found_exactly q r f.row).1 f.found_at, is_true (leb (length v) (length word)) b)

  -- where the answer is another than found, it is as it was
  answers_word_kept : ((states k : ℕ) → answer_of q r word ≢ Ok (Decision.Found states k)) → word_of_answer q r word ≡ word
  answers_word_kept n = go (verdict_of q r) refl n
    where
      handed : (w : ℕ) (b : Bool) → ((states k : ℕ) → found_answer b (suc w) (row_word q r w) ≢ Ok (Decision.Found states k)) → found_word b (row_word q r w) word ≡ word
      handed w true n = absurd (n _ _ refl)
      handed w false n = refl

      go : (v : Verdict) → verdict_of q r ≡ v → ((states k : ℕ) → decide_answer v r (rows_of q r) (machine_of q) word ≢ Ok (Decision.Found states k))
          → word_after v (rows_of q r) (machine_of q) word ≡ word
      go (found w) e n = handed w (leb (length (row_word q r w)) (length word)) n
      go never e n = refl
      go no_room e n = refl

-- ---- the call

-- a refused question changes no lent cell
pub decide_refused_unchanged : (bytes : List ℕ) (keys : List ℤ) (path word : List ℕ) (r : Refusal) → read_held bytes ≡ Err r
    → decided bytes keys path word ≡ record { answer = Err r; keys = keys; path = path; word = word }
unfolding decided
decide_refused_unchanged bytes keys path word r e = rw e

-- where the bytes are accepted as q and R = decide_room q keys path rows are lent
module _ (bytes : List ℕ) (keys : List ℤ) (path word : List ℕ) (q : Question) (accepted : read_held bytes ≡ Ok q) where
  pub decided_accepted : decided bytes keys path word ≡ decided_question q keys path word
  unfolding decided
  decided_accepted = rw accepted

  pub decided_answer : (decided bytes keys path word).answer ≡ answer_of q (decide_room q keys path) word
  unfolding decided_question
  decided_answer = ap (λ (d : Decided). d.answer) decided_accepted

  decided_word : (decided bytes keys path word).word ≡ word_of_answer q (decide_room q keys path) word
  unfolding decided_question
  decided_word = ap (λ (d : Decided). d.word) decided_accepted

  pub says_found : (states k : ℕ)
      → ((decided bytes keys path word).answer ≡ Ok (Decision.Found states k)) ↔ (RowFound q (satisfied q) (decide_room q keys path) states k × (k ≤ length word))
  says_found states k = rw decided_answer (answers_found q (decide_room q keys path) word states k)

  pub says_short : (states k : ℕ)
      → ((decided bytes keys path word).answer ≡ Ok (Decision.Short states k)) ↔ (RowFound q (satisfied q) (decide_room q keys path) states k × (length word < k))
  says_short states k = rw decided_answer (answers_short q (decide_room q keys path) word states k)

  pub says_never : (states : ℕ) → ((decided bytes keys path word).answer ≡ Ok (Decision.Never states)) ↔ NeverAt q (satisfied q) (decide_room q keys path) states
  says_never states = rw decided_answer (answers_never q (decide_room q keys path) word states)

  pub decide_says_no_room : (states : ℕ) → ((decided bytes keys path word).answer ≡ Ok (Decision.NoRoom states)) ↔ NoRoomAt q (satisfied q) (decide_room q keys path) states
  decide_says_no_room states = rw decided_answer (decide_answers_no_room q (decide_room q keys path) word states)

  pub decide_says_not_refused : (f : Refusal) → (decided bytes keys path word).answer ≢ Err f
  decide_says_not_refused f = rw decided_answer (decide_answers_refused q (decide_room q keys path) word f)

  -- never is said exactly if the rows lent hold every reachable state and no naturals satisfy the question
  pub never_said : ((states : ℕ) × ((decided bytes keys path word).answer ≡ Ok (Decision.Never states))) ↔ (AtMost (machine_of q) (decide_room q keys path) × NoneSatisfies q.n (satisfied q))
  never_said = (said, back)
    where
      said : (states : ℕ) × ((decided bytes keys path word).answer ≡ Ok (Decision.Never states)) → AtMost (machine_of q) (decide_room q keys path) × NoneSatisfies q.n (satisfied q)
      said (states, e) = let n = (says_never states).0 e in ((states_at_most (decide_room q keys path) n.states_are).0 n.room, n.none_satisfies)

      back : AtMost (machine_of q) (decide_room q keys path) × NoneSatisfies q.n (satisfied q) → (states : ℕ) × ((decided bytes keys path word).answer ≡ Ok (Decision.Never states))
      back (a, n) =
          let h = rows_few (machine_of q) (machine_lawful q) (decide_room q keys path) a in
          let s = states_are (machine_of q) (machine_lawful q) (decide_room q keys path) h in
          (length (rows_of q (decide_room q keys path)), (says_never _).1 (record { states_are = s; room = h; none_satisfies = n }))

  pub bound_is_room : (states : ℕ) → bound q ≤ decide_room q keys path → (decided bytes keys path word).answer ≢ Ok (Decision.NoRoom states)
  bound_is_room states h e = ((decide_says_no_room states).0 e).more (bound_at_most q (decide_room q keys path) h)

  -- found hands over the first satisfying word: its k letters stand at the front of the word buffer, the rest of which is as it was
  pub record WordHandedOver (k : ℕ) : Type 0 where
    pub first : FirstSatisfying q.n (satisfied q) (take k (decided bytes keys path word).word)
    pub rest : (i a : ℕ) → k ≤ i → get_or (decided bytes keys path word).word i a ≡ get_or word i a

  pub held_found_hands_over : (states k : ℕ) → (decided bytes keys path word).answer ≡ Ok (Decision.Found states k) → WordHandedOver k
  held_found_hands_over states k e =
      let s = (says_found states k).0 e in
      let f = s.0 in
      let v : Word = row_word q (decide_room q keys path) f.row in
      let b : (decided bytes keys path word).word ≡ at_front v word = decided_word ∙ answers_word q (decide_room q keys path) word f s.1 in
      record {
        first = rw (b, at_front_cells v word k (sym f.letters_are)) f.found_at.first;
        rest = λ i a h. rw b (at_front_beyond v word i a (omega (arith, f.letters_are)));
      }

  -- no other answer changes the word buffer
  pub word_kept : ((states k : ℕ) → (decided bytes keys path word).answer ≢ Ok (Decision.Found states k)) → (decided bytes keys path word).word ≡ word
  word_kept n = decided_word ∙ answers_word_kept q (decide_room q keys path) word (λ states k e. n states k (decided_answer ∙ e))
