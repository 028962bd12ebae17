-- What the calls answer of any bytes, by whether they are a question's and what its tree says of naturals. No reader and no held value need be
-- believed for it: `held_in` stands for the states, the rows and the room of the question.
use Rattle.std.specs.Prelude.{◌≡◌, refl, ◌↔◌, ◌≢◌, Bool, List, ℕ, ◌*◌, ◌≤◌, ◌<◌, length, get_or, take, ℤ, Ok, Err, Result, is_ok}
use Rattle.std.proofs.Common.{sym, ap, ◌∙◌, subst, arith, length-take-le}
use Rattle.scope.specs.declared.Rule.{Rule}
use Rattle.scope.specs.declared.Decision.{Decision}
use Rattle.scope.specs.declared.Building.{Building}
use Rattle.scope.specs.declared.Question.{Question}
use Rattle.scope.specs.declared.Refusal.{Refusal}
use Rattle.scope.specs.Refusals.{refusal}
use Rattle.scope.specs.Wire.{read_held, question_held}
use Rattle.scope.specs.Words.{Word, letters, spelled, Over}
use Rattle.scope.specs.States.{satisfied}
use Rattle.scope.specs.Tree.{held_as, true_for, IsQuestion}
use Rattle.scope.specs.Numbering.{machine_of}
use Rattle.scope.specs.Deciding.{decide_room, Decided, decided}
use Rattle.scope.specs.Building.{table_width, build_room, Built, built}
use Rattle.scope.specs.Running.{ran}
use Rattle.scope.specs.Judging.{judged}
use Rattle.theory.specs.Wire.Octets.{Octets}
use Rattle.theory.specs.Trees.Parsed.{accepted_tree, question_read}
use Rattle.theory.specs.Trees.Means.{tree_means}
use Rattle.theory.specs.Machine.Reachable.{AtMost}
use Rattle.theory.specs.Calls.Deciding.{StatesAre, states_at_most, NoneSatisfies, FirstSatisfying}
use Rattle.theory.specs.Calls.Lengths.{decided_word_length}
use Rattle.theory.specs.Calls.Decided as deciding
use Rattle.theory.specs.Calls.Decided.{RowFound, NeverAt, NoRoomAt}
use Rattle.theory.specs.Calls.Built as building
use Rattle.theory.specs.Calls.Agreement.{Taken, judged_accepted, judged_truth, judged_refused}

abbrev pub held_in : {bytes : List ℕ} → IsQuestion bytes → Question
held_in q = held_as q.n q.tree

-- what it says of naturals is what its tree says
says_as : {bytes : List ℕ} (q : IsQuestion bytes) → satisfied (held_in q) ≡ true_for q.tree
says_as q = λ i xs. tree_means q.n q.tree q.within xs i

-- bytes say one thing: whatever tree they are taken for, n is the same, and so is what it says of naturals
pub one_meaning : {bytes : List ℕ} (p q : IsQuestion bytes) → (p.n ≡ q.n) × (true_for p.tree ≡ true_for q.tree)
one_meaning {bytes} p q =
    let same : held_in p ≡ held_in q = ap question_held (sym (question_read bytes p) ∙ question_read bytes q) in
    (ap (λ (h : Question). h.n) same, sym (says_as p) ∙ ap satisfied same ∙ says_as q)

-- ---- bytes are a question's, or they are refused

pub data Read (bytes : List ℕ) : Type 0 where
  a_question : IsQuestion bytes → Read bytes
  no_question : (ρ : Refusal) → read_held bytes ≡ Err ρ → Read bytes

pub not_both : (bytes : List ℕ) → IsQuestion bytes → (ρ : Refusal) → read_held bytes ≢ Err ρ
not_both bytes q ρ e = let a = ap is_ok (question_read bytes q) in let z : ◌≡◌ {A = ℕ} 0 1 = cc in omega arith

module _ (bytes : List ℕ) (octets : Octets bytes) where
  pub either_way : Read bytes
  either_way = go (read_held bytes) refl
    where
      go : (a : Result Question Refusal) → (read_held bytes) ≡ a → Read bytes
      go (Ok q) e = a_question (accepted_tree bytes octets (ap is_ok e))
      go (Err ρ) e = no_question ρ e

  -- what no refused bytes get, and a question's bytes get exactly if P, is got exactly by a question's bytes with P
  question_with : {X : Type 0} {P : IsQuestion bytes → Type 0} → ((ρ : Refusal) → read_held bytes ≡ Err ρ → ¬ X) → ((q : IsQuestion bytes) → X ↔ P q)
      → X ↔ ((q : IsQuestion bytes) × P q)
  question_with {X} {P} none of = (said either_way, λ (q, p). (of q).1 p)
    where
      said : Read bytes → X → (q : IsQuestion bytes) × P q
      said (a_question q) x = (q, (of q).0 x)
      said (no_question ρ e) x = absurd (none ρ e x)

-- ---- deciding

-- never: the bytes are a question's, the rows lent hold its reachable states, and no naturals, however large, satisfy it
pub record Guarded (bytes : List ℕ) (keys : List ℤ) (path : List ℕ) : Type 0 where
  pub question : IsQuestion bytes
  pub room : AtMost (machine_of (held_in question)) (decide_room (held_in question) keys path)
  pub none_satisfies : NoneSatisfies question.n (true_for question.tree)

abbrev pub room_for : {bytes : List ℕ} → IsQuestion bytes → List ℤ → List ℕ → ℕ
room_for q keys path = decide_room (held_in q) keys path

module _ (bytes : List ℕ) (keys : List ℤ) (path word : List ℕ) where
  -- of a question's bytes
  module _ (q : IsQuestion bytes) where
    as_said : {a : Result Decision Refusal} (P : (List ℕ → Bool) → Type 0) → ((decided bytes keys path word).answer ≡ a) ↔ P (satisfied (held_in q)) → ((decided bytes keys path word).answer ≡ a) ↔ P (true_for q.tree)
    as_said {a} P of = subst (λ (f : List ℕ → Bool). ((decided bytes keys path word).answer ≡ a) ↔ P f) (says_as q) of

    pub found_as : (states k : ℕ)
        → ((decided bytes keys path word).answer ≡ Ok (Decision.Found states k)) ↔ (RowFound (held_in q) (true_for q.tree) (room_for q keys path) states k × (k ≤ length word))
    found_as states k = as_said (λ f. RowFound (held_in q) f (room_for q keys path) states k × (k ≤ length word)) (deciding.says_found bytes keys path word (held_in q) (question_read bytes q) states k)

    pub short_as : (states k : ℕ)
        → ((decided bytes keys path word).answer ≡ Ok (Decision.Short states k)) ↔ (RowFound (held_in q) (true_for q.tree) (room_for q keys path) states k × (length word < k))
    short_as states k = as_said (λ f. RowFound (held_in q) f (room_for q keys path) states k × (length word < k)) (deciding.says_short bytes keys path word (held_in q) (question_read bytes q) states k)

    pub never_as : (states : ℕ) → ((decided bytes keys path word).answer ≡ Ok (Decision.Never states)) ↔ NeverAt (held_in q) (true_for q.tree) (room_for q keys path) states
    never_as states = as_said (λ f. NeverAt (held_in q) f (room_for q keys path) states) (deciding.says_never bytes keys path word (held_in q) (question_read bytes q) states)

    pub no_room_as : (states : ℕ) → ((decided bytes keys path word).answer ≡ Ok (Decision.NoRoom states)) ↔ NoRoomAt (held_in q) (true_for q.tree) (room_for q keys path) states
    no_room_as states = as_said (λ f. NoRoomAt (held_in q) f (room_for q keys path) states) (deciding.decide_says_no_room bytes keys path word (held_in q) (question_read bytes q) states)

  -- of any bytes
  module _ (octets : Octets bytes) where
    exactly : {a : Result Decision Refusal} {P : IsQuestion bytes → Type 0} → ((ρ : Refusal) → Err ρ ≢ a) → ((q : IsQuestion bytes) → ((decided bytes keys path word).answer ≡ a) ↔ P q)
        → ((decided bytes keys path word).answer ≡ a) ↔ ((q : IsQuestion bytes) × P q)
    exactly other of = question_with bytes octets (λ ρ e x. other ρ (sym (ap (λ (d : Decided). d.answer) (deciding.decide_refused_unchanged bytes keys path word ρ e)) ∙ x)) of

    pub found_exactly : (states k : ℕ) → ((decided bytes keys path word).answer ≡ Ok (Decision.Found states k))
        ↔ ((q : IsQuestion bytes) × (RowFound (held_in q) (true_for q.tree) (room_for q keys path) states k × (k ≤ length word)))
    found_exactly states k = exactly (λ ρ e. let z : ◌≡◌ {A = ℕ} 0 1 = cc in omega arith) (λ q. found_as q states k)

    pub short_exactly : (states k : ℕ) → ((decided bytes keys path word).answer ≡ Ok (Decision.Short states k))
        ↔ ((q : IsQuestion bytes) × (RowFound (held_in q) (true_for q.tree) (room_for q keys path) states k × (length word < k)))
    short_exactly states k = exactly (λ ρ e. let z : ◌≡◌ {A = ℕ} 0 1 = cc in omega arith) (λ q. short_as q states k)

    pub never_exactly : (states : ℕ) → ((decided bytes keys path word).answer ≡ Ok (Decision.Never states))
        ↔ ((q : IsQuestion bytes) × NeverAt (held_in q) (true_for q.tree) (room_for q keys path) states)
    never_exactly states = exactly (λ ρ e. let z : ◌≡◌ {A = ℕ} 0 1 = cc in omega arith) (λ q. never_as q states)

    pub no_room_exactly : (states : ℕ) → ((decided bytes keys path word).answer ≡ Ok (Decision.NoRoom states))
        ↔ ((q : IsQuestion bytes) × NoRoomAt (held_in q) (true_for q.tree) (room_for q keys path) states)
    no_room_exactly states = exactly (λ ρ e. let z : ◌≡◌ {A = ℕ} 0 1 = cc in omega arith) (λ q. no_room_as q states)

    -- "Never is said exactly if the rows lent hold every reachable state and no naturals, however large, satisfy the question."
    pub never_guarded : ((states : ℕ) × ((decided bytes keys path word).answer ≡ Ok (Decision.Never states))) ↔ Guarded bytes keys path
    never_guarded = (said, back)
      where
        said : (states : ℕ) × ((decided bytes keys path word).answer ≡ Ok (Decision.Never states)) → Guarded bytes keys path
        said (states, e) =
            let n = (never_exactly states).0 e in
            record { question = n.0; room = (states_at_most (room_for n.0 keys path) n.1.states_are).0 n.1.room; none_satisfies = n.1.none_satisfies }

        back : Guarded bytes keys path → (states : ℕ) × ((decided bytes keys path word).answer ≡ Ok (Decision.Never states))
        back g =
            (deciding.never_said bytes keys path word (held_in g.question) (question_read bytes g.question)).1
            (g.room, subst (NoneSatisfies g.question.n) (sym (says_as g.question)) g.none_satisfies)

-- found hands over the first satisfying word: its k letters stand at the front of the word buffer, the rest of which is as it was
pub record HandsOver {bytes : List ℕ} (q : IsQuestion bytes) (word word₁ : List ℕ) (k : ℕ) : Type 0 where
  pub room : k ≤ length word
  pub count_is : length (take k word₁) ≡ k
  pub first : FirstSatisfying q.n (true_for q.tree) (take k word₁)
  pub rest : (i a : ℕ) → k ≤ i → get_or word₁ i a ≡ get_or word i a

pub found_hands_over : (bytes : List ℕ) (keys : List ℤ) (path word : List ℕ) (q : IsQuestion bytes) (states k : ℕ) → (decided bytes keys path word).answer ≡ Ok (Decision.Found states k)
    → HandsOver q word (decided bytes keys path word).word k
found_hands_over bytes keys path word q states k e =
    let h = deciding.held_found_hands_over bytes keys path word (held_in q) (question_read bytes q) states k e in
    let room = ((deciding.says_found bytes keys path word (held_in q) (question_read bytes q) states k).0 e).1 in
    record {
      room = room;
      count_is = length-take-le k (decided bytes keys path word).word (rw (decided_word_length bytes keys path word) room);
      first = subst (λ (f : List ℕ → Bool). FirstSatisfying q.n f (take k (decided bytes keys path word).word)) (says_as q) h.first;
      rest = h.rest;
    }

-- ---- building, and running what was built

abbrev pub rows_for : {bytes : List ℕ} → IsQuestion bytes → List ℤ → List ℕ → ℕ
rows_for q keys table = build_room (held_in q) keys table

module _ (bytes : List ℕ) (keys : List ℤ) (table : List ℕ) where
  module _ (q : IsQuestion bytes) where
    pub built_as : (states : ℕ) → ((built bytes keys table).answer ≡ Ok (Building.Built states)) ↔ (StatesAre (machine_of (held_in q)) states × (states ≤ rows_for q keys table))
    built_as states = building.says_built bytes keys table (held_in q) (question_read bytes q) states

    pub unbuilt_as : (states : ℕ) → ((built bytes keys table).answer ≡ Ok (Building.NoRoom states)) ↔ ((states ≡ rows_for q keys table) × ¬ AtMost (machine_of (held_in q)) (rows_for q keys table))
    unbuilt_as states = building.build_says_no_room bytes keys table (held_in q) (question_read bytes q) states

  module _ (octets : Octets bytes) where
    table_exactly : {a : Result Building Refusal} {P : IsQuestion bytes → Type 0} → ((ρ : Refusal) → Err ρ ≢ a) → ((q : IsQuestion bytes) → ((built bytes keys table).answer ≡ a) ↔ P q)
        → ((built bytes keys table).answer ≡ a) ↔ ((q : IsQuestion bytes) × P q)
    table_exactly other of = question_with bytes octets (λ ρ e x. other ρ (sym (ap (λ (b : Built). b.answer) (building.build_refused_unchanged bytes keys table ρ e)) ∙ x)) of

    pub built_exactly : (states : ℕ) → ((built bytes keys table).answer ≡ Ok (Building.Built states))
        ↔ ((q : IsQuestion bytes) × (StatesAre (machine_of (held_in q)) states × (states ≤ rows_for q keys table)))
    built_exactly states = table_exactly (λ ρ e. let z : ◌≡◌ {A = ℕ} 0 1 = cc in omega arith) (λ q. built_as q states)

    pub unbuilt_exactly : (states : ℕ) → ((built bytes keys table).answer ≡ Ok (Building.NoRoom states))
        ↔ ((q : IsQuestion bytes) × ((states ≡ rows_for q keys table) × ¬ AtMost (machine_of (held_in q)) (rows_for q keys table)))
    unbuilt_exactly states = table_exactly (λ ρ e. let z : ◌≡◌ {A = ℕ} 0 1 = cc in omega arith) (λ q. unbuilt_as q states)

pub table_answers : (bytes : List ℕ) (keys : List ℤ) (table : List ℕ) (q : IsQuestion bytes) (states : ℕ) → (built bytes keys table).answer ≡ Ok (Building.Built states)
    → (w : Word) → Over (letters q.n) w → ran q.n (take (states * table_width q.n) (built bytes keys table).table) w ≡ Ok (true_for q.tree (spelled q.n w))
table_answers bytes keys table q states e w over =
    building.built_answers bytes keys table (held_in q) (question_read bytes q) states e w over ∙ ap (λ (f : List ℕ → Bool). Ok (f (spelled q.n w))) (says_as q)

-- ---- judging

module _ (bytes values : List ℕ) where
  pub judged_unread : (ρ : Refusal) → read_held bytes ≡ Err ρ → judged bytes values ≡ Err ρ
  unfolding judged
  judged_unread ρ e = rw e

  module _ (q : IsQuestion bytes) where
    pub judged_as : Taken q.n values → judged bytes values ≡ Ok (true_for q.tree values)
    judged_as t =
        judged_accepted bytes values (held_in q) (question_read bytes q) ∙ judged_truth (held_in q) values t ∙ ap (λ (f : List ℕ → Bool). Ok (f values)) (says_as q)

    pub judged_others : ¬ Taken q.n values → judged bytes values ≡ Err (refusal Rule.Values 0)
    judged_others n = judged_accepted bytes values (held_in q) (question_read bytes q) ∙ judged_refused (held_in q) values n
