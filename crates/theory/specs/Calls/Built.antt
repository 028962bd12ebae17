-- The call of building: when a table is built and how many states it has, and that the cells handed over, run without the question
-- on any word of their letters, say whether the naturals that the word spells satisfy it.
use Rattle.std.specs.Prelude.{◌≡◌, refl, ◌↔◌, ◌≢◌, List, ℕ, ◌*◌, ◌≤◌, ◌<◌, length, get_or, take, leb, ℤ, Ok, Err, Result}
use Rattle.std.proofs.Common.{sym, ap, ◌∙◌, arith, leb→le, le→leb}
use Rattle.std.proofs.Math.Logic.{by_cases}
use Rattle.std.proofs.Math.Decide.{dec_lt}
use Rattle.std.proofs.Math.Dec.{not_T}
use Rattle.std.specs.Float.Ieee.Bits.{is_true, is_false}
use Rattle.scope.specs.declared.Building.{Building}
use Rattle.scope.specs.declared.Question.{Question}
use Rattle.scope.specs.declared.Refusal.{Refusal}
use Rattle.scope.specs.Whole.{at_front}
use Rattle.scope.specs.Sizes.{most_states}
use Rattle.scope.specs.Wire.{read_held}
use Rattle.scope.specs.Words.{Word, letters, spelled, Over}
use Rattle.scope.specs.States.{satisfied}
use Rattle.scope.specs.Bound.{bound}
use Rattle.scope.specs.Numbering.{machine_of}
use Rattle.scope.specs.Deciding.{key_cells}
use Rattle.scope.specs.Building.{table_width, build_room, Built, built_if, built_question, built}
use Rattle.scope.specs.Running.{ran}
use Rattle.theory.specs.Wire.Accepted.{accepted_variables}
use Rattle.theory.specs.Machine.Lawful.{Lawful, machine_lawful}
use Rattle.theory.specs.Machine.Reachable.{AtMost, rows_few, room_iff}
use Rattle.theory.specs.Numbers.Joined.{at_front_cells, at_front_beyond}
use Rattle.theory.specs.Calls.Deciding.{StatesAre, states_unique, states_at_most, states_are, rows_of, bound_at_most}
use Rattle.theory.specs.Calls.Building.{table_of, table_size, held_table_answers}

-- ---- where r rows are lent

abbrev pub built_of : Question → ℕ → List ℤ → List ℕ → Built
built_of q r keys table = built_if (leb (length (rows_of q r)) r) r (machine_of q) (rows_of q r) keys table

-- by what an answer is given
data Outcome (q : Question) (r : ℕ) : Result Building Refusal → Type 0 where
  by_room : {states : ℕ} → states ≡ length (rows_of q r) → length (rows_of q r) ≤ r → Outcome q r (Ok (Building.Built states))
  by_no_room : {states : ℕ} → states ≡ r → r < length (rows_of q r) → Outcome q r (Ok (Building.NoRoom states))

module _ (q : Question) (r : ℕ) (keys : List ℤ) (table : List ℕ) where
  pub with_room : length (rows_of q r) ≤ r
      → built_of q r keys table ≡ record { answer = Ok (Building.Built (length (rows_of q r))); keys = at_front (key_cells (rows_of q r)) keys; table = at_front (table_of q r) table }
  with_room h = rw (is_true (leb (length (rows_of q r)) r) (le→leb (length (rows_of q r)) r h))

  pub without_room : r < length (rows_of q r)
      → built_of q r keys table ≡ record { answer = Ok (Building.NoRoom r); keys = at_front (key_cells (take r (rows_of q r))) keys; table = table }
  without_room h =
      rw (is_false (leb (length (rows_of q r)) r) (not_T (leb (length (rows_of q r)) r) (λ t. omega (arith, leb→le (length (rows_of q r)) r t))))

  outcome : Outcome q r (built_of q r keys table).answer
  outcome = by_cases (dec_lt r (length (rows_of q r)))
      (λ h. rw (without_room h) (by_no_room refl h))
      (λ h. let g : length (rows_of q r) ≤ r = omega arith in rw (with_room g) (by_room refl g))

  by_outcome : {a : Result Building Refusal} → Outcome q r a → (built_of q r keys table).answer ≡ a
  by_outcome (by_room s h) = rw (with_room h, s)
  by_outcome (by_no_room s h) = rw (without_room h, s)

  -- it is built exactly if the reachable states are at most r, and their number is the answer
  answers_built : (states : ℕ) → ((built_of q r keys table).answer ≡ Ok (Building.Built states)) ↔ (StatesAre (machine_of q) states × (states ≤ r))
  answers_built states = (λ e. go (rw e at outcome), back)
    where
      ok : Lawful (machine_of q)
      ok = machine_lawful q

      go : Outcome q r (Ok (Building.Built states)) → StatesAre (machine_of q) states × (states ≤ r)
      go (by_room s h) = (rw s (states_are (machine_of q) ok r h), omega arith)

      back : StatesAre (machine_of q) states × (states ≤ r) → (built_of q r keys table).answer ≡ Ok (Building.Built states)
      back (s, h) =
          let g = rows_few (machine_of q) ok r ((states_at_most r s).0 h) in
          by_outcome (by_room (states_unique s (states_are (machine_of q) ok r g)) g)

  build_answers_no_room : (states : ℕ) → ((built_of q r keys table).answer ≡ Ok (Building.NoRoom states)) ↔ ((states ≡ r) × ¬ AtMost (machine_of q) r)
  build_answers_no_room states = (λ e. go (rw e at outcome), back)
    where
      go : Outcome q r (Ok (Building.NoRoom states)) → (states ≡ r) × ¬ AtMost (machine_of q) r
      go (by_no_room s h) = (s, λ a. omega (arith, rows_few (machine_of q) (machine_lawful q) r a))

      back : (states ≡ r) × ¬ AtMost (machine_of q) r → (built_of q r keys table).answer ≡ Ok (Building.NoRoom states)
      back (s, n) =
          by_cases (dec_lt r (length (rows_of q r))) (λ h. by_outcome (by_no_room s h))
          (λ h. absurd (n ((room_iff (machine_of q) (machine_lawful q) r).0 (omega arith))))

  build_answers_refused : (f : Refusal) → (built_of q r keys table).answer ≢ Err f
  build_answers_refused f e = go (rw e at outcome)
    where
      go : Outcome q r (Err f) → ⊥
      go = elim [ ]

-- ---- the call

-- a refused question changes no lent cell
pub build_refused_unchanged : (bytes : List ℕ) (keys : List ℤ) (table : List ℕ) (r : Refusal) → read_held bytes ≡ Err r
    → built bytes keys table ≡ record { answer = Err r; keys = keys; table = table }
unfolding built
build_refused_unchanged bytes keys table r e = rw e

room_most : (q : Question) (keys : List ℤ) (table : List ℕ) → build_room q keys table ≤ most_states
unfolding build_room
room_most q keys table = omega arith

-- where the bytes are accepted as q and R = build_room q keys table rows are lent
module _ (bytes : List ℕ) (keys : List ℤ) (table : List ℕ) (q : Question) (accepted : read_held bytes ≡ Ok q) where
  pub built_accepted : built bytes keys table ≡ built_of q (build_room q keys table) keys table
  unfolding built built_question
  built_accepted = rw accepted

  pub says_built : (states : ℕ) → ((built bytes keys table).answer ≡ Ok (Building.Built states)) ↔ (StatesAre (machine_of q) states × (states ≤ build_room q keys table))
  says_built states = rw built_accepted (answers_built q (build_room q keys table) keys table states)

  pub build_says_no_room : (states : ℕ)
      → ((built bytes keys table).answer ≡ Ok (Building.NoRoom states)) ↔ ((states ≡ build_room q keys table) × ¬ AtMost (machine_of q) (build_room q keys table))
  build_says_no_room states = rw built_accepted (build_answers_no_room q (build_room q keys table) keys table states)

  pub build_says_not_refused : (f : Refusal) → (built bytes keys table).answer ≢ Err f
  build_says_not_refused f = rw built_accepted (build_answers_refused q (build_room q keys table) keys table f)

  -- a table is built exactly if the rows lent are at least the reachable states
  pub held_built_exactly : ((states : ℕ) × ((built bytes keys table).answer ≡ Ok (Building.Built states))) ↔ AtMost (machine_of q) (build_room q keys table)
  held_built_exactly = (said, back)
    where
      said : (states : ℕ) × ((built bytes keys table).answer ≡ Ok (Building.Built states)) → AtMost (machine_of q) (build_room q keys table)
      said (states, e) = let s = (says_built states).0 e in (states_at_most (build_room q keys table) s.0).0 s.1

      back : AtMost (machine_of q) (build_room q keys table) → (states : ℕ) × ((built bytes keys table).answer ≡ Ok (Building.Built states))
      back a =
          let h = rows_few (machine_of q) (machine_lawful q) (build_room q keys table) a in
          (length (rows_of q (build_room q keys table)), (says_built _).1 (states_are (machine_of q) (machine_lawful q) (build_room q keys table) h, h))

  -- rows equal to the bound are always enough
  pub bound_builds : bound q ≤ build_room q keys table → (states : ℕ) × ((built bytes keys table).answer ≡ Ok (Building.Built states))
  bound_builds h = held_built_exactly.1 (bound_at_most q (build_room q keys table) h)

  -- ---- the table afterwards

  outcome_is : {a : Result Building Refusal} → (built bytes keys table).answer ≡ a → Outcome q (build_room q keys table) a
  outcome_is e = rw (sym (ap (λ (b : Built). b.answer) built_accepted) ∙ e) at (outcome q (build_room q keys table) keys table)

  -- no room changes no cell of it
  pub table_kept : (states : ℕ) → (built bytes keys table).answer ≡ Ok (Building.NoRoom states) → (built bytes keys table).table ≡ table
  table_kept states e = go (outcome_is e)
    where
      go : Outcome q (build_room q keys table) (Ok (Building.NoRoom states)) → (built bytes keys table).table ≡ table
      go (by_no_room s h) = ap (λ (b : Built). b.table) (built_accepted ∙ without_room q (build_room q keys table) keys table h)

  -- the filled rows alone are the table of the question; the cells beyond are as they were
  pub record TableHandedOver (states : ℕ) : Type 0 where
    pub filled : take (states * table_width q.n) (built bytes keys table).table ≡ table_of q (build_room q keys table)
    pub rest : (i a : ℕ) → states * table_width q.n ≤ i → get_or (built bytes keys table).table i a ≡ get_or table i a

  pub built_hands_over : (states : ℕ) → (built bytes keys table).answer ≡ Ok (Building.Built states) → TableHandedOver states
  built_hands_over states e = go (outcome_is e)
    where
      go : Outcome q (build_room q keys table) (Ok (Building.Built states)) → TableHandedOver states
      go (by_room s h) =
          let cells : List ℕ = table_of q (build_room q keys table) in
          let size : length cells ≡ states * table_width q.n = rw s (table_size q (build_room q keys table)) in
          let b : (built bytes keys table).table ≡ at_front cells table = ap (λ (b : Built). b.table) (built_accepted ∙ with_room q (build_room q keys table) keys table h) in
          record { filled = rw b (at_front_cells cells table _ size); rest = λ i a g. rw b (at_front_beyond cells table i a (omega arith)) }

  -- the table alone, run on any word of its letters, says yes exactly if the naturals that the word spells satisfy the question
  pub built_answers : (states : ℕ) → (built bytes keys table).answer ≡ Ok (Building.Built states) → (w : Word) → Over (letters q.n) w
      → ran q.n (take (states * table_width q.n) (built bytes keys table).table) w ≡ Ok (satisfied q (spelled q.n w))
  built_answers states e w o = rw (built_hands_over states e).filled (go (outcome_is e))
    where
      go : Outcome q (build_room q keys table) (Ok (Building.Built states)) → ran q.n (table_of q (build_room q keys table)) w ≡ Ok (satisfied q (spelled q.n w))
      go (by_room s h) = held_table_answers q (build_room q keys table) h (accepted_variables bytes q accepted) (omega (arith, room_most q keys table)) o
