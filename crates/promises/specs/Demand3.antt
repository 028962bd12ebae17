-- Demand 3, sentence by sentence, of any outcome that the contracts allow, in the words of the tree that the bytes are.
use Rattle.std.specs.Prelude.{◌≡◌, ◌↔◌, ◌≢◌, true, List, ℕ, ◌*◌, ◌≤◌, ◌<◌, length, take, ℤ, Ok, Err, Result, Bool}
use Rattle.std.proofs.Common.{sym, ap, ◌∙◌, le-div_iff_mul-le, arith}
use Rattle.scope.specs.declared.Building.{Building}
use Rattle.scope.specs.declared.Refusal.{Refusal}
use Rattle.scope.specs.Sizes.{most_states}
use Rattle.scope.specs.Question.{atom_count}
use Rattle.scope.specs.Words.{Word, letters, spelled, Over}
use Rattle.scope.specs.Tree.{true_for, IsQuestion}
use Rattle.scope.specs.Bound.{bound}
use Rattle.scope.specs.Numbering.{machine_of}
use Rattle.scope.specs.Building.{table_width, build_room, Built}
use Rattle.scope.specs.Running.{ran}
use Rattle.theory.specs.Wire.Octets.{Octets}
use Rattle.theory.specs.Trees.Parsed.{question_read}
use Rattle.theory.specs.Words.Spelling.{word_of_values}
use Rattle.theory.specs.Machine.Reachable.{AtMost}
use Rattle.theory.specs.Calls.Deciding.{StatesAre}
use Rattle.theory.specs.Calls.Built as building
use Rattle.theory.specs.Calls.Agreement.{truth_yes, Taken, spelled_over, word_spells}
use Rattle.theory.specs.Calls.Questions as questions
use Rattle.theory.specs.Calls.Questions.{held_in, rows_for, table_answers}
use Rattle.promises.specs.Calls.{JudgeOutcome, RunOutcome, BuildOutcome}
use Rattle.promises.specs.Demand1.{truth_not_refused}
use Rattle.promises.specs.Demand2.{some_atom, judge_is}

-- the filled rows alone, which are handed on with the question's n
abbrev pub table_in : ℕ → ℕ → List ℕ → List ℕ
table_in n states table₁ = take (states * table_width n) table₁

-- the rows lent, by the cells lent
pub build_rows_lent : {bytes : List ℕ} (q : IsQuestion bytes) (rows : ℕ) → rows ≤ most_states → (keys : List ℤ) (table : List ℕ)
    → rows * atom_count (held_in q) ≤ length keys → rows * table_width q.n ≤ length table → rows ≤ rows_for q keys table
unfolding build_room
build_rows_lent q rows few keys table k t =
    let m : 0 < atom_count (held_in q) = some_atom q in
    let w : 0 < table_width q.n = omega arith in
    omega (arith, (le-div_iff_mul-le m).1 k, (le-div_iff_mul-le w).1 t, few)

module _ (bytes : List ℕ) (keys : List ℤ) (table : List ℕ) {o : Built} (out : BuildOutcome bytes keys table o) where
  -- ---- building any bytes that are lent

  module _ (octets : Octets bytes) where
    -- the table is built exactly of a question's bytes, where the rows lent are at least its reachable states, whose number is the answer
    pub built_exactly : (states : ℕ) → (o.answer ≡ Ok (Building.Built states)) ↔ ((q : IsQuestion bytes) × (StatesAre (machine_of (held_in q)) states × (states ≤ rows_for q keys table)))
    built_exactly states = rw out.answer (questions.built_exactly bytes keys table octets states)

    -- else 7
    pub unbuilt_exactly : (states : ℕ)
        → (o.answer ≡ Ok (Building.NoRoom states)) ↔ ((q : IsQuestion bytes) × ((states ≡ rows_for q keys table) × ¬ AtMost (machine_of (held_in q)) (rows_for q keys table)))
    unbuilt_exactly states = rw out.answer (questions.unbuilt_exactly bytes keys table octets states)

  -- ---- of a question's bytes, where R = rows_for q keys table rows are lent

  module _ (q : IsQuestion bytes) where
    -- "For every accepted question, the table is built exactly if the rows lent, as 01 counts them, are at least the reachable states;"
    pub built_room : ((states : ℕ) × (o.answer ≡ Ok (Building.Built states))) ↔ AtMost (machine_of (held_in q)) (rows_for q keys table)
    built_room = rw out.answer (building.held_built_exactly bytes keys table (held_in q) (question_read bytes q))

    -- "rows equal to 01's bound, where that is at most 65,535, are always enough." (R is never more than 65,535)
    pub bound_builds : bound (held_in q) ≤ rows_for q keys table → (states : ℕ) × (o.answer ≡ Ok (Building.Built states))
    bound_builds h = rw out.answer (building.bound_builds bytes keys table (held_in q) (question_read bytes q) h)

    -- in cells
    pub bound_cells : bound (held_in q) ≤ most_states → bound (held_in q) * atom_count (held_in q) ≤ length keys → bound (held_in q) * table_width q.n ≤ length table
        → (states : ℕ) × (o.answer ≡ Ok (Building.Built states))
    bound_cells few k t = bound_builds (build_rows_lent q (bound (held_in q)) few keys table k t)

    -- "The table alone, run without the question on any word of its letters, short or long, says yes exactly if the naturals that the word
    -- spells satisfy the question."
    module _ (states : ℕ) (is_built : o.answer ≡ Ok (Building.Built states)) where
      pub table_is : (w : Word) → Over (letters q.n) w → {t : Result Bool Refusal} → RunOutcome q.n (table_in q.n states o.table) w t
          → t ≡ Ok (true_for q.tree (spelled q.n w))
      table_is w over run =
          run ∙ ap (λ (l : List ℕ). ran q.n (table_in q.n states l) w) out.table
          ∙ table_answers bytes keys table q states (sym out.answer ∙ is_built) w over

      pub table_says : (w : Word) → Over (letters q.n) w → {t : Result Bool Refusal} → RunOutcome q.n (table_in q.n states o.table) w t
          → (t ≡ (Ok true)) ↔ (true_for q.tree (spelled q.n w) ≡ true)
      table_says w over run = rw (table_is w over run) (truth_yes (true_for q.tree (spelled q.n w)))

      -- it is never refused
      pub table_taken : (w : Word) → Over (letters q.n) w → {t : Result Bool Refusal} → RunOutcome q.n (table_in q.n states o.table) w t → (ρ : Refusal) → t ≢ Err ρ
      table_taken w over run ρ e = truth_not_refused (true_for q.tree (spelled q.n w)) ρ (sym (table_is w over run) ∙ e)

      -- and judging agrees: the word of 40 letters spells the values
      pub table_judged : (values : List ℕ) → Taken q.n values → {t j : Result Bool Refusal} → RunOutcome q.n (table_in q.n states o.table) (word_of_values 40 values) t
          → JudgeOutcome bytes values j → j ≡ t
      table_judged values taken run judge =
          judge_is bytes values q taken judge
          ∙ ap (λ (xs : List ℕ). Ok (true_for q.tree xs)) (sym (word_spells (held_in q) values taken))
          ∙ sym (table_is (word_of_values 40 values) (spelled_over (held_in q) values taken) run)
