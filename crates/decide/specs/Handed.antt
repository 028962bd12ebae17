-- What deciding in rows hands to each call: the start put as row 0 is worth what the question's start is, and the numbering of key rows is asked
-- for the machine that does what the question's does.
use Rattle.std.specs.Prelude.{◌≡◌, refl, Bool, true, false, List, [], ◌∷◌, ℕ, ◌≤◌, ◌*◌, length, take, ℤ}
use Rattle.std.proofs.Math.Path.{sym}
use Rattle.std.proofs.Common.{ap, ◌∙◌, arith, length-take-le}
use Rattle.scope.specs.declared.Question.{Question}
use Rattle.scope.specs.Question.{atoms_of, atom_count}
use Rattle.scope.specs.States.{cells_of, start_of}
use Rattle.scope.specs.Numbering.{machine_of}
use Rattle.scope.specs.Sizes.{most_atoms, most_letters}
use Rattle.theory.specs.Entries.Range.{StateIn, start_of_in}
use Rattle.theory.specs.Numbers.Joined.{at_front_cells, at_front_length}
use Rattle.theory.specs.Machine.Simulation.{Simulates}
use Rattle.formula.specs.Truths.{truth_at}
use Rattle.step.specs.declared.Kinds.{Kinds}
use Rattle.step.specs.Cells.{worth_cells, Sums}
use Rattle.step.specs.Atoms.{few_atoms}
use Rattle.step.specs.Laws.{start_cells}
use Rattle.plan.specs.declared.Plan.{Plan}
use Rattle.plan.specs.declared.Explored.{Explored}
use Rattle.plan.specs.Machine.{machine, Task}
use Rattle.plan.specs.Simulated.{PlanAsked, PlanMade, row_accepts, simulates, question_task, start_fits}
use Rattle.explore.specs.Outcome.{Ready, Numbered}
use Rattle.explore.specs.Question.{NumberedQuestion, numbered_question}
use Rattle.decide.specs.Start.{StartPut}
use Rattle.decide.specs.Lends.{DecideLends, constants_long, keys_long}

module _ {q : Question} {atoms : Kinds} {rows : ℕ} {keys₀ : List ℤ} {path₀ : List ℕ} (ask : DecideLends q atoms rows keys₀ path₀) {sums : List ℤ} where
  pub asks_plan : Sums q.n atoms.m q.coefficients sums → length sums ≡ (most_atoms * most_letters) → PlanAsked q atoms sums
  asks_plan s whole = record { limits = ask.limits; kinds_are = ask.kinds_are; count = ask.count; sums_are = s; whole = whole }

  module _ {plan : Plan} (made : PlanMade q sums rows true true plan) where
    width_is : plan.width ≡ atom_count q
    width_is = made.planned.tables.count

    pub asks_start : (plan.width ≤ most_atoms) × (plan.width ≤ length q.constants) × (plan.width ≤ length keys₀) × (2 ≤ length path₀)
    asks_start = rw width_is (few_atoms ask.limits, constants_long ask, keys_long ask, omega (arith, ask.some_rows, ask.path_room))

    pub start_put : {keys₁ : List ℤ} {path₁ : List ℕ} → StartPut q.constants plan.width keys₀ keys₁ path₀ path₁ → StartPut q.constants (atom_count q) keys₀ keys₁ path₀ path₁
    start_put p = rw width_is at p

    -- whether the constants accept is whether the start does
    pub start_accepts : {b r : Bool} → r ≡ truth_at plan.truths (worth_cells plan.kinds q.constants) → r ≡ b → (machine_of q).accepts (machine_of q).start ≡ b
    unfolding machine_of
    start_accepts e d =
        sym (row_accepts made.planned (record { inside = start_of_in (atoms_of q); cells = rw width_is (start_cells ask.limits) })) ∙ sym e ∙ d

    module _ {keys₁ : List ℤ} {path₁ : List ℕ} (put : StartPut q.constants plan.width keys₀ keys₁ path₀ path₁) where
      start_length : length (take plan.width q.constants) ≡ plan.width
      start_length = length-take-le plan.width q.constants asks_start.1

      keys_length : length keys₁ ≡ length keys₀
      keys_length = ap length put.keys_are ∙ at_front_length (take plan.width q.constants) keys₀ (rw start_length asks_start.2)

      path_length : length path₁ ≡ length path₀
      path_length = ap length put.path_is ∙ at_front_length (0 ∷ 0 ∷ []) path₀ asks_start.3

      start_is : take plan.width keys₁ ≡ cells_of (start_of (atoms_of q))
      start_is =
          ap (take plan.width) put.keys_are
          ∙ at_front_cells (take plan.width q.constants) keys₀ plan.width start_length
          ∙ rw width_is (start_cells ask.limits)

      same : Simulates (machine_of q) (machine plan sums keys₁) cells_of (StateIn (atoms_of q))
      same = simulates made.planned start_is

      pub task : Task plan sums
      task = question_task made.planned

      pub handed_numbered : {keys : List ℤ} {path : List ℕ} {r : Explored} → Numbered (machine plan sums keys₁) plan keys₁ path₁ keys path r → NumberedQuestion q plan keys₁ path₁ keys path r
      handed_numbered n = numbered_question q same plan n

      pub ready : (machine_of q).accepts (machine_of q).start ≡ false → Ready (machine plan sums keys₁) plan keys₁ path₁
      ready no_word = record {
        some_rows = rw made.rows_are ask.some_rows;
        lent = record {
          few_rows = rw made.rows_are ask.few_rows;
          keys_room = rw (made.rows_are, width_is, keys_length) ask.keys_room;
          path_room = rw (made.rows_are, made.notes, path_length) ask.path_room;
        };
        start_fits = start_fits made.planned keys₁ start_is;
        path_start = λ _. rw put.path_is (at_front_cells (0 ∷ 0 ∷ []) path₀ 2 refl);
        refused = λ _. rw same.start (same.accepts (machine_of q).start same.good_start ∙ no_word);
      }
