-- A key row as it is loaded: eight cells, of which the first are a state's and the others 0. It steps and is worth what the state is.
use Rattle.std.specs.Prelude.{◌≡◌, false, List, ℕ, ◌<◌, get_or, take, ℤ, pos}
use Rattle.std.proofs.Common.{sym, ap, ◌∙◌, inr, arith, get_or-take}
use Rattle.std.proofs.Math.Logic.{by_cases}
use Rattle.std.proofs.Math.Decide.{dec_lt}
use Rattle.std.proofs.Math.ListN.{get_or-eq_default}
use Rattle.scope.specs.Numbering.{Machine}
use Rattle.scope.specs.Sizes.{most_atoms}
use Rattle.theory.specs.Wire.Records.{kind_of_code}
use Rattle.formula.specs.Truths.{truth_at}
use Rattle.step.specs.Eight.{length_listed, get_d_listed, listed_is}
use Rattle.step.specs.Cells.{step_cells, worth_at, worth_cells, Stepping}
use Rattle.step.specs.Laws.{step_length, step_cell_lem, step_front, zero_step}
use Rattle.index.specs.Index.{Key}
use Rattle.index.specs.Laws.{key_cell_lem}
use Rattle.plan.specs.declared.Plan.{Plan}
use Rattle.plan.specs.Machine.{KeyRow, Task, Runs}

pub record Loaded (plan : Plan) (state row : List ℤ) : Type 0 where
  pub cells : take plan.width row ≡ state
  pub key : Key plan.width row

-- the row's cells can be stepped, and its target is a key
pub record Steps (plan : Plan) (sums : List ℤ) (letter : ℕ) (row : List ℤ) : Type 0 where
  pub stepping : Stepping sums letter row
  pub keyed : Key plan.width (step_cells plan.kinds most_atoms sums letter row)

-- a key is worth what its cells are
key_worths : (kinds : List ℕ) {width : ℕ} {key : List ℤ} → Key width key → worth_cells kinds key ≡ worth_cells kinds (take width key)
unfolding worth_cells
key_worths kinds {width} {key} k =
    listed_is false (worth_at kinds key) most_atoms (worth_cells kinds (take width key)) (length_listed (worth_at kinds (take width key)) most_atoms)
    (λ i h. sym (get_d_listed (worth_at kinds (take width key)) most_atoms i false h ∙ rw (key_cell_lem width k i)))

module _ {plan : Plan} {sums start : List ℤ} {M : Machine (List ℤ)} (runs : Runs plan sums start M) where
  pub key_accepts : {key : List ℤ} → Key plan.width key → truth_at plan.truths (worth_cells plan.kinds key) ≡ M.accepts (take plan.width key)
  key_accepts {key} k = ap (truth_at plan.truths) (key_worths plan.kinds k) ∙ sym (runs.accepts_are (take plan.width key))

  module _ (task : Task plan sums) {state row : List ℤ} (good : KeyRow plan.width state) (l : Loaded plan state row) where
    pub steps : (letter : ℕ) → letter < plan.letters → Steps plan sums letter row
    steps letter h = record {
      stepping = record {
        letter_ok = omega (arith, task.few_letters);
        cells = λ i p.
            by_cases (dec_lt i plan.width)
            (λ b. rw (← get_or-take plan.width row i (pos 0) b, l.cells) (good.fits i b))
            (λ b. rw (l.key.blank i (omega arith)) (inr (omega arith)));
        sums_fit = λ i p. task.sums_fit letter i h p;
      };
      keyed = record {
        eight = step_length plan.kinds sums letter row most_atoms;
        blank = λ i g.
            by_cases (dec_lt i most_atoms)
            (λ b.
            step_cell_lem plan.kinds sums letter row most_atoms i b
            ∙ rw (l.key.blank i g, task.blank letter i h g b) (zero_step (kind_of_code (get_or plan.kinds i 0))))
            (λ b.
            get_or-eq_default (step_cells plan.kinds most_atoms sums letter row) (pos 0) {n = i}
            (rw (step_length plan.kinds sums letter row most_atoms) (omega arith)));
      };
    }

    -- the target's cells are the state's step
    pub target_is : (letter : ℕ) → take plan.width (step_cells plan.kinds most_atoms sums letter row) ≡ M.step state letter
    target_is letter =
        step_front plan.kinds sums letter row plan.width task.narrow
        ∙ ap (step_cells plan.kinds plan.width sums letter) l.cells
        ∙ sym (runs.steps state letter)
