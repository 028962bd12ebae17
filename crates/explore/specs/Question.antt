-- What number_rows leaves of the machine of key rows is what the definitions say of the question, whose machine does the same.
use Rattle.std.specs.Prelude.{◌≡◌, refl, Bool, true, false, List, [], ◌∷◌, ℕ, ℤ}
use Rattle.std.proofs.Common.{ap, ◌∙◌}
use Rattle.scope.specs.declared.Question.{Question}
use Rattle.scope.specs.Whole.{joined, at_front}
use Rattle.scope.specs.States.{State, cells_of}
use Rattle.scope.specs.Numbering.{Machine, Rows, machine_of, numbered}
use Rattle.scope.specs.Deciding.{Verdict, found, never, no_room, counted, key_cells}
use Rattle.theory.specs.Machine.Simulation.{Simulates, rows_map, row_maps, numbered_maps, states_map, paths_map, same_verdict, same_length, same_counted}
use Rattle.plan.specs.declared.Plan.{Plan}
use Rattle.plan.specs.declared.Explored.{Explored}
use Rattle.explore.specs.Areas.{row_cells, path_rows}
use Rattle.explore.specs.Outcome.{outcome, explored_as, Numbered}

-- ---- what number_rows leaves of a machine that does the same

-- as Numbered has it, with the question's own machine and the cells of its states
pub record NumberedQuestion (q : Question) (plan : Plan) (keys₀ : List ℤ) (path₀ : List ℕ) (keys : List ℤ) (path : List ℕ) (r : Explored) : Type 0 where
  pub answer : r ≡ explored_as (machine_of q) (outcome plan.testing (machine_of q) plan.rows) plan.rows (numbered (machine_of q) plan.rows)
  pub keys_after : keys ≡ at_front (key_cells (counted (outcome plan.testing (machine_of q) plan.rows) plan.rows (numbered (machine_of q) plan.rows))) keys₀
  pub path_after : path ≡ at_front (path_rows plan.noting (counted (outcome plan.testing (machine_of q) plan.rows) plan.rows (numbered (machine_of q) plan.rows))) path₀

path_map : (d : Bool) (l : Rows State) → path_rows d (rows_map cells_of l) ≡ path_rows d l
unfolding path_rows
path_map true l = ap joined (paths_map cells_of (λ from letter. from ∷ letter ∷ []) l)
path_map false l = refl

module _ (q : Question) {M : Machine (List ℤ)} {Good : State → Type 0} (same : Simulates (machine_of q) M cells_of Good) (plan : Plan) where
  abbrev rows : ℕ
  rows = plan.rows

  abbrev verdict : Verdict
  verdict = outcome plan.testing (machine_of q) rows

  same_outcome : outcome plan.testing M rows ≡ verdict
  same_outcome = go plan.testing
    where
      go : (d : Bool) → outcome d M rows ≡ outcome d (machine_of q) rows
      go true = same_verdict same rows rows
      go false = rw (same_length same rows)

  same_explored : (v : Verdict) → explored_as M v rows (numbered M rows) ≡ explored_as (machine_of q) v rows (numbered (machine_of q) rows)
  same_explored (found w) = rw (numbered_maps same rows, row_maps same (numbered (machine_of q) rows) w)
  same_explored never = rw (same_length same rows)
  same_explored no_room = refl

  rows_map_lem : counted (outcome plan.testing M rows) rows (numbered M rows) ≡ rows_map cells_of (counted verdict rows (numbered (machine_of q) rows))
  rows_map_lem = rw same_outcome (same_counted same rows verdict rows)

  same_keys : row_cells (counted (outcome plan.testing M rows) rows (numbered M rows)) ≡ key_cells (counted verdict rows (numbered (machine_of q) rows))
  unfolding row_cells key_cells
  same_keys = rw rows_map_lem (ap joined (states_map cells_of (λ s. s) (counted verdict rows (numbered (machine_of q) rows))))

  same_path : path_rows plan.noting (counted (outcome plan.testing M rows) rows (numbered M rows))
      ≡ path_rows plan.noting (counted verdict rows (numbered (machine_of q) rows))
  same_path = rw rows_map_lem (path_map plan.noting (counted verdict rows (numbered (machine_of q) rows)))

  pub numbered_question : {keys₀ : List ℤ} {path₀ : List ℕ} {keys : List ℤ} {path : List ℕ} {r : Explored}
      → Numbered M plan keys₀ path₀ keys path r → NumberedQuestion q plan keys₀ path₀ keys path r
  numbered_question n = record {
    answer = n.answer ∙ rw same_outcome (same_explored verdict);
    keys_after = rw same_keys at n.keys_after;
    path_after = rw same_path at n.path_after;
  }
