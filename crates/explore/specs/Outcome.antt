-- What number_rows asks and leaves: the verdict of the machine over the rows lent, with the rows of every state counted at the areas' fronts.
-- Where no state is tested, it ends in never if the reachable states are at most the rows, and else in no room.
use Rattle.std.specs.Prelude.{ℕ, suc, ◌<◌, ◌≡◌, Bool, true, false, List, [], ◌∷◌, length, get_or, take, leb, ℤ, pos}
use Rattle.std.proofs.Math.Option.{none}
use Rattle.scope.specs.Whole.{at_front}
use Rattle.scope.specs.Numbering.{Machine, Rows, row, numbered}
use Rattle.scope.specs.Deciding.{Verdict, found, never, no_room, verdict_by, verdict, counted}
use Rattle.step.specs.Cells.{CellFits}
use Rattle.plan.specs.declared.Plan.{Plan}
use Rattle.plan.specs.declared.Explored.{Explored}
use Rattle.explore.specs.Areas.{row_cells, path_rows}
use Rattle.explore.specs.Standing.{Lent}

abbrev pub outcome : {S : Type 0} → Bool → Machine S → ℕ → Verdict
outcome true M rows = verdict M rows (numbered M rows)
outcome false M rows = verdict_by none (leb (length (numbered M rows)) rows)

-- the verdict over so many rows, where the rows l are numbered, as the code answers it: the state found has the last of the rows that count,
-- and is told by the row and the letter from which it was numbered
abbrev pub explored_as : {S : Type 0} → Machine S → Verdict → ℕ → Rows S → Explored
explored_as M (found w) rows l = Explored.Found (suc w) (row M l w).from (row M l w).letter
explored_as M never rows l = Explored.All (length l)
explored_as M no_room rows l = Explored.NoRoom rows

-- the start is row 0 already; where it is noted, its path cells stand too, and where it is tested, it does not accept
pub record Ready (M : Machine (List ℤ)) (plan : Plan) (keys : List ℤ) (path : List ℕ) : Type 0 where
  pub some_rows : 0 < plan.rows
  pub lent : Lent plan keys path
  pub start_fits : (i : ℕ) → i < plan.width → CellFits (get_or keys i (pos 0))
  pub path_start : plan.noting ≡ true → take 2 path ≡ 0 ∷ 0 ∷ []
  pub refused : plan.testing ≡ true → M.accepts M.start ≡ false

pub record Numbered (M : Machine (List ℤ)) (plan : Plan) (keys₀ : List ℤ) (path₀ : List ℕ) (keys : List ℤ) (path : List ℕ) (r : Explored) : Type 0 where
  pub answer : r ≡ explored_as M (outcome plan.testing M plan.rows) plan.rows (numbered M plan.rows)
  pub keys_after : keys ≡ at_front (row_cells (counted (outcome plan.testing M plan.rows) plan.rows (numbered M plan.rows))) keys₀
  pub path_after : path ≡ at_front (path_rows plan.noting (counted (outcome plan.testing M plan.rows) plan.rows (numbered M plan.rows))) path₀
