-- `words::cells_fit` meets its contract. The invariant: the column is the cell's, and the cells from c on fit exactly if all do. Assumes nothing.
use Prim.Native.Nat.{ℕ, ◌+◌, ◌%◌}
use native.Mathlib.Nat.{mod-add-mod}
use native.Mathlib.Omega.{arith}
use mathlib.Core.Path.{◌≡◌, sym, ap, ◌∙◌}
use mathlib.Core.Bool.{cond}
use lib.ListN.{get_or}
use lib.Dec.{leb, ltb, eqb}
use Rattle.scope.specs.Running.{cell_fits}
use Rattle.theory.specs.Numbers.Tests.{all_from_more, all_from_fails, all_from_done}
use Rattle.words.proofs.cells_fit.Goals as goal
use Rattle.words.proofs.cells_fit.Goals.{After-cell_fits}

-- the test that was made is that of the cell
tested : (c : goal.After-cell_fits) → c.cell_fits.result ≡ cell_fits c.args.width c.args.rows c.loop-cell.cell-index (get_or c.args.cells.now c.loop-cell.cell-index 0)
tested c =
    let x = get_or c.args.cells.now c.loop-cell.cell-index 0 in
    c.cell_fits.ensures ∙ ap (λ (k : ℕ). cond (eqb k 0) (leb x 1) (ltb x c.args.rows)) c.loop-cell.invariant.0

pub returns-then-not-cell_fits : goal.returns-then-not-cell_fits
returns-then-not-cell_fits c =
    sym (all_from_fails _ _ 0 c.loop-cell.cell-index (omega arith) (sym (tested (goal.at.returns-then-not-cell_fits c).After-cell_fits) ∙ c.if-not-cell_fits.true)) ∙ c.loop-cell.invariant.1

pub loop-cell-preserved : goal.loop-cell-preserved
loop-cell-preserved c =
    let w = c.args.width in (
      c.column_after-column.ensures ∙ ap (λ (k : ℕ). (k + 1) % w) c.loop-cell.invariant.0 ∙ mod-add-mod c.loop-cell.cell-index w 1,
      sym (all_from_more _ _ 0 c.loop-cell.cell-index (omega arith) (sym (tested (goal.at.loop-cell-preserved c).After-cell_fits) ∙ c.if-not-cell_fits.false)) ∙ c.loop-cell.invariant.1,
    )

pub returns : goal.returns
returns c = sym (all_from_done _ _ 0 c.loop-cell.cell-index (omega arith)) ∙ c.loop-cell.invariant.1
