use Prim.Native.Nat.{◌%◌}
use mathlib.Core.Path.{◌≡◌}
use lib.ListN.{drop}
use Rattle.scope.specs.Whole.{all_from}
use Rattle.scope.specs.Running.{cell_fits}
use Rattle.words.proofs.cells_fit.Given as goal

abbrev pub invariant-loop-cell : goal.invariant-loop-cell
invariant-loop-cell l = (l.column ≡ l.cell-index % l.width) × (all_from (cell_fits l.width l.rows) l.cell-index (drop l.cell-index l.cells) ≡ all_from (cell_fits l.width l.rows) 0 l.cells)
