-- `search::cells::count_right` is safe: no more states are counted than were looked at. Assumes nothing.
use Rattle.std.proofs.Common.{◌≤◌}
use Rattle.search.proofs.cells.count_right.Given as goal

abbrev pub invariant-loop-state : goal.invariant-loop-state
invariant-loop-state g l = l.all ≤ l.state
