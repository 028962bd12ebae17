-- `search::spelled::Short::numbered` is safe: the word starts in its room. Assumes nothing.
use Rattle.std.proofs.Common.{◌≤◌}
use Rattle.search.proofs.spelled.Short.numbered.Given as goal

abbrev pub invariant-loop-at : goal.invariant-loop-at
invariant-loop-at l = l.start ≤ 16
