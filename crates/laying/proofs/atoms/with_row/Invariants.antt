use Rattle.laying.proofs.AtomNumbers.{RowOnward}
use Rattle.laying.proofs.atoms.with_row.Given as goal

abbrev pub invariant-loop-i : goal.invariant-loop-i
invariant-loop-i l = RowOnward l.cell l.n l.numbers l.initial.row l.row l.i
