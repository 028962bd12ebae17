use Rattle.table.specs.Row.{Begun}
use Rattle.table.proofs.write_row.Given as goal

abbrev pub invariant-loop-letter : goal.invariant-loop-letter
invariant-loop-letter l = Begun l.plan l.sums l.keys l.count l.row l.letter l.part
