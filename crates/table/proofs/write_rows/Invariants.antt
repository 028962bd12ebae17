use Rattle.table.specs.Table.{RowsWritten}
use Rattle.table.proofs.write_rows.Given as goal

abbrev pub invariant-loop-row : goal.invariant-loop-row
invariant-loop-row l = RowsWritten l.plan l.sums l.keys l.count l.row l.initial.table l.table
