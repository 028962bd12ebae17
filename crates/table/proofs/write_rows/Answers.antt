-- `table::write_rows` meets its contract. The invariant: the rows before `row` are written and the cells beyond them are as they were.
use mathlib.Core.Path.{◌∙◌}
use Prim.Native.Nat.{◌+◌, ◌*◌, ◌-◌, ◌≤◌}
use native.Mathlib.Omega.{arith}
use lib.ListN.{length, length-take, length-drop}
use borrow.Rule.Slice.PartMut.{same_len_mid}
use Rattle.index.specs.Rows.{row_end}
use Rattle.table.specs.Table.{no_row_written, row_more, all_rows_written}
use Rattle.table.proofs.write_rows.Goals as goal
use Rattle.table.proofs.write_rows.Goals.{In-loop-row}

-- in a turn the row's part is within the table
within : (c : goal.In-loop-row)
    → c.loop-row.row * (1 + c.args.plan.letters) + (1 + c.args.plan.letters)
    ≤ length c.loop-row.table
within c =
    omega (arith, row_end c.loop-row.row c.args.count (1 + c.args.plan.letters) (omega arith), c.requires.letters_in_bounds, c.loop-row.invariant.size)

pub loop-row-init : goal.loop-row-init
loop-row-init c = no_row_written c.requires.tabling c.args.table.now

pub overflow_mul-at : goal.overflow_mul-at
overflow_mul-at c = let w = within c in omega (arith, w)

pub overflow_add-end : goal.overflow_add-end
overflow_add-end c = let w = within c in omega (arith, w)

pub offset_bounds-table-at : goal.offset_bounds-table-at
offset_bounds-table-at c = let w = within c in omega (arith, w)

pub slice_bounds-write_row-count : goal.slice_bounds-write_row-count
slice_bounds-write_row-count c = omega arith

pub slice_bounds-write_row-start : goal.slice_bounds-write_row-start
slice_bounds-write_row-start c = omega arith

pub slice_bounds-write_row-end : goal.slice_bounds-write_row-end
slice_bounds-write_row-end c = let w = within c in omega (arith, w)

pub write_row-requires : goal.write_row-requires
write_row-requires c =
    let w = within (goal.at.write_row-requires c).In-loop-row in
    record { tabling = c.requires.tabling; indexed = c.requires.indexed; row_lt_count = (omega arith, simp (length-take, length-drop) (omega (arith, w))) }

pub loop-row-preserved : goal.loop-row-preserved
loop-row-preserved c =
    let width = 1 + c.args.plan.letters in
    let row = c.loop-row.row in
    row_more c.requires.tabling c.args.table.now row (omega arith) c.loop-row.invariant c.write_row.new.part
    c.write_row.ensures (row * width + width - row * width) (omega arith)
    (same_len_mid (row * width) (row * width + width - row * width) c.loop-row.table c.write_row.new.part c.write_row.auto.part ∙ c.loop-row.invariant.size)

pub shape_of-table : goal.shape_of-table
shape_of-table c = c.loop-row.invariant.size

pub returns : goal.returns
returns c =
    all_rows_written c.requires.tabling c.args.table.now c.loop-row.row (omega arith) c.loop-row.invariant
