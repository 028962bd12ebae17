-- `table::write_row` meets its contract. The invariant: the mark and the next states of the letters passed are written.
use mathlib.Core.Path.{sym, ◌∙◌}
use native.Mathlib.Omega.{arith}
use Rattle.table.specs.Tabling.{row_room, letter_steps, target_there}
use Rattle.table.specs.Row.{mark_written, next_written, row_written}
use Rattle.table.proofs.write_row.Goals as goal

pub load_row-from-requires : goal.load_row-from-requires
load_row-from-requires c =
    let room = row_room c.requires.tabling c.args.row c.requires.row_lt_count.0 in
    (c.requires.tabling.task.narrow, omega (arith, room))

pub bounds-part-0 : goal.bounds-part-0
bounds-part-0 c = omega (arith, c.requires.row_lt_count.1)

pub loop-letter-init : goal.loop-letter-init
loop-letter-init c =
    let loaded = c.load_row-from.ensures in
    mark_written c.requires.tabling c.args.row c.requires.row_lt_count.0 loaded.0 loaded.1 c.args.part.now c.mark.result c.accepts.result c.requires.row_lt_count.1
    c.mark.ensures c.accepts.ensures

pub next_state-requires : goal.next_state-requires
next_state-requires c =
    let loaded = c.load_row-from.ensures in
    record { indexed = c.requires.indexed; steps = letter_steps c.requires.tabling c.args.row c.requires.row_lt_count.0 loaded.0 loaded.1 c.loop-letter.letter (omega arith); there = target_there c.requires.tabling c.args.row c.requires.row_lt_count.0 loaded.0 loaded.1 c.loop-letter.letter (omega arith) }

pub overflow_add-part : goal.overflow_add-part
overflow_add-part c = omega (arith, c.requires.tabling.task.few_letters)

pub offset_bounds-part-letter : goal.offset_bounds-part-letter
offset_bounds-part-letter c = omega (arith, c.requires.tabling.task.few_letters)

pub bounds-part-letter : goal.bounds-part-letter
bounds-part-letter c = omega (arith, c.loop-letter.invariant.size)

pub loop-letter-preserved : goal.loop-letter-preserved
loop-letter-preserved c =
    let loaded = c.load_row-from.ensures in
    next_written c.requires.tabling c.args.row c.requires.row_lt_count.0 loaded.0 loaded.1 (omega arith) c.loop-letter.invariant c.next_state.result
    c.next_state.ensures

pub shape_of-part : goal.shape_of-part
shape_of-part c = c.loop-letter.invariant.size ∙ sym c.requires.row_lt_count.1

pub returns : goal.returns
returns c = row_written c.requires.tabling c.args.row c.requires.row_lt_count.0 (omega arith) c.loop-letter.invariant
