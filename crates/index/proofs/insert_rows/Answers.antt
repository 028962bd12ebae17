-- `index::insert_rows` meets its contract. The invariant: the rows before `row` are indexed. The measure is count less `row`.
use mathlib.Core.Path.{refl, ◌∙◌}
use native.Mathlib.Nat.{le_antisymm}
use native.Mathlib.Omega.{arith}
use borrow.Author.Rules.{rules}
use Rattle.index.specs.Rows.{row_end}
use Rattle.index.specs.Index.{Room}
use Rattle.index.specs.Laws.{more_indexed}
use Rattle.index.proofs.insert_rows.Goals as goal
use Rattle.index.proofs.insert_rows.Goals.{In-loop-row}

-- in a turn there is room for the row
room : (c : goal.In-loop-row) → Room c.args.keys.now c.args.width c.loop-row.links c.loop-row.row
room c =
    let sized = c.requires.index_sized in
    let row = c.loop-row.row in
    let h = c.loop-row-test.true in
    record {
      number = omega (arith, sized.few_rows, h);
      link = omega (arith, sized.link, h, c.loop-row.invariant.long);
      cells = omega (arith, sized.cells, row_end row c.args.count c.args.width h);
    }

pub loop-row-init : goal.loop-row-init
loop-row-init c = record { low = search rules; long = refl; indexed = c.requires.indexed }

pub load_row-key-requires : goal.load_row-key-requires
load_row-key-requires c = (c.requires.index_sized.narrow, (room c).cells)

pub insert-requires : goal.insert-requires
insert-requires c =
    let r = room (goal.at.insert-requires c).In-loop-row in
    record { key_len = c.load_row-key.ensures.1.eight; count_bound = (r.link, c.loop-row.invariant.indexed.sized.few_buckets, r.number) }

pub loop-row-preserved : goal.loop-row-preserved
loop-row-preserved c =
    let loaded = c.load_row-key.ensures in
    let inv = c.loop-row.invariant in
    record {
      low = search rules;
      long = c.insert.auto.links ∙ inv.long;
      indexed = rw c.insert.ensures (more_indexed inv.indexed (room (goal.at.loop-row-preserved c).In-loop-row) loaded.1 loaded.0);
    }

pub shape_of-links : goal.shape_of-links
shape_of-links c = c.loop-row.invariant.long

pub returns : goal.returns
returns c = rw (le_antisymm c.loop-row.invariant.low c.loop-row-test.false) at c.loop-row.invariant.indexed
