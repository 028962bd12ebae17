-- `explore::try_letter` meets its contract: each way out is one of the laws of Trying, with what the calls gave. Assumes nothing.
use Prim.Native.Nat.{◌+◌, ◌≤◌, ◌<◌}
use native.Mathlib.Omega.{arith}
use mathlib.Core.List.{List}
use lib.ListN.{take}
use lib.IntN.{ℤ}
use mathlib.Core.Path.{refl, sym, ◌∙◌}
use Rattle.step.specs.Cells.{step_cells}
use Rattle.index.specs.Index.{Finds}
use Rattle.plan.specs.Machine.{machine, Runs, machine_runs}
use Rattle.explore.specs.Standing.{FrontStays, RowAdded}
use Rattle.explore.proofs.Trying.{letter_below, stepping, row_fits_in, tried_old, tried_full, tried_found, tried_new, front_stays}
use Rattle.explore.proofs.try_letter.Goals as goal
use Rattle.explore.proofs.try_letter.Goals.{After-add_row, After-find, Start}

-- ---- at the start
module _ (s : goal.Start) where
  start_runs : Runs s.args.plan s.args.sums.now (take s.args.plan.width s.args.keys.now) (machine s.args.plan s.args.sums.now s.args.keys.now)
  start_runs = machine_runs s.args.plan s.args.sums.now s.args.keys.now

  letter_ok : s.args.s.letter < s.args.plan.letters
  letter_ok = letter_below start_runs s.requires.task s.requires.stands s.requires.row_of.below

  few_rows : s.args.s.row < 65535
  few_rows = omega (arith, s.requires.row_of.below, s.requires.stands.rows_there.count_ok, s.requires.stands.rows_there.lent.few_rows)

pub step_row-key-requires : goal.step_row-key-requires
step_row-key-requires c = (stepping (start_runs (goal.at.step_row-key-requires c).Start) c.requires.task c.requires.stands c.requires.row_of.below c.requires.row_of).stepping

pub find-requires : goal.find-requires
find-requires c =
    record { indexed = c.requires.linked.indexed; key = rw c.step_row-key.ensures (stepping (start_runs (goal.at.find-requires c).Start) c.requires.task c.requires.stands c.requires.row_of.below c.requires.row_of).keyed }

-- what was found of the target
finds : (c : goal.After-find)
    → Finds c.args.keys.now c.args.plan.width (step_cells c.args.plan.kinds 8 c.args.sums.now c.args.s.letter c.args.row) c.args.s.count c.find.result
finds c = rw c.step_row-key.ensures at c.find.ensures

pub after-requires : goal.after-requires
after-requires c = (letter_ok (goal.at.after-requires c).Start, c.requires.task.few_letters, c.requires.task.bits.below, few_rows (goal.at.after-requires c).Start)

pub returns-then-is_some : goal.returns-then-is_some
returns-then-is_some c =
    record { tried = tried_old (start_runs (goal.at.returns-then-is_some c).Start) c.requires.task c.requires.stands c.requires.row_of.below c.requires.row_of (finds (goal.at.returns-then-is_some c).After-find) (sym c.is_some.ensures ∙ c.if-is_some.true) c.requires.linked c.after.ensures; front_stays = refl }

pub returns-then-s-plan : goal.returns-then-s-plan
returns-then-s-plan c =
    record { tried = tried_full (start_runs (goal.at.returns-then-s-plan c).Start) c.requires.task c.requires.stands c.requires.row_of.below c.requires.row_of (finds (goal.at.returns-then-s-plan c).After-find) (sym c.is_some.ensures ∙ c.if-is_some.false) c.if-s-plan.true; front_stays = refl }

-- ---- the next row
pub add_row-requires : goal.add_row-requires
add_row-requires c =
    let free : c.args.s.count < c.args.plan.rows = omega (arith, c.requires.stands.rows_there.count_ok, c.if-s-plan.false) in
    record { linked = c.requires.linked; row_fits = rw c.step_row-key.ensures (row_fits_in (start_runs (goal.at.add_row-requires c).Start) c.requires.task c.requires.stands c.requires.row_of.below c.requires.row_of free c.requires.linked) }

module _ (c : goal.After-add_row) where
  free : c.args.s.count < c.args.plan.rows
  free = omega (arith, c.requires.stands.rows_there.count_ok, c.if-s-plan.false)

  abbrev key : List ℤ
  key = let a = c.args in step_cells a.plan.kinds 8 a.sums.now a.s.letter a.row

  added : let a = c.args in RowAdded a.plan a.s key a.keys.now a.path.now c.add_row.new.keys c.add_row.new.path c.add_row.new.links c.add_row.result
  added = rw c.step_row-key.ensures at c.add_row.ensures

  -- it is the next number, and the rows that were there are as they were
  one_more : c.args.s.count + 1 ≤ 65535
  one_more = omega (arith, free, c.requires.stands.rows_there.lent.few_rows)

  front : let a = c.args in FrontStays a.plan a.s a.keys.now c.add_row.new.keys
  front =
      let p = c.requires in
      front_stays (machine_runs c.args.plan c.args.sums.now c.args.keys.now) p.task p.stands p.row_of.below p.row_of
      (rw c.step_row-key.ensures at c.find.ensures) (sym c.is_some.ensures ∙ c.if-is_some.false) free added

pub returns-then-add_row : goal.returns-then-add_row
returns-then-add_row c =
    let p = c.requires in
    let at = goal.at.returns-then-add_row c in
    record {
      tried =
          rw c.going.ensures
          (tried_found (start_runs at.Start) p.task p.stands p.row_of.below p.row_of (finds at.After-find) (sym c.is_some.ensures ∙ c.if-is_some.false) (free at.After-add_row)
          (added at.After-add_row) c.if-add_row.true);
      front_stays = front at.After-add_row;
    }

pub after-requires-2 : goal.after-requires-2
after-requires-2 c =
    let at = goal.at.after-requires-2 c in
    (letter_ok at.Start, c.requires.task.few_letters, c.requires.task.bits.below, few_rows at.Start)

pub returns : goal.returns
returns c =
    let p = c.requires in
    let l = p.stands.rows_there.lent in
    let k = c.add_row.auto in
    let at = goal.at.returns c in
    let new = added at.After-add_row in
    record {
      tried =
          tried_new (start_runs at.Start) p.task p.stands p.row_of.below p.row_of (finds at.After-find) (sym c.is_some.ensures ∙ c.if-is_some.false) (free at.After-add_row) new
          (record { few_rows = l.few_rows; keys_room = omega (arith, k.keys, l.keys_room); path_room = omega (arith, k.path, l.path_room) })
          (record { indexed = new.indexed; room = omega (arith, k.links, p.linked.room) })
          c.if-add_row.false c.after-2.ensures;
      front_stays = front at.After-add_row;
    }

pub overflow_add-s : goal.overflow_add-s
overflow_add-s c = record { fits = omega (arith, one_more (goal.at.overflow_add-s c).After-add_row) }

pub overflow_add-s-2 : goal.overflow_add-s-2
overflow_add-s-2 c = record { fits = omega (arith, one_more (goal.at.overflow_add-s-2 c).After-add_row) }
