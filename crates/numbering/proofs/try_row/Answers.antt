-- `numbering::try_row` meets its contract. The invariant: it stands at the row, or past it, and the row's cells are as they were. The measure is how
-- many letters of how many rows there are left at most. Assumes nothing.
use mathlib.Core.Path.{refl, ◌∙◌}
use native.Mathlib.Omega.{arith}
use lib.ListN.{take}
use Rattle.std.proofs.lemmas.Result.{err_from_is_err_and}
use Rattle.plan.specs.Machine.{machine, Runs, machine_runs}
use Rattle.explore.specs.Standing.{Tried}
use Rattle.explore.proofs.Trying.{letter_below, row_within}
use Rattle.numbering.proofs.Going.{stands, enters, row_of_lem, leaves, again, ends_there, start_stays, less_left}
use Rattle.numbering.proofs.try_row.Goals as goal
use Rattle.numbering.proofs.try_row.Goals.{After-try_letter, Start}

start_runs : (s : goal.Start) → Runs s.args.plan s.args.sums.now (take s.args.plan.width s.args.keys.now) (machine s.args.plan s.args.sums.now s.args.keys.now)
start_runs s = machine_runs s.args.plan s.args.sums.now s.args.keys.now

pub load_row-row-requires : goal.load_row-row-requires
load_row-row-requires c = (c.requires.task.narrow, row_within (start_runs (goal.at.load_row-row-requires c).Start) c.requires.task c.requires.stands c.requires.row_lt_count)

pub loop-s-init : goal.loop-s-init
loop-s-init c = (refl, refl, refl, enters c.requires.stands c.requires.linked)

pub try_letter-requires : goal.try_letter-requires
try_letter-requires c =
    let row = c.load_row-row.ensures in
    let t = c.loop-s.invariant.3 in
    let at = stands t.exploring in
    record { task = c.requires.task; stands = rw (start_stays (start_runs (goal.at.try_letter-requires c).Start) at) at; linked = t.exploring.linked; row_of = row_of_lem t c.requires.row_lt_count row.0 row.1 c.loop-s-test.true }

-- a letter is tried
module _ (c : goal.After-try_letter) where
  tried : Tried (machine c.args.plan c.args.sums.now c.args.keys.now) c.args.plan c.loop-s.s c.loop-s.keys c.loop-s.path c.try_letter.new.keys c.try_letter.new.path c.try_letter.new.links c.try_letter.result
  tried = rw (start_stays (machine_runs c.args.plan c.args.sums.now c.args.keys.now) (stands c.loop-s.invariant.3.exploring)) at c.try_letter.ensures.tried

pub returns-in_err-s : goal.returns-in_err-s
returns-in_err-s c =
    let p = err_from_is_err_and c.from_residual.result c.from_residual.ensures.1 in
    rw (p.1, p.2)
    (ends_there c.loop-s.invariant.3 c.requires.row_lt_count (tried (goal.at.returns-in_err-s c).After-try_letter) c.try_letter.ensures.front_stays c.in_err-s.was)

pub loop-s-smaller : goal.loop-s-smaller
loop-s-smaller c =
    let t = stands c.loop-s.invariant.3.exploring in
    let below = (row_of_lem c.loop-s.invariant.3 c.requires.row_lt_count c.load_row-row.ensures.0 c.load_row-row.ensures.1 c.loop-s-test.true).below in
    less_left c.args.plan.rows c.loop-s.s c.in_ok-s.s (omega (arith, below, t.rows_there.count_ok))
    (omega (arith, c.requires.task.few_letters, letter_below (start_runs (goal.at.loop-s-smaller c).Start) c.requires.task t below)) ((tried (goal.at.loop-s-smaller c).After-try_letter).on _ c.in_ok-s.was)

pub loop-s-preserved : goal.loop-s-preserved
loop-s-preserved c = (
  c.try_letter.auto.keys ∙ c.loop-s.invariant.0,
  c.try_letter.auto.path ∙ c.loop-s.invariant.1,
  c.try_letter.auto.links ∙ c.loop-s.invariant.2,
  again c.loop-s.invariant.3 c.requires.row_lt_count (tried (goal.at.loop-s-preserved c).After-try_letter) c.try_letter.ensures.front_stays c.in_ok-s.was,
)

pub returns : goal.returns
returns c = leaves c.loop-s.invariant.3 c.requires.row_lt_count c.loop-s-test.false
