-- `numbering::explore` meets its contract. The invariant: it stands somewhere and has not stopped. The measure is how many letters of how many rows
-- there are left at most. Assumes nothing.
use mathlib.Core.Path.{refl, ◌∙◌}
use native.Mathlib.Omega.{arith}
use lib.ListN.{take}
use Rattle.std.proofs.lemmas.Result.{err_from_is_err_and}
use Rattle.plan.specs.Machine.{machine, Runs, machine_runs}
use Rattle.explore.specs.Standing.{Tried}
use Rattle.explore.proofs.Trying.{letter_below, ok_same, not_ok}
use Rattle.numbering.proofs.Going.{begins, stands, ends, goes_on_lem, stops, start_stays, less_left}
use Rattle.numbering.proofs.explore.Goals as goal
use Rattle.numbering.proofs.explore.Goals.{After-try_row, Start}

start_runs : (s : goal.Start) → Runs s.args.plan s.args.sums.now (take s.args.plan.width s.args.keys.now) (machine s.args.plan s.args.sums.now s.args.keys.now)
start_runs s = machine_runs s.args.plan s.args.sums.now s.args.keys.now

pub loop-s-init : goal.loop-s-init
loop-s-init c = (refl, refl, refl, begins c.requires.stands c.requires.linked)

pub try_row-requires : goal.try_row-requires
try_row-requires c =
    let e = c.loop-s.invariant.3 in
    record { task = c.requires.task; stands = rw (start_stays (start_runs (goal.at.try_row-requires c).Start) (stands e)) (stands e); linked = e.linked; row_lt_count = c.loop-s-test.true }

-- a row is tried
module _ (c : goal.After-try_row) where
  tried : Tried (machine c.args.plan c.args.sums.now c.args.keys.now) c.args.plan c.loop-s.s c.loop-s.keys c.loop-s.path c.try_row.new.keys c.try_row.new.path c.try_row.new.links c.try_row.result
  tried = rw (start_stays (machine_runs c.args.plan c.args.sums.now c.args.keys.now) (stands c.loop-s.invariant.3)) at c.try_row.ensures

pub returns-in_err-s : goal.returns-in_err-s
returns-in_err-s c =
    let p = err_from_is_err_and c.from_residual.result c.from_residual.ensures.1 in
    rw (p.1, p.2) (record {
      exploring_ended = stops c.loop-s.invariant.3 (tried (goal.at.returns-in_err-s c).After-try_row) c.in_err-s.was;
      linked = λ s e. absurd (not_ok e);
    })

pub loop-s-smaller : goal.loop-s-smaller
loop-s-smaller c =
    let t = stands c.loop-s.invariant.3 in
    let below = c.loop-s-test.true in
    less_left c.args.plan.rows c.loop-s.s c.in_ok-s.s (omega (arith, below, t.rows_there.count_ok))
    (omega (arith, c.requires.task.few_letters, letter_below (start_runs (goal.at.loop-s-smaller c).Start) c.requires.task t below)) ((tried (goal.at.loop-s-smaller c).After-try_row).on _ c.in_ok-s.was)

pub loop-s-preserved : goal.loop-s-preserved
loop-s-preserved c =
    (c.try_row.auto.keys ∙ c.loop-s.invariant.0, c.try_row.auto.path ∙ c.loop-s.invariant.1, c.try_row.auto.links ∙ c.loop-s.invariant.2, goes_on_lem c.loop-s.invariant.3 (tried (goal.at.loop-s-preserved c).After-try_row) c.in_ok-s.was)

pub returns : goal.returns
returns c =
    let e = c.loop-s.invariant.3 in
    record { exploring_ended = ends e c.loop-s-test.false; linked = λ s q. rw (← ok_same q) e.linked }
