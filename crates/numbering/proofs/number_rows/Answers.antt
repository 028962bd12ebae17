-- `numbering::number_rows` meets its contract: few rows first, which are all, or give way to all where they are full. Assumes nothing.
use Prim.Native.Nat.{ℕ}
use mathlib.Core.Path.{refl, sym}
use native.Mathlib.Nat.{le_refl}
use native.Mathlib.Omega.{arith}
use lib.ListN.{take}
use Rattle.plan.specs.Machine.{machine, Runs, machine_runs}
use Rattle.plan.specs.Moves.{with_rows}
use Rattle.explore.specs.Standing.{Lent, ExploringEnded}
use Rattle.explore.specs.Stages.{fewer_task, start_stands, more_stands, stopped_full, ended_after}
use Rattle.explore.specs.Ends.{ended_numbered}
use Rattle.numbering.proofs.Going.{start_stays}
use Rattle.numbering.proofs.number_rows.Goals as goal
use Rattle.numbering.proofs.number_rows.Goals.{After-resume_with-ended, Start}

start_runs : (s : goal.Start) → Runs s.args.plan s.args.sums.now (take s.args.plan.width s.args.keys.now) (machine s.args.plan s.args.sums.now s.args.keys.now)
start_runs s = machine_runs s.args.plan s.args.sums.now s.args.keys.now

pub resume_with-ended-requires : goal.resume_with-ended-requires
resume_with-ended-requires c =
    let r = c.requires.ready in
    let run = start_runs (goal.at.resume_with-ended-requires c).Start in
    rw (c.with_rows.ensures, c.going-start.ensures)
    (record {
      task = fewer_task c.args.plan c.min-few.result c.requires.task;
      stands =
          start_stands (machine c.args.plan c.args.sums.now c.args.keys.now) r (sym run.start_is) (rw run.letters_are c.requires.task.some_letters)
          (omega (arith, c.min-few.ensures, r.some_rows)) (omega (arith, c.min-few.ensures));
      room = (omega arith, omega arith, omega (arith, c.min-few.ensures));
    })

-- ---- few rows are explored
module _ (c : goal.After-resume_with-ended) where
  abbrev few : ℕ
  few = c.min-few.result

  ended : ExploringEnded (machine c.args.plan c.args.sums.now c.args.keys.now) (with_rows c.args.plan few) 1 c.args.keys.now c.args.path.now c.resume_with-ended.new.keys c.resume_with-ended.new.path c.resume_with-ended.result
  ended = rw (c.with_rows.ensures, c.going-start.ensures) at c.resume_with-ended.ensures

  lent : Lent c.args.plan c.resume_with-ended.new.keys c.resume_with-ended.new.path
  lent =
      let l = c.requires.ready.lent in
      record { few_rows = l.few_rows; keys_room = omega (arith, c.resume_with-ended.auto.keys, l.keys_room); path_room = omega (arith, c.resume_with-ended.auto.path, l.path_room) }

pub resume_with-requires : goal.resume_with-requires
resume_with-requires c =
    let y = c.in-Some.ensures.says in
    let at = (goal.at.resume_with-requires c).After-resume_with-ended in
    let t = more_stands (omega (arith, y.1)) (lent at) (stopped_full c.args.plan (ended at) y.0).stands in
    record {
      task = c.requires.task;
      stands = rw (start_stays (start_runs (goal.at.resume_with-requires c).Start) t) t;
      room = (omega arith, omega arith, omega (arith, c.requires.ready.lent.few_rows));
    }

pub returns-in-Some : goal.returns-in-Some
returns-in-Some c =
    let y = c.in-Some.ensures.says in
    let at = (goal.at.returns-in-Some c).After-resume_with-ended in
    let t = more_stands (omega (arith, y.1)) (lent at) (stopped_full c.args.plan (ended at) y.0).stands in
    let l = lent at in
    let run = start_runs (goal.at.returns-in-Some c).Start in
    rw c.of.ensures
    (ended_numbered (machine c.args.plan c.args.sums.now c.args.keys.now) run.lawful c.args.plan c.args.keys.now c.args.path.now
    (record { few_rows = l.few_rows; keys_room = omega (arith, c.resume_with.auto.keys, l.keys_room); path_room = omega (arith, c.resume_with.auto.path, l.path_room) })
    (le_refl c.args.plan.rows) (ended_after c.args.plan (ended at) y.0 (rw (start_stays run t) at c.resume_with.ensures)) (λ _ _. refl))

pub returns : goal.returns
returns c =
    rw c.of-2.ensures
    (ended_numbered (machine c.args.plan c.args.sums.now c.args.keys.now) (start_runs (goal.at.returns c).Start).lawful c.args.plan c.args.keys.now c.args.path.now (lent (goal.at.returns c).After-resume_with-ended)
    (omega (arith, c.min-few.ensures)) (ended (goal.at.returns c).After-resume_with-ended)
    (λ s e. omega (arith, c.min-few.ensures, c.in_default.ensures.says s e)))
