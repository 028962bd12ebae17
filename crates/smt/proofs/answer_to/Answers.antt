-- `smt::answer_to` meets its contract. Assumes nothing.
use Prim.Native.Nat.{◌≤◌, ◌<◌}
use lib.ListN.{length}
use native.Mathlib.Omega.{arith}
use Rattle.smt.specs.Solved.{most_text}
use Rattle.smt.proofs.Laws.{solved_put, solved_long, given_refused, given_bounds, given_solved}
use Rattle.smt.proofs.answer_to.Goals as goal

pub returns-then-text-gt-TEXT : goal.returns-then-text-gt-TEXT
returns-then-text-gt-TEXT c =
    let h : most_text < length c.args.text.now = omega arith in
    solved_put (solved_long c.args.text.now h) c.say_alone.ensures

pub decide_held-requires : goal.decide_held-requires
decide_held-requires c =
    let h : length c.args.text.now ≤ most_text = omega arith in
    (given_bounds c.args.text.now h c.in-Ok.given c.in-Ok.ensures, c.requires)

pub returns-in-Ok : goal.returns-in-Ok
returns-in-Ok c =
    let h : length c.args.text.now ≤ most_text = omega arith in
    given_solved c.args.text.now h c.in-Ok.given c.in-Ok.ensures c.decide_held.ensures

pub returns-in-Err : goal.returns-in-Err
returns-in-Err c =
    let h : length c.args.text.now ≤ most_text = omega arith in
    solved_put (given_refused c.args.text.now h c.in-Err.refusal c.in-Err.ensures) c.say_alone-in-Err.ensures
