-- `smt::decide_held` meets its contract: what is decided is the question's bytes. Assumes nothing.
use mathlib.Core.Path.{sym, ap, ◌∙◌}
use native.Mathlib.Omega.{arith}
use Prim.Native.Nat.{ℕ}
use lib.ListN.{length-replicate}
use lib.Seq.{length-take-le}
use Rattle.told.specs.Writers.{put_as}
use Rattle.smt.specs.Solved.{said_in}
use Rattle.smt.proofs.Laws.{count_inside, held_bytes, held_accepted}
use Rattle.smt.proofs.decide_held.Goals as goal

pub slice_bounds-bytes-end : goal.slice_bounds-bytes-end
slice_bounds-bytes-end c = count_inside c.args.question _ _ _ c.write.ensures _ c.in-Ok.is

pub slice_bounds-decide_bytes-end : goal.slice_bounds-decide_bytes-end
slice_bounds-decide_bytes-end c = omega (arith, length-take-le _ c.write.new.bytes (count_inside c.args.question _ _ _ c.write.ensures _ c.in-Ok.is))

pub returns-in-Ok : goal.returns-in-Ok
returns-in-Ok c h =
    let w = c.write.ensures in
    let bytes = held_bytes c.args.question h _ (omega (arith, length-replicate {A = ℕ} 489 0)) _ (sym w.answer ∙ c.in-Ok.is) in
    put_as (ap (said_in c.args.text.now c.args.names.now c.args.question.n) bytes) (rw (c.from-n.ensures, w.buffer) at c.decide_bytes.ensures)

pub returns-in-Err : goal.returns-in-Err
returns-in-Err c h =
    let w = c.write.ensures in
    absurd (held_accepted c.args.question h _ (omega (arith, length-replicate {A = ℕ} 489 0)) _ (sym w.answer ∙ c.in-Err.is))
