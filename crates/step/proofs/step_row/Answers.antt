-- `step::step_row` meets its contract. The invariant: the first i cells stand at the target's front.
use mathlib.Core.Path.{◌≡◌, ◌∙◌}
use mathlib.Core.List.{append-nil}
use Prim.Native.Nat.{◌+◌, ◌*◌, ◌<◌}
use native.Mathlib.Omega.{arith}
use lib.ListN.{get_or, replicate}
use lib.IntN.{pos}
use Rattle.scope.specs.Whole.{at_front}
use Rattle.theory.specs.Numbers.Bits.{read}
use Rattle.step.specs.Eight.{front_none, front_next, length_listed}
use Rattle.step.specs.Cells.{step_at, step_cells}
use Rattle.step.proofs.step_row.Goals as goal

pub loop-i-init : goal.loop-i-init
loop-i-init c = front_none _ _

pub step_cell-requires : goal.step_cell-requires
step_cell-requires c =
    let i = c.loop-i.i in
    let below : i < 8 = omega arith in
    let cell = read (get_or c.args.row i (pos 0)) c.step_cell-arg-1.given in
    let sum = read (get_or c.args.sums.now (8 * c.args.letter + i) (pos 0)) c.step_cell-arg-in-loop-i-1.given in
    rw (cell, sum) (c.requires.cells i below, c.requires.sums_fit i below)

pub loop-i-preserved : goal.loop-i-preserved
loop-i-preserved c =
    let i = c.loop-i.i in
    let f = step_at c.args.kinds c.args.sums.now c.args.letter c.args.row in
    let cell = read (get_or c.args.row i (pos 0)) c.step_cell-arg-1.given in
    let sum = read (get_or c.args.sums.now (8 * c.args.letter + i) (pos 0)) c.step_cell-arg-in-loop-i-1.given in
    let is : c.step_cell.result ≡ f i = rw (cell, sum) at c.step_cell.ensures in
    let room : i < 8 = omega arith in
    rw (read c.step_cell.result c.step_cell.type_inv, c.loop-i.invariant, is) (front_next f i (replicate 8 (pos 0)) room)

pub returns : goal.returns
unfolding step_cells at_front
returns c =
    let f = step_at c.args.kinds c.args.sums.now c.args.letter c.args.row in
    let e : c.loop-i.i ≡ 8 = omega arith in
    (rw e at c.loop-i.invariant) ∙ rw (length_listed f 8, append-nil)
