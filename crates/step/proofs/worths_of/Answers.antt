-- `step::worths_of` meets its contract. The invariant: the first i worths stand at the front.
use mathlib.Core.Path.{◌≡◌, ◌∙◌}
use mathlib.Core.Bool.{false}
use mathlib.Core.List.{append-nil}
use Prim.Native.Nat.{◌<◌}
use native.Mathlib.Omega.{arith}
use lib.ListN.{get_or, replicate}
use lib.IntN.{pos}
use Rattle.scope.specs.Whole.{at_front}
use Rattle.theory.specs.Numbers.Bits.{read}
use Rattle.step.specs.Eight.{front_none, front_next, length_listed}
use Rattle.step.specs.Cells.{worth_at, worth_cells}
use Rattle.step.proofs.worths_of.Goals as goal

pub loop-i-init : goal.loop-i-init
loop-i-init c = front_none _ _

pub loop-i-preserved : goal.loop-i-preserved
loop-i-preserved c =
    let i = c.loop-i.i in
    let f = worth_at c.args.kinds c.args.row in
    let cell = read (get_or c.args.row i (pos 0)) c.worth_cell-arg-1.given in
    let worth : c.worth_cell.result ≡ f i = rw cell at c.worth_cell.ensures in
    let room : i < 8 = omega arith in
    rw (c.loop-i.invariant, worth) (front_next f i (replicate 8 false) room)

pub returns : goal.returns
unfolding worth_cells at_front
returns c =
    let e : c.loop-i.i ≡ 8 = omega arith in
    (rw e at c.loop-i.invariant) ∙ rw (length_listed (worth_at c.args.kinds c.args.row) 8, append-nil)
