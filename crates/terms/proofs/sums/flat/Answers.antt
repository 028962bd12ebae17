-- `terms::sums::flat` meets its contract. The invariant: the first i numbers stand there. Assumes nothing.
use native.Mathlib.Omega.{arith}
use mir.Syntax.{w64}
use mir.ValLaws.{to_z-of_z}
use borrow.Author.Rules.{rules}
use Rattle.terms.specs.Seven.{lane, LaneFlat}
use Rattle.terms.proofs.Sevens.{filled_none, filled_next}
use Rattle.terms.proofs.sums.flat.Goals as goal

pub flat_lane-requires : goal.flat_lane-requires
flat_lane-requires c =
    let i = c.loop-i.i in
    rw (to_z-of_z w64 (lane c.args.sum.low i) (record { sfits = search rules })) (c.requires.lanes i c.loop-i-test.true)

pub loop-i-preserved : goal.loop-i-preserved
loop-i-preserved c =
    let a = c.args.sum in
    let i = c.loop-i.i in
    let low = to_z-of_z w64 (lane a.low i) (record { sfits = search rules }) in
    let high = to_z-of_z w64 (lane a.high i) (record { sfits = search rules }) in
    let is : LaneFlat (lane a.low i) (lane a.high i) c.flat_lane.result = rw (low, high) at c.flat_lane.ensures in
    rw (to_z-of_z w64 c.flat_lane.result (record { sfits = c.flat_lane.type_inv })) (filled_next c.loop-i.invariant c.loop-i-test.true is)

pub returns : goal.returns
returns c =
    let f = c.loop-i.invariant in
    record { seven = f.seven; lanes = λ i h. f.cells i (omega (arith, c.loop-i-test.false)) }

pub loop-i-init : goal.loop-i-init
loop-i-init c = filled_none
