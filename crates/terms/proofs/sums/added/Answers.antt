-- `terms::sums::added` meets its contract. The invariant: to the first i numbers the part's are added, and the others are as they were.
-- Assumes nothing.
use native.Mathlib.Omega.{arith}
use mathlib.Core.Path.{◌≡◌}
use lib.ListN.{length}
use mir.Syntax.{w64}
use mir.Val.{SFits}
use mir.ValLaws.{to_z-of_z}
use borrow.Author.Rules.{rules}
use Rattle.terms.specs.Seven.{lane, LaneAdded}
use Rattle.terms.proofs.Sevens.{fit_each, adding_none, adding_next}
use Rattle.terms.proofs.sums.added.Goals as goal

pub loop-i-init : goal.loop-i-init
loop-i-init c =
    let e : length c.args.sum.low ≡ 7 = search rules in
    let f : length c.args.sum.high ≡ 7 = search rules in
    adding_none e f

pub added_lane-lane-requires : goal.added_lane-lane-requires
added_lane-lane-requires c =
    let i = c.loop-i.i in
    let low = to_z-of_z w64 (lane c.loop-i.low i) (record { sfits = search rules }) in
    let high = to_z-of_z w64 (lane c.loop-i.high i) (record { sfits = search rules }) in
    let part = to_z-of_z w64 (lane c.args.part i) (record { sfits = search rules }) in
    let same = c.loop-i.invariant.left i (omega arith) in
    rw (low, high, part, same.0, same.1) (c.requires.0.lanes i c.loop-i-test.true, fit_each c.args.part i c.requires.1)

pub loop-i-preserved : goal.loop-i-preserved
loop-i-preserved c =
    let i = c.loop-i.i in
    let r = c.added_lane-lane.result in
    let low = to_z-of_z w64 (lane c.loop-i.low i) (record { sfits = search rules }) in
    let high = to_z-of_z w64 (lane c.loop-i.high i) (record { sfits = search rules }) in
    let part = to_z-of_z w64 (lane c.args.part i) (record { sfits = search rules }) in
    let is : LaneAdded (lane c.loop-i.low i) (lane c.loop-i.high i) (lane c.args.part i) r.low r.high = rw (low, high, part) at c.added_lane-lane.ensures in
    let low_fits : SFits w64 r.low = search rules in
    let high_fits : SFits w64 r.high = search rules in
    rw (to_z-of_z w64 r.low low_fits, to_z-of_z w64 r.high high_fits)
    (adding_next c.loop-i.invariant c.loop-i-test.true is)

pub returns : goal.returns
returns c = record { lanes = λ i h. c.loop-i.invariant.done i (omega (arith, c.loop-i-test.false)) }
