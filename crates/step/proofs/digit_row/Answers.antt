-- `step::digit_row` meets its contract. The invariant: the first i sums are added to.
use mathlib.Core.Path.{◌≡◌}
use Prim.Native.Nat.{◌+◌, ◌<◌}
use native.Mathlib.Omega.{arith}
use lib.ListN.{get_or}
use lib.IntN.{pos}
use mir.ValLaws.{to_z-of_z}
use mir.Syntax.{w32}
use Rattle.theory.specs.Numbers.Bits.{read}
use Rattle.step.proofs.Doubling.{added_none, next_fits, added_next}
use Rattle.step.proofs.digit_row.Goals as goal

pub loop-i-init : goal.loop-i-init
loop-i-init c = added_none c.requires

pub overflow_add-sums-in-loop-i : goal.overflow_add-sums-in-loop-i
overflow_add-sums-in-loop-i c =
    let i = c.loop-i.i in
    let sum = read (get_or c.loop-i.sums (c.args.from + i) (pos 0)) c.sums-1.given in
    let add = read (get_or c.args.adds i (pos 0)) c.sums-in-loop-i-1.given in
    rw (sum, add) (next_fits c.requires i (omega arith) c.loop-i.invariant)

pub loop-i-preserved : goal.loop-i-preserved
loop-i-preserved c =
    let h : c.loop-i.i < 8 = omega arith in
    let sum = read (get_or c.loop-i.sums (c.args.from + c.loop-i.i) (pos 0)) c.sums-1.given in
    let add = read (get_or c.args.adds c.loop-i.i (pos 0)) c.sums-in-loop-i-1.given in
    rw (sum, add, to_z-of_z w32 _ (next_fits c.requires c.loop-i.i h c.loop-i.invariant))
    (added_next c.requires c.loop-i.i h c.loop-i.invariant)

pub returns : goal.returns
returns c =
    let e : c.loop-i.i ≡ 8 = omega arith in
    rw e at c.loop-i.invariant
