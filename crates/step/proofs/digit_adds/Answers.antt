-- `step::digit_adds` meets its contract. The invariant: what is added to the first i atoms, with 0 past them.
use mathlib.Core.Path.{◌≡◌}
use Prim.Native.Nat.{◌+◌, ◌*◌, ◌<◌}
use native.Mathlib.Omega.{arith}
use lib.ListN.{get_or}
use lib.IntN.{pos}
use Rattle.theory.specs.Numbers.Bits.{read}
use Rattle.step.proofs.Doubling.{adds_none, adds_next}
use Rattle.step.proofs.digit_adds.Goals as goal

pub loop-i-init : goal.loop-i-init
loop-i-init c = adds_none c.args.coefficients.now c.args.j

pub loop-i-preserved : goal.loop-i-preserved
loop-i-preserved c =
    let i = c.loop-i.i in
    let room : i < 8 = omega arith in
    let item = read (get_or c.args.coefficients.now (6 * i + c.args.j) (pos 0)) c.adds-1.given in
    rw (item, c.loop-i.invariant) (adds_next c.args.coefficients.now c.args.j i room)

pub returns : goal.returns
returns c =
    let e : c.loop-i.i ≡ c.args.m = omega arith in
    rw (← e) c.loop-i.invariant
