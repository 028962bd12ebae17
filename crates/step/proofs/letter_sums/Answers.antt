-- `step::letter_sums` meets its contract. The invariant: the sums of the letters of the first j digits stand.
use mathlib.Core.Path.{◌≡◌, refl}
use Prim.Native.Nat.{◌<◌}
use native.Mathlib.Omega.{arith}
use Rattle.step.proofs.Doubling.{no_digits, digit_asked, digit_added}
use Rattle.step.proofs.letter_sums.Goals as goal

pub loop-j-init : goal.loop-j-init
loop-j-init c = (refl, no_digits c.requires)

pub letters-requires : goal.letters-requires
letters-requires c =
    omega (arith, c.requires.variables)

pub digit_adds-requires : goal.digit_adds-requires
digit_adds-requires c =
    let pre = c.requires in
    (pre.atoms, omega (arith, pre.variables), pre.whole)

pub digit_sums-requires : goal.digit_sums-requires
digit_sums-requires c =
    rw (c.letters.ensures.0, c.digit_adds.ensures)
    (digit_asked c.requires (omega arith) c.loop-j.invariant.1 c.loop-j.invariant.0)

pub loop-j-preserved : goal.loop-j-preserved
loop-j-preserved c =
    let l : c.loop-j.j < c.args.n = omega arith in
    let r = rw (c.letters.ensures.0, c.digit_adds.ensures) at c.digit_sums.ensures in
    (r.whole, digit_added c.requires l c.loop-j.invariant.1 r)

pub returns : goal.returns
returns c =
    let e : c.loop-j.j ≡ c.args.n = omega arith in
    rw e at c.loop-j.invariant.1
