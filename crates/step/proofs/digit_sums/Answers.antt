-- `step::digit_sums` meets its contract. The invariant: the sums of the letters passed are added to.
--
use mathlib.Core.Path.{◌≡◌}
use Prim.Native.Nat.{◌<◌}
use native.Mathlib.Omega.{arith}
use Rattle.step.proofs.Doubling.{added_none, row_asked, row_added}
use Rattle.step.proofs.digit_sums.Goals as goal

pub loop-letter-init : goal.loop-letter-init
loop-letter-init c = added_none c.requires

pub digit_row-requires : goal.digit_row-requires
digit_row-requires c =
    row_asked (omega arith) c.loop-letter.invariant c.requires

pub loop-letter-preserved : goal.loop-letter-preserved
loop-letter-preserved c =
    let l : c.loop-letter.letter < c.args.count = omega arith in
    row_added l c.loop-letter.invariant c.digit_row.ensures

pub returns : goal.returns
returns c =
    let e : c.loop-letter.letter ≡ c.args.count = omega arith in
    rw e at c.loop-letter.invariant
