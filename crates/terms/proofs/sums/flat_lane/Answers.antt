-- `terms::sums::flat_lane` meets its contract. Assumes nothing.
use lib.Dec.{lit<}
use lib.IntN.{pos}
use mir.Syntax.{w64}
use mir.ValLaws.{to_z-of_z}
use Rattle.theory.specs.Numbers.Bits.{same_bits}
use Rattle.terms.proofs.Lanes.{flat_zero, flat_beyond}
use Rattle.terms.proofs.sums.flat_lane.Goals as goal

pub returns-then-high-eq0 : goal.returns-then-high-eq0
returns-then-high-eq0 c =
    let e = same_bits w64 c.args.high (pos 0) c.ranges.high (record { sfits = lit< tt }) c.if-high-eq0.true in
    rw (to_z-of_z w64 c.args.low c.ranges.low) (flat_zero c.args.low c.args.high e)

pub returns-else-high-eq0 : goal.returns-else-high-eq0
returns-else-high-eq0 c = flat_beyond c.args.low c.args.high c.requires (λ e. c.if-high-eq0.false (rw e))
