-- `told::put_number` meets its contract. Assumes nothing.
use native.Mathlib.Omega.{arith}
use Rattle.told.specs.Decimal.{decimal_of_64_bits}
use Rattle.told.specs.Writers.{put_both}
use Rattle.told.proofs.put_number.Goals as goal

pub put_decimal-requires : goal.put_decimal-requires
put_decimal-requires c =
    omega (arith, decimal_of_64_bits c.args.v c.ranges.v.fits)

pub returns : goal.returns
returns c =
    (put_both c.put_byte-start.ensures c.put_decimal.ensures, omega (arith, decimal_of_64_bits c.args.v c.ranges.v.fits))
