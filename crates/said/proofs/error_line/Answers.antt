-- `said::error_line` meets its contract: a byte's decimal has at most three digits. Assumes nothing.
use native.Mathlib.Omega.{arith}
use Rattle.told.specs.Decimal.{decimal_of_a_byte}
use Rattle.said.proofs.error_line.Goals as goal

pub put_decimal-said-requires : goal.put_decimal-said-requires
put_decimal-said-requires c = omega (arith, rw (← c.from.ensures) at (decimal_of_a_byte c.number.result c.number.type_inv))

pub put_bytes-before-requires : goal.put_bytes-before-requires
put_bytes-before-requires c = omega (arith, rw (← c.from.ensures) at (decimal_of_a_byte c.number.result c.number.type_inv))

pub put_number-end-requires : goal.put_number-end-requires
put_number-end-requires c = omega (arith, rw (← c.from.ensures) at (decimal_of_a_byte c.number.result c.number.type_inv))

pub put_bytes-requires : goal.put_bytes-requires
put_bytes-requires c = omega (arith, rw (← c.from.ensures) at (decimal_of_a_byte c.number.result c.number.type_inv))
