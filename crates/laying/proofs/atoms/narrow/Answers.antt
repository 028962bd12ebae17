-- `laying::atoms::narrow` meets its contract.
use native.Mathlib.Omega.{arith}
use mir.Syntax.{w32, w64}
use mir.ValLaws.{to_z-of_z}
use Rattle.theory.specs.Numbers.Magnitude.{fits_abs}
use Rattle.laying.proofs.atoms.narrow.Goals as goal

pub overflow_cast-result : goal.overflow_cast-result
overflow_cast-result c = rw (to_z-of_z w64 c.args.number c.ranges.number) (fits_abs w32 c.args.number (omega (arith, c.requires)))

pub returns : goal.returns
returns c = rw (to_z-of_z w64 c.args.number c.ranges.number) (to_z-of_z w32 c.args.number (fits_abs w32 c.args.number (omega (arith, c.requires))))
