-- `laying::atoms::with_numbers` meets its contract.
use mathlib.Core.Path.{◌≡◌, refl, ◌∙◌}
use Prim.Native.Nat.{◌*◌}
use lib.ListN.{take, drop}
use lib.Seq.{sets}
use mir.Syntax.{w64, w32}
use mir.Val.{to_z, of_z}
use mir.ValLaws.{to_z-of_z}
use Rattle.theory.specs.Numbers.Bits.{read}
use Rattle.laying.proofs.atoms.with_numbers.Goals as goal

pub returns : goal.returns
returns c =
    let e : to_z w32 (of_z w32 c.narrow.result) ≡ c.args.constant = read _ c.narrow.type_inv ∙ rw (to_z-of_z w64 c.args.constant c.ranges.constant) at c.narrow.ensures in
    let f : c.with_row-laying.result ≡ sets c.args.laying.now.coefficients (6 * c.args.laying.now.atoms) (take c.args.laying.now.n (drop 1 c.args.numbers)) = c.with_row-laying.ensures in
    rw (e, f) refl
