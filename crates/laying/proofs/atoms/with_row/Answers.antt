-- `laying::atoms::with_row` meets its contract: what is still to be put gives the whole row.
use mathlib.Core.Path.{◌≡◌, ◌∙◌}
use Prim.Native.Nat.{◌+◌}
use native.Mathlib.Omega.{arith}
use lib.ListN.{get_or}
use lib.IntN.{pos}
use mir.Syntax.{w64, w32}
use mir.Val.{to_z, of_z}
use mir.ValLaws.{to_z-of_z}
use Rattle.theory.specs.Numbers.Bits.{read}
use Rattle.laying.proofs.AtomNumbers.{row_begun, row_onward, row_ended, coefficient_small}
use Rattle.laying.proofs.atoms.with_row.Goals as goal

pub loop-i-init : goal.loop-i-init
loop-i-init c = row_begun _ _ _ _

pub narrow-requires : goal.narrow-requires
narrow-requires c =
    let z = get_or c.args.numbers (c.loop-i.i + 1) (pos 0) in
    rw (to_z-of_z w64 z (record { sfits = c.narrow-arg-1.given })) (coefficient_small c.args.numbers c.loop-i.i c.requires.1.1 (omega arith))

pub loop-i-preserved : goal.loop-i-preserved
loop-i-preserved c =
    let z = get_or c.args.numbers (c.loop-i.i + 1) (pos 0) in
    let e : to_z w32 (of_z w32 c.narrow.result) ≡ z = read _ c.narrow.type_inv ∙ rw (to_z-of_z w64 z (record { sfits = c.narrow-arg-1.given })) at c.narrow.ensures in
    rw e (row_onward _ _ _ _ c.loop-i.row c.loop-i.i c.loop-i.invariant (omega arith) (omega arith))

pub returns : goal.returns
returns c = row_ended _ _ _ _ c.loop-i.row c.loop-i.i c.loop-i.invariant (omega arith)
