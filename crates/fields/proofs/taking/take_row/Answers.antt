-- `fields::taking::take_row` meets its contract: what is still to be taken leads to the whole.
use native.Mathlib.Omega.{arith}
use mathlib.Core.Path.{◌≡◌, sym, ap, ◌∙◌}
use mathlib.Core.Bool.{Bool, true, false}
use Prim.Native.Nat.{◌+◌, ◌*◌}
use mir.Syntax.{w32}
use mir.Val.{to_z, of_z}
use mir.ValLaws.{to_z-of_z}
use Rattle.scope.specs.Sizes.{coefficient_fits}
use Rattle.scope.specs.Wire.{number_at}
use Rattle.fields.proofs.Bodies.{taken_again, taken_not, taken_whole}
use Rattle.fields.proofs.taking.take_row.Goals as goal
use Rattle.fields.proofs.taking.take_row.Goals.{After-number_at-number}

number : (c : goal.After-number_at-number) → to_z w32 (of_z w32 c.number_at-number.result) ≡ number_at c.args.bytes.now (c.args.start + 4 * c.loop-i.i)
number c = to_z-of_z w32 _ (record { sfits = c.number_at-number.type_inv }) ∙ c.number_at-number.ensures

fits : (c : goal.After-number_at-number) (v t : Bool) → v ≡ coefficient_fits (to_z w32 (of_z w32 c.number_at-number.result)) → v ≡ t → coefficient_fits (number_at c.args.bytes.now (c.args.start + 4 * c.loop-i.i)) ≡ t
fits c v t r e = ap coefficient_fits (sym (number c)) ∙ sym r ∙ e

pub returns-then-not-coefficient_fits : goal.returns-then-not-coefficient_fits
returns-then-not-coefficient_fits c =
    taken_not c.args.bytes.now c.args.start c.args.n c.args.cell c.args.coefficients.now c.loop-i.coefficients c.loop-i.i c.loop-i.invariant c.loop-i.coefficients (omega arith) (fits (goal.at.returns-then-not-coefficient_fits c).After-number_at-number _ false c.coefficient_fits.ensures c.if-not-coefficient_fits.true)

pub loop-i-preserved : goal.loop-i-preserved
loop-i-preserved c =
    taken_again c.args.bytes.now c.args.start c.args.n c.args.cell c.args.coefficients.now c.loop-i.coefficients c.loop-i.i c.loop-i.invariant _ (number (goal.at.loop-i-preserved c).After-number_at-number) (omega arith) (fits (goal.at.loop-i-preserved c).After-number_at-number _ true c.coefficient_fits.ensures c.if-not-coefficient_fits.false)

pub returns : goal.returns
returns c =
    taken_whole c.args.bytes.now c.args.start c.args.n c.args.cell c.args.coefficients.now c.loop-i.coefficients c.loop-i.i c.loop-i.invariant (omega arith)
