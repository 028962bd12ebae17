-- `fields::taking::take_atom` meets its contract: the row, and then the constant; the first beyond its limit is refused.
use native.Mathlib.Omega.{arith}
use mathlib.Core.Path.{◌≡◌, refl, sym, ap, ◌∙◌}
use mathlib.Core.Bool.{Bool, true, false}
use Prim.Native.Nat.{◌+◌, ◌*◌, ◌<◌}
use lib.ListN.{set}
use mir.Syntax.{w32}
use mir.Val.{to_z, of_z}
use mir.ValLaws.{to_z-of_z}
use Rattle.std.specs.Prelude.{Some}
use Rattle.scope.specs.Sizes.{most_variables, constant_fits}
use Rattle.scope.specs.Wire.{number_at, numbers_at}
use Rattle.theory.specs.Wire.Octets.{numbers_length}
use Rattle.fields.specs.Fields.{RowTaken}
use Rattle.fields.proofs.Bodies.{coefficient_beyond, constant_beyond, atom_taken}
use Rattle.fields.proofs.taking.take_atom.Goals as goal
use Rattle.fields.proofs.taking.take_atom.Goals.{After-take_row, In-Some}

-- the numbers of variables, the row that was taken, and the constant that was put
module _ (c : goal.After-take_row) where
  constant : to_z w32 (of_z w32 c.number_at-constant.result) ≡ number_at c.args.bytes.now (c.args.at + 4 + 4 * c.args.question.now.n)
  constant = to_z-of_z w32 _ (record { sfits = c.number_at-constant.type_inv }) ∙ rw c.from-n.ensures at c.number_at-constant.ensures

  put : set c.args.question.now.constants c.args.atom (to_z w32 (of_z w32 c.number_at-constant.result)) ≡ set c.args.question.now.constants c.args.atom (number_at c.args.bytes.now (c.args.at + 4 + 4 * c.args.question.now.n))
  put = ap (set c.args.question.now.constants c.args.atom) constant

  constant_is : (v t : Bool) → v ≡ constant_fits (to_z w32 (of_z w32 c.number_at-constant.result)) → v ≡ t → constant_fits (number_at c.args.bytes.now (c.args.at + 4 + 4 * c.args.question.now.n)) ≡ t
  constant_is v t r e = ap constant_fits (sym constant) ∙ sym r ∙ e

taken : (c : goal.In-Some) → RowTaken (numbers_at c.args.question.now.n c.args.bytes.now (c.args.at + 4)) (most_variables * c.args.atom) c.args.question.now.coefficients (Some c.in-Some.beyond) c.take_row.new.coefficients
taken c = rw c.from-n.ensures at c.in-Some.ensures

within : (c : goal.In-Some) → c.in-Some.beyond < c.args.question.now.n
within c = omega (arith, (taken c).1, numbers_length c.args.question.now.n c.args.bytes.now (c.args.at + 4))

pub overflow_mul-beyond : goal.overflow_mul-beyond
overflow_mul-beyond c = omega (arith, within c, c.requires.0.variables)

pub overflow_add-start-in-Some : goal.overflow_add-start-in-Some
overflow_add-start-in-Some c = omega (arith, within c, c.requires.1)

pub returns-in-Some : goal.returns-in-Some
returns-in-Some c =
    rw c.at.ensures
    (coefficient_beyond c.args.bytes.now (c.args.at + 4) c.args.question.now.n c.args.code c.args.atom c.args.question.now _ (refl, refl) (put (goal.at.returns-in-Some c).After-take_row) _ (taken (goal.at.returns-in-Some c).In-Some))

pub returns-then-not-constant_fits : goal.returns-then-not-constant_fits
returns-then-not-constant_fits c =
    rw (c.at-then-not-constant_fits.ensures, c.from-n.ensures)
    (constant_beyond c.args.bytes.now (c.args.at + 4) c.args.question.now.n c.args.code c.args.atom c.args.question.now _ (refl, refl) (put (goal.at.returns-then-not-constant_fits c).After-take_row) (rw c.from-n.ensures at c.in_default.ensures) (constant_is (goal.at.returns-then-not-constant_fits c).After-take_row _ false c.constant_fits.ensures c.if-not-constant_fits.true))

pub returns : goal.returns
returns c =
    atom_taken c.args.bytes.now (c.args.at + 4) c.args.question.now.n c.args.code c.args.atom c.args.question.now _ (refl, refl) (put (goal.at.returns c).After-take_row) (rw c.from-n.ensures at c.in_default.ensures) (constant_is (goal.at.returns c).After-take_row _ true c.constant_fits.ensures c.if-not-constant_fits.false)
