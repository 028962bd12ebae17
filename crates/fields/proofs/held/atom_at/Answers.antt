-- `fields::held::atom_at` meets its contract: the row, and then the constant; the first beyond its limit is refused.
use borrow.Author.Rules.{rules}
use native.Mathlib.Omega.{arith}
use mathlib.Core.Path.{◌≡◌, sym, ap, ◌∙◌}
use mathlib.Core.Bool.{Bool, true, false}
use Rattle.std.proofs.Common.{Err}
use lib.IntN.{pos}
use lib.ListN.{get_or, take, drop}
use Prim.Native.Nat.{◌+◌, ◌-◌, ◌*◌}
use mir.Syntax.{w32}
use mir.ValLaws.{to_z-of_z}
use Rattle.std.specs.List.{list_all}
use Rattle.scope.specs.Sizes.{most_variables, coefficient_fits, constant_fits}
use Rattle.fields.proofs.Answered.{all_said, held_coefficient_beyond, held_constant_beyond, numbers_within}
use Rattle.fields.proofs.held.atom_at.Goals as goal
use Rattle.fields.proofs.held.atom_at.Goals.{After-constant_fits, After-row_fits}

row_is : (c : goal.After-row_fits) (t : Bool) → c.row_fits.result ≡ t → list_all coefficient_fits (take c.args.question.now.n (drop (most_variables * c.args.atom) c.args.question.now.coefficients)) ≡ t
row_is c t e =
    let first = most_variables * c.args.atom in
    let d : first + c.from.result - first ≡ c.args.question.now.n = omega (arith, c.from.ensures) in
    sym (rw d at c.row_fits.ensures ∙ all_said coefficient_fits (take c.args.question.now.n (drop first c.args.question.now.coefficients))) ∙ e

constant_is : (c : goal.After-constant_fits) (t : Bool) → c.constant_fits.result ≡ t → constant_fits (get_or c.args.question.now.constants c.args.atom (pos 0)) ≡ t
constant_is c t e =
    let z = get_or c.args.question.now.constants c.args.atom (pos 0) in
    sym (simp (to_z-of_z w32 z (record { sfits = search rules })) at c.constant_fits.ensures) ∙ e

pub returns-then-not-row_fits : goal.returns-then-not-row_fits
returns-then-not-row_fits c =
    ap Err c.at.ensures
    ∙ held_coefficient_beyond c.args.question.now c.args.atom c.args.node c.args.code (row_is (goal.at.returns-then-not-row_fits c).After-row_fits false c.if-not-row_fits.true)

pub returns-then-not-constant_fits : goal.returns-then-not-constant_fits
returns-then-not-constant_fits c =
    ap Err c.at-then-not-constant_fits.ensures
    ∙ held_constant_beyond c.args.question.now c.args.atom c.args.node c.args.code
    (row_is (goal.at.returns-then-not-constant_fits c).After-row_fits true c.if-not-row_fits.false) (constant_is (goal.at.returns-then-not-constant_fits c).After-constant_fits false c.if-not-constant_fits.true)

pub returns : goal.returns
returns c =
    numbers_within c.args.question.now c.args.atom c.args.node c.args.code
    (row_is (goal.at.returns c).After-row_fits true c.if-not-row_fits.false) (constant_is (goal.at.returns c).After-constant_fits true c.if-not-constant_fits.false)
