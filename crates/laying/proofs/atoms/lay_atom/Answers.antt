-- `laying::atoms::lay_atom` meets its contract.
use native.Mathlib.Omega.{arith}
use mathlib.Core.Path.{◌≡◌, refl, sym, ◌∙◌}
use mathlib.Core.Bool.{true}
use lib.ListN.{get_or, drop}
use lib.IntN.{pos, neg_ℤ}
use mir.Syntax.{w64}
use mir.Val.{to_z, of_z}
use mir.ValLaws.{to_z-of_z}
use Rattle.std.specs.List.{list_all}
use Rattle.scope.specs.Sizes.{coefficient_fits}
use Rattle.smtlib.specs.Formulas.{lowered}
use Rattle.terms.specs.Heads.{word_code}
use Rattle.laying.specs.Laid.{node_room}
use Rattle.laying.specs.Noted.{relation_of}
use Rattle.laying.proofs.OneNode.{room_for_lem, no_room_lem, coefficient_beyond, constant_beyond, comparison_laid_lem}
use Rattle.laying.proofs.AtomNumbers.{collected_small}
use Rattle.laying.proofs.atoms.lay_atom.Goals as goal
use Rattle.laying.proofs.atoms.lay_atom.Goals.{After-coefficients_fit, After-constant_fits}

pub returns-then-not-has_room : goal.returns-then-not-has_room
returns-then-not-has_room c =
    record { laid = rw c.at.ensures (no_room_lem c.args.laying.now (word_code c.args.head) c.args.place c.args.numbers (sym c.has_room.ensures ∙ c.if-not-has_room.true)); kept = refl }

-- the room that was found
room : (c : goal.After-coefficients_fit) → let l = c.args.laying.now in node_room true l.nodes l.atoms l.depth ≡ true
room c = sym c.has_room.ensures ∙ c.if-not-has_room.false

pub returns-then-not-coefficients_fit : goal.returns-then-not-coefficients_fit
returns-then-not-coefficients_fit c =
    record { laid = rw c.at-then-not-coefficients_fit.ensures (coefficient_beyond c.args.laying.now (word_code c.args.head) c.args.place c.args.numbers (room (goal.at.returns-then-not-coefficients_fit c).After-coefficients_fit) (sym c.coefficients_fit.ensures ∙ c.if-not-coefficients_fit.true)); kept = refl }

pub constant_for-constant-requires : goal.constant_for-constant-requires
constant_for-constant-requires c =
    let z = get_or c.args.numbers 0 (pos 0) in
    (c.requires.1.0, (c.requires.1.1.0, rw (to_z-of_z w64 z (record { sfits = c.constant_for-arg-1.given })) (collected_small c.args.numbers c.requires.1.1.1 (omega arith))))

-- what is known where the constant is worked out
module _ (c : goal.After-constant_fits) where
  few : list_all coefficient_fits (drop 1 c.args.numbers) ≡ true
  few = sym c.coefficients_fit.ensures ∙ c.if-not-coefficients_fit.false

  constant : to_z w64 (of_z w64 c.constant_for-constant.result) ≡ lowered (relation_of (word_code c.args.head)) (neg_ℤ (get_or c.args.numbers 0 (pos 0)))
  constant = to_z-of_z w64 _ (record { sfits = c.constant_for-constant.type_inv }) ∙ rw (to_z-of_z w64 _ (record { sfits = c.constant_for-arg-1.given })) at c.constant_for-constant.ensures

pub returns-then-not-constant_fits : goal.returns-then-not-constant_fits
returns-then-not-constant_fits c =
    record { laid = rw c.at-then-not-constant_fits.ensures (constant_beyond c.args.laying.now (word_code c.args.head) c.args.place c.args.numbers (room (goal.at.returns-then-not-constant_fits c).After-coefficients_fit) (few (goal.at.returns-then-not-constant_fits c).After-constant_fits) _ (constant (goal.at.returns-then-not-constant_fits c).After-constant_fits) (sym c.constant_fits.ensures ∙ c.if-not-constant_fits.true)); kept = refl }

pub with_numbers-requires : goal.with_numbers-requires
with_numbers-requires c =
    let l = c.args.laying.now in
    (c.requires.0.few, ((room_for_lem true l.nodes l.atoms l.depth (room (goal.at.with_numbers-requires c).After-coefficients_fit)).few_atoms refl, (few (goal.at.with_numbers-requires c).After-constant_fits, sym c.constant_fits.ensures ∙ c.if-not-constant_fits.false)))

pub with_code-requires : goal.with_code-requires
with_code-requires c =
    let l = c.args.laying.now in
    rw c.with_numbers.ensures (room_for_lem true l.nodes l.atoms l.depth (room (goal.at.with_code-requires c).After-coefficients_fit)).few_nodes

pub returns : goal.returns
returns c =
    record {
      laid =
          rw (c.with_code.ensures, c.with_numbers.ensures, c.kind_code.ensures)
          (comparison_laid_lem c.args.laying.now (word_code c.args.head) c.args.place c.args.numbers (room (goal.at.returns c).After-coefficients_fit) (few (goal.at.returns c).After-constant_fits) _ (constant (goal.at.returns c).After-constant_fits) c.requires.0 (sym c.constant_fits.ensures ∙ c.if-not-constant_fits.false));
      kept = tt;
    }
