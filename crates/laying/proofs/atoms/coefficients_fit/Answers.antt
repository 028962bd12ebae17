-- `laying::atoms::coefficients_fit` meets its contract: those from i on decide.
use mathlib.Core.Path.{◌≡◌, refl, sym, ◌∙◌}
use native.Mathlib.Omega.{arith}
use lib.ListN.{get_or}
use mir.Syntax.{w64}
use mir.ValLaws.{to_z-of_z}
use lib.IntN.{pos}
use Rattle.scope.specs.Sizes.{coefficient_fits}
use Rattle.theory.specs.Numbers.Tests.{failed, passed, all_more, all_fails, all_done}
use Rattle.laying.proofs.atoms.coefficients_fit.Goals as goal
use Rattle.laying.proofs.atoms.coefficients_fit.Goals.{After-coefficient_fits}

fits : (c : goal.After-coefficient_fits) → c.coefficient_fits.result ≡ coefficient_fits (get_or c.args.numbers c.loop-i.i (pos 0))
fits c = rw (to_z-of_z w64 _ (record { sfits = c.coefficient_fits-arg-1.given })) at c.coefficient_fits.ensures

pub returns-then-not-coefficient_fits : goal.returns-then-not-coefficient_fits
returns-then-not-coefficient_fits c =
    let numbers = c.args.numbers in
    sym (sym c.loop-i.invariant ∙ all_fails coefficient_fits numbers (pos 0) c.loop-i.i (omega arith) (failed (fits (goal.at.returns-then-not-coefficient_fits c).After-coefficient_fits) c.if-not-coefficient_fits.true-raw))

pub loop-i-preserved : goal.loop-i-preserved
loop-i-preserved c =
    let numbers = c.args.numbers in
    sym (all_more coefficient_fits numbers (pos 0) c.loop-i.i (omega arith) (passed (fits (goal.at.loop-i-preserved c).After-coefficient_fits) c.if-not-coefficient_fits.false-raw)) ∙ c.loop-i.invariant

pub returns : goal.returns
returns c = sym (all_done coefficient_fits c.args.numbers (pos 0) c.loop-i.i (omega arith)) ∙ c.loop-i.invariant

pub loop-i-init : goal.loop-i-init
loop-i-init c = refl
