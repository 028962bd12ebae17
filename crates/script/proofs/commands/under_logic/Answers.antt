-- `script::commands::under_logic` meets its contract. Assumes nothing.
use native.Mathlib.Omega.{arith}
use mathlib.Core.Path.{sym, ap, ◌∙◌}
use Rattle.script.specs.Commands.{name_place, CommandInside}
use Rattle.script.proofs.Commanding.{declare_due, assert_due, check_sat_due, other_due}
use Rattle.script.proofs.commands.under_logic.Goals as goal

pub declare-requires : goal.declare-requires
unfolding CommandInside
declare-requires c = (c.requires.0 (λ f. omega (arith, ap name_place (sym c.in-DeclareConst.is ∙ f))), c.requires.1.0)

pub assert_any-requires : goal.assert_any-requires
unfolding CommandInside
assert_any-requires c = (c.requires.0 (λ f. omega (arith, ap name_place (sym c.in-Assert.is ∙ f))), c.requires.1)

pub check_sat-requires : goal.check_sat-requires
unfolding CommandInside
check_sat-requires c = c.requires.0 (λ f. omega (arith, ap name_place (sym c.in-CheckSat.is ∙ f)))

pub returns-in-DeclareConst : goal.returns-in-DeclareConst
returns-in-DeclareConst c = declare_due _ _ _ _ _ c.in-DeclareConst.is c.declare.ensures

pub returns-in-Assert : goal.returns-in-Assert
returns-in-Assert c = assert_due _ _ _ _ _ c.in-Assert.is c.assert_any.ensures

pub returns-in-CheckSat : goal.returns-in-CheckSat
returns-in-CheckSat c = check_sat_due _ _ _ _ _ c.in-CheckSat.is c.check_sat.ensures

pub returns-in_default : goal.returns-in_default
returns-in_default c = other_due _ _ _ _ _ c.in_default.not-DeclareConst c.in_default.not-Assert c.in_default.not-CheckSat c.with_fault.ensures
