-- `script::commands::assert_formula` meets its contract. Assumes nothing.
use Rattle.script.proofs.Commanding.{fault_on, no_formula, two_formulas, one_formula}
use Rattle.script.proofs.commands.assert_formula.Goals as goal

pub returns-in_default : goal.returns-in_default
returns-in_default c = no_formula _ _ _ _ _ _ c.clause_from-clause.ensures.read c.in_default.is (fault_on _ _ _ _ c.with_fault.ensures)

pub returns-then-rest-ge-OPEN : goal.returns-then-rest-ge-OPEN
returns-then-rest-ge-OPEN c =
    two_formulas _ _ _ _ _ _ c.clause_from-clause.ensures.read _ c.in-Some.is _ c.form_at-rest.ensures.read c.if-rest-ge-OPEN.true (fault_on _ _ _ _ c.with_fault-then-rest-ge-OPEN.ensures)

pub returns : goal.returns
returns c = one_formula _ _ _ _ _ _ c.clause_from-clause.ensures.read _ c.in-Some.is _ c.form_at-rest.ensures.read c.if-rest-ge-OPEN.false c.with_assertion.ensures
