-- `writing::checks::checked` meets its contract: n, the formula, and then what is left over.
use mathlib.Core.Path.{sym, ◌∙◌}
use Rattle.std.proofs.lemmas.Result.{err_from_is_err_and}
use Rattle.scope.specs.Sizes.{variables_fit}
use lib.Dec.{T}
use Rattle.records.proofs.Checks.{true_T}
use Rattle.writing.proofs.Checking.{n_beyond, formula_refused, code_over, number_over, nothing_over}
use Rattle.writing.proofs.checks.checked.Goals as goal
use Rattle.writing.proofs.checks.checked.Goals.{Else-not-variables_fit}

fit : (c : goal.Else-not-variables_fit) → T (variables_fit c.args.question.now.n)
fit c = true_T _ (sym c.variables_fit.ensures ∙ c.if-not-variables_fit.false)

pub returns-then-not-variables_fit : goal.returns-then-not-variables_fit
returns-then-not-variables_fit c = rw c.at.ensures (n_beyond c.args.question.now (sym c.variables_fit.ensures ∙ c.if-not-variables_fit.true))

pub returns-in_err-formula : goal.returns-in_err-formula
returns-in_err-formula c =
    let p = err_from_is_err_and c.from_residual.result c.from_residual.ensures.1 in
    rw (p.1, p.2) (formula_refused c.args.question.now (fit (goal.at.returns-in_err-formula c).Else-not-variables_fit) _ c.in_err-formula.ensures)

pub returns-in-Some : goal.returns-in-Some
returns-in-Some c =
    rw c.at-in-Some.ensures (code_over c.args.question.now (fit (goal.at.returns-in-Some c).Else-not-variables_fit) _ _ c.in_ok-formula.ensures.1 _ c.in-Some.ensures)

pub returns-then-not-numbers_clear : goal.returns-then-not-numbers_clear
returns-then-not-numbers_clear c =
    rw c.at-then-not-numbers_clear.ensures (number_over c.args.question.now (fit (goal.at.returns-then-not-numbers_clear c).Else-not-variables_fit) _ _ c.in_ok-formula.ensures.1 c.in_default.ensures (sym c.numbers_clear.ensures ∙ c.if-not-numbers_clear.true))

pub returns : goal.returns
returns c =
    (c.in_ok-formula.ensures.0, nothing_over c.args.question.now (fit (goal.at.returns c).Else-not-variables_fit) _ _ c.in_ok-formula.ensures.1 c.in_default.ensures (sym c.numbers_clear.ensures ∙ c.if-not-numbers_clear.false))
