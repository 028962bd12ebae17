-- `writing::checks::numbers_clear` meets its contract.
use mathlib.Core.Path.{sym, ◌∙◌}
use Rattle.writing.proofs.Checking.{cells_clear, cells_left}
use Rattle.writing.proofs.checks.numbers_clear.Goals as goal

pub returns-then-coefficients_clear : goal.returns-then-coefficients_clear
returns-then-coefficients_clear c =
    c.constants_clear.ensures ∙ cells_clear c.args.question.now c.args.atoms (sym c.coefficients_clear.ensures ∙ c.if-coefficients_clear.true)

pub returns-else-coefficients_clear : goal.returns-else-coefficients_clear
returns-else-coefficients_clear c = c.if-coefficients_clear.false ∙ cells_left c.args.question.now c.args.atoms (sym c.coefficients_clear.ensures ∙ c.if-coefficients_clear.false)
