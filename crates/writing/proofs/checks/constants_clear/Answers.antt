-- `writing::checks::constants_clear` meets its contract.
use borrow.Author.Rules.{rules}
use mathlib.Core.Path.{◌∙◌}
use Rattle.writing.proofs.Sweeps.{constants_left}
use Rattle.writing.proofs.checks.constants_clear.Goals as goal

pub returns : goal.returns
returns c = c.row_clear.ensures ∙ constants_left c.args.atoms c.args.question.now.constants c.requires (search rules)
