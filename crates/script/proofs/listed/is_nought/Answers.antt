-- `script::listed::is_nought` meets its contract. Assumes nothing.
use mathlib.Core.Path.{sym}
use Rattle.script.proofs.Listing.{not_nought_lem, nought_by_value}
use Rattle.script.proofs.listed.is_nought.Goals as goal

pub returns-then-form-ne-NUMERAL : goal.returns-then-form-ne-NUMERAL
returns-then-form-ne-NUMERAL c = λ text says. sym (not_nought_lem says.word_is c.if-form-ne-NUMERAL.true)

pub returns : goal.returns
returns c = λ text says. nought_by_value says.word_is c.if-form-ne-NUMERAL.false
