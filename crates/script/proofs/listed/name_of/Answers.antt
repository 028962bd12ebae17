-- `script::listed::name_of` meets its contract. Assumes nothing.
use Rattle.script.proofs.Signing.{no_name_said, name_said}
use Rattle.script.proofs.listed.name_of.Goals as goal

pub returns-then-form-ne-SYMBOL : goal.returns-then-form-ne-SYMBOL
returns-then-form-ne-SYMBOL c = no_name_said _ c.args.count c.requires.0.word_is c.if-form-ne-SYMBOL.true

pub returns : goal.returns
returns c = name_said _ _ _ c.requires.0.word_is c.if-form-ne-SYMBOL.false c.name_index.ensures
