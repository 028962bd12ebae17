-- `script::listed::says_word` meets its contract. Assumes nothing.
use mathlib.Core.Path.{sym}
use Rattle.script.proofs.Listing.{symbol_is, no_symbol}
use Rattle.script.proofs.listed.says_word.Goals as goal

pub returns-then-form-ne-SYMBOL : goal.returns-then-form-ne-SYMBOL
returns-then-form-ne-SYMBOL c = sym (no_symbol c.requires.word_is c.if-form-ne-SYMBOL.true _)

pub returns : goal.returns
returns c = rw (symbol_is c.requires.word_is c.if-form-ne-SYMBOL.false) c.spelt.ensures
