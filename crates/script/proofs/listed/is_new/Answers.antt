-- `script::listed::is_new` meets its contract. Assumes nothing.
use mathlib.Core.Path.{refl, sym, ◌∙◌}
use Rattle.std.proofs.Common.{rules}
use Rattle.script.proofs.Listing.{symbol_is, no_name, index_tells}
use Rattle.script.proofs.listed.is_new.Goals as goal

pub returns-then-form-ne-SYMBOL : goal.returns-then-form-ne-SYMBOL
returns-then-form-ne-SYMBOL c = rw (no_name c.requires.0.word_is c.if-form-ne-SYMBOL.true) refl

pub returns-then-is_theory_word : goal.returns-then-is_theory_word
returns-then-is_theory_word c = rw (symbol_is c.requires.0.word_is c.if-form-ne-SYMBOL.false, sym c.is_theory_word.ensures ∙ c.if-is_theory_word.true) refl

pub returns : goal.returns
returns c =
    let told = index_tells _ _ _ _ c.name_index.ensures in
    rw (symbol_is c.requires.0.word_is c.if-form-ne-SYMBOL.false, sym c.is_theory_word.ensures ∙ c.if-is_theory_word.false) (search (rules, told))
