-- `forms::words::symbol_at` meets its contract. Assumes nothing.
use mathlib.Core.Path.{sym, ◌∙◌}
use borrow.Author.Rules.{rules}
use Rattle.forms.proofs.Wording.{reserved_read, symbol_read}
use Rattle.forms.proofs.words.symbol_at.Goals as goal

pub is_reserved-requires : goal.is_reserved-requires
is_reserved-requires c = search rules

pub returns-then-is_reserved : goal.returns-then-is_reserved
returns-then-is_reserved c = rw c.bare.ensures (reserved_read _ _ _ c.requires (sym c.is_reserved.ensures ∙ c.if-is_reserved.true))

pub returns : goal.returns
returns c = rw c.bare-2.ensures (symbol_read _ _ _ c.requires (sym c.is_reserved.ensures ∙ c.if-is_reserved.false))
