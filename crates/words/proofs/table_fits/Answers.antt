-- `words::table_fits_lem` meets its contract. Assumes nothing.
use mathlib.Core.Path.{sym, ◌∙◌}
use Rattle.words.proofs.Tables.{table_ragged, table_miscounted, table_counted}
use Rattle.words.proofs.table_fits.Goals as goal

pub returns-then-cells-width-ne0 : goal.returns-then-cells-width-ne0
returns-then-cells-width-ne0 c = sym (table_ragged _ _ _ c.table_width-width.ensures c.if-cells-width-ne0.true)

pub returns-then-not-within : goal.returns-then-not-within
returns-then-not-within c =
    sym (table_miscounted _ _ _ c.table_width-width.ensures c.if-cells-width-ne0.false (sym c.within.ensures ∙ c.if-not-within.true))

pub returns : goal.returns
returns c =
    c.cells_fit.ensures ∙ sym (table_counted _ _ _ c.table_width-width.ensures c.if-cells-width-ne0.false (sym c.within.ensures ∙ c.if-not-within.false))
