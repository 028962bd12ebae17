-- `importing::import` meets its contract: what is found first decides. Assumes nothing.
use mathlib.Core.Path.{sym, ◌∙◌}
use Rattle.std.proofs.lemmas.Result.{err_from_is_err_and}
use Rattle.forms.specs.Following.{text_unbroken}
use Rattle.importing.proofs.ImportCases.{broken_given, whole_text, keeps_text, fault_given, no_fault_told}
use Rattle.importing.proofs.import.Goals as goal

pub returns-in-Some : goal.returns-in-Some
returns-in-Some c = rw c.at.ensures (broken_given _ c.in-Some.place (sym c.in-Some.is ∙ c.broken_at.ensures))

pub script_of-kept-requires : goal.script_of-kept-requires
script_of-kept-requires c = text_unbroken _ (whole_text _ (sym c.in_default.is ∙ c.broken_at.ensures))

pub fault_of-requires : goal.fault_of-requires
fault_of-requires c = c.script_of-kept.ensures.names_stand.at_most_seven

pub returns-in_err-fault_of : goal.returns-in_err-fault_of
returns-in_err-fault_of c =
    let whole = whole_text _ (sym c.in_default.is ∙ c.broken_at.ensures) in
    let p = err_from_is_err_and c.from_residual.result c.from_residual.ensures.1 in
    rw (p.1, p.2) (fault_given _ whole _ (keeps_text _ _ c.script_of-kept.ensures) _ c.fault_of.ensures _ c.in_err-fault_of.was)

pub import_faultless-requires : goal.import_faultless-requires
import_faultless-requires c =
    let whole = whole_text _ (sym c.in_default.is ∙ c.broken_at.ensures) in
    let keeps = keeps_text _ _ c.script_of-kept.ensures in
    (keeps, (whole, no_fault_told _ whole _ keeps _ c.fault_of.ensures c.in_ok-fault_of.was))
