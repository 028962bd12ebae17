-- `importing::import_faultless` meets its contract. Assumes nothing.
use Rattle.std.proofs.lemmas.Result.{err_from_is_err_and}
use Rattle.importing.proofs.ImportCases.{faultless_text, limit_given, few_laid, question_given}
use Rattle.importing.proofs.import_faultless.Goals as goal

pub lay_commands-requires : goal.lay_commands-requires
lay_commands-requires c =
    (faultless_text _ _ c.requires.0 c.requires.1.0 c.requires.1.1, c.requires.0.asserted_are)

pub first_bounds-requires : goal.first_bounds-requires
first_bounds-requires c =
    (faultless_text _ _ c.requires.0 c.requires.1.0 c.requires.1.1).few

pub accepted-requires : goal.accepted-requires
accepted-requires c = few_laid _ _ c.requires.0 c.requires.1.0 c.requires.1.1 _ c.in_ok-laying.ensures

pub returns : goal.returns
returns c =
    rw (c.accepted.ensures, c.first_bounds.ensures) (question_given _ _ c.requires.0 c.requires.1.0 c.requires.1.1 _ c.in_ok-laying.ensures)

pub returns-in_err-laying : goal.returns-in_err-laying
returns-in_err-laying c =
    let p = err_from_is_err_and c.from_residual.result c.from_residual.ensures.1 in
    rw (p.1, p.2) (limit_given _ _ c.requires.0 c.requires.1.0 c.requires.1.1 _ c.in_err-laying.ensures)
