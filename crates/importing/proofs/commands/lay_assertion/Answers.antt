-- `importing::commands::lay_assertion` meets its contract. Assumes nothing.
use native.Mathlib.Omega.{arith}
use Rattle.std.proofs.lemmas.Result.{err_from_is_err_and}
use Rattle.importing.proofs.Assertions.{assertion_ready, assertion_refused, assertion_stopped, assertion_follows}
use Rattle.importing.proofs.commands.lay_assertion.Goals as goal

pub deepen_if-requires : goal.deepen_if-requires
deepen_if-requires c = (c.requires.1.1.0, (omega arith, omega arith))

pub returns-in_err-begun : goal.returns-in_err-begun
returns-in_err-begun c =
    let p = err_from_is_err_and c.from_residual.result c.from_residual.ensures.1 in
    rw (p.1, p.2) (assertion_refused _ _ _ c.requires.1.0 _ c.form_at-formula.ensures.read _ _ _ c.in_err-begun.ensures)

pub lay_from-requires : goal.lay_from-requires
lay_from-requires c =
    (c.requires.0, (c.requires.1.0, (assertion_ready _ _ _ _ c.requires.1.1.0 c.in_ok-begun.ensures, c.requires.1.1.1)))

pub returns-in_err-laid : goal.returns-in_err-laid
returns-in_err-laid c =
    let p = err_from_is_err_and c.from_residual-in_err-laid.result c.from_residual-in_err-laid.ensures.1 in
    rw (p.1, p.2) (assertion_stopped _ _ _ c.requires.1.0 _ c.form_at-formula.ensures.read _ _ c.requires.1.1.0 _ c.in_ok-begun.ensures _ (rw c.in_err-laid.was at c.lay_from.ensures.laid))

pub returns : goal.returns
returns c =
    assertion_follows _ _ _ c.requires.1.0 _ c.form_at-formula.ensures.read _ _ c.requires.1.1.0 _ c.in_ok-begun.ensures _ (rw c.in_ok-laid.was at c.lay_from.ensures.laid)
