-- `importing::commands::lay_command` meets its contract. Assumes nothing.
use mathlib.Core.Path.{sym, ◌∙◌}
use native.Mathlib.Omega.{arith}
use Rattle.std.proofs.lemmas.Result.{err_from_is_err_and}
use Rattle.importing.proofs.Turns.{count_few, names_stand_so_far, form_further, command_turned, declared_laid, passed_laid, parts_listed, parts_inside, signed_laid, asserted_next, first_faultless, assertion_limit, assertion_behind}
use Rattle.importing.proofs.commands.lay_command.Goals as goal

pub form_at-form-requires : goal.form_at-form-requires
form_at-form-requires c = c.requires.1.0.here

pub command_at-command-requires : goal.command_at-command-requires
command_at-command-requires c = c.form_at-form.ensures.stands.inside

pub list_end-next-requires : goal.list_end-next-requires
list_end-next-requires c = c.form_at-form.ensures.stands.inside

pub overflow_add-result : goal.overflow_add-result
overflow_add-result c =
    omega (arith, count_few _ _ _ c.requires.0 c.requires.1.0, c.requires.0.few)

pub returns-in-DeclareConst : goal.returns-in-DeclareConst
returns-in-DeclareConst c =
    let turn = command_turned _ _ _ c.requires.0 c.requires.1.0 c.requires.1.1 _ c.form_at-form.ensures.read _ c.command_at-command.ensures.read _ c.list_end-next.ensures.closed in
    let on = form_further _ _ _ c.requires.0 c.requires.1.0 c.requires.1.1 _ c.form_at-form.ensures.read c.form_at-form.ensures.stands in
    record {
      further = (omega (arith, on, c.list_end-next.ensures.stands.0), c.list_end-next.ensures.stands.1);
      laid = declared_laid _ _ _ c.requires.0 c.requires.1.0 c.requires.1.1 _ _ c.list_end-next.ensures.stands.1 turn c.in-DeclareConst.is;
    }

pub returns-in_default-name : goal.returns-in_default-name
returns-in_default-name c =
    let turn = command_turned _ _ _ c.requires.0 c.requires.1.0 c.requires.1.1 _ c.form_at-form.ensures.read _ c.command_at-command.ensures.read _ c.list_end-next.ensures.closed in
    let on = form_further _ _ _ c.requires.0 c.requires.1.0 c.requires.1.1 _ c.form_at-form.ensures.read c.form_at-form.ensures.stands in
    record {
      further = (omega (arith, on, c.list_end-next.ensures.stands.0), c.list_end-next.ensures.stands.1);
      laid = passed_laid _ _ _ c.requires.0 c.requires.1.0 c.requires.1.1 _ _ c.list_end-next.ensures.stands.1 turn c.in_default.not-DeclareConst c.in_default-name.not-Assert;
    }

pub signed_name-requires : goal.signed_name-requires
signed_name-requires c =
    let turn = command_turned _ _ _ c.requires.0 c.requires.1.0 c.requires.1.1 _ c.form_at-form.ensures.read _ c.command_at-command.ensures.read _ c.list_end-next.ensures.closed in
    (parts_listed _ _ _ c.requires.0 c.requires.1.0 c.requires.1.1 _ _ c.list_end-next.ensures.stands.1 turn c.in-Assert.is c.command_at-command.ensures.inside.0, names_stand_so_far _ _ _ c.requires.0 c.requires.1.0)

pub returns-then-is_some : goal.returns-then-is_some
returns-then-is_some c =
    let turn = command_turned _ _ _ c.requires.0 c.requires.1.0 c.requires.1.1 _ c.form_at-form.ensures.read _ c.command_at-command.ensures.read _ c.list_end-next.ensures.closed in
    let on = form_further _ _ _ c.requires.0 c.requires.1.0 c.requires.1.1 _ c.form_at-form.ensures.read c.form_at-form.ensures.stands in
    record {
      further = (omega (arith, on, c.list_end-next.ensures.stands.0), c.list_end-next.ensures.stands.1);
      laid = signed_laid _ _ _ c.requires.0 c.requires.1.0 c.requires.1.1 _ _ c.list_end-next.ensures.stands.1 turn c.in-Assert.is _ c.signed_name.ensures (sym c.is_some.ensures ∙ c.if-is_some.true);
    }

pub lay_assertion-requires : goal.lay_assertion-requires
lay_assertion-requires c =
    let turn = command_turned _ _ _ c.requires.0 c.requires.1.0 c.requires.1.1 _ c.form_at-form.ensures.read _ c.command_at-command.ensures.read _ c.list_end-next.ensures.closed in
    let asserts = c.in-Assert.is in
    let next = asserted_next _ _ _ c.requires.0 c.requires.1.0 c.requires.1.1 _ _ c.list_end-next.ensures.stands.1 turn asserts _ c.signed_name.ensures (sym c.is_some.ensures ∙ c.if-is_some.false) in (
      names_stand_so_far _ _ _ c.requires.0 c.requires.1.0,
      (parts_inside _ _ _ c.requires.0 c.requires.1.0 c.requires.1.1 _ _ c.list_end-next.ensures.stands.1 turn asserts c.command_at-command.ensures.inside.0, (c.requires.1.0.ready, first_faultless _ _ _ c.requires.0 c.requires.1.0 c.requires.1.1 _ _ c.list_end-next.ensures.stands.1 turn asserts next)),
    )

pub returns : goal.returns
returns c =
    let turn = command_turned _ _ _ c.requires.0 c.requires.1.0 c.requires.1.1 _ c.form_at-form.ensures.read _ c.command_at-command.ensures.read _ c.list_end-next.ensures.closed in
    let on = form_further _ _ _ c.requires.0 c.requires.1.0 c.requires.1.1 _ c.form_at-form.ensures.read c.form_at-form.ensures.stands in
    let next = asserted_next _ _ _ c.requires.0 c.requires.1.0 c.requires.1.1 _ _ c.list_end-next.ensures.stands.1 turn c.in-Assert.is _ c.signed_name.ensures (sym c.is_some.ensures ∙ c.if-is_some.false) in
    record {
      further = (omega (arith, on, c.list_end-next.ensures.stands.0), c.list_end-next.ensures.stands.1);
      laid = assertion_behind _ _ _ c.requires.0 c.requires.1.0 c.requires.1.1 _ _ c.list_end-next.ensures.stands.1 turn c.in-Assert.is next _ (rw c.in_ok-laying.was at c.lay_assertion.ensures);
    }

pub returns-in_err-laying-clause-laid : goal.returns-in_err-laying-clause-laid
returns-in_err-laying-clause-laid c =
    let turn = command_turned _ _ _ c.requires.0 c.requires.1.0 c.requires.1.1 _ c.form_at-form.ensures.read _ c.command_at-command.ensures.read _ c.list_end-next.ensures.closed in
    let next = asserted_next _ _ _ c.requires.0 c.requires.1.0 c.requires.1.1 _ _ c.list_end-next.ensures.stands.1 turn c.in-Assert.is _ c.signed_name.ensures (sym c.is_some.ensures ∙ c.if-is_some.false) in
    let p = err_from_is_err_and c.from_residual.result c.from_residual.ensures.1 in
    rw (p.1, p.2) (assertion_limit _ _ _ c.requires.0 c.requires.1.0 c.requires.1.1 _ _ c.list_end-next.ensures.stands.1 turn c.in-Assert.is next _ (rw c.in_err-laying.was at c.lay_assertion.ensures))

pub overflow_sub-result : goal.overflow_sub-result
overflow_sub-result c = c.requires.1.1
