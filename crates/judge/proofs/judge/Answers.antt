-- `judge::judge` meets its contract: what was read decides.
use Rattle.std.proofs.Common.{sym, ◌∙◌}
use Rattle.std.proofs.lemmas.Result.{err_from_is_err_and}
use Rattle.judge.proofs.Judging.{judged_accepted, judged_refused, read_within}
use Rattle.judge.proofs.judge.Goals as goal

pub judge_question-requires : goal.judge_question-requires
judge_question-requires c = read_within _ _ c.in_ok-read_into.ensures

pub returns-in_err-read_into : goal.returns-in_err-read_into
returns-in_err-read_into c =
    let p = err_from_is_err_and c.from_residual.result c.from_residual.ensures.1 in
    rw (p.1, p.2) (sym (judged_refused _ c.args.values.now _ c.in_err-read_into.ensures))

pub returns : goal.returns
returns c = c.judge_question.ensures ∙ sym (judged_accepted _ c.args.values.now _ c.in_ok-read_into.ensures)
