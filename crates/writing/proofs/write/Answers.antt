-- `writing::write` meets its contract: refused, too short a buffer, or written.
use Rattle.std.proofs.lemmas.Result.{err_from_is_err_and}
use Rattle.writing.proofs.Outcomes.{writes_refused, writes_short, writes_all}
use Rattle.writing.proofs.write.Goals as goal

pub returns-in_err-formula : goal.returns-in_err-formula
returns-in_err-formula c =
    let p = err_from_is_err_and c.from_residual.result c.from_residual.ensures.1 in
    rw (p.1, p.2) (writes_refused c.args.question.now c.args.bytes.now _ c.in_err-formula.ensures)

pub returns-then-bytes-all : goal.returns-then-bytes-all
returns-then-bytes-all c =
    rw c.at.ensures (writes_short c.args.question.now c.args.bytes.now _ _ c.in_ok-formula.ensures.0 c.in_ok-formula.ensures.1 c.if-bytes-all.true)

pub returns : goal.returns
returns c =
    writes_all c.args.question.now c.args.bytes.now _ _ c.in_ok-formula.ensures.0 c.in_ok-formula.ensures.1 c.if-bytes-all.false c.put_question.new.bytes c.put_question.ensures
