-- `reading::read_into` meets its contract: nothing may be left after the end.
use Rattle.std.proofs.lemmas.Result.{err_from_is_err_and}
use Rattle.reading.proofs.Ends.{not_read, left_over, all_read}
use Rattle.reading.proofs.read_into.Goals as goal

pub returns-in_err-next : goal.returns-in_err-next
returns-in_err-next c =
    let p = err_from_is_err_and c.from_residual.result c.from_residual.ensures.1 in
    rw (p.1, p.2) (not_read c.args.bytes.now _ c.in_err-next.ensures)

pub returns-then-next-bytes : goal.returns-then-next-bytes
returns-then-next-bytes c = rw c.at.ensures (left_over c.args.bytes.now _ c.in_ok-next.ensures c.if-next-bytes.true)

pub returns : goal.returns
returns c = all_read c.args.bytes.now _ c.in_ok-next.ensures c.if-next-bytes.false
