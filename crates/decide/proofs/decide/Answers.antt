-- `decide::decide` meets its contract, by whether the bytes are accepted.
use Rattle.std.proofs.lemmas.Result.{err_from_is_err_and}
use Rattle.decide.specs.Decides.{decides_refused, within_limits_lem, decides_accepted}
use Rattle.decide.proofs.decide.Goals as goal

pub returns-in_err-read_into : goal.returns-in_err-read_into
returns-in_err-read_into c =
    let p = err_from_is_err_and c.from_residual.result c.from_residual.ensures.1 in
    rw (p.1, p.2) (decides_refused c.args.bytes.now c.args.keys.now c.args.path.now c.args.word.now _ c.in_err-read_into.ensures)

pub decide_question-requires : goal.decide_question-requires
decide_question-requires c = within_limits_lem c.args.bytes.now c.args.keys.now c.args.path.now c.args.word.now _ c.in_ok-read_into.ensures

pub returns : goal.returns
returns c = decides_accepted c.args.bytes.now c.args.keys.now c.args.path.now c.args.word.now _ c.in_ok-read_into.ensures c.decide_question.ensures
