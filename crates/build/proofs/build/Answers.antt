-- `build::build` meets its contract, by whether the bytes are accepted.
use Rattle.std.proofs.lemmas.Result.{err_from_is_err_and}
use Rattle.build.specs.Asked.{refused_built, accepted_limits, accepted_built}
use Rattle.build.proofs.build.Goals as goal

pub returns-in_err-read_into : goal.returns-in_err-read_into
returns-in_err-read_into c =
    let p = err_from_is_err_and c.from_residual.result c.from_residual.ensures.1 in
    rw (p.1, p.2) (refused_built c.args.bytes.now c.args.keys.now c.args.table.now c.in_err-read_into.ensures)

pub build_question-requires : goal.build_question-requires
build_question-requires c = accepted_limits c.args.bytes.now c.args.keys.now c.args.table.now c.in_ok-read_into.ensures

pub returns : goal.returns
returns c = accepted_built c.args.bytes.now c.args.keys.now c.args.table.now c.in_ok-read_into.ensures c.build_question.ensures
