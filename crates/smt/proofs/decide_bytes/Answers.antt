-- `smt::decide_bytes` meets its contract. Assumes nothing.
use Rattle.told.specs.Writers.{put_as}
use Rattle.smt.specs.Solved.{said_in}
use Rattle.smt.proofs.Laws.{said_as}
use Rattle.smt.proofs.decide_bytes.Goals as goal

pub returns : goal.returns
unfolding said_in
returns c =
    let d = c.decide-answer.ensures in
    put_as (said_as c.args.text.now c.args.names.now c.args.n d.answer d.word) c.say.ensures
