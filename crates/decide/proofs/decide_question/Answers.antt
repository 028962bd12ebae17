-- `decide::decide_question` meets its contract: where no row is lent nothing changes, and else the rows lent are R. Assumes nothing.
use Rattle.step.specs.Atoms.{few_kinds}
use Rattle.decide.specs.Explores.{decides_nothing}
use Rattle.decide.specs.Lends.{some_atoms, room_is, lends}
use Rattle.decide.proofs.decide_question.Goals as goal

pub kinds_of-atoms-requires : goal.kinds_of-atoms-requires
kinds_of-atoms-requires c = (c.requires.sized.codes, few_kinds c.requires)

pub room-rows-requires : goal.room-rows-requires
room-rows-requires c = some_atoms c.requires c.kinds_of-atoms.ensures.1

pub returns-then-rows-eq0 : goal.returns-then-rows-eq0
returns-then-rows-eq0 c =
    let keys = c.args.keys.now in
    let path = c.args.path.now in
    decides_nothing _ keys path c.args.word.now c.if-rows-eq0.true (room_is c.requires c.kinds_of-atoms.ensures.1 keys path c.room-rows.ensures)

pub decide_rows-requires : goal.decide_rows-requires
decide_rows-requires c =
    let kinds = c.kinds_of-atoms.ensures in
    lends c.requires kinds.1 c.args.keys.now c.args.path.now c.room-rows.ensures kinds.0 c.if-rows-eq0.false
