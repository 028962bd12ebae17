-- `build::build_question` meets its contract: where a row is lent the rows are built, and else nothing changes. Assumes nothing.
use mathlib.Core.Path.{◌≡◌, sym, ◌∙◌}
use native.Mathlib.Omega.{arith}
use Rattle.scope.specs.Building.{build_room}
use Rattle.step.specs.Atoms.{few_kinds}
use Rattle.build.specs.Asked.{some_atoms, room_is, nothing_built}
use Rattle.build.proofs.build_question.Goals as goal
use Rattle.build.proofs.build_question.Goals.{After-room-rows}

pub kinds_of-atoms-requires : goal.kinds_of-atoms-requires
kinds_of-atoms-requires c = (c.requires.sized.codes, few_kinds c.requires)

pub room-rows-requires : goal.room-rows-requires
room-rows-requires c = (rw c.kinds_of-atoms.ensures.1 (some_atoms c.requires), omega arith)

-- the rows lent
lent : (c : goal.After-room-rows) → c.room-rows.result ≡ build_room c.args.question.now c.args.keys.now c.args.table.now
lent c =
    room_is c.args.question.now c.kinds_of-atoms.result.m c.letters-count.result c.room-rows.result c.args.keys.now c.args.table.now c.kinds_of-atoms.ensures.1 (rw c.from.ensures at c.letters-count.ensures.0) c.room-rows.ensures

pub returns-then-rows-eq0 : goal.returns-then-rows-eq0
returns-then-rows-eq0 c =
    nothing_built c.args.question.now c.args.keys.now c.args.table.now (sym c.if-rows-eq0.true ∙ lent (goal.at.returns-then-rows-eq0 c).After-room-rows)

pub build_rows-requires : goal.build_rows-requires
build_rows-requires c =
    let kinds = c.kinds_of-atoms.ensures in
    record {
      limits = c.requires;
      kinds_are = kinds.0;
      count = kinds.1;
      rows_are = lent (goal.at.build_rows-requires c).After-room-rows;
      some_rows = omega (arith, c.if-rows-eq0.false);
    }
