-- `laying::nodes::lay_connective` meets its contract.
use mathlib.Core.Path.{refl, sym, ◌∙◌}
use mathlib.Core.Bool.{false}
use Rattle.laying.proofs.OneNode.{room_for_lem, connective_refused, connective_laid}
use Rattle.laying.proofs.nodes.lay_connective.Goals as goal

pub returns-then-not-has_room : goal.returns-then-not-has_room
returns-then-not-has_room c =
    record { laid = rw c.at.ensures (connective_refused c.args.laying.now c.args.code c.args.place c.requires.1.0 c.requires.1.1 (sym c.has_room.ensures ∙ c.if-not-has_room.true)); low = tt; kept = refl }

pub with_code-requires : goal.with_code-requires
with_code-requires c =
    let l = c.args.laying.now in
    (room_for_lem false l.nodes l.atoms l.depth (sym c.has_room.ensures ∙ c.if-not-has_room.false)).few_nodes

pub returns : goal.returns
returns c =
    let l = c.args.laying.now in
    let room = sym c.has_room.ensures ∙ c.if-not-has_room.false in
    record { laid = rw c.with_code.ensures (connective_laid l c.args.code c.args.place c.requires.1.0 c.requires.1.1 c.requires.0 room); low = (room_for_lem false l.nodes l.atoms l.depth room).low; kept = tt }
