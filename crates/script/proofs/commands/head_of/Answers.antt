-- `script::commands::head_of` meets its contract. Assumes nothing.
use Rattle.script.proofs.Commanding.{list_head, word_head}
use Rattle.script.proofs.commands.head_of.Goals as goal

pub returns-then-form-eq-OPEN : goal.returns-then-form-eq-OPEN
returns-then-form-eq-OPEN c =
    let p = list_head _ _ c.requires _ c.if-form-eq-OPEN.true c.command_at.ensures.inside.0 c.command_at.ensures.read in record { inside = p.0; says = p.1 }

pub returns : goal.returns
returns c =
    let p = word_head _ c.args.form _ c.if-form-eq-OPEN.false in record { inside = p.0; says = p.1 }
