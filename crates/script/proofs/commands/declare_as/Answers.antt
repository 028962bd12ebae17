-- `script::commands::declare_as` meets its contract. Assumes nothing.
use Rattle.script.proofs.Commanding.{declared_new, declared_faulty}
use Rattle.script.proofs.Keeping.{lower_more}
use Rattle.script.proofs.commands.declare_as.Goals as goal

pub returns-then-new-int : goal.returns-then-new-int
returns-then-new-int c =
    declared_new _ c.args.kept _ c.args.place c.args.name c.args.sort _ _ c.is_new-new.ensures c.says_word-int.ensures c.requires.0 c.if-new-int.true c.with_name.ensures

pub returns : goal.returns
returns c =
    declared_faulty _ c.args.kept _ c.args.place c.args.name c.args.sort _ _ c.is_new-new.ensures c.says_word-int.ensures _ c.if-new-int.false
    (lower_more _ _ _ _ _ c.lower.ensures c.unless.ensures c.unless-2.ensures) c.with_faults.ensures
