-- `told::values_said` meets its contract. Assumes nothing.
use mathlib.Core.Path.{sym, ◌∙◌}
use Rattle.told.specs.Values.{spellable}
use Rattle.told.proofs.values_said.Goals as goal

pub put_values-requires : goal.put_values-requires
put_values-requires c =
    (spellable c.args.n 1 c.args.word.now _ (sym c.spell.ensures ∙ c.in-Ok.is), c.requires)
