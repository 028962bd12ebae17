-- `told::value_of` meets its contract: spelling does not refuse. Assumes nothing.
use mathlib.Core.Path.{sym, ◌∙◌}
use Rattle.told.specs.Values.{value_is, no_refusal}
use Rattle.told.proofs.value_of.Goals as goal

pub returns-in_default : goal.returns-in_default
returns-in_default c =
    absurd (no_refusal c.args.n c.args.variable c.args.word.now c.requires.0 c.requires.1 c.requires.2 _ (sym c.spell.ensures ∙ c.in_default.is))

pub returns : goal.returns
returns c =
    value_is c.args.n c.args.variable c.args.word.now c.requires.0 c.requires.1 c.requires.2 _ (sym c.spell.ensures ∙ c.in-Ok.is)
