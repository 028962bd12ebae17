-- `lexicon::spelling::spelt` meets its contract. Assumes nothing.
use mathlib.Core.Path.{◌∙◌}
use Rattle.lexicon.proofs.Same.{same_lem}
use Rattle.lexicon.proofs.spelling.spelt.Goals as goal

pub returns : goal.returns
returns c = c.eq.ensures ∙ same_lem _ _
