-- `said::model_said` meets its contract. Assumes nothing.
use native.Mathlib.Nat.{mul-le-mul_right}
use native.Mathlib.Omega.{arith}
use mathlib.Core.Path.{sym, ◌∙◌}
use Prim.Native.Nat.{◌+◌}
use lib.ListN.{length}
use Rattle.told.specs.Values.{spellable}
use Rattle.said.proofs.model_said.Goals as goal

pub model-requires : goal.model-requires
model-requires c = (
  spellable c.args.n 1 c.args.word.now _ (sym c.spell.ensures ∙ c.in-Ok.is),
  (c.requires.0, omega (arith, mul-le-mul_right (length c.args.text.now + 64) c.requires.0.at_most_six)),
)
