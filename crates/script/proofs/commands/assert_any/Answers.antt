-- `script::commands::assert_any` meets its contract. Assumes nothing.
use native.Mathlib.Omega.{arith}
use Rattle.script.proofs.Commanding.{inside_list, sign_asserted, formula_asserted}
use Rattle.script.proofs.commands.assert_any.Goals as goal

pub signed_name-requires : goal.signed_name-requires
signed_name-requires c = (inside_list c.requires.0, c.requires.1.0)

pub with_sign-requires : goal.with_sign-requires
with_sign-requires c = omega (arith, c.in-Some.ensures.below, c.requires.1.0.at_most_seven)

pub returns-in-Some : goal.returns-in-Some
returns-in-Some c = sign_asserted _ _ _ _ _ _ c.in-Some.ensures c.with_sign.ensures

pub returns : goal.returns
returns c = formula_asserted _ _ _ _ _ c.in_default.ensures c.assert_formula.ensures
