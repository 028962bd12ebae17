-- What the depth behind a move says of the move.
use Prim.Native.Nat.{ℕ, ◌≤◌}
use native.Mathlib.Omega.{arith}
use mathlib.Core.Path.{◌≡◌}
use mathlib.Core.Bool.{Bool, true, false, cond}
use borrow.Author.Tests.{ltb-true}
use Rattle.std.specs.Prelude.{Some, None}
use Rattle.std.proofs.lemmas.Option.{cond_some, none-some}
use Rattle.smtlib.specs.Lexicon.{Move, stuck, skips, starts, goes_on, opens, closes, possible, depth_after, most_nesting}
use Rattle.lexicon.specs.Steps.{depth_then}

pub after_small : (m : Move) (d : ℕ) → d ≤ most_nesting → possible m d ≡ true → depth_after m d ≤ most_nesting
unfolding possible depth_after
after_small (goes_on s) d h e = h
after_small (starts s) d h e = h
after_small (skips s) d h e = h
after_small opens d h e = ltb-true d 32 e
after_small closes d h e = omega arith
after_small stuck d h e = h

pub then_goes : (m : Move) (d r : ℕ) → depth_then m d ≡ Some r → (possible m d ≡ true) × (depth_after m d ≡ r)
unfolding depth_then
then_goes m d r e = cond_some (possible m d) (depth_after m d) r e

pub then_broken : (m : Move) (d : ℕ) → None ≡ depth_then m d → possible m d ≡ false
unfolding depth_then
then_broken m d e = go (possible m d) e
  where
    go : (t : Bool) → None ≡ cond t (Some (depth_after m d)) None → t ≡ false
    go true e = absurd (none-some _ e)
    go false e = λ i. false
