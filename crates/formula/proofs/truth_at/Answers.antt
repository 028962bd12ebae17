-- `formula::truth_at` meets its contract: a set's number is below 256, so its word is one of the four.
use Prim.Native.Nat.{ℕ, ◌/◌, ◌%◌}
use native.Mathlib.Omega.{arith}
use mathlib.Core.Path.{◌≡◌, ap}
use lib.ListN.{length, get_or}
use borrow.Author.Rules.{rules}
use Rattle.formula.specs.Truths.{bit_at, truth_at}
use Rattle.formula.proofs.Numbers.{number_below}
use Rattle.formula.proofs.truth_at.Goals as goal

pub bounds-truths-w : goal.bounds-truths-w
bounds-truths-w c =
    let e : length c.args.worths ≡ 8 = search rules in
    omega (arith, c.number-w.ensures, number_below c.args.worths e)

pub returns : goal.returns
unfolding truth_at
returns c = ap (λ (w : ℕ). bit_at (get_or c.args.truths (w / 64) 0) (w % 64)) c.number-w.ensures
