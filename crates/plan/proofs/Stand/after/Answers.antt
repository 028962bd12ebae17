-- `plan::Stand::after` meets its contract: by whether there is a letter left to try. Assumes nothing.
use Prim.Native.Nat.{◌/◌, ◌^◌, ◌≤◌}
use mathlib.Core.Path.{refl}
use native.Mathlib.Omega.{arith}
use lib.Count.{count_trailing_zeros, trailing_le}
use Rattle.plan.specs.Moves.{next_letter, next_row}
use Rattle.plan.proofs.Freshness.{none_left, next_skips, next_below}
use Rattle.plan.proofs.Stand.after.Goals as goal
use Rattle.plan.proofs.Stand.after.Goals.{After-struct_known-2-1}

pub returns-then-left-eq0 : goal.returns-then-left-eq0
returns-then-left-eq0 c =
    rw c.going.ensures (record {
      count_is = refl;
      place = next_row (none_left c.args.plan.fresh c.args.self.letter c.args.plan.letters c.requires.0 c.if-left-eq0.true);
    })

few : (c : goal.After-struct_known-2-1) → count_trailing_zeros 64 (c.args.plan.fresh / 2 ^ c.args.self.letter / 2) ≤ 64
few c = trailing_le 64 _

pub overflow_cast-left : goal.overflow_cast-left
overflow_cast-left c = record { fits = omega (arith, few c) }

pub overflow_add-self-3 : goal.overflow_add-self-3
overflow_add-self-3 c = record { fits = omega (arith, few c) }

pub returns : goal.returns
returns c =
    rw c.going-2.ensures (record {
      count_is = refl;
      place = next_letter (next_below c.args.plan.fresh c.args.self.letter c.args.plan.letters c.requires.1 c.requires.2 c.if-left-eq0.false)
          (next_skips c.args.plan.fresh c.args.self.letter c.args.plan.letters c.requires.1 c.requires.2 c.if-left-eq0.false);
    })
