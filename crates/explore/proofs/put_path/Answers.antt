-- `explore::put_path` meets its contract: where it is asked, the two cells of the next row are in the area. Assumes nothing.
use Prim.Native.Nat.{◌+◌, ◌*◌, ◌≤◌}
use native.Mathlib.Omega.{arith}
use lib.ListN.{length, length-set}
use Rattle.explore.proofs.put_path.Goals as goal
use Rattle.explore.proofs.put_path.Goals.{Then-noting}

room : (c : goal.Then-noting) → 2 * (c.args.s.count + 1) ≤ length c.args.path.now
room c = rw c.if-noting.true at c.requires.0

pub bounds-path-at : goal.bounds-path-at
bounds-path-at c = omega (arith, room (goal.at.bounds-path-at c).Then-noting)

pub bounds-path-at-then-noting : goal.bounds-path-at-then-noting
bounds-path-at-then-noting c = rw length-set (omega (arith, room (goal.at.bounds-path-at-then-noting c).Then-noting))

pub returns-then-noting : goal.returns-then-noting
returns-then-noting c = rw c.if-noting.true

pub returns-else-noting : goal.returns-else-noting
returns-else-noting c = rw c.if-noting.false
