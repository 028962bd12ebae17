-- `importing::first_bounds` meets its contract. Assumes nothing.
use Prim.Native.Nat.{ℕ, ◌*◌}
use native.Mathlib.Omega.{arith}
use mathlib.Core.Path.{◌≡◌, sym, ap}
use mathlib.Core.List.{List, ◌++◌}
use lib.ListN.{length, take, drop, replicate}
use lib.Seq.{length-take-le}
use Rattle.scope.specs.Whole.{at_front}
use Rattle.scope.specs.Sizes.{most_variables}
use Rattle.importing.proofs.first_bounds.Goals as goal

pub returns : goal.returns
unfolding at_front
returns c =
    let n : ℕ = 2 * c.args.count in
    let bounds : List ℕ = c.args.bounds in
    let long : length (take n bounds) ≡ n = length-take-le n bounds (omega arith) in
    rw c.copy_from_slice.ensures.after (ap (λ (k : ℕ). take n bounds ++ drop k (replicate (2 * most_variables) 0)) (sym long))
