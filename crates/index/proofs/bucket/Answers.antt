-- `index::bucket` meets its contract: a hash below 2 ^ 32 by n, at most 2 ^ 16, is below 2 ^ 64.
use Prim.Native.Nat.{ℕ, ◌*◌, ◌/◌, ◌≤◌}
use mathlib.Core.Path.{ap}
use native.Mathlib.Nat.{mul-le-mul_right}
use native.Mathlib.Omega.{arith}
use Rattle.index.specs.Hash.{bucket_of, bucket_low}
use Rattle.index.proofs.bucket.Goals as goal

pub overflow_mul-result : goal.overflow_mul-result
overflow_mul-result c =
    let scaled : c.hash.result * c.args.n ≤ 4294967295 * c.args.n = mul-le-mul_right c.args.n (omega (arith, c.hash.ensures.1)) in
    record { fits = omega (arith, scaled, c.requires.2) }

pub returns : goal.returns
unfolding bucket_of
returns c =
    let n = c.args.n in
    let e = ap (λ (h : ℕ). h * n / 4294967296) c.hash.ensures.0 in
    (e, rw e (bucket_low n c.args.key.now c.requires.1))
