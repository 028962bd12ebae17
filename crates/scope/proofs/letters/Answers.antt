-- `scope::letters`: 2 ^ n is at most 64, so nothing is lost.
use Rattle.std.proofs.Common.{◌^◌, ◌≤◌, refl, arith}
use Rattle.std.proofs.Math.Nat.{one-mul, mod-eq_of_lt}
use Rattle.std.proofs.Math.Pow.{pow_mono}
use Rattle.scope.proofs.letters.Goals as goal

pub returns : goal.returns
returns c =
    let h : 2 ^ c.args.n ≤ 64 = pow_mono c.requires in
    rw (one-mul (2 ^ c.args.n), mod-eq_of_lt {n = 2 ^ c.args.n} {m = 18446744073709551616} (omega arith)) (refl, h)
