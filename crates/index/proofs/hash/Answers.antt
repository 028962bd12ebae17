-- `index::hash` meets its contract: each call gives the code of its cell, and no sum is 2 ^ 64.
use native.Mathlib.Omega.{arith}
use lib.ListN.{get_or}
use lib.IntN.{pos}
use Rattle.theory.specs.Numbers.Bits.{read}
use Rattle.index.specs.Hash.{hash_of}
use Rattle.index.proofs.hash.Goals as goal

pub returns : goal.returns
unfolding hash_of
returns c =
    let key = c.args.key.now in
    let e0 = rw (read (get_or key 0 (pos 0)) c.code-arg-1.given) at c.code.ensures.0 in
    let e1 = rw (read (get_or key 1 (pos 0)) c.code-arg-2-1.given) at c.code-2.ensures.0 in
    let e2 = rw (read (get_or key 2 (pos 0)) c.code-arg-3-1.given) at c.code-3.ensures.0 in
    let e3 = rw (read (get_or key 3 (pos 0)) c.code-arg-4-1.given) at c.code-4.ensures.0 in
    let e4 = rw (read (get_or key 4 (pos 0)) c.code-arg-5-1.given) at c.code-5.ensures.0 in
    let e5 = rw (read (get_or key 5 (pos 0)) c.code-arg-6-1.given) at c.code-6.ensures.0 in
    let e6 = rw (read (get_or key 6 (pos 0)) c.code-arg-7-1.given) at c.code-7.ensures.0 in
    let e7 = rw (read (get_or key 7 (pos 0)) c.code-arg-8-1.given) at c.code-8.ensures.0 in
    (rw (e0, e1, e2, e3, e4, e5, e6, e7), omega arith)
