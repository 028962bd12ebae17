-- `words::value_of` meets its contract. The invariant: v is what the letters from i on spell. Assumes nothing.
use Prim.Native.Nat.{ℕ, suc, ◌+◌, ◌*◌, ◌-◌, ◌≤◌, ◌<◌, ◌^◌}
use native.Mathlib.Omega.{arith}
use mathlib.Core.Path.{◌≡◌, ap}
use mathlib.Core.List.{List}
use lib.ListN.{length, get_or, drop}
use lib.Seq.{drop-length}
use Rattle.scope.specs.Words.{digit, value, value_from}
use Rattle.words.proofs.Values.{value_at_lem, value_fits}
use Rattle.words.proofs.value_of.Goals as goal
use Rattle.words.proofs.value_of.Goals.{In-loop-i}

-- one letter more, before the others
more : (word : List ℕ) (i j v : ℕ) → 0 < i → i ≤ length word → v ≡ value (drop i word) j → 2 * v + digit (get_or word (i - 1) 0) j ≡ value (drop (i - 1) word) j
more word i j v p h e =
    let n : suc (i - 1) ≡ i = omega arith in
    let d : value (drop (suc (i - 1)) word) j ≡ value (drop i word) j = ap (λ (k : ℕ). value (drop k word) j) n in
    omega (arith, value_at_lem word (i - 1) j (omega arith))

pub loop-i-init : goal.loop-i-init
unfolding value value_from
loop-i-init c = rw (drop-length c.args.word.now)

module _ (c : goal.In-loop-i) where
  next : 2 * c.loop-i.v + digit (get_or c.args.word.now (c.loop-i.i - 1) 0) c.args.j ≡ value (drop (c.loop-i.i - 1) c.args.word.now) c.args.j
  next =
      more c.args.word.now c.loop-i.i c.args.j c.loop-i.v (omega arith) c.loop-i.auto.i c.loop-i.invariant

  next_fits : value (drop (c.loop-i.i - 1) c.args.word.now) c.args.j < 2 ^ 64
  next_fits = value_fits c.args.word.now (c.loop-i.i - 1) c.args.j c.requires.1

pub overflow_mul-v : goal.overflow_mul-v
overflow_mul-v c = record { fits = omega (arith, next c, next_fits c) }

pub overflow_add-v : goal.overflow_add-v
unfolding digit
overflow_add-v c =
    let p = (goal.at.overflow_add-v c).In-loop-i in
    rw c.from.ensures (record { fits = omega (arith, next p, next_fits p) })

pub loop-i-preserved : goal.loop-i-preserved
unfolding digit
loop-i-preserved c = rw c.from.ensures (next (goal.at.loop-i-preserved c).In-loop-i)
