-- `plan::fresh_letters` meets its contract. The invariant: the letters so far have their bits.
use mathlib.Core.Path.{◌≡◌, ◌∙◌}
use Prim.Native.Nat.{◌*◌, ◌%◌, ◌^◌, ◌≤◌}
use native.Mathlib.Omega.{arith}
use lib.Pow.{pow_mono}
use Rattle.plan.proofs.Freshness.{row_repeats, none_marked, repeats_marked, bit_marked}
use Rattle.plan.proofs.fresh_letters.Goals as goal
use Rattle.plan.proofs.fresh_letters.Goals.{then-not-repeats, else-not-repeats}

pub loop-letter-init : goal.loop-letter-init
loop-letter-init c = none_marked _

pub overflow_add-fresh : goal.overflow_add-fresh
overflow_add-fresh c =
    let low : 2 ^ c.loop-letter.letter ≤ 2 ^ 63 = pow_mono {j = 63} (omega (arith, c.requires.1)) in
    record { fits = omega (arith, c.loop-letter.invariant.below) }

pub loop-letter-preserved : goal.loop-letter-preserved
loop-letter-preserved c =
    let sums = c.args.sums.now in
    elim c.if-not-repeats.branch [
      | then-not-repeats w ↦
          let low : 2 ^ c.loop-letter.letter ≤ 2 ^ 63 = pow_mono {j = 63} (omega (arith, c.requires.1)) in
          let one : (1 * 2 ^ c.loop-letter.letter) % 18446744073709551616 ≡ 2 ^ c.loop-letter.letter = omega arith in
          rw (w.fresh-is, one) (bit_marked c.loop-letter.invariant)
      | else-not-repeats w ↦
          let same = c.repeats.ensures w.if-not-repeats.false in
          rw w.fresh-is (repeats_marked c.loop-letter.invariant (row_repeats sums _ c.loop-letter.letter same.0 (same.1 ∙ c.load_row-row.ensures.0)))
    ]

pub returns : goal.returns
returns c = let e : c.loop-letter.letter ≡ c.args.letters = omega arith in rw e at c.loop-letter.invariant
