-- `told::put_letters` meets its contract. The invariant: the first letters are put. Assumes nothing.
use Prim.Native.Nat.{ℕ, ◌+◌, ◌<◌, ◌≤◌}
use native.Mathlib.Numerals.{add-one}
use native.Mathlib.Omega.{arith}
use mathlib.Core.Path.{◌≡◌, refl, sym, ap, ◌∙◌}
use mathlib.Core.List.{List, ◌++◌}
use lib.ListN.{length, take, get_or}
use lib.Seq.{take-suc}
use borrow.Author.Rules.{rules}
use Rattle.told.specs.Decimal.{decimal, decimal_of_a_byte}
use Rattle.told.specs.Text.{spaced, numbers}
use Rattle.told.specs.Values.{numbers_more}
use Rattle.told.specs.Writers.{put_none, put_both, put_as}
use Rattle.told.proofs.put_letters.Goals as goal
use Rattle.told.proofs.put_letters.Goals.{After-from}

one_more : (word : List ℕ) (i : ℕ) → i < length word → numbers (take i word) ++ spaced (get_or word i 0) ≡ numbers (take (i + 1) word)
one_more word i h = rw (add-one i, take-suc word i 0 h) (sym (numbers_more (take i word) (get_or word i 0)))

pub loop-letter-init : goal.loop-letter-init
unfolding numbers
loop-letter-init c = (search rules, refl, put_none _ _)

module _ (c : goal.After-from) where
  short : length (decimal c.from.result) ≤ 3
  short = decimal_of_a_byte c.from.result (omega (arith, c.from.ensures, (c.type_inv.word c.loop-letter.letter-index).fits))

pub put_decimal-next-requires : goal.put_decimal-next-requires
put_decimal-next-requires c =
    omega (arith, short (goal.at.put_decimal-next-requires c).After-from, c.put_byte-start.ensures.ends, c.put_byte-start.auto.out, c.loop-letter.invariant.0, c.loop-letter.invariant.1, c.loop-letter-test.true, c.requires)

pub loop-letter-preserved : goal.loop-letter-preserved
loop-letter-preserved c =
    let put = put_both c.put_byte-start.ensures (put_as (ap decimal c.from.ensures) c.put_decimal-next.ensures) in (
      omega (arith, short (goal.at.loop-letter-preserved c).After-from, c.put_decimal-next.ensures.ends, c.put_byte-start.ensures.ends, c.loop-letter.invariant.0),
      c.put_decimal-next.auto.out ∙ c.put_byte-start.auto.out ∙ c.loop-letter.invariant.1,
      put_as (one_more c.args.word.now c.loop-letter.letter-index c.loop-letter-test.true) (put_both c.loop-letter.invariant.2 put),
    )
