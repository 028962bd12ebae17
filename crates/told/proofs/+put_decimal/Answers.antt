-- `told::put_decimal` meets its contract. Assumes nothing.
use Prim.Native.Nat.{ℕ, ◌/◌}
use native.Mathlib.Omega.{arith}
use mathlib.Core.Path.{◌≡◌, sym}
use mathlib.Core.List.{List, [], ◌∷◌, ◌++◌}
use Rattle.told.specs.Decimal.{decimal, decimal_one, decimal_more, decimal_longer, decimal_some}
use Rattle.told.specs.Writers.{put_both, put_as}
use Rattle.told.proofs.+put_decimal.Goals as goal

-- a byte that ends the digits of v
ended : (v b : ℕ) (l : List ℕ) → l ++ (b ∷ []) ≡ decimal v → (d : ℕ) → d ≡ b → l ++ (d ∷ []) ≡ decimal v
ended v b l e d h = rw h e

pub put_byte-requires : goal.put_byte-requires
put_byte-requires t c = omega (arith, c.requires, decimal_some c.args.v)

pub returns-then-v-lt10 : goal.returns-then-v-lt10
returns-then-v-lt10 t c =
    put_as (ended c.args.v _ [] (sym (decimal_one c.args.v (omega arith))) _ c.digit.ensures) c.put_byte.ensures

pub put_decimal-next-requires : goal.put_decimal-next-requires
put_decimal-next-requires t c = (omega arith, omega (arith, c.requires, decimal_longer c.args.v (omega arith)))

pub put_byte-requires-2 : goal.put_byte-requires-2
put_byte-requires-2 t c = omega (arith, c.requires, c.put_decimal-next.ensures.ends, decimal_longer c.args.v (omega arith))

pub returns : goal.returns
returns t c =
    put_as
    (ended c.args.v _ (decimal (c.args.v / 10)) (sym (decimal_more c.args.v (omega arith))) _ c.digit-2.ensures)
    (put_both c.put_decimal-next.ensures c.put_byte-2.ensures)
