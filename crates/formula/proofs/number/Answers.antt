-- `formula::number` meets its contract: what the worths from a place on are worth.
use Rattle.std.proofs.Common.{◌≡◌, ◌+◌, ◌*◌, ◌-◌, suc, Bool, true, false, get_or, length, drop, ap, arith, refl, rules}
use mir.Val.{bool_byte}
use Rattle.formula.specs.Truths.{one_if, worths_number}
use Rattle.formula.proofs.Numbers.{number_from, number_fits}
use Rattle.formula.proofs.number.Goals as goal
use Rattle.formula.proofs.number.Goals.{After-from}

byte_one : (b : Bool) → bool_byte b ≡ one_if b
byte_one true = refl
byte_one false = refl

module _ (c : goal.After-from) where
  eight : length c.args.worths ≡ 8
  eight = search rules

  next : c.from.result + 2 * c.loop-i.number ≡ worths_number (drop (c.loop-i.i - 1) c.args.worths)
  next =
      let n : suc (c.loop-i.i - 1) ≡ c.loop-i.i = omega (arith, c.loop-i-test.true) in
      let m = number_from c.args.worths (c.loop-i.i - 1) (omega (arith, eight, c.loop-i.auto.i, c.loop-i-test.true)) in
      let b = byte_one (get_or c.args.worths (c.loop-i.i - 1) false) in
      omega (arith, m, b, c.from.ensures, c.loop-i.invariant, ap (λ (k : _). worths_number (drop k c.args.worths)) n)

pub overflow_mul-number : goal.overflow_mul-number
overflow_mul-number c = record { fits = omega (arith, next c, number_fits c.args.worths (c.loop-i.i - 1) (eight c)) }

pub overflow_add-number : goal.overflow_add-number
overflow_add-number c = record { fits = omega (arith, next c, number_fits c.args.worths (c.loop-i.i - 1) (eight c)) }

pub loop-i-preserved : goal.loop-i-preserved
loop-i-preserved c = next c
