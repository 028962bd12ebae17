-- The size of an integer, `nat_abs`, is a natural number, so that bounds on signed values are `omega`'s; and the quotient by 2.
use Rattle.std.specs.Prelude.{◌≡◌, refl, true, false, ℕ, zero, suc, ◌+◌, ◌*◌, ◌/◌, ◌%◌, ◌^◌, ◌≤◌, ◌<◌, T, ℤ, pos, negsuc, neg_ℤ, ◌+ℤ◌, ◌-ℤ◌, ◌*ℤ◌, nat_abs, ◌≤ℤ◌}
use Rattle.std.proofs.Common.{ap, ◌∙◌, arith, eq-eqb, ne_eqb, eqb→eq, leb→le, le→leb}
use Rattle.std.specs.Int.Signed.{quot_z, rem_z}
use Rattle.std.specs.Int.{Width, w32}
use mir.Val.{SFits, hbits, of_z}
use Rattle.theory.specs.Numbers.Bridge.{D, D-ind, add_D, up, down, as_D, linear}
use Rattle.scope.specs.Whole.{even, half}
use Rattle.theory.specs.Numbers.Half.{half_even, even_of_double, odd_half}

pub abs_le : (z : ℤ) (n : ℕ) → neg_ℤ (pos n) ≤ℤ z → z ≤ℤ pos n → nat_abs z ≤ n
abs_le (pos a) n l h = leb→le a n h.le
abs_le (negsuc a) zero l h = absurd l.le
abs_le (negsuc a) (suc n) l h = let k : a ≤ n = leb→le a n l.le in omega arith

pub le_abs : (z : ℤ) (n : ℕ) → nat_abs z ≤ n → (neg_ℤ (pos n) ≤ℤ z) × (z ≤ℤ pos n)
le_abs (pos a) n k = (simp linear (omega arith), record { le = le→leb a n k })
le_abs (negsuc a) n k = (simp linear (omega arith), record { le = tt })

abs_D : (p n : ℕ) → nat_abs (D p n) ≤ p + n
abs_D p n = D-ind (λ z. nat_abs z ≤ p + n) p n (λ k e. omega arith) (λ k e. omega arith)

abs_is : (z : ℤ) → nat_abs z ≡ up z + down z
abs_is (pos n) = omega arith
abs_is (negsuc n) = omega arith

pub abs_add : (a b : ℤ) → nat_abs (a +ℤ b) ≤ nat_abs a + nat_abs b
abs_add a b = rw (sum_is) (omega (arith, abs_D (up a + up b) (down a + down b), abs_is a, abs_is b))
  where
    sum_is : a +ℤ b ≡ D (up a + up b) (down a + down b)
    sum_is = (λ i. as_D a i +ℤ as_D b i) ∙ add_D (up a) (down a) (up b) (down b)

abs_neg : (z : ℤ) → nat_abs (neg_ℤ z) ≡ nat_abs z
abs_neg (pos zero) = refl
abs_neg (pos (suc n)) = refl
abs_neg (negsuc n) = refl

pub abs_sub : (a b : ℤ) → nat_abs (a -ℤ b) ≤ nat_abs a + nat_abs b
abs_sub a b = omega (arith, abs_add a (neg_ℤ b), abs_neg b)

pub fits_abs : (w : Width) (z : ℤ) → nat_abs z < 2 ^ hbits w → SFits w z
fits_abs w (pos n) h = record { sfits = h }
fits_abs w (negsuc n) h = record { sfits = omega arith }

-- ---- the quotient by 2, toward 0
pub abs_half : (d : ℤ) → nat_abs (quot_z d (pos 2)) ≡ nat_abs d / 2
abs_half (pos a) = refl
abs_half (negsuc a) = abs_neg (pos (suc a / 2))

-- the quotient by 2 of an even number is its half, and so is that of the even number below an odd one
pub quot_even : (d : ℤ) → T (even d) → quot_z d (pos 2) ≡ half d
quot_even (pos a) t = refl
quot_even (negsuc a) t = simp linear (omega (arith, eqb→eq (suc a % 2) 0 t))

pub quot_odd : (d : ℤ) → even d ≡ false → quot_z (d -ℤ pos 1) (pos 2) ≡ half d
quot_odd d e =
    let twice : ℤ = pos 2 *ℤ half d in
    ap (λ (z : ℤ). quot_z z (pos 2)) (odd_half d e) ∙ quot_even twice (even_of_double twice (half d) refl) ∙ half_even twice (half d) refl

-- the bits of the remainder by 2 are zero exactly where the number is even
pub rem_even : (d : ℤ) → of_z w32 (rem_z d (pos 2)) ≡ 0 → even d ≡ true
rem_even (pos a) e = eq-eqb (a % 2) 0 e
rem_even (negsuc a) e = eq-eqb (suc a % 2) 0 (negated (suc a % 2) (omega arith) e)
  where
    negated : (k : ℕ) → k < 2 → of_z w32 (neg_ℤ (pos k)) ≡ 0 → k ≡ 0
    negated zero h e = refl
    negated (suc k) h e = absurd (omega arith)

pub rem_odd : (d : ℤ) → (of_z w32 (rem_z d (pos 2)) ≡ 0 → ⊥) → even d ≡ false
rem_odd (pos a) f = ne_eqb (a % 2) 0 f
rem_odd (negsuc a) f = ne_eqb (suc a % 2) 0 (λ e. f (rw e))

pub abs_mul : (a b : ℤ) → nat_abs (a *ℤ b) ≡ nat_abs a * nat_abs b
abs_mul (pos a) (pos b) = refl
abs_mul (pos a) (negsuc b) = abs_neg (pos (a * suc b))
abs_mul (negsuc a) (pos b) = abs_neg (pos (suc a * b))
abs_mul (negsuc a) (negsuc b) = refl
