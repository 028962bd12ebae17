-- Floor halving: `half d` is the greatest h with 2·h ≤ d.
use Rattle.std.specs.Prelude.{◌≡◌, refl, Bool, true, false, not, cond, ℕ, zero, suc, ◌*◌, ◌%◌, T, eqb, ℤ, pos, negsuc, neg_ℤ, ◌+ℤ◌, ◌-ℤ◌, ◌*ℤ◌, nat_abs, ◌≤ℤ◌}
use Rattle.std.proofs.Common.{sym, ap, ◌∙◌, subst, arith, eqb→eq}
use Rattle.std.proofs.lemmas.Bool.{eqb-false}
use Rattle.std.specs.Int.Signed.{le_z, le_z_yes, ≤ℤ_refl}
use Rattle.scope.specs.Whole.{even, half, min_z, max_z}
use Rattle.theory.specs.Numbers.Bridge.{as_D, linear}
use Rattle.theory.specs.Numbers.Integers.{le_z_no}

-- h is half of d, rounded down
pub record Floor (d h : ℤ) : Type 0 where
  pub lower : (pos 2 *ℤ h) ≤ℤ d
  pub upper : d ≤ℤ (pos 2 *ℤ h +ℤ pos 1)

pub floor_half : (d : ℤ) → Floor d (half d)
floor_half (pos a) = record { lower = simp linear (omega arith); upper = simp linear (omega arith) }
floor_half (negsuc a) = record { lower = simp linear (omega arith); upper = simp linear (omega arith) }

floor_one : (d h g : ℤ) → (pos 2 *ℤ h) ≤ℤ d → d ≤ℤ (pos 2 *ℤ h +ℤ pos 1) → (pos 2 *ℤ g) ≤ℤ d → d ≤ℤ (pos 2 *ℤ g +ℤ pos 1) → h ≡ g
floor_one d h g = rw (as_D d, as_D h, as_D g) (simp linear (omega arith))

pub floor_unique : {d h g : ℤ} → Floor d h → Floor d g → h ≡ g
floor_unique {d} {h} {g} f k = floor_one d h g f.lower f.upper k.lower k.upper

-- d is even exactly where 2·h is d
pub even_half : (d : ℤ) → T (even d) → pos 2 *ℤ half d ≡ d
even_half (pos a) t = simp linear (omega (arith, eqb→eq (a % 2) 0 t))
even_half (negsuc a) t = simp linear (omega (arith, eqb→eq (suc a % 2) 0 t))

-- and where d is odd, 2·h is one less
pub odd_half : (d : ℤ) → even d ≡ false → d -ℤ pos 1 ≡ pos 2 *ℤ half d
odd_half d e = ap (λ (z : ℤ). z -ℤ pos 1) (one_more d e) ∙ one_less (pos 2 *ℤ half d)
  where
    one_more : (d : ℤ) → even d ≡ false → d ≡ pos 2 *ℤ half d +ℤ pos 1
    one_more (pos a) e = simp linear (omega (arith, eqb-false (a % 2) 0 e))
    one_more (negsuc a) e = simp linear (omega (arith, eqb-false (suc a % 2) 0 e))

    one_less : (x : ℤ) → (x +ℤ pos 1) -ℤ pos 1 ≡ x
    one_less x = rw (as_D x) (simp linear (omega arith))

nat_abs_neg : (z : ℤ) → nat_abs (neg_ℤ z) ≡ nat_abs z
nat_abs_neg (pos zero) = refl
nat_abs_neg (pos (suc n)) = refl
nat_abs_neg (negsuc n) = refl

pub even_of_double : (d h : ℤ) → pos 2 *ℤ h ≡ d → T (even d)
even_of_double d h e = subst (λ (z : ℤ). T (even z)) e (double h)
  where
    zero_test : (n : ℕ) → n ≡ 0 → T (eqb n 0)
    zero_test n e = subst (λ (k : ℕ). T (eqb k 0)) (sym e) tt

    double : (h : ℤ) → T (even (pos 2 *ℤ h))
    double (pos a) = zero_test (2 * a % 2) (omega arith)
    double (negsuc a) = zero_test (nat_abs (neg_ℤ (pos (2 * suc a))) % 2) (omega (arith, nat_abs_neg (pos (2 * suc a))))

pub half_even : (d h : ℤ) → pos 2 *ℤ h ≡ d → half d ≡ h
half_even d h e = floor_unique (floor_half d) (record { lower = two_le e; upper = two_ge e })
  where
    two_le : pos 2 *ℤ h ≡ d → (pos 2 *ℤ h) ≤ℤ d
    two_le = rw (as_D d, as_D h) (simp linear (omega arith))

    two_ge : pos 2 *ℤ h ≡ d → d ≤ℤ (pos 2 *ℤ h +ℤ pos 1)
    two_ge = rw (as_D d, as_D h) (simp linear (omega arith))

-- ---- the bounds of a stepped entry: a range [lo, hi] with lo ≤ -P and N ≤ hi holds floor((e - s)/2) where it holds e and -N ≤ s ≤ P
low_bound : (h e s P lo : ℤ) → lo ≤ℤ neg_ℤ P → lo ≤ℤ e → s ≤ℤ P → (e -ℤ s) ≤ℤ (pos 2 *ℤ h +ℤ pos 1) → lo ≤ℤ h
low_bound h e s P lo = rw (as_D h, as_D e, as_D s, as_D P, as_D lo) (simp linear (omega arith))

high_bound : (h e s N hi : ℤ) → N ≤ℤ hi → e ≤ℤ hi → neg_ℤ N ≤ℤ s → (pos 2 *ℤ h) ≤ℤ (e -ℤ s) → h ≤ℤ hi
high_bound h e s N hi = rw (as_D h, as_D e, as_D s, as_D N, as_D hi) (simp linear (omega arith))

pub half_low : (e s P lo : ℤ) → lo ≤ℤ neg_ℤ P → lo ≤ℤ e → s ≤ℤ P → lo ≤ℤ half (e -ℤ s)
half_low e s P lo a b c = low_bound (half (e -ℤ s)) e s P lo a b c (floor_half (e -ℤ s)).upper

pub half_high : (e s N hi : ℤ) → N ≤ℤ hi → e ≤ℤ hi → neg_ℤ N ≤ℤ s → half (e -ℤ s) ≤ℤ hi
half_high e s N hi a b c = high_bound (half (e -ℤ s)) e s N hi a b c (floor_half (e -ℤ s)).lower

-- by the test that both make
by_test : (a b : ℤ) (P : ℤ → ℤ → Type 0) → (a ≤ℤ b → P a b) → (b ≤ℤ a → P b a) → P (min_z a b) (max_z a b)
by_test a b P f g = go (le_z a b) (λ t. f (le_z_yes t)) (λ t. g (le_z_no t))
  where
    go : (t : Bool) → (T t → P a b) → (T (not t) → P b a) → P (cond t a b) (cond t b a)
    go true f g = f tt
    go false f g = g tt

pub record Between (a b lo hi : ℤ) : Type 0 where
  pub low_a : lo ≤ℤ a
  pub low_b : lo ≤ℤ b
  pub high_a : a ≤ℤ hi
  pub high_b : b ≤ℤ hi

pub min_max : (a b : ℤ) → Between a b (min_z a b) (max_z a b)
min_max a b = by_test a b (Between a b)
    (λ h. record { low_a = ≤ℤ_refl a; low_b = h; high_a = h; high_b = ≤ℤ_refl b })
    (λ h. record { low_a = h; low_b = ≤ℤ_refl b; high_a = ≤ℤ_refl a; high_b = h })

pub half_in_range : (k e s N P : ℤ) → neg_ℤ N ≤ℤ s → s ≤ℤ P → min_z k (neg_ℤ P) ≤ℤ e → e ≤ℤ max_z k N
    → (min_z k (neg_ℤ P) ≤ℤ half (e -ℤ s)) × (half (e -ℤ s) ≤ℤ max_z k N)
half_in_range k e s N P sl sh el eh = (
  half_low e s P (min_z k (neg_ℤ P)) (min_max k (neg_ℤ P)).low_b el sh,
  half_high e s N (max_z k N) (min_max k N).high_b eh sl,
)
