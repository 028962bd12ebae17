-- Laws of the integers that lib.IntN and lib.Signed lack, of the order and of equality as a test.
use Rattle.std.specs.Prelude.{◌≡◌, not, ◌<◌, T, ℤ, pos, negsuc, ◌≤ℤ◌}
use Rattle.std.proofs.Common.{ap, subst, arith, eqb→eq, le→leb}
use Rattle.std.proofs.Math.Dec.{eqb_refl, nleb→lt}
use Rattle.std.specs.Int.Signed.{le_z}
use Rattle.scope.specs.Whole.{eq_z}
use Rattle.theory.specs.Numbers.Bridge.{as_D, linear}

-- ---- the order

pub ≤ℤ_trans : (a b c : ℤ) → a ≤ℤ b → b ≤ℤ c → a ≤ℤ c
≤ℤ_trans a b c = rw (as_D a, as_D b, as_D c) (simp linear (omega arith))

-- a test failed (lib.Signed has the other three)
nle : (a b : ℤ) → T (not (le_z a b)) → T (le_z b a)
nle (pos a) (pos b) t = let h : b < a = nleb→lt a b t in le→leb b a (omega arith)
nle (pos a) (negsuc b) t = tt
nle (negsuc a) (pos b) t = absurd t
nle (negsuc a) (negsuc b) t = let h : a < b = nleb→lt b a t in le→leb a b (omega arith)

pub le_z_no : {a b : ℤ} → T (not (le_z a b)) → b ≤ℤ a
le_z_no {a} {b} t = record { le = nle a b t }

-- ---- equality as a test

pub eqZ→eq : (a b : ℤ) → T (eq_z a b) → a ≡ b
eqZ→eq (pos a) (pos b) t = ap pos (eqb→eq a b t)
eqZ→eq (pos a) (negsuc b) t = absurd t
eqZ→eq (negsuc a) (pos b) t = absurd t
eqZ→eq (negsuc a) (negsuc b) t = ap negsuc (eqb→eq a b t)

eq_z_refl : (a : ℤ) → T (eq_z a a)
eq_z_refl (pos a) = eqb_refl a
eq_z_refl (negsuc a) = eqb_refl a

pub eq→eq_z : (a b : ℤ) → a ≡ b → T (eq_z a b)
eq→eq_z a b e = subst (λ (z : ℤ). T (eq_z a z)) e (eq_z_refl a)
