-- Signed numbers by their bits, as code holds and compares them.
use Rattle.std.specs.Prelude.{◌≡◌, ◌<◌, eqb, ℤ}
use Rattle.std.proofs.Common.{sym, ap, ◌∙◌, arith, eqb→eq, SFits, of_z, to_z}
use Rattle.std.proofs.Math.Dec.{eqb_refl}
use Rattle.std.specs.Int.Signed.{mag}
use Rattle.std.specs.Int.{Width, w32, w64}
use Rattle.std.proofs.lemmas.Int.{to_z-of_z}
use Rattle.scope.specs.Whole.{eq_z}
use Rattle.theory.specs.Numbers.Integers.{eqZ→eq, eq→eq_z}
use Rattle.theory.specs.Numbers.Tests.{same_test}

-- numbers with the same bits are equal
pub same_bits : (w : Width) (a b : ℤ) → SFits w a → SFits w b → of_z w a ≡ of_z w b → a ≡ b
same_bits w a b f g e = sym (to_z-of_z w a f) ∙ ap (to_z w) e ∙ to_z-of_z w b g

-- the test of their bits is that of the numbers
pub test_bits : (w : Width) (a b : ℤ) → SFits w a → SFits w b → eqb (of_z w a) (of_z w b) ≡ eq_z a b
test_bits w a b f g =
    same_test (eqb (of_z w a) (of_z w b)) (eq_z a b) (λ t. eq→eq_z a b (same_bits w a b f g (eqb→eq (of_z w a) (of_z w b) t)))
    (λ t. rw (eqZ→eq a b t) (eqb_refl (of_z w b)))

-- ---- a number of 32 bits

pub fits_64 : {z : ℤ} → SFits w32 z → SFits w64 z
fits_64 f = record { sfits = omega (arith, f.sfits) }

-- read from its bits
pub read : (z : ℤ) → mag z < 2147483648 → to_z w32 (of_z w32 z) ≡ z
read z h = to_z-of_z w32 z (record { sfits = h })

-- and widened
pub widened : (z : ℤ) → SFits w32 z → to_z w64 (of_z w64 (to_z w32 (of_z w32 z))) ≡ z
widened z f = rw (to_z-of_z w32 z f) (to_z-of_z w64 z (fits_64 f))
