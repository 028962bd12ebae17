-- Whole numbers and lists: what the definitions need and the kit's library does not name.
use Rattle.std.specs.Prelude.{ℕ, suc, ◌%◌, Bool, true, false, cond, ◌&&◌, List, [], ◌∷◌, ◌++◌, length, drop, eqb, ℤ, pos, negsuc, nat_abs}
use Rattle.std.specs.Int.Signed.{le_z, shr_z}

abbrev pub eq_z : ℤ → ℤ → Bool
eq_z (pos a) (pos b) = eqb a b
eq_z (pos a) (negsuc b) = false
eq_z (negsuc a) (pos b) = false
eq_z (negsuc a) (negsuc b) = eqb a b

abbrev pub min_z : ℤ → ℤ → ℤ
min_z a b = cond (le_z a b) a b

abbrev pub max_z : ℤ → ℤ → ℤ
max_z a b = cond (le_z a b) b a

abbrev pub even : ℤ → Bool
even z = eqb (nat_abs z % 2) 0

-- half of z, rounded towards minus infinity
abbrev pub half : ℤ → ℤ
half z = shr_z z 2

-- whether each element passes the test of its index, which counts from i
unfoldable pub all_from {ℓ} : {A : Type ℓ} → (ℕ → A → Bool) → ℕ → List A → Bool
all_from f i [] = true
all_from f i (a ∷ l) = f i a && all_from f (suc i) l

-- the lists of a list, one after the other
unfoldable pub joined {ℓ} : {A : Type ℓ} → List (List A) → List A
joined [] = []
joined (l ∷ ls) = l ++ joined ls

-- a buffer with the cells at its front, its length as it was
unfoldable pub at_front {ℓ} : {A : Type ℓ} → List A → List A → List A
at_front cells buffer = cells ++ drop (length cells) buffer
