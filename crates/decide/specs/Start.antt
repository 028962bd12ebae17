-- The start as row 0: its cells are the front of the constants, and its path cells are 0 and 0.
use Rattle.std.specs.Prelude.{◌≡◌, refl, List, [], ◌∷◌, ℕ, ◌*◌, ◌≤◌, length, take, set, ℤ}
use Rattle.std.proofs.Common.{◌∙◌, zero-mul, zero-add, arith, length-take-le}
use Rattle.std.proofs.Math.Seq.{paste}
use Rattle.scope.specs.Whole.{at_front}

pub record StartPut (constants : List ℤ) (m : ℕ) (keys₀ keys : List ℤ) (path₀ path : List ℕ) : Type 0 where
  pub keys_are : keys ≡ at_front (take m constants) keys₀
  pub path_is : path ≡ at_front (0 ∷ 0 ∷ []) path₀

pub row_0 : (keys₀ keys constants : List ℤ) (m : ℕ) → m ≤ length constants → keys ≡ paste keys₀ (0 * m) constants m → keys ≡ at_front (take m constants) keys₀
unfolding at_front
row_0 keys₀ keys constants m h e = e ∙ rw (zero-mul, zero-add, length-take-le m constants h)

pub path_0 : (path : List ℕ) → 2 ≤ length path → set (set path 0 0) 1 0 ≡ at_front (0 ∷ 0 ∷ []) path
unfolding at_front
path_0 [] h = absurd (omega arith)
path_0 (a ∷ []) h = absurd (omega arith)
path_0 (a ∷ b ∷ path) h = refl
