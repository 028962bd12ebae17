-- A stretch of a text: none, and one byte before the others.
use Rattle.std.specs.Prelude.{ℕ, suc, ◌-◌, ◌≤◌, ◌<◌, ◌≡◌, List, [], ◌∷◌, length, get_or}
use Rattle.std.proofs.Common.{arith, drop-cons}
use Rattle.lexicon.specs.Spots.{stretch}

module _ (text : List ℕ) (from : ℕ) where
  pub stretch_none : (to : ℕ) → to ≤ from → stretch text from to ≡ []
  stretch_none to h = let z : to - from ≡ 0 = omega arith in rw z

  pub stretch_more : (to : ℕ) → from < to → from < length text → stretch text from to ≡ get_or text from 0 ∷ stretch text (suc from) to
  stretch_more to h inside = let n : to - from ≡ suc (to - suc from) = omega arith in rw (drop-cons text from 0 inside, n)
