-- Heads by what they are not. Assumes nothing.
use Prim.Native.Nat.{ℕ, ◌≤◌, ◌<◌}
use native.Mathlib.Omega.{arith}
use mathlib.Core.Path.{◌≡◌, refl}
use mathlib.Core.Bool.{Bool}
use lib.Dec.{eqb}
use Rattle.terms.specs.declared.heads.HeadWord.{HeadWord}
use Rattle.terms.specs.declared.heads.ListKind.{ListKind}
use Rattle.terms.specs.Heads.{word_code, KindSays}
use Rattle.terms.specs.Gathered.{shapely_at}

pub other_shape : (h : HeadWord) (count : ℕ) (numeral : Bool) → (h ≡ HeadWord.Plus → ⊥) → (h ≡ HeadWord.Minus → ⊥) → (h ≡ HeadWord.Times → ⊥) → eqb count 2 ≡ shapely_at (word_code h) count numeral
unfolding shapely_at
other_shape HeadWord.Plus count numeral x y z = absurd (x refl)
other_shape HeadWord.Minus count numeral x y z = absurd (y refl)
other_shape HeadWord.Times count numeral x y z = absurd (z refl)
other_shape HeadWord.Equal count numeral x y z = refl
other_shape HeadWord.AtMost count numeral x y z = refl
other_shape HeadWord.Less count numeral x y z = refl
other_shape HeadWord.AtLeast count numeral x y z = refl
other_shape HeadWord.Greater count numeral x y z = refl
other_shape HeadWord.Not count numeral x y z = refl
other_shape HeadWord.And count numeral x y z = refl
other_shape HeadWord.Or count numeral x y z = refl
other_shape HeadWord.Other count numeral x y z = refl

pub no_term : {code : ℕ} (k : ListKind) → KindSays code k → (k ≡ ListKind.Term → ⊥) → 2 < code
no_term ListKind.Term s n = absurd (n refl)
no_term ListKind.Comparison s n = omega (arith, s.0)
no_term ListKind.Connective s n = omega (arith, s.0)
no_term ListKind.Other s n = omega (arith, s)

pub larger_first : (h : HeadWord) → (h ≡ HeadWord.Plus → ⊥) → (h ≡ HeadWord.Minus → ⊥) → (h ≡ HeadWord.Times → ⊥) → (h ≡ HeadWord.Equal → ⊥) → (h ≡ HeadWord.AtMost → ⊥) → (h ≡ HeadWord.Less → ⊥) → 6 ≤ word_code h
larger_first HeadWord.Plus u v w x y z = absurd (u refl)
larger_first HeadWord.Minus u v w x y z = absurd (v refl)
larger_first HeadWord.Times u v w x y z = absurd (w refl)
larger_first HeadWord.Equal u v w x y z = absurd (x refl)
larger_first HeadWord.AtMost u v w x y z = absurd (y refl)
larger_first HeadWord.Less u v w x y z = absurd (z refl)
larger_first HeadWord.AtLeast u v w x y z = omega arith
larger_first HeadWord.Greater u v w x y z = omega arith
larger_first HeadWord.Not u v w x y z = omega arith
larger_first HeadWord.And u v w x y z = omega arith
larger_first HeadWord.Or u v w x y z = omega arith
larger_first HeadWord.Other u v w x y z = omega arith
