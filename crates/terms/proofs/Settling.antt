-- What a list's parts are together: outside where they are not as many as its head asks, else collected; and its numbers as the code has them.
-- Assumes nothing.
use Prim.Native.Nat.{ℕ, ◌≤◌}
use native.Mathlib.Omega.{arith}
use mathlib.Core.Path.{◌≡◌, refl, sym}
use mathlib.Core.Bool.{Bool, true, false, cond, ◌&&◌, ◌||◌, and-false}
use mathlib.Core.List.{List, [], ◌∷◌}
use lib.Dec.{eqb}
use lib.IntN.{ℤ}
use Rattle.smtlib.specs.Terms.{Relation, equal, at_most, below, at_least, above, Head, plus, minus, times, compare, negation, conjunction, disjunction, other_head, no_numbers, opposite, less, Term, outside_term, collected, total, plus_term, minus_term, product_term, times_term, list_term}
use Rattle.smtlib.specs.Formulas.{sides}
use Rattle.terms.specs.Heads.{head_code}
use Rattle.terms.specs.Gathered.{sides_term, gathered, part_count, shapely_at, product_with}

pub never : {A : Type 0} → true ≡ false → A
never e = absurd (let z : ◌≡◌ {A = ℕ} 0 1 = cc in omega arith)

pub no_product : (b : Bool) → b && false ≡ true → ⊥
no_product true e = never (sym e)
no_product false e = never (sym e)

-- whether one of two parts is a numeral
abbrev pub NumeralSays : List Term → Bool → Type 0
NumeralSays [] b = Unit {0}
NumeralSays (t ∷ []) b = Unit {0}
NumeralSays (t ∷ u ∷ []) b = b ≡ (t.numeric || u.numeric)
NumeralSays (t ∷ u ∷ v ∷ ts) b = Unit {0}

-- ---- the numbers of the whole, where there are as many parts

unfoldable pub minus_numbers : List Term → List ℤ
minus_numbers [] = no_numbers
minus_numbers (t ∷ []) = opposite t.numbers
minus_numbers (t ∷ u ∷ ts) = less t.numbers u.numbers

unfoldable pub product_numbers : List Term → List ℤ
product_numbers [] = no_numbers
product_numbers (t ∷ []) = no_numbers
product_numbers (t ∷ u ∷ ts) = product_with t.numeric t.numbers u.numbers

unfoldable pub sides_numbers : Relation → List Term → List ℤ
sides_numbers r [] = no_numbers
sides_numbers r (t ∷ []) = no_numbers
sides_numbers r (t ∷ u ∷ ts) = sides r t.numbers u.numbers

abbrev pub numbers_of : Head → List Term → List ℤ
numbers_of plus ts = total ts
numbers_of minus ts = minus_numbers ts
numbers_of times ts = product_numbers ts
numbers_of (compare r) ts = sides_numbers r ts
numbers_of negation ts = no_numbers
numbers_of conjunction ts = no_numbers
numbers_of disjunction ts = no_numbers
numbers_of other_head ts = no_numbers

-- ---- all heads

module _ (place : ℕ) where
  -- by the test, collected or outside
  abbrev Decided : Bool → Head → List Term → Type 0
  Decided shapely h ts = gathered h place ts ≡ cond shapely (collected place (numbers_of h ts) ts) (outside_term place)

  plus_is : (ts : List Term) (b : Bool) → Decided (shapely_at 0 (part_count ts) b) plus ts
  unfolding shapely_at part_count list_term plus_term
  plus_is [] b = refl
  plus_is (t ∷ []) b = refl
  plus_is (t ∷ u ∷ []) b = refl
  plus_is (t ∷ u ∷ v ∷ ts) b = refl

  minus_is : (ts : List Term) (b : Bool) → Decided (shapely_at 1 (part_count ts) b) minus ts
  unfolding shapely_at part_count list_term minus_term minus_numbers
  minus_is [] b = refl
  minus_is (t ∷ []) b = refl
  minus_is (t ∷ u ∷ []) b = refl
  minus_is (t ∷ u ∷ v ∷ ts) b = refl

  product_is : (t u : Term) (p q : Bool)
      → product_term p q place t u ≡ cond ((p || q) && true) (collected place (product_with p t.numbers u.numbers) (t ∷ u ∷ [])) (outside_term place)
  unfolding product_term product_with
  product_is t u true q = refl
  product_is t u false true = refl
  product_is t u false false = refl

  times_is : (ts : List Term) (b : Bool) → NumeralSays ts b → Decided (shapely_at 2 (part_count ts) b) times ts
  unfolding shapely_at part_count list_term times_term product_numbers
  times_is [] b n = rw (and-false b)
  times_is (t ∷ []) b n = rw (and-false b)
  times_is (t ∷ u ∷ []) b n = rw n (product_is t u t.numeric u.numeric)
  times_is (t ∷ u ∷ v ∷ ts) b n = rw (and-false b)

  sides_is : (r : Relation) (ts : List Term) → Decided (eqb (part_count ts) 2) (compare r) ts
  unfolding part_count sides_term sides_numbers
  sides_is r [] = refl
  sides_is r (t ∷ []) = refl
  sides_is r (t ∷ u ∷ []) = refl
  sides_is r (t ∷ u ∷ v ∷ ts) = refl

  pub gathered_is : (h : Head) (ts : List Term) (b : Bool) → head_code h ≤ 7 → NumeralSays ts b → Decided (shapely_at (head_code h) (part_count ts) b) h ts
  unfolding shapely_at
  gathered_is plus ts b l n = plus_is ts b
  gathered_is minus ts b l n = minus_is ts b
  gathered_is times ts b l n = times_is ts b n
  gathered_is (compare equal) ts b l n = sides_is equal ts
  gathered_is (compare at_most) ts b l n = sides_is at_most ts
  gathered_is (compare below) ts b l n = sides_is below ts
  gathered_is (compare at_least) ts b l n = sides_is at_least ts
  gathered_is (compare above) ts b l n = sides_is above ts
  gathered_is negation ts b l n = absurd (omega arith)
  gathered_is conjunction ts b l n = absurd (omega arith)
  gathered_is disjunction ts b l n = absurd (omega arith)
  gathered_is other_head ts b l n = absurd (omega arith)
