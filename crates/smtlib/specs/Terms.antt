-- Document 02, E2: terms as collected numbers, the constant and then a coefficient for each of six names; and the places of the faults met on
-- the way, each of them a 15.
use Rattle.std.specs.Prelude.{ℕ, suc, Bool, true, false, cond, List, [], ◌∷◌, ◌++◌, map, get_or, set, replicate, leb, ℤ, pos, nat_abs, neg_ℤ, ◌+ℤ◌, ◌*ℤ◌}
use Rattle.std.proofs.Math.Option.{Option, none, some}
use Rattle.std.specs.List.{list_all}
use Rattle.scope.specs.Sizes.{most_variables}
use Rattle.smtlib.specs.Spelling.{same, spelling}
use Rattle.smtlib.specs.Forms.{Bare, numeral, symbol, reserved, other_word, Forms, nothing, word, list}

abbrev pub most_numeral : ℕ
most_numeral = 1000000

-- 2 ^ 40
abbrev pub most_collected : ℕ
most_collected = 1099511627776

-- ---- what a list does, by its head

pub data Relation : Type 0 where
  equal : Relation
  at_most : Relation
  below : Relation
  at_least : Relation
  above : Relation

pub data Head : Type 0 where
  plus : Head
  minus : Head
  times : Head
  compare : Relation → Head
  negation : Head
  conjunction : Head
  disjunction : Head
  other_head : Head

unfoldable pub head_named : List ℕ → Head
head_named w =
    cond (same w (spelling "+")) plus
    (cond (same w (spelling "-")) minus
    (cond (same w (spelling "*")) times
    (cond (same w (spelling "=")) (compare equal)
    (cond (same w (spelling "<=")) (compare at_most)
    (cond (same w (spelling "<")) (compare below)
    (cond (same w (spelling ">=")) (compare at_least)
    (cond (same w (spelling ">")) (compare above)
    (cond (same w (spelling "not")) negation
    (cond (same w (spelling "and")) conjunction
    (cond (same w (spelling "or")) disjunction
    other_head))))))))))

abbrev pub head_of : Bare → Head
head_of (numeral v) = other_head
head_of (symbol w) = head_named w
head_of (reserved w) = other_head
head_of other_word = other_head

-- ---- collected numbers

abbrev pub no_numbers : List ℤ
no_numbers = replicate (suc most_variables) (pos 0)

abbrev pub constantly : ℤ → List ℤ
constantly k = set no_numbers 0 k

-- one of the name that was declared as number i, from 0 on
abbrev pub one_of : ℕ → List ℤ
one_of i = set no_numbers (suc i) (pos 1)

unfoldable pub sums : List ℤ → List ℤ → List ℤ
sums [] l = []
sums (a ∷ k) [] = []
sums (a ∷ k) (b ∷ l) = (a +ℤ b) ∷ sums k l

unfoldable pub opposite : List ℤ → List ℤ
opposite l = map neg_ℤ l

unfoldable pub scaled : ℤ → List ℤ → List ℤ
scaled z l = map (λ c. z *ℤ c) l

abbrev pub less : List ℤ → List ℤ → List ℤ
less k l = sums k (opposite l)

unfoldable pub collected_fit : List ℤ → Bool
collected_fit l = list_all (λ z. leb (nat_abs z) most_collected) l

-- ---- a term as it is read

pub record Term : Type 0 where
  -- the token is a numeral
  pub numeric : Bool
  -- where there is no fault
  pub numbers : List ℤ
  pub faults : List ℕ

abbrev pub outside_term : ℕ → Term
outside_term at = record { numeric = false; numbers = no_numbers; faults = at ∷ [] }

unfoldable pub faults_in : List Term → List ℕ
faults_in [] = []
faults_in (t ∷ ts) = t.faults ++ faults_in ts

-- the faults of the parts; where there are none, whether what is collected passes 2^40
unfoldable pub collecting : ℕ → List ℤ → List ℕ → List ℕ
collecting at l [] = cond (collected_fit l) [] (at ∷ [])
collecting at l (f ∷ fs) = f ∷ fs

abbrev pub collected : ℕ → List ℤ → List Term → Term
collected at l parts = record { numeric = false; numbers = l; faults = collecting at l (faults_in parts) }

unfoldable pub total : List Term → List ℤ
total [] = no_numbers
total (t ∷ ts) = sums t.numbers (total ts)

-- two parts or more
unfoldable pub plus_term : ℕ → List Term → Term
plus_term at [] = outside_term at
plus_term at (t ∷ []) = outside_term at
plus_term at (t ∷ u ∷ ts) = collected at (total (t ∷ u ∷ ts)) (t ∷ u ∷ ts)

-- one part or two
unfoldable pub minus_term : ℕ → List Term → Term
minus_term at [] = outside_term at
minus_term at (t ∷ []) = collected at (opposite t.numbers) (t ∷ [])
minus_term at (t ∷ u ∷ []) = collected at (less t.numbers u.numbers) (t ∷ u ∷ [])
minus_term at (t ∷ u ∷ v ∷ ts) = outside_term at

-- so many times a term's numbers, as a numeral's say
abbrev pub times_numeral : Term → Term → List ℤ
times_numeral t u = scaled (get_or t.numbers 0 (pos 0)) u.numbers

-- whether the first is a numeral, and whether the second is, come first
unfoldable pub product_term : Bool → Bool → ℕ → Term → Term → Term
product_term true second at t u = collected at (times_numeral t u) (t ∷ u ∷ [])
product_term false true at t u = collected at (times_numeral u t) (t ∷ u ∷ [])
product_term false false at t u = outside_term at

-- two parts, at least one a numeral
unfoldable pub times_term : ℕ → List Term → Term
times_term at [] = outside_term at
times_term at (t ∷ []) = outside_term at
times_term at (t ∷ u ∷ []) = product_term t.numeric u.numeric at t u
times_term at (t ∷ u ∷ v ∷ ts) = outside_term at

unfoldable pub list_term : Head → ℕ → List Term → Term
list_term plus at parts = plus_term at parts
list_term minus at parts = minus_term at parts
list_term times at parts = times_term at parts
list_term (compare r) at parts = outside_term at
list_term negation at parts = outside_term at
list_term conjunction at parts = outside_term at
list_term disjunction at parts = outside_term at
list_term other_head at parts = outside_term at

-- the number of a name among those declared so far, counted from i
unfoldable pub index_from : ℕ → List ℕ → List (List ℕ) → Option ℕ
index_from i w [] = none
index_from i w (v ∷ vs) = let later = index_from (suc i) w vs in cond (same w v) (some i) later

abbrev pub name_term : ℕ → Option ℕ → Term
name_term at none = outside_term at
name_term at (some i) = record { numeric = false; numbers = one_of i; faults = [] }

unfoldable pub word_term : List (List ℕ) → ℕ → Bare → Term
word_term names at (numeral v) = record { numeric = true; numbers = constantly (pos v); faults = cond (leb v most_numeral) [] (at ∷ []) }
word_term names at (symbol w) = name_term at (index_from 0 w names)
word_term names at (reserved w) = outside_term at
word_term names at other_word = outside_term at

-- each of the forms as a term
unfoldable pub terms_of : List (List ℕ) → Forms → List Term
terms_of names nothing = []
terms_of names (word at w rest) = word_term names at w ∷ terms_of names rest
terms_of names (list at nothing rest) = outside_term at ∷ terms_of names rest
terms_of names (list at (word start h parts) rest) = list_term (head_of h) at (terms_of names parts) ∷ terms_of names rest
terms_of names (list at (list start inner parts) rest) = outside_term at ∷ terms_of names rest
