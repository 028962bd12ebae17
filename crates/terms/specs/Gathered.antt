-- The parts of a list gathered by its head: a term's, or a comparison's two sides as one term.
use Rattle.std.specs.Prelude.{ℕ, Bool, true, false, cond, ◌&&◌, ◌||◌, List, [], ◌∷◌, leb, eqb, get_or, ℤ, pos}
use Rattle.smtlib.specs.Terms.{Relation, Head, plus, minus, times, compare, negation, conjunction, disjunction, other_head, scaled, Term, outside_term, collected, list_term}
use Rattle.smtlib.specs.Formulas.{sides}

unfoldable pub sides_term : Relation → ℕ → List Term → Term
sides_term r at [] = outside_term at
sides_term r at (t ∷ []) = outside_term at
sides_term r at (t ∷ u ∷ []) = collected at (sides r t.numbers u.numbers) (t ∷ u ∷ [])
sides_term r at (t ∷ u ∷ v ∷ ts) = outside_term at

abbrev pub gathered : Head → ℕ → List Term → Term
gathered plus at parts = list_term plus at parts
gathered minus at parts = list_term minus at parts
gathered times at parts = list_term times at parts
gathered (compare r) at parts = sides_term r at parts
gathered negation at parts = outside_term at
gathered conjunction at parts = outside_term at
gathered disjunction at parts = outside_term at
gathered other_head at parts = outside_term at

-- ---- by the head's code, so many parts, and whether one of two is a numeral

-- three for more
unfoldable pub part_count : List Term → ℕ
part_count [] = 0
part_count (t ∷ []) = 1
part_count (t ∷ u ∷ []) = 2
part_count (t ∷ u ∷ v ∷ ts) = 3

-- whether the list has as many parts as its head asks
unfoldable pub shapely_at : ℕ → ℕ → Bool → Bool
shapely_at head count numeral =
    cond (eqb head 0) (leb 2 count)
    (cond (eqb head 1) (eqb count 1 || eqb count 2)
    (cond (eqb head 2) (numeral && eqb count 2)
    (eqb count 2)))

-- whether the first part is a numeral comes first
unfoldable pub product_with : Bool → List ℤ → List ℤ → List ℤ
product_with true first second = scaled (get_or first 0 (pos 0)) second
product_with false first second = scaled (get_or second 0 (pos 0)) first
