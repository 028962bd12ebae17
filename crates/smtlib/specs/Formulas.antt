-- Document 02, E2: formulas. Comparisons are atoms, connectives have two parts, each with its place; and the places of the faults met on the
-- way, each of them a 15.
use Rattle.std.specs.Prelude.{ℕ, List, [], ◌∷◌, ◌++◌, get_or, drop, ℤ, pos, neg_ℤ, ◌-ℤ◌}
use Rattle.scope.specs.Question.{Kind, equation}
use Rattle.smtlib.specs.Forms.{Forms, nothing, word, list}
use Rattle.smtlib.specs.Terms.{Relation, equal, at_most, below, at_least, above, Head, plus, minus, times, compare, negation, conjunction, disjunction, other_head, head_of, no_numbers, less, Term, faults_in, collecting, terms_of}

pub data Formula : Type 0 where
  -- a coefficient for each of six names, and the constant
  atom : ℕ → Kind → List ℤ → ℤ → Formula
  not : ℕ → Formula → Formula
  and : ℕ → Formula → Formula → Formula
  or : ℕ → Formula → Formula → Formula

-- a formula as it is read: its place, and what it is where there is no fault
pub record Clause : Type 0 where
  pub place : ℕ
  pub formula : Formula
  pub faults : List ℕ

abbrev pub outside_clause : ℕ → Clause
outside_clause at = record { place = at; formula = atom at equation (drop 1 no_numbers) (pos 0); faults = at ∷ [] }

-- ---- comparisons

-- the smaller side less the larger; of an equation, left less right
unfoldable pub sides : Relation → List ℤ → List ℤ → List ℤ
sides equal a b = less a b
sides at_most a b = less a b
sides below a b = less a b
sides at_least a b = less b a
sides above a b = less b a

abbrev pub kind_for : Relation → Kind
kind_for equal = equation
kind_for at_most = Kind.at_most
kind_for below = Kind.at_most
kind_for at_least = Kind.at_most
kind_for above = Kind.at_most

-- a strict one is lowered by 1
abbrev pub lowered : Relation → ℤ → ℤ
lowered equal k = k
lowered at_most k = k
lowered below k = k -ℤ pos 1
lowered at_least k = k
lowered above k = k -ℤ pos 1

-- the constant goes to the other side
unfoldable pub compared : Relation → ℕ → List ℤ → List Term → Clause
compared r at l parts = record {
  place = at;
  formula = atom at (kind_for r) (drop 1 l) (lowered r (neg_ℤ (get_or l 0 (pos 0))));
  faults = collecting at l (faults_in parts);
}

unfoldable pub comparison : Relation → ℕ → List Term → Clause
comparison r at [] = outside_clause at
comparison r at (t ∷ []) = outside_clause at
comparison r at (t ∷ u ∷ []) = compared r at (sides r t.numbers u.numbers) (t ∷ u ∷ [])
comparison r at (t ∷ u ∷ v ∷ ts) = outside_clause at

-- ---- connectives

unfoldable pub faults_among : List Clause → List ℕ
faults_among [] = []
faults_among (c ∷ cs) = c.faults ++ faults_among cs

unfoldable pub negated : ℕ → List Clause → Clause
negated at [] = outside_clause at
negated at (c ∷ []) = record { place = at; formula = not at c.formula; faults = c.faults }
negated at (c ∷ d ∷ cs) = outside_clause at

-- a part and those after it, joined at a place: the rest as second part, a join that is added at its first part
unfoldable pub joined_at : (ℕ → Formula → Formula → Formula) → ℕ → Clause → List Clause → Formula
joined_at join at c [] = c.formula
joined_at join at c (d ∷ cs) = join at c.formula (joined_at join d.place d cs)

unfoldable pub joining : (ℕ → Formula → Formula → Formula) → ℕ → List Clause → Clause
joining join at [] = outside_clause at
joining join at (c ∷ cs) = record { place = at; formula = joined_at join at c cs; faults = faults_among (c ∷ cs) }

unfoldable pub list_clause : Head → ℕ → List Term → List Clause → Clause
list_clause plus at terms clauses = outside_clause at
list_clause minus at terms clauses = outside_clause at
list_clause times at terms clauses = outside_clause at
list_clause (compare r) at terms clauses = comparison r at terms
list_clause negation at terms clauses = negated at clauses
list_clause conjunction at terms clauses = joining and at clauses
list_clause disjunction at terms clauses = joining or at clauses
list_clause other_head at terms clauses = outside_clause at

-- each of the forms as a formula
unfoldable pub clauses_of : List (List ℕ) → Forms → List Clause
clauses_of names nothing = []
clauses_of names (word at w rest) = outside_clause at ∷ clauses_of names rest
clauses_of names (list at nothing rest) = outside_clause at ∷ clauses_of names rest
clauses_of names (list at (word start h parts) rest) = list_clause (head_of h) at (terms_of names parts) (clauses_of names parts) ∷ clauses_of names rest
clauses_of names (list at (list start inner parts) rest) = outside_clause at ∷ clauses_of names rest
