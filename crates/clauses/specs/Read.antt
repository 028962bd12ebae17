-- What a formula that was read says: the lowest of its faults.
use Rattle.std.specs.Prelude.{ℕ, ◌-◌, ◌≡◌, Bool, not, cond, List, ◌∷◌, eqb, Some, None}
use Rattle.smtlib.specs.Forms.{nothing}
use Rattle.smtlib.specs.Terms.{Head, negation, terms_of}
use Rattle.smtlib.specs.Formulas.{Clause, list_clause, clauses_of}
use Rattle.smtlib.specs.Script.{lowest_of}
use Rattle.lexicon.specs.Spots.{Position, spot_of}
use Rattle.forms.specs.Places.{forms_at, around, Unbroken}
use Rattle.forms.specs.Read.{ListEnd}
use Rattle.terms.specs.Heads.{head_code}
use Rattle.clauses.specs.declared.ClausePart.{ClausePart}

-- the formula that stands next, by its fault, and what is behind it
pub record ClauseRead (text : List ℕ) (at depth : ℕ) (names : List (List ℕ)) (fault : Position) (next : ℕ) : Type 0 where
  pub clause : Clause
  pub clauses : clauses_of names (forms_at text at) ≡ clause ∷ clauses_of names (forms_at text next)
  pub fault_is : fault ≡ spot_of (lowest_of clause.faults)
  pub levels : around text next ≡ around text at
  pub unbroken : Unbroken text next depth

-- or the end of the list
pub record ClausePartRead (text : List ℕ) (at depth : ℕ) (names : List (List ℕ)) (r : ClausePart) : Type 0 where
  pub no_more : r.formula ≡ None → (forms_at text at ≡ nothing) × ListEnd text at (depth - 1) r.next
  pub one_more : (fault : Position) → r.formula ≡ Some fault → ClauseRead text at depth names fault r.next

-- the parts of a list up to its end, by its head, at the list's place
pub record ClausesRead (text : List ℕ) (at depth : ℕ) (names : List (List ℕ)) (h : Head) (place : ℕ) (r : ClausePart) : Type 0 where
  pub formula_is : r.formula ≡ Some (spot_of (lowest_of (list_clause h place (terms_of names (forms_at text at)) (clauses_of names (forms_at text at))).faults))
  pub closed : ListEnd text at (depth - 1) r.next

unfoldable pub ClauseReads : List ℕ → ℕ → ℕ → List (List ℕ) → ℕ → ℕ → ClausePart → Type 0
ClauseReads text at depth names head place r = (h : Head) → head ≡ head_code h → ClausesRead text at depth names h place r

-- whether a connective, by its code, takes so many parts: not one, and and or at least one
abbrev pub takes_parts : ℕ → ℕ → Bool
takes_parts head number = cond (eqb head (head_code negation)) (eqb number 1) (not (eqb number 0))
