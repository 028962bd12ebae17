-- What a term that was read says: the term of the definitions where there is no fault, and the lowest of its faults.
use Rattle.std.specs.Prelude.{ℕ, ◌-◌, ◌≤◌, ◌<◌, ◌≡◌, true, Some, None, List, [], ◌∷◌, length, get_or, T, pos, nat_abs}
use Rattle.smtlib.specs.Lexicon.{most_nesting}
use Rattle.smtlib.specs.Forms.{Bare, nothing}
use Rattle.smtlib.specs.Terms.{most_numeral, Head, Term, collected_fit, word_term, terms_of}
use Rattle.smtlib.specs.Script.{lowest_of}
use Rattle.lexicon.specs.Spots.{spot_of}
use Rattle.forms.specs.Places.{forms_at, around, Unbroken}
use Rattle.forms.specs.Read.{NUMERAL, ListEnd, WordSays}
use Rattle.forms.specs.declared.Form.{Form}
use Rattle.terms.specs.declared.Collected.{Collected}
use Rattle.terms.specs.declared.TermPart.{TermPart}
use Rattle.terms.specs.declared.ListTerm.{ListTerm}
use Rattle.terms.specs.Heads.{head_code}
use Rattle.terms.specs.Gathered.{gathered}

pub record TermSays (t : Term) (r : Collected) : Type 0 where
  pub is_numeral : r.numeric ≡ t.numeric
  pub fault_is : r.fault ≡ spot_of (lowest_of t.faults)
  pub numbers_are : t.faults ≡ [] → r.numbers ≡ t.numbers
  pub within_limit : T (collected_fit r.numbers)
  pub numeral_small : r.numeric ≡ true → nat_abs (get_or r.numbers 0 (pos 0)) ≤ most_numeral

pub record TermOf (t : Term) (next : ℕ) (r : TermPart) : Type 0 where
  pub collected : Collected
  pub part_is : r ≡ record { term = Some collected; next = next }
  pub says : TermSays t collected

-- a word as a term; no word is the end of the list
pub record WordTermed (text : List ℕ) (names : List (List ℕ)) (f : Form) (r : TermPart) : Type 0 where
  pub end_is : f.kind < NUMERAL → r ≡ record { term = None; next = f.next }
  pub term_is : NUMERAL ≤ f.kind → (w : Bare) → WordSays text f w → TermOf (word_term names f.place w) f.next r

-- the term that stands next, and what is behind it
pub record TermRead (text : List ℕ) (at depth : ℕ) (names : List (List ℕ)) (c : Collected) (next : ℕ) : Type 0 where
  pub term : Term
  pub terms : terms_of names (forms_at text at) ≡ term ∷ terms_of names (forms_at text next)
  pub says : TermSays term c
  pub levels : around text next ≡ around text at
  pub unbroken : Unbroken text next depth

-- or the end of the list
pub record PartRead (text : List ℕ) (at depth : ℕ) (names : List (List ℕ)) (r : TermPart) : Type 0 where
  pub no_more : r.term ≡ None → (forms_at text at ≡ nothing) × ListEnd text at (depth - 1) r.next
  pub one_more : (c : Collected) → r.term ≡ Some c → TermRead text at depth names c r.next

-- the parts of a list up to its end, gathered by its head, at the list's place
pub record ListRead (text : List ℕ) (at depth : ℕ) (names : List (List ℕ)) (h : Head) (place : ℕ) (r : ListTerm) : Type 0 where
  pub says : TermSays (gathered h place (terms_of names (forms_at text at))) r.term
  pub closed : ListEnd text at (depth - 1) r.next

unfoldable pub ListReads : List ℕ → ℕ → ℕ → List (List ℕ) → ℕ → ℕ → ListTerm → Type 0
ListReads text at depth names head place r = (h : Head) → head ≡ head_code h → ListRead text at depth names h place r

-- ---- what is asked: inside a list, with so many nestings left

pub record Inside (text : List ℕ) (at nesting : ℕ) : Type 0 where
  pub here : at ≤ length text
  pub left : nesting < most_nesting
  pub unbroken : Unbroken text at (most_nesting - nesting)
