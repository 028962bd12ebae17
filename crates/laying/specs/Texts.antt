-- Formulas without fault that stand in the text, laid: a list by its head, its parts one after the other, and what is behind them.
use Rattle.std.specs.Prelude.{ℕ, suc, ◌-◌, ◌<◌, ◌≡◌, None, cond, List, [], ◌∷◌, eqb, Result, Ok, Err}
use Rattle.std.proofs.Math.Option.{Option, none, some}
use Rattle.scope.specs.declared.Refusal.{Refusal}
use Rattle.smtlib.specs.Lexicon.{most_nesting}
use Rattle.smtlib.specs.Forms.{Forms, nothing, word, list, outermost}
use Rattle.smtlib.specs.Terms.{Head, terms_of}
use Rattle.smtlib.specs.Formulas.{Clause, faults_among, list_clause, clauses_of}
use Rattle.smtlib.specs.Imported.{placed_from}
use Rattle.lexicon.specs.Spots.{spot_of}
use Rattle.forms.specs.Places.{forms_at, outer, around, Unbroken}
use Rattle.forms.specs.Read.{ListEnd, rest_of}
use Rattle.terms.specs.Heads.{word_code, head_code}
use Rattle.laying.specs.declared.Laying.{Laying}
use Rattle.laying.specs.declared.Laid.{Laid}
use Rattle.laying.specs.declared.lists.ListStart.{ListStart}
use Rattle.laying.specs.declared.lists.PartEnd.{PartEnd}
use Rattle.laying.specs.Laid.{LaysMore, Refuses}
use Rattle.laying.specs.Joins.{joined_nodes}

-- ---- formulas without fault

-- the first of them
abbrev pub FirstFaultless : List Clause → Type 0
FirstFaultless [] = ⊥
FirstFaultless (c ∷ cs) = c.faults ≡ []

-- one or more, and every one
abbrev pub AllFaultless : List Clause → Type 0
AllFaultless [] = ⊥
AllFaultless (c ∷ cs) = faults_among (c ∷ cs) ≡ []

-- ---- a list, by its head

abbrev pub clause_in : List ℕ → List (List ℕ) → ListStart → Head → Clause
clause_in text names s h = list_clause h s.place (terms_of names (forms_at text s.next)) (clauses_of names (forms_at text s.next))

pub record HeadedList (text : List ℕ) (at depth : ℕ) (names : List (List ℕ)) (s : ListStart) : Type 0 where
  pub head : Head
  pub code_is : word_code s.head ≡ head_code head
  pub clauses : clauses_of names (forms_at text at) ≡ clause_in text names s head ∷ clauses_of names (outermost (around text s.next))
  pub faultless : (clause_in text names s head).faults ≡ []
  pub levels : outer (around text s.next) ≡ around text at
  pub nested : depth < most_nesting
  pub further : at < s.next
  pub unbroken : Unbroken text s.next (suc depth)

unfoldable pub ListStarts : List ℕ → ℕ → ListStart → Type 0
ListStarts text at s = (depth : ℕ) (names : List (List ℕ)) → Unbroken text at depth → FirstFaultless (clauses_of names (forms_at text at)) → HeadedList text at depth names s

-- the clause of a list, from its parts on
abbrev pub list_from : List ℕ → ℕ → List (List ℕ) → Head → ℕ → Clause
list_from text at names h place = list_clause h place (terms_of names (forms_at text at)) (clauses_of names (forms_at text at))

-- the list laid, from its parts on, and what is behind it; or refused
pub record ListLaid (text : List ℕ) (at depth : ℕ) (names : List (List ℕ)) (h : Head) (place : ℕ) (before : Laying) (r : Laid) : Type 0 where
  pub laid : LaysMore (placed_from before.depth (list_from text at names h place).formula) before r.laying
  pub closed : ListEnd text at (depth - 1) r.next

abbrev pub ListLaidOr : List ℕ → ℕ → ℕ → List (List ℕ) → Head → ℕ → Laying → Result Laid Refusal → Type 0
ListLaidOr text at depth names h place before (Ok r) = ListLaid text at depth names h place before r
ListLaidOr text at depth names h place before (Err e) = Refuses (placed_from before.depth (list_from text at names h place).formula) before e

unfoldable pub ListLays : List ℕ → ℕ → ℕ → List (List ℕ) → ℕ → ℕ → Laying → Result Laid Refusal → Type 0
ListLays text at depth names head place before r = (h : Head) → head ≡ head_code h → (list_from text at names h place).faults ≡ [] → ListLaidOr text at depth names h place before r

-- ---- the parts of a list, joined

-- where a form starts, if there is one
abbrev pub form_start : Forms → Option ℕ
form_start nothing = none
form_start (word at w rest) = some at
form_start (list at inner rest) = some at

-- what is behind the part that stands next
pub record PartEnded (text : List ℕ) (at depth : ℕ) (p : PartEnd) : Type 0 where
  pub start_is : p.another ≡ spot_of (form_start (rest_of (forms_at text at)))
  pub closed : p.another ≡ None → ListEnd text at (depth - 1) p.next
  pub further : at < p.next

unfoldable pub PartEnds : List ℕ → ℕ → PartEnd → Type 0
PartEnds text at p = (depth : ℕ) → 0 < depth → Unbroken text at depth → (forms_at text at ≡ nothing → ⊥) → PartEnded text at depth p

-- the code of the connective, by that of the list's head
abbrev pub join_code : ℕ → ℕ
join_code head = cond (eqb head 10) 5 4

pub record PartsLaid (text : List ℕ) (at depth : ℕ) (names : List (List ℕ)) (code place : ℕ) (before : Laying) (r : Laid) : Type 0 where
  pub laid : LaysMore (joined_nodes before.depth code place (clauses_of names (forms_at text at))) before r.laying
  pub closed : ListEnd text at (depth - 1) r.next

abbrev pub PartsLaidOr : List ℕ → ℕ → ℕ → List (List ℕ) → ℕ → ℕ → Laying → Result Laid Refusal → Type 0
PartsLaidOr text at depth names code place before (Ok r) = PartsLaid text at depth names code place before r
PartsLaidOr text at depth names code place before (Err e) = Refuses (joined_nodes before.depth code place (clauses_of names (forms_at text at))) before e

-- ---- a formula that stands next, laid at the depth at hand, and what is behind it; or refused

pub record ClauseLaid (text : List ℕ) (at depth : ℕ) (names : List (List ℕ)) (c : Clause) (before : Laying) (r : Laid) : Type 0 where
  pub laid : LaysMore (placed_from before.depth c.formula) before r.laying
  pub clauses : clauses_of names (forms_at text at) ≡ c ∷ clauses_of names (forms_at text r.next)
  pub levels : around text r.next ≡ around text at
  pub unbroken : Unbroken text r.next depth

abbrev pub ClauseLaidOr : List ℕ → ℕ → ℕ → List (List ℕ) → Clause → Laying → Result Laid Refusal → Type 0
ClauseLaidOr text at depth names c before (Ok r) = ClauseLaid text at depth names c before r
ClauseLaidOr text at depth names c before (Err e) = Refuses (placed_from before.depth c.formula) before e

unfoldable pub ClauseLays : List ℕ → ℕ → ℕ → List (List ℕ) → Laying → Result Laid Refusal → Type 0
ClauseLays text at depth names before r = (c : Clause) (rest : List Clause) → clauses_of names (forms_at text at) ≡ c ∷ rest → ClauseLaidOr text at depth names c before r

-- what a call leaves in the laying that it is lent, with the place that it gives, as its answer
abbrev pub laid_as : Laying → Result ℕ Refusal → Result Laid Refusal
laid_as l (Ok next) = Ok (record { laying = l; next = next })
laid_as l (Err r) = Err r
