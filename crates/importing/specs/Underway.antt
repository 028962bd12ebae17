-- The commands of a text without fault, walked one by one, with the assertions so far laid.
use Rattle.std.specs.Prelude.{ℕ, suc, ◌≤◌, ◌<◌, ◌≡◌, Bool, true, false, List, [], ◌∷◌, ◌++◌, length, Result, Ok, Err}
use Rattle.std.proofs.Math.Option.{Option, some}
use Rattle.scope.specs.declared.Refusal.{Refusal}
use Rattle.scope.specs.Refusals.{first_refusal}
use Rattle.scope.specs.Question.{Node}
use Rattle.scope.specs.Sizes.{most_variables}
use Rattle.smtlib.specs.Formulas.{Formula, Clause, joined_at, clauses_of}
use Rattle.smtlib.specs.Script.{Script, names_of, script_from}
use Rattle.smtlib.specs.Imported.{PlacedNode, connective, placed_from, placed_checks}
use Rattle.smtlib.specs.Cases.{script_in, formula_in}
use Rattle.forms.specs.Places.{forms_at, Unbroken}
use Rattle.terms.specs.Names.{names_in, NamesStand}
use Rattle.laying.specs.declared.Laying.{Laying}
use Rattle.laying.specs.Laid.{Layable, Lays, LaysMore, Refuses}
use Rattle.laying.specs.Noted.{at_depth}
use Rattle.importing.specs.declared.commands.Progress.{Progress}

-- ---- a text whose script has no fault, with its names

pub record FaultlessText (text bounds : List ℕ) (count : ℕ) : Type 0 where
  pub whole : Unbroken text 0 0
  pub outside : (script_in text).outside ≡ []
  pub beyond : (script_in text).beyond ≡ []
  pub few : count ≤ most_variables
  pub counted : count ≡ length (script_in text).declarations
  pub names_are : names_of (script_in text).declarations ≡ names_in text bounds count
  pub names_stand : NamesStand text bounds count
  pub some_asserted : 0 < length (script_in text).asserted

-- ---- an assertion laid

-- a clause, and what follows it, joined at the clause
abbrev pub join_laid : ℕ → Clause → List PlacedNode → List PlacedNode
join_laid depth c later = connective c.place depth Node.and ∷ (placed_from (suc depth) c.formula ++ later)

-- what is laid or refused next is behind it
pub record JoinLaid (c : Clause) (before after : Laying) : Type 0 where
  pub ready : Layable after
  pub deeper : after.depth ≡ suc before.depth
  pub onward : (ys : List PlacedNode) (later : Laying) → LaysMore ys after later → LaysMore (join_laid before.depth c ys) before (at_depth later before.depth)
  pub refused : (ys : List PlacedNode) (r : Refusal) → Refuses ys after r → Refuses (join_laid before.depth c ys) before r

pub record AssertionLaid (more : Bool) (c : Clause) (before after : Laying) : Type 0 where
  pub n_kept : after.n ≡ before.n
  pub joins : more ≡ true → JoinLaid c before after
  pub last : more ≡ false → LaysMore (placed_from before.depth c.formula) before after

-- refused, whatever is to come
pub record AssertionRefused (more : Bool) (c : Clause) (before : Laying) (r : Refusal) : Type 0 where
  pub joined : more ≡ true → (ys : List PlacedNode) → Refuses (join_laid before.depth c ys) before r
  pub last : more ≡ false → Refuses (placed_from before.depth c.formula) before r

abbrev pub AssertionLaidOr : Bool → Clause → Laying → Result Laying Refusal → Type 0
AssertionLaidOr more c before (Ok after) = AssertionLaid more c before after
AssertionLaidOr more c before (Err r) = AssertionRefused more c before r

unfoldable pub AssertionLays : List ℕ → ℕ → List (List ℕ) → Bool → Laying → Result Laying Refusal → Type 0
AssertionLays text at names more before r = (c : Clause) (rest : List Clause) → clauses_of names (forms_at text at) ≡ c ∷ rest → AssertionLaidOr more c before r

-- ---- how far it is laid

-- what is still to be laid
abbrev pub rest_laid : ℕ → List Clause → List PlacedNode
rest_laid depth [] = []
rest_laid depth (c ∷ cs) = placed_from depth (joined_at Formula.and c.place c cs)

abbrev pub whole_laid : List ℕ → List PlacedNode
whole_laid text = placed_from 1 (formula_in text)

abbrev pub first_refused : List ℕ → Option Refusal
first_refused text = first_refusal (placed_checks 0 0 (whole_laid text))

pub record Underway (text : List ℕ) (p : Progress) : Type 0 where
  pub so_far : Script
  pub clauses : List Clause
  pub here : p.next ≤ length text
  pub unbroken : Unbroken text p.next 0
  pub final_is : script_from so_far (forms_at text p.next) ≡ script_in text
  pub counted : p.count ≡ length so_far.declarations
  pub clauses_are : (script_in text).asserted ≡ so_far.asserted ++ clauses
  pub left_is : p.left ≡ length clauses
  pub ready : Layable p.laying
  pub onward : (later : Laying) → LaysMore (rest_laid p.laying.depth clauses) p.laying later → Lays (whole_laid text) later
  pub refused : (r : Refusal) → Refuses (rest_laid p.laying.depth clauses) p.laying r → first_refused text ≡ some r

-- laid to the end, or on the way
pub record LaidSoFar (text : List ℕ) (n : ℕ) (p : Progress) : Type 0 where
  pub n_is : p.laying.n ≡ n
  pub done : p.left ≡ 0 → Lays (whole_laid text) p.laying
  pub underway : 0 < p.left → Underway text p

abbrev pub LaidSoFarOr : List ℕ → ℕ → Result Progress Refusal → Type 0
LaidSoFarOr text n (Ok p) = LaidSoFar text n p
LaidSoFarOr text n (Err r) = first_refused text ≡ some r

abbrev pub WholeLaidOr : List ℕ → ℕ → Result Laying Refusal → Type 0
WholeLaidOr text n (Ok l) = (l.n ≡ n) × Lays (whole_laid text) l
WholeLaidOr text n (Err r) = first_refused text ≡ some r
