-- Document 02, E2: the commands of a text in their order: what is declared and asserted, and the place of every 15 and every 4.
use Rattle.std.specs.Prelude.{ℕ, Bool, true, false, not, cond, ◌&&◌, List, [], ◌∷◌, ◌++◌, map, length, leb, ltb, eqb}
use Rattle.std.proofs.Math.Option.{Option, none, some}
use Rattle.scope.specs.declared.Rule.{Rule}
use Rattle.scope.specs.declared.Refusal.{Refusal}
use Rattle.scope.specs.Sizes.{most_variables}
use Rattle.scope.specs.Refusals.{refusal}
use Rattle.smtlib.specs.Spelling.{same, is_in, spelling, theory_words}
use Rattle.smtlib.specs.Forms.{Bare, numeral, symbol, reserved, other_word, Forms, nothing, word, list}
use Rattle.smtlib.specs.Formulas.{Clause, clauses_of}

-- a place, unless
abbrev pub unless : Bool → ℕ → List ℕ
unless true at = []
unless false at = at ∷ []

-- ---- the forms of a list one by one, a list in it as a word that is none of interest

pub record Part : Type 0 where
  pub place : ℕ
  pub word : Bare

unfoldable pub parts_of : Forms → List Part
parts_of nothing = []
parts_of (word at w rest) = record { place = at; word = w } ∷ parts_of rest
parts_of (list at inner rest) = record { place = at; word = other_word } ∷ parts_of rest

-- the word is this symbol
abbrev pub says_word : Bare → List ℕ → Bool
says_word (numeral v) w = false
says_word (symbol s) w = same s w
says_word (reserved s) w = false
says_word other_word w = false

-- a symbol among these
abbrev pub says_one : Bare → List (List ℕ) → Bool
says_one (numeral v) ws = false
says_one (symbol s) ws = is_in s ws
says_one (reserved s) ws = false
says_one other_word ws = false

-- a symbol that the theories do not have
abbrev pub nameable : Bare → Bool
nameable (numeral v) = false
nameable (symbol s) = not (is_in s theory_words)
nameable (reserved s) = false
nameable other_word = false

abbrev pub name_in : Bare → List ℕ
name_in (numeral v) = []
name_in (symbol s) = s
name_in (reserved s) = []
name_in other_word = []

abbrev pub is_nought : Bare → Bool
is_nought (numeral v) = eqb v 0
is_nought (symbol s) = false
is_nought (reserved s) = false
is_nought other_word = false

-- ---- commands

pub data Command : Type 0 where
  set_logic : Command
  declare_const : Command
  assert : Command
  check_sat : Command
  other_command : Command

unfoldable pub command_named : List ℕ → Command
command_named w =
    cond (same w (spelling "set-logic")) set_logic
    (cond (same w (spelling "declare-const")) declare_const
    (cond (same w (spelling "assert")) assert
    (cond (same w (spelling "check-sat")) check_sat
    other_command)))

abbrev pub command_word : Bare → Command
command_word (numeral v) = other_command
command_word (symbol s) = other_command
command_word (reserved s) = command_named s
command_word other_word = other_command

-- the command of a list's forms, and what follows its name
abbrev pub command_of : Forms → Command
command_of nothing = other_command
command_of (word at w rest) = command_word w
command_of (list at inner rest) = other_command

abbrev pub behind : Forms → Forms
behind nothing = nothing
behind (word at w rest) = rest
behind (list at inner rest) = rest

-- ---- the script so far

pub data Stage : Type 0 where
  -- set-logic is due
  start : Stage
  under : Stage
  -- behind check-sat, which is at a place
  checked : ℕ → Stage

-- the place of the parenthesis, and that of the name; signed is one that has a sign assertion
pub record Declaration : Type 0 where
  pub name : List ℕ
  pub place : ℕ
  pub name_place : ℕ
  pub signed : Bool

pub record Script : Type 0 where
  pub stage : Stage
  pub declarations : List Declaration
  -- but for the sign assertions
  pub asserted : List Clause
  -- the places of 15 and of 4
  pub outside : List ℕ
  pub beyond : List ℕ

abbrev pub no_script : Script
no_script = record { stage = start; declarations = []; asserted = []; outside = []; beyond = [] }

abbrev pub names_of : List Declaration → List (List ℕ)
names_of ds = map (λ (d : Declaration). d.name) ds

-- the stage, and more 15s
abbrev pub moved : Stage → List ℕ → Script → Script
moved stage places s = record { stage = stage; declarations = s.declarations; asserted = s.asserted; outside = s.outside ++ places; beyond = s.beyond }

abbrev pub faulty : List ℕ → Script → Script
faulty places s = moved s.stage places s

-- set-logic: one part, QF_LIA
unfoldable pub logic_faults : ℕ → List Part → List ℕ
logic_faults at [] = at ∷ []
logic_faults at (l ∷ []) = unless (says_word l.word (spelling "QF_LIA")) l.place
logic_faults at (l ∷ m ∷ ps) = at ∷ []

-- a seventh name is kept, since its sign assertion may be missing; what comes behind its 4 changes nothing
unfoldable pub kept_if : Bool → Declaration → List Declaration → List Declaration
kept_if true d ds = ds ++ (d ∷ [])
kept_if false d ds = ds

-- whether the name is new and the sort is Int comes first
unfoldable pub declared_if : Bool → ℕ → Part → Script → Script
declared_if false at n s = s
declared_if true at n s = record {
  stage = s.stage;
  declarations = kept_if (leb (length s.declarations) most_variables) (record { name = name_in n.word; place = at; name_place = n.place; signed = false }) s.declarations;
  asserted = s.asserted;
  outside = s.outside;
  beyond = s.beyond ++ unless (ltb (length s.declarations) most_variables) n.place;
}

-- declare-const: a name and Int
unfoldable pub declared : ℕ → List Part → Script → Script
declared at [] s = faulty (at ∷ []) s
declared at (n ∷ []) s = faulty (at ∷ []) s
declared at (n ∷ t ∷ []) s =
    let new = nameable n.word && not (says_one n.word (names_of s.declarations)) in
    let int = says_word t.word (spelling "Int") in
    declared_if (new && int) at n (faulty (unless new n.place ++ unless int t.place) s)
declared at (n ∷ t ∷ u ∷ ps) s = faulty (at ∷ []) s

-- >= name 0, the name declared
unfoldable pub signs_name : List (List ℕ) → List Part → Option (List ℕ)
signs_name names [] = none
signs_name names (h ∷ []) = none
signs_name names (h ∷ n ∷ []) = none
signs_name names (h ∷ n ∷ z ∷ []) = cond (says_word h.word (spelling ">=") && (says_one n.word names && is_nought z.word)) (some (name_in n.word)) none
signs_name names (h ∷ n ∷ z ∷ o ∷ ps) = none

abbrev pub signs : List (List ℕ) → Forms → Option (List ℕ)
signs names nothing = none
signs names (word at w rest) = none
signs names (list at inner nothing) = signs_name names (parts_of inner)
signs names (list at inner (word next w rest)) = none
signs names (list at inner (list next more rest)) = none

unfoldable pub signed_as : List ℕ → List Declaration → List Declaration
signed_as w [] = []
signed_as w (d ∷ ds) = record { name = d.name; place = d.place; name_place = d.name_place; signed = cond (same w d.name) true d.signed } ∷ signed_as w ds

-- one part
unfoldable pub asserted_only : ℕ → List Clause → Script → Script
asserted_only at [] s = faulty (at ∷ []) s
asserted_only at (c ∷ []) s = record { stage = s.stage; declarations = s.declarations; asserted = s.asserted ++ (c ∷ []); outside = s.outside ++ c.faults; beyond = s.beyond }
asserted_only at (c ∷ d ∷ cs) s = faulty (at ∷ []) s

-- whether it is a sign assertion comes first
unfoldable pub asserted_as : Option (List ℕ) → ℕ → Forms → Script → Script
asserted_as none at parts s = asserted_only at (clauses_of (names_of s.declarations) parts) s
asserted_as (some w) at parts s = record { stage = s.stage; declarations = signed_as w s.declarations; asserted = s.asserted; outside = s.outside; beyond = s.beyond }

abbrev pub logic_due : Command → ℕ → Forms → List ℕ
logic_due set_logic at parts = logic_faults at (parts_of parts)
logic_due declare_const at parts = at ∷ []
logic_due assert at parts = at ∷ []
logic_due check_sat at parts = at ∷ []
logic_due other_command at parts = at ∷ []

unfoldable pub under_logic : Command → ℕ → Forms → Script → Script
under_logic set_logic at parts s = faulty (at ∷ []) s
under_logic declare_const at parts s = declared at (parts_of parts) s
under_logic assert at parts s = asserted_as (signs (names_of s.declarations) parts) at parts s
under_logic check_sat at parts s = moved (checked at) (unless (eqb (length (parts_of parts)) 0) at) s
under_logic other_command at parts s = faulty (at ∷ []) s

unfoldable pub at_stage : Stage → Command → ℕ → Forms → Script → Script
at_stage start c at parts s = moved under (logic_due c at parts) s
at_stage under c at parts s = under_logic c at parts s
at_stage (checked place) c at parts s = faulty (at ∷ []) s

unfoldable pub script_from : Script → Forms → Script
script_from s nothing = s
script_from s (word at w rest) = script_from (at_stage s.stage other_command at nothing s) rest
script_from s (list at inner rest) = script_from (at_stage s.stage (command_of inner) at (behind inner) s) rest

unfoldable pub script_of : Forms → Script
script_of forms = script_from no_script forms

-- ---- what is missing

unfoldable pub unsigned : List Declaration → List ℕ
unsigned [] = []
unsigned (d ∷ ds) = unless d.signed d.place ++ unsigned ds

-- no check-sat, at the end; no other assertion, at check-sat
abbrev pub missing_forms : Stage → ℕ → List Clause → List ℕ
missing_forms start end asserted = end ∷ []
missing_forms under end asserted = end ∷ []
missing_forms (checked at) end asserted = unless (ltb 0 (length asserted)) at

abbrev pub missing_names : Stage → List Declaration → List ℕ
missing_names start ds = []
missing_names under ds = []
missing_names (checked at) ds = unless (ltb 0 (length ds)) at

-- of a text that has so many bytes
unfoldable pub all_outside : ℕ → Script → List ℕ
all_outside end s = s.outside ++ (unsigned s.declarations ++ missing_forms s.stage end s.asserted)

unfoldable pub all_beyond : Script → List ℕ
all_beyond s = s.beyond ++ missing_names s.stage s.declarations

-- ---- the lowest byte first; at one byte 15 before 4

abbrev pub lower : ℕ → Option ℕ → Option ℕ
lower a none = some a
lower a (some b) = some (cond (leb a b) a b)

unfoldable pub lowest_of : List ℕ → Option ℕ
lowest_of [] = none
lowest_of (a ∷ l) = lower a (lowest_of l)

abbrev pub refused_at : Option ℕ → Option ℕ → Option Refusal
refused_at none none = none
refused_at (some a) none = some (refusal Rule.OutsideSubset a)
refused_at none (some b) = some (refusal Rule.BeyondLimit b)
refused_at (some a) (some b) = some (cond (leb a b) (refusal Rule.OutsideSubset a) (refusal Rule.BeyondLimit b))

unfoldable pub fault_of : ℕ → Script → Option Refusal
fault_of end s = refused_at (lowest_of (all_outside end s)) (lowest_of (all_beyond s))
