-- The command of a list as the code reads it, and which name a sign assertion signs.
use Rattle.std.specs.Prelude.{ℕ, ◌≤◌, ◌<◌, ◌≡◌, ◌≢◌, true, false, cond, List, eqb, length, Option, Some, None}
use Rattle.std.proofs.Math.Option as Math
use Rattle.std.proofs.Math.Option.{none, some}
use Rattle.smtlib.specs.Forms.{Bare, Forms, nothing}
use Rattle.smtlib.specs.Terms.{index_from}
use Rattle.smtlib.specs.Script.{says_one, name_in, Command, set_logic, declare_const, assert, check_sat, other_command, command_of, behind}
use Rattle.forms.specs.declared.Form.{Form}
use Rattle.forms.specs.Places.{forms_at, Unbroken}
use Rattle.forms.specs.Read.{OPEN}
use Rattle.terms.specs.Heads.{PartsBehind}
use Rattle.terms.specs.Read.{Inside}
use Rattle.script.specs.declared.CommandName.{CommandName}
use Rattle.script.specs.declared.CommandHead.{CommandHead}

abbrev pub command_name : Command → CommandName
command_name set_logic = CommandName.SetLogic
command_name declare_const = CommandName.DeclareConst
command_name assert = CommandName.Assert
command_name check_sat = CommandName.CheckSat
command_name other_command = CommandName.Other

-- the names are told apart by their places
abbrev pub name_place : CommandName → ℕ
name_place CommandName.SetLogic = 0
name_place CommandName.DeclareConst = 1
name_place CommandName.Assert = 2
name_place CommandName.CheckSat = 3
name_place CommandName.Other = 4

-- the command of the list at a place, with so many lists open, and what follows its name
pub record CommandRead (text : List ℕ) (at depth : ℕ) (r : CommandHead) : Type 0 where
  pub name_is : r.name ≡ command_name (command_of (forms_at text at))
  pub parts_behind : r.name ≢ CommandName.Other → PartsBehind text at depth r.next

unfoldable pub CommandReads : List ℕ → ℕ → CommandHead → Type 0
CommandReads text at r = (depth : ℕ) → Unbroken text at depth → CommandRead text at depth r

-- ---- a form among the commands, where no list is open: its command and the parts behind it; a word is another command

abbrev pub command_in : List ℕ → Form → Command
command_in text f = cond (eqb f.kind OPEN) (command_of (forms_at text f.next)) other_command

abbrev pub forms_behind : List ℕ → Form → Forms
forms_behind text f = cond (eqb f.kind OPEN) (behind (forms_at text f.next)) nothing

pub record CommandHere (text : List ℕ) (f : Form) : Type 0 where
  pub here : f.next ≤ length text
  pub unbroken : f.kind ≡ OPEN → Unbroken text f.next 1

-- the nestings left in a command's list
abbrev pub command_nesting : ℕ
command_nesting = 31

pub record CommandSays (text : List ℕ) (c : Command) (parts : Forms) (r : CommandHead) : Type 0 where
  pub name_is : r.name ≡ command_name c
  pub parts_are : r.name ≢ CommandName.Other → parts ≡ forms_at text r.next

unfoldable pub CommandInside : List ℕ → CommandHead → Type 0
CommandInside text r = r.name ≢ CommandName.Other → Inside text r.next command_nesting

-- ---- a name that a form says, by its number

abbrev pub NameOf : Bare → List (List ℕ) → ℕ → Option ℕ → Type 0
NameOf w names count (Some r) = (r < count) × ((says_one w names ≡ true) × (index_from 0 (name_in w) names ≡ some r))
NameOf w names count None = says_one w names ≡ false

-- ---- a name signed, by its number

pub record SignedName (names : List (List ℕ)) (signed : Math.Option (List ℕ)) (count r : ℕ) : Type 0 where
  pub below : r < count
  pub name : List ℕ
  pub signs_it : signed ≡ some name
  pub number_is : index_from 0 name names ≡ some r

abbrev pub SignedBy : List (List ℕ) → Math.Option (List ℕ) → ℕ → Option ℕ → Type 0
SignedBy names signed count (Some r) = SignedName names signed count r
SignedBy names signed count None = signed ≡ none
