-- What a command changes: for every script that is kept, the changed one is kept.
use Rattle.std.specs.Prelude.{ℕ, ◌≡◌, true, false, List, [], ◌∷◌, ◌++◌}
use Rattle.std.proofs.Math.Option.{some}
use Rattle.smtlib.specs.Spelling.{is_in}
use Rattle.smtlib.specs.Forms.{Forms}
use Rattle.smtlib.specs.Terms.{index_from}
use Rattle.smtlib.specs.Formulas.{Clause}
use Rattle.smtlib.specs.Script.{nameable, name_in, Command, Stage, Script, names_of, moved, faulty, declared_if, signed_as, lowest_of}
use Rattle.lexicon.specs.Spots.{Position, spot_of}
use Rattle.forms.specs.declared.Form.{Form}
use Rattle.terms.specs.Names.{names_in}
use Rattle.script.specs.declared.Phase.{Phase}
use Rattle.script.specs.declared.Kept.{Kept}
use Rattle.script.specs.declared.CommandHead.{CommandHead}
use Rattle.script.specs.Parts.{word_in, part_in, PartSays}
use Rattle.script.specs.Commands.{CommandSays}
use Rattle.script.specs.Kept.{phase_of, Keeps}

unfoldable pub KeepsOn : List ℕ → Kept → (Script → Script) → Kept → Type 0
KeepsOn text k change r = (s : Script) → Keeps text s k → Keeps text (change s) r

-- another phase, and more 15s
unfoldable pub MovesOn : Kept → Phase → Position → Kept → Type 0
MovesOn k phase fault r =
    (text : List ℕ) (s : Script) (stage : Stage) (places : List ℕ) → Keeps text s k
    → phase ≡ phase_of stage → fault ≡ spot_of (lowest_of places) → Keeps text (moved stage places s) r

unfoldable pub FaultsOn : Kept → Position → Kept → Type 0
FaultsOn k fault r = (text places : List ℕ) → fault ≡ spot_of (lowest_of places) → KeepsOn text k (λ s. faulty places s) r

-- a name that is new
unfoldable pub NamesOn : Kept → ℕ → Form → Kept → Type 0
NamesOn k at n r =
    (text : List ℕ) (s : Script) → Keeps text s k → PartSays text n → nameable (word_in text n) ≡ true
    → is_in (name_in (word_in text n)) (names_of s.declarations) ≡ false → Keeps text (declared_if true at (part_in text n) s) r

-- a sign assertion of a name, by its number
abbrev pub signing : List ℕ → Script → Script
signing w s = record { stage = s.stage; declarations = signed_as w s.declarations; asserted = s.asserted; outside = s.outside; beyond = s.beyond }

unfoldable pub SignsOn : Kept → ℕ → Kept → Type 0
SignsOn k i r = (text w : List ℕ) → index_from 0 w (names_in text k.bounds k.count) ≡ some i → KeepsOn text k (λ s. signing w s) r

-- another assertion, by the lowest of its faults
abbrev pub asserting : Clause → Script → Script
asserting c s = record { stage = s.stage; declarations = s.declarations; asserted = s.asserted ++ (c ∷ []); outside = s.outside ++ c.faults; beyond = s.beyond }

unfoldable pub AssertsOn : Kept → Position → Kept → Type 0
AssertsOn k fault r = (text : List ℕ) (c : Clause) → fault ≡ spot_of (lowest_of c.faults) → KeepsOn text k (λ s. asserting c s) r

-- a command as its head is read
unfoldable pub CommandsOn : List ℕ → CommandHead → Kept → (Command → Forms → Script → Script) → Kept → Type 0
CommandsOn text head k change r = (c : Command) (parts : Forms) → CommandSays text c parts head → KeepsOn text k (change c parts) r
