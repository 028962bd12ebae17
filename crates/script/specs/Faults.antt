-- The fault of a script, from what is kept of it.
use Rattle.std.specs.Prelude.{ℕ, ◌≡◌, List, Result, ⊤}
use Rattle.std.proofs.Math.Option.{Option}
use Rattle.scope.specs.declared.Refusal.{Refusal}
use Rattle.scope.specs.Refusals.{unless_refused}
use Rattle.smtlib.specs.Script.{Script, unsigned, missing_forms, missing_names, lowest_of, refused_at, fault_of}
use Rattle.lexicon.specs.Spots.{Position, spot_of}
use Rattle.script.specs.declared.Kept.{Kept}
use Rattle.script.specs.Kept.{declarations_in, Keeps}

unfoldable pub UnsignedPlace : Kept → Position → Type 0
UnsignedPlace k r = (text : List ℕ) → r ≡ spot_of (lowest_of (unsigned (declarations_in text k)))

unfoldable pub MissingForm : Kept → ℕ → Position → Type 0
MissingForm k end r = (text : List ℕ) (s : Script) → Keeps text s k → r ≡ spot_of (lowest_of (missing_forms s.stage end s.asserted))

unfoldable pub MissingName : Kept → Position → Type 0
MissingName k r = (text : List ℕ) (s : Script) → Keeps text s k → r ≡ spot_of (lowest_of (missing_names s.stage s.declarations))

-- ---- the answer

unfoldable pub LowerTold : Position → Position → Result ⊤ Refusal → Type 0
LowerTold outside beyond r = (x y : Option ℕ) → outside ≡ spot_of x → beyond ≡ spot_of y → r ≡ unless_refused (refused_at x y) tt

unfoldable pub FaultTold : Kept → ℕ → Result ⊤ Refusal → Type 0
FaultTold k end r = (text : List ℕ) (s : Script) → Keeps text s k → r ≡ unless_refused (fault_of end s) tt
