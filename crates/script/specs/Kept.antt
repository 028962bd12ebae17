-- A script as the code keeps it: how many assertions, the lowest place of each kind of fault, and each declaration by places in the text.
use Rattle.std.specs.Prelude.{ℕ, zero, suc, ◌*◌, ◌<◌, ◌≡◌, false, List, [], ◌∷◌, length, get_or}
use Rattle.smtlib.specs.Script.{Stage, start, under, checked, Declaration, Script, names_of, lowest_of}
use Rattle.smtlib.specs.Imported.{spelt_from}
use Rattle.smtlib.specs.Names.{Distinct}
use Rattle.lexicon.specs.Spots.{spot_of}
use Rattle.terms.specs.Names.{name_at, NamesStand}
use Rattle.script.specs.declared.Phase.{Phase}
use Rattle.script.specs.declared.Kept.{Kept}

abbrev pub phase_of : Stage → Phase
phase_of start = Phase.Start
phase_of under = Phase.Under
phase_of (checked at) = Phase.Checked at

-- ---- declarations

abbrev pub declaration_at : List ℕ → Kept → ℕ → Declaration
declaration_at text k i = record {
  name = name_at text k.bounds i;
  place = get_or k.places i 0;
  name_place = get_or k.tokens i 0;
  signed = get_or k.signed i false;
}

-- so many from number i on
unfoldable pub declarations_from : (ℕ → Declaration) → ℕ → ℕ → List Declaration
declarations_from d i zero = []
declarations_from d i (suc n) = d i ∷ declarations_from d (suc i) n

abbrev pub declarations_in : List ℕ → Kept → List Declaration
declarations_in text k = declarations_from (λ i. declaration_at text k i) 0 k.count

-- ---- the script

pub record KeptWhole (k : Kept) : Type 0 where
  pub bounds_length : length k.bounds ≡ 14
  pub places_length : length k.places ≡ 7
  pub tokens_length : length k.tokens ≡ 7
  pub signed_length : length k.signed ≡ 7

pub record Keeps (text : List ℕ) (s : Script) (k : Kept) : Type 0 where
  pub whole : KeptWhole k
  pub phase_is : k.phase ≡ phase_of s.stage
  pub declarations_are : s.declarations ≡ declarations_in text k
  pub names_stand : NamesStand text k.bounds k.count
  pub spelt_from : (i : ℕ) → i < k.count → get_or k.bounds (2 * i) 0 ≡ spelt_from text (get_or k.tokens i 0)
  pub no_name_twice : Distinct (names_of s.declarations)
  pub asserted_are : k.asserted ≡ length s.asserted
  pub outside_is : k.outside ≡ spot_of (lowest_of s.outside)
  pub beyond_is : k.beyond ≡ spot_of (lowest_of s.beyond)
