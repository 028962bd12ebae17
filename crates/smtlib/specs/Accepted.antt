-- What is said of an accepted text: that its script is without faults, and the names that it declares.
use Rattle.std.specs.Prelude.{◌≡◌, ℕ, ◌<◌, List, [], length}
use Rattle.smtlib.specs.Script.{Script, names_of, unsigned}
use Rattle.smtlib.specs.Cases.{script_in}

pub record Faultless (s : Script) : Type 0 where
  pub outside : s.outside ≡ []
  pub beyond : s.beyond ≡ []
  pub signed : unsigned s.declarations ≡ []
  pub asserted : 0 < length s.asserted
  pub named : 0 < length s.declarations

abbrev pub declared_names : List ℕ → List (List ℕ)
declared_names text = names_of (script_in text).declarations
