-- The forms from a place on, where no token is at hand, and that the text from there on is not broken.
use Rattle.std.specs.Prelude.{ℕ, ◌≡◌, List, [], ◌∷◌, drop}
use Rattle.std.proofs.Math.Option.{none}
use Rattle.smtlib.specs.Lexicon.{apart, broken_from, lexed}
use Rattle.smtlib.specs.Forms.{Forms, levels_of, outermost}

-- what follows in the list at hand, then what follows in the list around it, and so on
unfoldable pub levels_at : List ℕ → ℕ → List Forms
levels_at text at = levels_of (lexed (drop at text) apart at).tokens

abbrev pub forms_at : List ℕ → ℕ → Forms
forms_at text at = outermost (levels_at text at)

abbrev pub outer : List Forms → List Forms
outer [] = []
outer (forms ∷ levels) = levels

abbrev pub around : List ℕ → ℕ → List Forms
around text at = outer (levels_at text at)

-- with so many lists open
unfoldable pub Unbroken : List ℕ → ℕ → ℕ → Type 0
Unbroken text at depth = broken_from (drop at text) apart depth at ≡ none
