use Prim.Native.Nat.{ℕ}
use mathlib.Core.Path.{◌≡◌}
use mathlib.Core.Bool.{Bool, false}
use mathlib.Core.List.{List}
use lib.ListN.{get_or}
use Rattle.smtlib.specs.Script.{Declaration, unsigned, lowest_of}
use Rattle.lexicon.specs.Spots.{spot_of}
use Rattle.script.specs.Kept.{declarations_from}
use Rattle.script.proofs.missing.unsigned_place.Given as goal

abbrev pub declared_by : (ℕ → List ℕ) → (ℕ → ℕ) → List ℕ → List Bool → ℕ → Declaration
declared_by names tokens places signed j = record { name = names j; place = get_or places j 0; name_place = tokens j; signed = get_or signed j false }

abbrev pub invariant-loop-i : goal.invariant-loop-i
invariant-loop-i l =
    (names : ℕ → List ℕ) (tokens : ℕ → ℕ) → l.spot ≡ spot_of (lowest_of (unsigned (declarations_from (λ j. declared_by names tokens l.places l.signed j) 0 l.i)))
