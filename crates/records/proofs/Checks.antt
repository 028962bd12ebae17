-- Checks in their order by what their tests say, and those of a node that reading and writing share: its place, its size, its numbers.
use mathlib.Core.Path.{◌≡◌, refl, ◌∙◌}
use mathlib.Core.Logic.{◌⊎◌, inl, inr, ⊎_elim}
use mathlib.Core.Bool.{Bool, true, false, not, ◌&&◌, ◌||◌}
use mathlib.Core.Option.{Option, none, some}
use mathlib.Core.List.{List, [], ◌∷◌}
use Prim.Native.Nat.{ℕ, ◌<◌, ◌≤◌}
use native.Mathlib.Omega.{arith}
use borrow.Author.Tests.{le-ltb, lt-ltb}
use lib.Dec.{T, leb, ltb, ltb→lt}
use lib.IntN.{ℤ}
use Rattle.scope.specs.declared.Rule.{Rule}
use Rattle.scope.specs.declared.Refusal.{Refusal}
use Rattle.scope.specs.Sizes.{most_nodes, most_atoms, most_depth}
use Rattle.scope.specs.Question.{Node, code_of, is_atom}
use Rattle.scope.specs.Refusals.{Check, check, refusal, first_refusal}
use Rattle.scope.specs.Wire.{Shape, place_check, size_checks, field_checks, atom_checks}
use Rattle.theory.specs.Wire.Checks.{was_asked, failing_at}
use Rattle.std.specs.Prelude.{Ok, Err}
use Rattle.records.specs.Formula.{size_fits}
use Rattle.records.specs.Parts.{node_or}

pub true_T : (t : Bool) → t ≡ true → T t
true_T true e = tt
true_T false e = let z : ◌≡◌ {A = ℕ} 0 1 = cc in absurd (omega arith)

and-true : (a b : Bool) → (a && b) ≡ true → (a ≡ true) × (b ≡ true)
and-true true b e = (refl, e)
and-true false b e = let z : ◌≡◌ {A = ℕ} 0 1 = cc in absurd (omega arith)

and-false : (a b : Bool) → (a && b) ≡ false → (a ≡ false) ⊎ ((a ≡ true) × (b ≡ false))
and-false true b e = inr (refl, e)
and-false false b e = inl refl

-- ---- the first check

module _ (rule : Rule) (place : ℕ) (t : Bool) (later : List Check) where
  pub first_failed : t ≡ false → first_refusal (check rule place t ∷ later) ≡ some (refusal rule place)
  first_failed e = failing_at [] (check rule place t) later tt e

  pub first_passed : t ≡ true → first_refusal (check rule place t ∷ later) ≡ first_refusal later
  unfolding first_refusal
  first_passed e = rw e

-- ---- the place and the size of a node

module _ (place : ℕ) (s : Shape) (later : List Check) where
  pub no_room_lem : most_nodes ≤ s.nodes → first_refusal (place_check place s ∷ later) ≡ some (refusal Rule.TooMany place)
  no_room_lem h = first_failed Rule.TooMany place (ltb s.nodes most_nodes) later (le-ltb s.nodes most_nodes h)

  pub some_room : s.nodes < most_nodes → first_refusal (place_check place s ∷ later) ≡ first_refusal later
  some_room h = first_passed Rule.TooMany place (ltb s.nodes most_nodes) later (lt-ltb s.nodes most_nodes h)

  module _ (x : Node) (depth : ℕ) where
    abbrev few : Bool
    few = not (is_atom x) || ltb s.atoms most_atoms

    pub too_large_lem : size_fits (is_atom x) s.atoms depth ≡ false → first_refusal (size_checks place x depth s later) ≡ some (refusal Rule.TooMany place)
    too_large_lem e = ⊎_elim (first_failed Rule.TooMany place few _)
        (λ p. first_passed Rule.TooMany place few _ p.0 ∙ first_failed Rule.TooMany place (leb depth most_depth) later p.1)
        (and-false few (leb depth most_depth) e)

    pub small_enough : size_fits (is_atom x) s.atoms depth ≡ true → first_refusal (size_checks place x depth s later) ≡ first_refusal later
    small_enough e =
        let p = and-true few (leb depth most_depth) e in
        first_passed Rule.TooMany place few _ p.0 ∙ first_passed Rule.TooMany place (leb depth most_depth) later p.1

-- an atom that is one of eight
pub few_atoms : (t : Bool) (atoms : ℕ) → T (not t || ltb atoms most_atoms) → t ≡ true → atoms < most_atoms
few_atoms t atoms h e = ltb→lt atoms most_atoms (was_asked t (ltb atoms most_atoms) h (true_T t e))

pub sized_few : (t : Bool) (atoms depth : ℕ) → size_fits t atoms depth ≡ true → t ≡ true → atoms < most_atoms
sized_few t atoms depth e a = few_atoms t atoms (true_T (not t || ltb atoms most_atoms) (and-true (not t || ltb atoms most_atoms) (leb depth most_depth) e).0) a

-- ---- the numbers of an atom

module _ (place apart : ℕ) (x : Node) (coefficients : List ℤ) (constant : ℤ) where
  pub no_numbers_lem : is_atom x ≡ false → first_refusal (atom_checks place apart x coefficients constant) ≡ none
  unfolding first_refusal
  no_numbers_lem a = rw a

  pub atom_numbers : is_atom x ≡ true → first_refusal (atom_checks place apart x coefficients constant) ≡ first_refusal (field_checks place apart coefficients constant)
  atom_numbers a = rw a

-- ---- what was answered of a node says what was refused

pub node_none : (o : Option Refusal) (x : Node) (code : ℕ) → node_or o x ≡ Ok code → (o ≡ none) × (code ≡ code_of x)
node_none none x code e = (refl, cc)
node_none (some r) x code e = let z : ◌≡◌ {A = ℕ} 0 1 = cc in absurd (omega arith)

pub node_some : (o : Option Refusal) (x : Node) (r : Refusal) → node_or o x ≡ Err r → o ≡ some r
node_some none x r e = let z : ◌≡◌ {A = ℕ} 0 1 = cc in absurd (omega arith)
node_some (some s) x r e = cc
