-- Codes of atoms and their kinds.
use Prim.Native.Nat.{ℕ, ◌+◌, ◌<◌}
use native.Mathlib.Omega.{arith}
use mathlib.Core.Path.{◌≡◌, refl, ap, ◌∙◌}
use mathlib.Core.Bool.{Bool, true, false, cond}
use mathlib.Core.List.{List, ◌∷◌, map}
use lib.ListN.{length, get_or, drop}
use lib.Dec.{eqb}
use Rattle.scope.specs.Question.{equation, at_most, Node, unused, atom, node_of, is_atom, kinds_of}
use Rattle.theory.specs.Wire.Records.{kind_of_code}
use Rattle.formula.specs.Parts.{node_first}

pub atom_code : (c : ℕ) → is_atom (node_of c) ≡ true → node_of c ≡ atom (kind_of_code c)
atom_code c = by_tests (eqb c 1) (eqb c 2) (eqb c 3) (eqb c 4) (eqb c 5)
  where
    by_tests :
        (r s t u v : Bool) →
        is_atom (cond r (atom equation) (cond s (atom at_most) (cond t Node.not (cond u Node.and (cond v Node.or unused))))) ≡ true →
        cond r (atom equation) (cond s (atom at_most) (cond t Node.not (cond u Node.and (cond v Node.or unused)))) ≡ atom (cond r equation at_most)
    by_tests true s t u v e = refl
    by_tests false true t u v e = refl
    by_tests false false true u v e = let z : ◌≡◌ {A = ℕ} 0 1 = cc in absurd (omega arith)
    by_tests false false false true v e = let z : ◌≡◌ {A = ℕ} 0 1 = cc in absurd (omega arith)
    by_tests false false false false true e = let z : ◌≡◌ {A = ℕ} 0 1 = cc in absurd (omega arith)
    by_tests false false false false false e = let z : ◌≡◌ {A = ℕ} 0 1 = cc in absurd (omega arith)

-- ---- the kinds from a node on

skipped : (x : Node) (xs : List Node) → is_atom x ≡ false → kinds_of (x ∷ xs) ≡ kinds_of xs
unfolding kinds_of
skipped unused xs e = refl
skipped (atom κ) xs e = let z : ◌≡◌ {A = ℕ} 0 1 = cc in absurd (omega arith)
skipped Node.not xs e = refl
skipped Node.and xs e = refl
skipped Node.or xs e = refl

module _ (codes : List ℕ) (at : ℕ) (l : at < length codes) where
  pub kinds_skip : is_atom (node_of (get_or codes at 0)) ≡ false → kinds_of (drop at (map node_of codes)) ≡ kinds_of (drop (at + 1) (map node_of codes))
  kinds_skip e = ap kinds_of (node_first codes at l) ∙ skipped (node_of (get_or codes at 0)) (drop (at + 1) (map node_of codes)) e

  pub kinds_atom : is_atom (node_of (get_or codes at 0)) ≡ true → kinds_of (drop at (map node_of codes)) ≡ kind_of_code (get_or codes at 0) ∷ kinds_of (drop (at + 1) (map node_of codes))
  unfolding kinds_of
  kinds_atom e = ap kinds_of (node_first codes at l ∙ ap (λ (x : Node). x ∷ drop (at + 1) (map node_of codes)) (atom_code (get_or codes at 0) e))
