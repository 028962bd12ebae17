-- Nodes behind others: their atoms, their checks, and what is refused first among them.
use Rattle.std.specs.Prelude.{ℕ, suc, ◌+◌, ◌≡◌, refl, cond, List, [], ◌∷◌, ◌++◌, length}
use Rattle.std.proofs.Common.{arith, sym, ap, ◌∙◌, append_assoc, length-append}
use Rattle.std.proofs.Math.Option.{some}
use Rattle.scope.specs.declared.Refusal.{Refusal}
use Rattle.scope.specs.Question.{Node, unused, atom, not, and, or, is_atom, Atom}
use Rattle.scope.specs.Refusals.{Check, first_refusal}
use Rattle.theory.specs.Wire.Checks.{FirstFailing, some_iff_failing}
use Rattle.smtlib.specs.Imported.{PlacedNode, placed_checks}
use Rattle.laying.specs.Laid.{atom_laid, atoms_laid, placed_here}

-- ---- atoms

pub leaf_counts : (n : ℕ) (x : PlacedNode) (k : Node) → length (atom_laid n x k) ≡ cond (is_atom k) 1 0
leaf_counts n x unused = refl
leaf_counts n x (atom κ) = refl
leaf_counts n x not = refl
leaf_counts n x and = refl
leaf_counts n x or = refl

pub atoms_append : (n : ℕ) (ys xs : List PlacedNode) → atoms_laid n (ys ++ xs) ≡ atoms_laid n ys ++ atoms_laid n xs
unfolding atoms_laid
atoms_append n [] xs = refl
atoms_append n (y ∷ ys) xs = ap (λ (l : List Atom). atom_laid n y y.node ++ l) (atoms_append n ys xs) ∙ sym (append_assoc (atom_laid n y y.node) (atoms_laid n ys) (atoms_laid n xs))

-- ---- checks

pub checks_append : (n nodes atoms : ℕ) (ys xs : List PlacedNode)
    → placed_checks nodes atoms (ys ++ xs) ≡ placed_checks nodes atoms ys ++ placed_checks (nodes + length ys) (atoms + length (atoms_laid n ys)) xs
unfolding placed_checks atoms_laid
checks_append n nodes atoms [] xs =
    let a : nodes ≡ nodes + 0 = omega arith in
    let b : atoms ≡ atoms + 0 = omega arith in
    λ i. placed_checks (a i) (b i) xs
checks_append n nodes atoms (y ∷ ys) xs =
    let k : ℕ = cond (is_atom y.node) 1 0 in
    let a : suc nodes + length ys ≡ nodes + suc (length ys) = omega arith in
    let b : (atoms + k) + length (atoms_laid n ys) ≡ atoms + length (atom_laid n y y.node ++ atoms_laid n ys) =
    omega (arith, leaf_counts n y y.node, length-append (atom_laid n y y.node) (atoms_laid n ys)) in
    ap (λ (l : List Check). placed_here nodes atoms y ++ l)
    (checks_append n (suc nodes) (atoms + k) ys xs ∙ (λ i. placed_checks (suc nodes) (atoms + k) ys ++ placed_checks (a i) (b i) xs))

-- ---- what is refused first

append_failing : (cs ds : List Check) (r : Refusal) → FirstFailing cs r → FirstFailing (cs ++ ds) r
append_failing cs ds r f = record {
  before = f.before;
  failing = f.failing;
  after = f.after ++ ds;
  order = ap (λ (l : List Check). l ++ ds) f.order ∙ append_assoc f.before (f.failing ∷ f.after) ds;
  earlier = f.earlier;
  failed = f.failed;
  told = f.told;
}

-- a refusal stays as it is
pub refusal_stays : (cs ds : List Check) (r : Refusal) → first_refusal cs ≡ some r → first_refusal (cs ++ ds) ≡ some r
refusal_stays cs ds r e = (some_iff_failing (cs ++ ds) r).1 (append_failing cs ds r ((some_iff_failing cs r).0 e))
