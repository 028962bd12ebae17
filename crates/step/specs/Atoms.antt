-- The atoms of a question by index, and that a question within its limits meets what the code asks of its arrays.
use Rattle.std.specs.Prelude.{◌≡◌, refl, List, [], ◌∷◌, map, ℕ, zero, suc, ◌+◌, ◌*◌, ◌≤◌, ◌<◌, length, get_or, take, drop, pos}
use Rattle.std.proofs.Math.Path.{sym}
use Rattle.std.proofs.Common.{◌∙◌}
use native.Mathlib.Omega.{arith}
use Rattle.std.proofs.Math.ListN.{length-map}
use Rattle.scope.specs.declared.Question.{Question}
use Rattle.scope.specs.Question.{Kind, equation, at_most, Atom, nodes_of, kinds_of, coefficients_of, constant_of, atoms_from, atoms_of, atom_count}
use Rattle.scope.specs.Sizes.{most_atoms, most_variables}
use Rattle.theory.specs.Wire.Records.{kind_of_code}
use Rattle.theory.specs.Entries.KeyCells.{AtomsFit, fits_at_lem, atoms_fit}
use Rattle.theory.specs.Wire.Accepted.{WithinLimits}
use Rattle.theory.specs.Wire.Answers.{atom_count_lem}
use Rattle.step.specs.Cells.{kind_code, kind_codes, Coefficients}

-- ---- atom i of a question, by its parts

-- where there is none
abbrev pub no_atom : Atom
no_atom = record { kind = at_most; coefficients = []; constant = pos 0 }

abbrev pub atom_at : Question → ℕ → Atom
atom_at q i = get_or (atoms_of q) i no_atom

from_coefficients : (q : Question) (i j : ℕ) (κs : List Kind) → j < length κs → (get_or (atoms_from q i κs) j no_atom).coefficients ≡ coefficients_of q (i + j)
unfolding atoms_from
from_coefficients q i j [] h = absurd (omega arith)
from_coefficients q i zero (κ ∷ κs) h = let e : i + 0 ≡ i = omega arith in rw e
from_coefficients q i (suc j) (κ ∷ κs) h = let e : i + suc j ≡ suc i + j = omega arith in rw e (from_coefficients q (suc i) j κs (omega arith))

from_constant : (q : Question) (i j : ℕ) (κs : List Kind) → j < length κs → (get_or (atoms_from q i κs) j no_atom).constant ≡ constant_of q (i + j)
unfolding atoms_from
from_constant q i j [] h = absurd (omega arith)
from_constant q i zero (κ ∷ κs) h = let e : i + 0 ≡ i = omega arith in rw e
from_constant q i (suc j) (κ ∷ κs) h = let e : i + suc j ≡ suc i + j = omega arith in rw e (from_constant q (suc i) j κs (omega arith))

from_kind : (q : Question) (i j : ℕ) (κs : List Kind) → j < length κs → (get_or (atoms_from q i κs) j no_atom).kind ≡ kind_of_code (get_or (map kind_code κs) j 0)
unfolding atoms_from
from_kind q i j [] h = absurd (omega arith)
from_kind q i zero (equation ∷ κs) h = refl
from_kind q i zero (at_most ∷ κs) h = refl
from_kind q i (suc j) (κ ∷ κs) h = from_kind q (suc i) j κs (omega arith)

module _ (q : Question) where
  pub kinds_count : length (kind_codes q.codes) ≡ atom_count q
  unfolding kind_codes nodes_of
  kinds_count = length-map (kinds_of (nodes_of q)) kind_code ∙ sym (atom_count_lem q)

  module _ (i : ℕ) (h : i < atom_count q) where
    within : i < length (kinds_of (nodes_of q))
    within = rw (atom_count_lem q) at h

    pub atom_coefficients : (atom_at q i).coefficients ≡ take q.n (drop (most_variables * i) q.coefficients)
    unfolding atoms_of coefficients_of
    atom_coefficients = let e : 0 + i ≡ i = omega arith in rw e at (from_coefficients q 0 i (kinds_of (nodes_of q)) within)

    pub atom_constant : (atom_at q i).constant ≡ get_or q.constants i (pos 0)
    unfolding atoms_of constant_of
    atom_constant = let e : 0 + i ≡ i = omega arith in rw e at (from_constant q 0 i (kinds_of (nodes_of q)) within)

    pub atom_kind : (atom_at q i).kind ≡ kind_of_code (get_or (kind_codes q.codes) i 0)
    unfolding atoms_of kind_codes nodes_of
    atom_kind = from_kind q 0 i (kinds_of (nodes_of q)) within

-- ---- what the code asks

module _ {q : Question} (w : WithinLimits q) where
  pub few_atoms : atom_count q ≤ most_atoms
  few_atoms = rw (atom_count_lem q) w.atoms

  pub few_kinds : length (kind_codes q.codes) ≤ most_atoms
  few_kinds = rw (kinds_count q) few_atoms

  pub limits_fit : AtomsFit (atoms_of q)
  limits_fit = atoms_fit q w.variables (λ i h. w.numbers i (rw (atom_count_lem q) at h))

  pub coefficients_fit : Coefficients q.n (atom_count q) q.coefficients
  unfolding atom_count
  coefficients_fit = record {
    variables = w.variables;
    atoms = few_atoms;
    whole = w.sized.coefficients;
    small = λ i h. rw (atom_coefficients q i h) at (fits_at_lem limits_fit i no_atom h).small;
  }
