-- A question as document 01 means it, apart from any reader or writer: a tree of atoms and connectives. Its limits ("Sizes"), its bytes
-- and its held value ("A question on the wire"), and whether naturals satisfy it, by whole-number arithmetic.
use Rattle.std.specs.Prelude.{ℕ, ◌+◌, max, ◌≡◌, Bool, ◌&&◌, ◌||◌, List, [], ◌∷◌, ◌++◌, map, length, replicate, T, leb, eqb, ℤ, pos}
use Rattle.std.proofs.Math.Bool as bool
use Rattle.scope.specs.declared.Question.{Question}
use Rattle.scope.specs.Whole.{joined, at_front}
use Rattle.std.specs.List.{list_all}
use Rattle.scope.specs.Sizes.{most_variables, most_atoms, most_nodes, most_depth, variables_fit, numbers_fit}
use Rattle.scope.specs.Question.{Node, code_of, empty_question, Atom}
use Rattle.scope.specs.Wire.{head_kind, end_kind, kind_of}
use Rattle.scope.specs.Writing.{record_bytes, atom_body}
use Rattle.scope.specs.States.{holds}

pub data Tree : Type 0 where
  atom : Atom → Tree
  not : Tree → Tree
  and : Tree → Tree → Tree
  or : Tree → Tree → Tree

-- its nodes, each connective before its parts, and its atoms, as they stand
unfoldable pub nodes_in : Tree → List Node
nodes_in (Tree.atom a) = Node.atom a.kind ∷ []
nodes_in (Tree.not t) = Node.not ∷ nodes_in t
nodes_in (Tree.and t u) = Node.and ∷ (nodes_in t ++ nodes_in u)
nodes_in (Tree.or t u) = Node.or ∷ (nodes_in t ++ nodes_in u)

unfoldable pub atoms_in : Tree → List Atom
atoms_in (Tree.atom a) = a ∷ []
atoms_in (Tree.not t) = atoms_in t
atoms_in (Tree.and t u) = atoms_in t ++ atoms_in u
atoms_in (Tree.or t u) = atoms_in t ++ atoms_in u

-- ---- its limits

-- the root is at depth 1
unfoldable pub depth_of : Tree → ℕ
depth_of (Tree.atom a) = 1
depth_of (Tree.not t) = 1 + depth_of t
depth_of (Tree.and t u) = 1 + max (depth_of t) (depth_of u)
depth_of (Tree.or t u) = 1 + max (depth_of t) (depth_of u)

-- n coefficients, and each number within its limit
unfoldable pub atom_fits : ℕ → Atom → Bool
atom_fits n a = eqb (length a.coefficients) n && numbers_fit a.coefficients a.constant

unfoldable pub within_limits : ℕ → Tree → Bool
within_limits n t =
    variables_fit n &&
    (leb (length (nodes_in t)) most_nodes &&
    (leb (length (atoms_in t)) most_atoms &&
    (leb (depth_of t) most_depth &&
    list_all (atom_fits n) (atoms_in t))))

-- ---- its bytes: the head, the formula, the end

unfoldable pub tree_bytes : Tree → List ℕ
tree_bytes (Tree.atom a) = record_bytes (kind_of (Node.atom a.kind)) (atom_body a.coefficients a.constant)
tree_bytes (Tree.not t) = record_bytes (kind_of Node.not) [] ++ tree_bytes t
tree_bytes (Tree.and t u) = record_bytes (kind_of Node.and) [] ++ (tree_bytes t ++ tree_bytes u)
tree_bytes (Tree.or t u) = record_bytes (kind_of Node.or) [] ++ (tree_bytes t ++ tree_bytes u)

unfoldable pub question_bytes : ℕ → Tree → List ℕ
question_bytes n t = record_bytes head_kind (n ∷ []) ++ (tree_bytes t ++ record_bytes end_kind [])

-- ---- its held value: codes in the same order, a row of six for each atom, constants; unused entries are zero

unfoldable pub row_of : Atom → List ℤ
row_of a = at_front a.coefficients (replicate most_variables (pos 0))

-- by its nodes and its atoms
abbrev pub held_by : ℕ → List Node → List Atom → Question
held_by n xs ats = record {
  n = n;
  codes = at_front (map code_of xs) empty_question.codes;
  coefficients = at_front (joined (map row_of ats)) empty_question.coefficients;
  constants = at_front (map (λ (a : Atom). a.constant) ats) empty_question.constants;
}

abbrev pub held_as : ℕ → Tree → Question
held_as n t = held_by n (nodes_in t) (atoms_in t)

-- ---- whether naturals satisfy it

unfoldable pub true_for : Tree → List ℕ → Bool
true_for (Tree.atom a) xs = holds a xs
true_for (Tree.not t) xs = bool.not (true_for t xs)
true_for (Tree.and t u) xs = true_for t xs && true_for u xs
true_for (Tree.or t u) xs = true_for t xs || true_for u xs

-- ---- a question: n and a tree within the limits

-- these bytes are a question's
pub record IsQuestion (bytes : List ℕ) : Type 0 where
  pub n : ℕ
  pub tree : Tree
  pub within : T (within_limits n tree)
  pub bytes_are : bytes ≡ question_bytes n tree

-- this held value is a question's
pub record IsHeld (q : Question) : Type 0 where
  pub n : ℕ
  pub tree : Tree
  pub within : T (within_limits n tree)
  pub held_is : q ≡ held_as n tree
