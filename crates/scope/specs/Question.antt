-- A held question, its nodes and its atoms. A node code stands for a node; what a node is on the wire is in Wire.
use Rattle.std.specs.Prelude.{ℕ, suc, ◌*◌, Bool, true, false, cond, List, [], ◌∷◌, map, length, get_or, take, drop, replicate, eqb, ℤ, pos}
use Rattle.scope.specs.declared.Question.{Question}
use Rattle.scope.specs.Sizes.{most_variables, most_atoms, most_nodes, most_coefficients}

-- ---- nodes

pub data Kind : Type 0 where
  equation : Kind
  at_most : Kind

pub data Node : Type 0 where
  unused : Node
  atom : Kind → Node
  not : Node
  and : Node
  or : Node

abbrev pub node_of : ℕ → Node
node_of c = cond (eqb c 1) (atom equation) (cond (eqb c 2) (atom at_most) (cond (eqb c 3) not (cond (eqb c 4) and (cond (eqb c 5) or unused))))

abbrev pub code_of : Node → ℕ
code_of unused = 0
code_of (atom equation) = 1
code_of (atom at_most) = 2
code_of not = 3
code_of and = 4
code_of or = 5

abbrev pub is_unused : Node → Bool
is_unused unused = true
is_unused (atom κ) = false
is_unused not = false
is_unused and = false
is_unused or = false

abbrev pub is_atom : Node → Bool
is_atom unused = false
is_atom (atom κ) = true
is_atom not = false
is_atom and = false
is_atom or = false

-- how many parts follow a node
abbrev pub parts : Node → ℕ
parts unused = 0
parts (atom κ) = 0
parts not = 1
parts and = 2
parts or = 2

-- ---- the held question

abbrev pub empty_question : Question
empty_question = record {
  n = 0;
  codes = replicate most_nodes 0;
  coefficients = replicate most_coefficients (pos 0);
  constants = replicate most_atoms (pos 0);
}

unfoldable pub nodes_of : Question → List Node
nodes_of q = map node_of q.codes

-- the numbers of atom i
unfoldable pub coefficients_of : Question → ℕ → List ℤ
coefficients_of q i = take q.n (drop (most_variables * i) q.coefficients)

unfoldable pub constant_of : Question → ℕ → ℤ
constant_of q i = get_or q.constants i (pos 0)

-- ---- atoms, numbered from 0 as they stand

pub record Atom : Type 0 where
  pub kind : Kind
  pub coefficients : List ℤ
  pub constant : ℤ

unfoldable pub kinds_of : List Node → List Kind
kinds_of [] = []
kinds_of (unused ∷ xs) = kinds_of xs
kinds_of (atom κ ∷ xs) = κ ∷ kinds_of xs
kinds_of (not ∷ xs) = kinds_of xs
kinds_of (and ∷ xs) = kinds_of xs
kinds_of (or ∷ xs) = kinds_of xs

-- the atoms from number i on
unfoldable pub atoms_from : Question → ℕ → List Kind → List Atom
atoms_from q i [] = []
atoms_from q i (κ ∷ κs) = record { kind = κ; coefficients = coefficients_of q i; constant = constant_of q i } ∷ atoms_from q (suc i) κs

unfoldable pub atoms_of : Question → List Atom
atoms_of q = atoms_from q 0 (kinds_of (nodes_of q))

-- m
unfoldable pub atom_count : Question → ℕ
atom_count q = length (atoms_of q)
