-- Document 01, "Sizes": each limit named once.
use Rattle.std.specs.Prelude.{ℕ, ◌+◌, ◌*◌, ◌^◌, Bool, ◌&&◌, List, leb, ℤ, pos, nat_abs}
use Rattle.scope.specs.declared.Limits.{Limits}
use Rattle.std.specs.List.{list_all}

abbrev pub most_variables : ℕ
most_variables = 6

abbrev pub most_atoms : ℕ
most_atoms = 8

abbrev pub most_nodes : ℕ
most_nodes = 64

-- a row of coefficients for each atom
abbrev pub most_coefficients : ℕ
most_coefficients = most_variables * most_atoms

-- the root is at depth 1
abbrev pub most_depth : ℕ
most_depth = 16

-- a letter has one binary digit of every variable
abbrev pub most_letters : ℕ
most_letters = 2 ^ most_variables

-- either way
abbrev pub most_coefficient : ℕ
most_coefficient = 4096

-- either way
abbrev pub most_constant : ℕ
most_constant = 1000000

-- 2 ^ 40 - 1: of the values handed to the judge
abbrev pub most_value : ℕ
most_value = 1099511627775

abbrev pub most_states : ℕ
most_states = 65535

-- the bytes of the longest question: the head, every node's header, every atom's numbers, the end
abbrev pub most_bytes : ℕ
most_bytes = 5 + (4 * most_nodes + (4 * (most_variables + 1) * most_atoms + 4))

-- the letters of a word that is spelled out
abbrev pub most_spelled : ℕ
most_spelled = 64

abbrev pub limits : Limits
limits = record {
  variables = most_variables;
  atoms = most_atoms;
  nodes = most_nodes;
  depth = most_depth;
  coefficient = pos most_coefficient;
  constant = pos most_constant;
  value = most_value;
  states = most_states;
  bytes = most_bytes;
}

-- a number of variables
abbrev pub variables_fit : ℕ → Bool
variables_fit n = leb 1 n && leb n most_variables

abbrev pub coefficient_fits : ℤ → Bool
coefficient_fits a = leb (nat_abs a) most_coefficient

abbrev pub constant_fits : ℤ → Bool
constant_fits k = leb (nat_abs k) most_constant

-- the numbers of an atom
unfoldable pub numbers_fit : List ℤ → ℤ → Bool
numbers_fit coefficients constant = list_all coefficient_fits coefficients && constant_fits constant
