-- What a letter does to a key row, cell by cell, and what each atom is worth at its cell; what the code asks of them.
use Rattle.std.specs.Prelude.{◌≡◌, ◌⊎◌, Bool, cond, List, map, ℕ, ◌+◌, ◌*◌, ◌%◌, ◌^◌, ◌≤◌, ◌<◌, length, get_or, take, drop, ℤ, pos, nat_abs, ◌+ℤ◌, ◌-ℤ◌}
use Rattle.scope.specs.Whole.{eq_z}
use Rattle.scope.specs.Question.{Kind, atom, node_of, code_of, kinds_of}
use Rattle.scope.specs.States.{dead_cell, cell_of, halved, sum_at, worth_live}
use Rattle.scope.specs.Sizes.{most_atoms, most_coefficient, most_coefficients, most_constant, most_letters, most_variables}
use Rattle.theory.specs.Entries.KeyCells.{most_sum}
use Rattle.theory.specs.Wire.Records.{kind_of_code}
use Rattle.theory.specs.Numbers.Sums.{Small}
use Rattle.step.specs.Eight.{listed, padded}

-- ---- kinds, as the code has them: 1 equation, 2 at most

abbrev pub kind_code : Kind → ℕ
kind_code κ = code_of (atom κ)

-- the kinds of the atoms among the node codes, in order
unfoldable pub kind_codes : List ℕ → List ℕ
kind_codes codes = map kind_code (kinds_of (map node_of codes))

-- ---- a key cell, and the sum of its atom's coefficients at a letter

-- a cell as a number: a dead one as 0
abbrev pub live_part : ℤ → ℤ
live_part cell = cond (eq_z cell dead_cell) (pos 0) cell

unfoldable pub step_cell : Kind → ℤ → ℤ → ℤ
step_cell κ cell sum = cond (eq_z cell dead_cell) dead_cell (cell_of (halved κ (cell -ℤ sum)))

-- a dead cell is below zero, so worth nothing
abbrev pub worth_cell : Kind → ℤ → Bool
worth_cell κ cell = worth_live κ cell

-- ---- a row of cells: what cell i becomes, and what atom i is worth. A row has eight cells in the code and its first `width` in the key area;
-- past its cells it reads as 0.

abbrev pub step_at : List ℕ → List ℤ → ℕ → List ℤ → ℕ → ℤ
step_at kinds sums letter row i = step_cell (kind_of_code (get_or kinds i 0)) (get_or row i (pos 0)) (get_or sums (most_atoms * letter + i) (pos 0))

-- the first `width` cells of the row to which a letter leads
unfoldable pub step_cells : List ℕ → ℕ → List ℤ → ℕ → List ℤ → List ℤ
step_cells kinds width sums letter row = listed (step_at kinds sums letter row) width

abbrev pub worth_at : List ℕ → List ℤ → ℕ → Bool
worth_at kinds row i = worth_cell (kind_of_code (get_or kinds i 0)) (get_or row i (pos 0))

unfoldable pub worth_cells : List ℕ → List ℤ → List Bool
worth_cells kinds row = listed (worth_at kinds row) most_atoms

-- ---- what the code asks

-- dead, or of the size of an entry
abbrev pub CellFits : ℤ → Type 0
CellFits cell = (cell ≡ dead_cell) ⊎ (nat_abs cell ≤ most_constant)

pub record Stepping (sums : List ℤ) (letter : ℕ) (row : List ℤ) : Type 0 where
  pub letter_ok : letter < most_letters
  pub cells : (i : ℕ) → i < most_atoms → CellFits (get_or row i (pos 0))
  pub sums_fit : (i : ℕ) → i < most_atoms → nat_abs (get_or sums (most_atoms * letter + i) (pos 0)) ≤ most_sum

-- the coefficients of the first m atoms, n each, in rows of six
pub record Coefficients (n m : ℕ) (coefficients : List ℤ) : Type 0 where
  pub variables : n ≤ most_variables
  pub atoms : m ≤ most_atoms
  pub whole : length coefficients ≡ most_coefficients
  pub small : (i : ℕ) → i < m → Small most_coefficient (take n (drop (most_variables * i) coefficients))

-- each letter's sum of atom i stands at 8 * letter + i, and past the atoms there is 0
pub record Sums (n m : ℕ) (coefficients sums : List ℤ) : Type 0 where
  pub sum_is : (letter i : ℕ) → letter < 2 ^ n → i < m → get_or sums (most_atoms * letter + i) (pos 0) ≡ sum_at (take n (drop (most_variables * i) coefficients)) letter
  pub blank : (letter i : ℕ) → letter < 2 ^ n → m ≤ i → i < most_atoms → get_or sums (most_atoms * letter + i) (pos 0) ≡ pos 0

-- ---- the sums by doubling

-- what digit j adds to each atom's sum
unfoldable pub digit_adds : ℕ → List ℤ → ℕ → List ℤ
digit_adds m coefficients j = padded (pos 0) (listed (λ i. get_or coefficients (most_variables * i + j) (pos 0)) m)

-- `many` sums from cell `from` on can be added to, and have room from cell `to` on
pub record Adding (adds sums : List ℤ) (from to many : ℕ) : Type 0 where
  pub whole : length sums ≡ (most_atoms * most_letters)
  pub apart : from + many ≤ to
  pub room : to + many ≤ (most_atoms * most_letters)
  pub sums_small : (k : ℕ) → k < many → nat_abs (get_or sums (from + k) (pos 0)) ≤ most_sum
  pub adds_small : (i : ℕ) → i < most_atoms → nat_abs (get_or adds i (pos 0)) ≤ most_coefficient

-- and stand there, added to; the cells before are the same
pub record SumsAdded (adds before after : List ℤ) (from to many : ℕ) : Type 0 where
  pub whole : length after ≡ (most_atoms * most_letters)
  pub same : (k : ℕ) → k < to → get_or after k (pos 0) ≡ get_or before k (pos 0)
  pub more : (k : ℕ) → k < many → get_or after (to + k) (pos 0) ≡ get_or before (from + k) (pos 0) +ℤ get_or adds (k % most_atoms) (pos 0)
