-- Document 01, "Deciding and building", of building: a table's rows, the rows lent, built or no room, and the lent areas after.
use Rattle.std.specs.Prelude.{ℕ, zero, suc, ◌+◌, ◌/◌, min, Bool, true, false, cond, List, [], ◌∷◌, map, length, take, leb, ℤ, Ok, Err, Result}
use Rattle.scope.specs.declared.Refusal.{Refusal}
use Rattle.scope.specs.declared.Building.{Building}
use Rattle.scope.specs.declared.Question.{Question}
use Rattle.scope.specs.Whole.{joined, at_front}
use Rattle.scope.specs.Sizes.{most_states}
use Rattle.scope.specs.Question.{atom_count}
use Rattle.scope.specs.Wire.{read_held}
use Rattle.scope.specs.Words.{letters}
use Rattle.scope.specs.States.{State}
use Rattle.scope.specs.Numbering.{Machine, Row, Rows, machine_of, numbered, number_of}
use Rattle.scope.specs.Deciding.{key_cells}

-- ---- a table: 1 if accepting else 0, then the next state for each letter in order

-- the cells of a row
abbrev pub table_width : ℕ → ℕ
table_width n = 1 + letters n

module _ {S : Type 0} (m : Machine S) where
  -- the next states for the count letters from a on
  unfoldable pub next_states : Rows S → S → ℕ → ℕ → List ℕ
  next_states l s a zero = []
  next_states l s a (suc count) = number_of m l (m.step s a) ∷ next_states l s (suc a) count

  unfoldable pub table_row : Rows S → Row S → List ℕ
  table_row l r = cond (m.accepts r.state) 1 0 ∷ next_states l r.state 0 m.letters

  unfoldable pub table_cells : Rows S → List ℕ
  table_cells l = joined (map (table_row l) l)

-- ---- building: the answer, and the key area and the table afterwards

-- R: the least of key cells / m, table cells / (1 + 2 ^ n) and 65,535
unfoldable pub build_room : Question → List ℤ → List ℕ → ℕ
build_room q keys table = min (min (length keys / atom_count q) (length table / table_width q.n)) most_states

pub record Built : Type 0 where
  pub answer : Result Building Refusal
  pub keys : List ℤ
  pub table : List ℕ

-- whether the reachable states are at most r comes first
abbrev pub built_if : Bool → ℕ → Machine State → Rows State → List ℤ → List ℕ → Built
built_if true r m l keys table = record {
  answer = Ok (Building.Built (length l));
  keys = at_front (key_cells l) keys;
  table = at_front (table_cells m l) table;
}
built_if false r m l keys table = record {
  answer = Ok (Building.NoRoom r);
  keys = at_front (key_cells (take r l)) keys;
  table = table;
}

unfoldable pub built_question : Question → List ℤ → List ℕ → Built
built_question q keys table =
    let m = machine_of q in
    let r = build_room q keys table in
    let l = numbered m r in
    built_if (leb (length l) r) r m l keys table

-- a refused question changes no lent cell
abbrev pub built_by : Result Question Refusal → List ℤ → List ℕ → Built
built_by (Ok q) keys table = built_question q keys table
built_by (Err r) keys table = record { answer = Err r; keys = keys; table = table }

unfoldable pub built : List ℕ → List ℤ → List ℕ → Built
built bytes keys table = built_by (read_held bytes) keys table
