-- Document 01, "Deciding and building", of running: n, a table's cells and a word, without the question.
use Rattle.std.specs.Prelude.{ℕ, ◌+◌, ◌*◌, ◌/◌, ◌%◌, Bool, cond, ◌&&◌, List, [], ◌∷◌, length, get_or, leb, ltb, eqb, Result}
use Rattle.scope.specs.declared.Rule.{Rule}
use Rattle.scope.specs.declared.Refusal.{Refusal}
use Rattle.scope.specs.Whole.{all_from}
use Rattle.scope.specs.Sizes.{most_states, variables_fit}
use Rattle.scope.specs.Refusals.{Check, check, first_refusal, unless_refused}
use Rattle.scope.specs.Words.{Word, letters_fit}
use Rattle.scope.specs.Building.{table_width}

abbrev pub table_rows : ℕ → List ℕ → ℕ
table_rows n cells = length cells / table_width n

-- cell c: an accept mark is 0 or 1, a next state is one of the rows
abbrev pub cell_fits : ℕ → ℕ → ℕ → ℕ → Bool
cell_fits width rows c x = cond (eqb (c % width) 0) (leb x 1) (ltb x rows)

-- one or more whole rows, at most 65,535, of cells that fit
unfoldable pub table_fits : ℕ → List ℕ → Bool
table_fits n cells =
    let rows = table_rows n cells in
    eqb (length cells % table_width n) 0 && (leb 1 rows && (leb rows most_states && all_from (cell_fits (table_width n) rows) 0 cells))

-- the row that a word leads to from row s
unfoldable pub row_after : ℕ → List ℕ → ℕ → Word → ℕ
row_after n cells s [] = s
row_after n cells s (letter ∷ w) = row_after n cells (get_or cells (s * table_width n + 1 + letter) 0) w

unfoldable pub says_yes : ℕ → List ℕ → Word → Bool
says_yes n cells w = eqb (get_or cells (row_after n cells 0 w * table_width n) 0) 1

abbrev pub run_checks : ℕ → List ℕ → Word → List Check
run_checks n cells w = check Rule.BeyondLimit 0 (variables_fit n) ∷ check Rule.Table 0 (table_fits n cells) ∷ check Rule.Letter 0 (letters_fit n w) ∷ []

unfoldable pub ran : ℕ → List ℕ → Word → Result Bool Refusal
ran n cells w = unless_refused (first_refusal (run_checks n cells w)) (says_yes n cells w)
