-- Document 01, "Checked by hand": the lines marked P, as one table and one claim. The questions are given as bytes and read.
use Rattle.std.specs.Prelude.{ℕ, ◌≡◌, refl, List, [], ◌∷◌, ◌++◌, map, length, take, ℤ, pos, negsuc, Ok}
use Rattle.scope.specs.declared.Decision.{Decision}
use Rattle.scope.specs.declared.Building.{Building}
use Rattle.scope.specs.States.{dead_cell}
use Rattle.scope.specs.Refusals.{rule_number}
use Rattle.scope.specs.Outcomes.{Outcome, rules, decision, table, number, Line, line, all_given, wanted, key_mark, marked, decides, builds, half_of, running}

-- ---- the questions

-- 5x + y = 3
abbrev fiveXPlus_y : List ℕ
fiveXPlus_y = 1 ∷ 0 ∷ 1 ∷ 0 ∷ 2 ∷ 12 ∷ 0 ∷ 16 ∷ 0 ∷ 5 ∷ 0 ∷ 0 ∷ 0 ∷ 1 ∷ 0 ∷ 0 ∷ 0 ∷ 3 ∷ 0 ∷ 0 ∷ 0 ∷ 0 ∷ 0 ∷ 255 ∷ 0 ∷ []

-- x + 2y - 3z = 2
abbrev three_terms : List ℕ
three_terms = 1 ∷ 0 ∷ 1 ∷ 0 ∷ 3 ∷ 16 ∷ 0 ∷ 16 ∷ 0 ∷ 1 ∷ 0 ∷ 0 ∷ 0 ∷ 2 ∷ 0 ∷ 0 ∷ 0 ∷ 253 ∷ 255 ∷ 255 ∷ 255 ∷ 2 ∷ 0 ∷ 0 ∷ 0 ∷ 0 ∷ 0 ∷ 255 ∷ 0 ∷ []

-- 2x = 1
abbrev twoXIs_one : List ℕ
twoXIs_one = 1 ∷ 0 ∷ 1 ∷ 0 ∷ 1 ∷ 8 ∷ 0 ∷ 16 ∷ 0 ∷ 2 ∷ 0 ∷ 0 ∷ 0 ∷ 1 ∷ 0 ∷ 0 ∷ 0 ∷ 0 ∷ 0 ∷ 255 ∷ 0 ∷ []

-- x <= -1
abbrev below_nought : List ℕ
below_nought = 1 ∷ 0 ∷ 1 ∷ 0 ∷ 1 ∷ 8 ∷ 0 ∷ 17 ∷ 0 ∷ 1 ∷ 0 ∷ 0 ∷ 0 ∷ 255 ∷ 255 ∷ 255 ∷ 255 ∷ 0 ∷ 0 ∷ 255 ∷ 0 ∷ []

-- not (x = 0)
abbrev not_nought : List ℕ
not_nought = 1 ∷ 0 ∷ 1 ∷ 0 ∷ 1 ∷ 0 ∷ 0 ∷ 32 ∷ 0 ∷ 8 ∷ 0 ∷ 16 ∷ 0 ∷ 1 ∷ 0 ∷ 0 ∷ 0 ∷ 0 ∷ 0 ∷ 0 ∷ 0 ∷ 0 ∷ 0 ∷ 255 ∷ 0 ∷ []

-- not (x <= 5)
abbrev above_five : List ℕ
above_five = 1 ∷ 0 ∷ 1 ∷ 0 ∷ 1 ∷ 0 ∷ 0 ∷ 32 ∷ 0 ∷ 8 ∷ 0 ∷ 17 ∷ 0 ∷ 1 ∷ 0 ∷ 0 ∷ 0 ∷ 5 ∷ 0 ∷ 0 ∷ 0 ∷ 0 ∷ 0 ∷ 255 ∷ 0 ∷ []

-- x - y <= -1 and y - x <= 0
abbrev both_ways : List ℕ
both_ways = 1 ∷ 0 ∷ 1 ∷ 0 ∷ 2 ∷ 0 ∷ 0 ∷ 33 ∷ 0 ∷ 12 ∷ 0 ∷ 17 ∷ 0 ∷ 1 ∷ 0 ∷ 0 ∷ 0 ∷ 255 ∷ 255 ∷ 255 ∷ 255 ∷ 255 ∷ 255 ∷ 255 ∷ 255 ∷ 12 ∷ 0 ∷ 17 ∷ 0 ∷ 255 ∷ 255 ∷ 255 ∷ 255 ∷ 1 ∷ 0 ∷ 0 ∷ 0 ∷ 0 ∷ 0 ∷ 0 ∷ 0 ∷ 0 ∷ 0 ∷ 255 ∷ 0 ∷ []

-- 0x = 0
abbrev nought_x : List ℕ
nought_x = 1 ∷ 0 ∷ 1 ∷ 0 ∷ 1 ∷ 8 ∷ 0 ∷ 16 ∷ 0 ∷ 0 ∷ 0 ∷ 0 ∷ 0 ∷ 0 ∷ 0 ∷ 0 ∷ 0 ∷ 0 ∷ 0 ∷ 255 ∷ 0 ∷ []

-- ---- the outcomes

-- the word buffer has room for four letters
abbrev found : ℕ → List ℕ → List ℕ → Outcome
found states word rest = decision (Ok (Decision.Found states (length word))) (word ++ rest)

abbrev never : ℕ → Outcome
never states = decision (Ok (Decision.Never states)) (marked 4)

abbrev no_room : ℕ → Outcome
no_room states = decision (Ok (Decision.NoRoom states)) (marked 4)

-- the nine states of 5x + y = 3, in order
abbrev nine : List ℤ
nine = pos 3 ∷ dead_cell ∷ negsuc 0 ∷ pos 1 ∷ negsuc 2 ∷ negsuc 1 ∷ pos 0 ∷ negsuc 3 ∷ negsuc 4 ∷ []

-- their rows: whether the state accepts, then the next states by the letters 0 to 3
abbrev nine_rows : List ℕ
nine_rows =
    0 ∷ 1 ∷ 2 ∷ 3 ∷ 1 ∷
    0 ∷ 1 ∷ 1 ∷ 1 ∷ 1 ∷
    0 ∷ 1 ∷ 4 ∷ 2 ∷ 1 ∷
    0 ∷ 1 ∷ 5 ∷ 6 ∷ 1 ∷
    0 ∷ 1 ∷ 7 ∷ 5 ∷ 1 ∷
    0 ∷ 2 ∷ 1 ∷ 1 ∷ 7 ∷
    1 ∷ 6 ∷ 1 ∷ 1 ∷ 4 ∷
    0 ∷ 5 ∷ 1 ∷ 1 ∷ 8 ∷
    0 ∷ 1 ∷ 8 ∷ 4 ∷ 1 ∷
    []

abbrev cases : List Line
cases =
    line (decides fiveXPlus_y 16 4) (found 7 (2 ∷ 2 ∷ []) (marked 2)) ∷
    line (decides fiveXPlus_y 6 4) (no_room 6) ∷
    line (builds fiveXPlus_y 10) (table (Ok (Building.Built 9)) (nine ++ (key_mark ∷ [])) (nine_rows ++ marked 5)) ∷
    line (builds fiveXPlus_y 8) (table (Ok (Building.NoRoom 8)) (take 8 nine) (marked 40)) ∷
    line (decides three_terms 16 4) (found 4 (2 ∷ []) (marked 3)) ∷
    line (decides twoXIs_one 16 4) (never 2) ∷
    line (decides twoXIs_one 1 4) (no_room 1) ∷
    line (decides below_nought 16 4) (never 1) ∷
    line (decides not_nought 16 4) (found 2 (1 ∷ []) (marked 3)) ∷
    line (decides above_five 16 4) (found 5 (0 ∷ 1 ∷ 1 ∷ []) (marked 1)) ∷
    line (decides both_ways 16 4) (never 2) ∷
    line (decides nought_x 16 4) (found 1 [] (marked 4)) ∷
    line (half_of (negsuc 2)) (number (negsuc 1)) ∷
    line (half_of (negsuc 0)) (number (negsuc 0)) ∷
    line (half_of (pos 0)) (number (pos 0)) ∷
    line (half_of (pos 1)) (number (pos 0)) ∷
    []

pub rules_in_order : map rule_number rules ≡ 1 ∷ 2 ∷ 3 ∷ 4 ∷ 5 ∷ 6 ∷ 7 ∷ 8 ∷ 9 ∷ 10 ∷ 11 ∷ 12 ∷ 13 ∷ 14 ∷ 15 ∷ []
rules_in_order = refl

pub cases_hold : all_given cases ≡ wanted cases
unfolding running
cases_hold = refl
