-- Outside vectors, worked by a program that shares nothing with this one, against the definitions: each line is a call and its
-- outcome. tools/vectors.py chose and wrote them; docs/DECISIONS.md says how.
use Rattle.std.specs.Prelude.{ℕ, ◌+◌, ◌-◌, ◌≡◌, refl, true, false, List, [], ◌∷◌, ◌++◌, map, length, replicate, ℤ, pos, negsuc, Ok, Err, Result}
use Rattle.scope.specs.declared.Record.{Record}
use Rattle.scope.specs.declared.Decision.{Decision}
use Rattle.scope.specs.declared.Building.{Building}
use Rattle.scope.specs.declared.Question.{Question}
use Rattle.scope.specs.declared.Refusal.{Refusal}
use Rattle.scope.specs.Question.{equation, at_most}
use Rattle.scope.specs.Tree.{Tree}
use Rattle.scope.specs.Wire.{record_at}
use Rattle.scope.specs.Deciding.{Decided, decided}
use Rattle.scope.specs.Building.{Built, built}
use Rattle.scope.specs.Outcomes.{Outcome, numbered_refusal, held, wrote_bytes, truth, decision, table, spelling, count, tree, holding, Line, line, all_given, wanted, key_mark, marked, reads, writes, judges, decided_in, decides, built_in, spells, asks, says_tree, running}

-- a held question, whose lists are given without the zeros at their ends
abbrev question : ℕ → List ℕ → List ℤ → List ℤ → Question
question n codes coefficients constants = record {
  n = n;
  codes = codes ++ replicate (64 - length codes) 0;
  coefficients = coefficients ++ replicate (48 - length coefficients) (pos 0);
  constants = constants ++ replicate (8 - length constants) (pos 0);
}

abbrev accepted : Question → Outcome
accepted q = held (Ok q)

abbrev unread : Refusal → Outcome
unread r = held (Err r)

abbrev written_in : ℕ → List ℕ → Outcome
written_in room bytes = wrote_bytes (record { answer = Ok (length bytes); buffer = bytes ++ marked (room - length bytes) })

abbrev unwritten : ℕ → Refusal → Outcome
unwritten room r = wrote_bytes (record { answer = Err r; buffer = marked room })

abbrev found_in : ℕ → ℕ → List ℕ → Outcome
found_in room states word = decision (Ok (Decision.Found states (length word))) (word ++ marked (room - length word))

abbrev never_in : ℕ → ℕ → Outcome
never_in room states = decision (Ok (Decision.Never states)) (marked room)

abbrev no_room_in : ℕ → ℕ → Outcome
no_room_in room states = decision (Ok (Decision.NoRoom states)) (marked room)

-- the vectors of a word buffer that is too short do not say how long the word is
abbrev short_states : Result Decision Refusal → Outcome
short_states (Ok (Decision.Found states letters)) = decision (Ok (Decision.Found states letters)) []
short_states (Ok (Decision.Never states)) = decision (Ok (Decision.Never states)) []
short_states (Ok (Decision.NoRoom states)) = decision (Ok (Decision.NoRoom states)) []
short_states (Ok (Decision.Short states letters)) = count states
short_states (Err r) = decision (Err r) []

abbrev decides_short : List ℕ → ℕ → ℕ → Outcome
decides_short bytes r room = short_states (decided_in bytes r room).answer

-- and those of building do not say what the keys are
abbrev builds_cells : List ℕ → ℕ → Outcome
builds_cells bytes r = let b = built_in bytes r in table b.answer [] b.table

abbrev cells_in : ℕ → ℕ → List ℕ → Outcome
cells_in room states cells = table (Ok (Building.Built states)) [] (cells ++ marked (room - length cells))

abbrev no_cells_in : ℕ → ℕ → Outcome
no_cells_in room states = table (Ok (Building.NoRoom states)) [] (marked room)

-- ---- with every lent cell told: lines of their own

pub record Pair (A : Type 0) : Type 0 where
  pub given : A
  pub due : A

abbrev pair : {A : Type 0} → A → A → Pair A
pair given due = record { given = given; due = due }

abbrev all_in : {A : Type 0} → List (Pair A) → List A
all_in lines = map (λ l. l.given) lines

abbrev all_wanted : {A : Type 0} → List (Pair A) → List A
all_wanted lines = map (λ l. l.due) lines

-- the record at a place
abbrev taken : ℕ → ℕ → ℕ → ℕ → Result Record Refusal
taken at kind len next = Ok (record { kind = kind; start = at + 4; len = len; next = next })

-- so many cells of each area, and what stands at their fronts
abbrev decided_cells : List ℕ → ℕ → ℕ → ℕ → Decided
decided_cells bytes keys path room = decided bytes (replicate keys key_mark) (marked path) (marked room)

abbrev decision_in : Result Decision Refusal → ℕ → List ℤ → ℕ → List ℕ → ℕ → List ℕ → Decided
decision_in answer keyRoom keys pathRoom path room word = record {
  answer = answer;
  keys = keys ++ replicate (keyRoom - length keys) key_mark;
  path = path ++ marked (pathRoom - length path);
  word = word ++ marked (room - length word);
}

abbrev built_cells : List ℕ → ℕ → ℕ → Built
built_cells bytes keys cells = built bytes (replicate keys key_mark) (marked cells)

abbrev table_in : Result Building Refusal → ℕ → List ℤ → ℕ → List ℕ → Built
table_in answer keyRoom keys room cells = record {
  answer = answer;
  keys = keys ++ replicate (keyRoom - length keys) key_mark;
  table = cells ++ marked (room - length cells);
}

-- ---- the vectors, as tools/vectors.py writes them

abbrev build_vectors : List Line
build_vectors =
    line (builds_cells (1 ∷ 0 ∷ 1 ∷ 0 ∷ 1 ∷ 8 ∷ 0 ∷ 17 ∷ 0 ∷ 254 ∷ 255 ∷ 255 ∷ 255 ∷ 1 ∷ 0 ∷ 0 ∷ 0 ∷ 0 ∷ 0 ∷ 255 ∷ 0 ∷ []) 4) (cells_in 12 2 (1 ∷ 1 ∷ 0 ∷ 1 ∷ 1 ∷ 0 ∷ [])) ∷
    line (builds_cells (1 ∷ 0 ∷ 1 ∷ 0 ∷ 1 ∷ 0 ∷ 0 ∷ 33 ∷ 0 ∷ 0 ∷ 0 ∷ 32 ∷ 0 ∷ 8 ∷ 0 ∷ 17 ∷ 0 ∷ 1 ∷ 0 ∷ 0 ∷ 0 ∷ 0 ∷ 0 ∷ 0 ∷ 0 ∷ 0 ∷ 0 ∷ 32 ∷ 0 ∷ 0 ∷ 0 ∷ 32 ∷ 0 ∷ 8 ∷ 0 ∷ 16 ∷ 0 ∷ 255 ∷ 255 ∷ 255 ∷ 255 ∷ 0 ∷ 0 ∷ 0 ∷ 0 ∷ 0 ∷ 0 ∷ 255 ∷ 0 ∷ []) 4) (cells_in 12 2 (0 ∷ 0 ∷ 1 ∷ 0 ∷ 1 ∷ 1 ∷ [])) ∷
    line (builds_cells (1 ∷ 0 ∷ 1 ∷ 0 ∷ 2 ∷ 12 ∷ 0 ∷ 17 ∷ 0 ∷ 253 ∷ 255 ∷ 255 ∷ 255 ∷ 255 ∷ 255 ∷ 255 ∷ 255 ∷ 0 ∷ 0 ∷ 0 ∷ 0 ∷ 0 ∷ 0 ∷ 255 ∷ 0 ∷ []) 9) (cells_in 45 4 (1 ∷ 0 ∷ 1 ∷ 0 ∷ 2 ∷ 1 ∷ 0 ∷ 2 ∷ 1 ∷ 2 ∷ 1 ∷ 1 ∷ 2 ∷ 1 ∷ 3 ∷ 1 ∷ 1 ∷ 3 ∷ 2 ∷ 3 ∷ [])) ∷
    line (builds_cells (1 ∷ 0 ∷ 1 ∷ 0 ∷ 2 ∷ 12 ∷ 0 ∷ 16 ∷ 0 ∷ 1 ∷ 0 ∷ 0 ∷ 0 ∷ 1 ∷ 0 ∷ 0 ∷ 0 ∷ 1 ∷ 0 ∷ 0 ∷ 0 ∷ 0 ∷ 0 ∷ 255 ∷ 0 ∷ []) 4) (cells_in 20 4 (0 ∷ 1 ∷ 2 ∷ 2 ∷ 1 ∷ 0 ∷ 1 ∷ 1 ∷ 1 ∷ 1 ∷ 1 ∷ 2 ∷ 1 ∷ 1 ∷ 3 ∷ 0 ∷ 1 ∷ 3 ∷ 3 ∷ 1 ∷ [])) ∷
    line (builds_cells (1 ∷ 0 ∷ 1 ∷ 0 ∷ 2 ∷ 12 ∷ 0 ∷ 16 ∷ 0 ∷ 1 ∷ 0 ∷ 0 ∷ 0 ∷ 253 ∷ 255 ∷ 255 ∷ 255 ∷ 1 ∷ 0 ∷ 0 ∷ 0 ∷ 0 ∷ 0 ∷ 255 ∷ 0 ∷ []) 40) (cells_in 200 4 (0 ∷ 1 ∷ 2 ∷ 3 ∷ 1 ∷ 0 ∷ 1 ∷ 1 ∷ 1 ∷ 1 ∷ 1 ∷ 2 ∷ 1 ∷ 1 ∷ 0 ∷ 0 ∷ 0 ∷ 1 ∷ 1 ∷ 3 ∷ [])) ∷
    line (builds_cells (1 ∷ 0 ∷ 1 ∷ 0 ∷ 1 ∷ 0 ∷ 0 ∷ 32 ∷ 0 ∷ 0 ∷ 0 ∷ 32 ∷ 0 ∷ 0 ∷ 0 ∷ 33 ∷ 0 ∷ 0 ∷ 0 ∷ 32 ∷ 0 ∷ 8 ∷ 0 ∷ 17 ∷ 0 ∷ 1 ∷ 0 ∷ 0 ∷ 0 ∷ 5 ∷ 0 ∷ 0 ∷ 0 ∷ 0 ∷ 0 ∷ 32 ∷ 0 ∷ 8 ∷ 0 ∷ 17 ∷ 0 ∷ 0 ∷ 0 ∷ 0 ∷ 0 ∷ 254 ∷ 255 ∷ 255 ∷ 255 ∷ 0 ∷ 0 ∷ 255 ∷ 0 ∷ []) 40) (cells_in 120 5 (0 ∷ 1 ∷ 1 ∷ 0 ∷ 2 ∷ 3 ∷ 0 ∷ 3 ∷ 3 ∷ 0 ∷ 3 ∷ 4 ∷ 1 ∷ 4 ∷ 4 ∷ [])) ∷
    line (builds_cells (1 ∷ 0 ∷ 1 ∷ 0 ∷ 1 ∷ 8 ∷ 0 ∷ 16 ∷ 0 ∷ 255 ∷ 255 ∷ 255 ∷ 255 ∷ 0 ∷ 0 ∷ 0 ∷ 0 ∷ 0 ∷ 0 ∷ 255 ∷ 0 ∷ []) 1) (no_cells_in 3 1) ∷
    line (builds_cells (1 ∷ 0 ∷ 1 ∷ 0 ∷ 1 ∷ 0 ∷ 0 ∷ 32 ∷ 0 ∷ 8 ∷ 0 ∷ 17 ∷ 0 ∷ 254 ∷ 255 ∷ 255 ∷ 255 ∷ 255 ∷ 255 ∷ 255 ∷ 255 ∷ 0 ∷ 0 ∷ 255 ∷ 0 ∷ []) 1) (no_cells_in 3 1) ∷
    line (builds_cells (1 ∷ 0 ∷ 1 ∷ 0 ∷ 2 ∷ 12 ∷ 0 ∷ 16 ∷ 0 ∷ 0 ∷ 0 ∷ 0 ∷ 0 ∷ 1 ∷ 0 ∷ 0 ∷ 0 ∷ 249 ∷ 255 ∷ 255 ∷ 255 ∷ 0 ∷ 0 ∷ 255 ∷ 0 ∷ []) 1) (no_cells_in 5 1) ∷
    line (builds_cells (1 ∷ 0 ∷ 1 ∷ 0 ∷ 3 ∷ 16 ∷ 0 ∷ 17 ∷ 0 ∷ 124 ∷ 15 ∷ 0 ∷ 0 ∷ 162 ∷ 7 ∷ 0 ∷ 0 ∷ 98 ∷ 0 ∷ 0 ∷ 0 ∷ 15 ∷ 0 ∷ 0 ∷ 0 ∷ 0 ∷ 0 ∷ 255 ∷ 0 ∷ []) 0) (no_cells_in 0 0) ∷
    line (builds_cells (1 ∷ 0 ∷ 1 ∷ 0 ∷ 3 ∷ 0 ∷ 0 ∷ 32 ∷ 0 ∷ 16 ∷ 0 ∷ 16 ∷ 0 ∷ 3 ∷ 0 ∷ 0 ∷ 0 ∷ 251 ∷ 255 ∷ 255 ∷ 255 ∷ 254 ∷ 255 ∷ 255 ∷ 255 ∷ 0 ∷ 0 ∷ 0 ∷ 0 ∷ 0 ∷ 0 ∷ 255 ∷ 0 ∷ []) 0) (no_cells_in 0 0) ∷
    []

pub build_vectors_hold : all_given build_vectors ≡ wanted build_vectors
unfolding running
build_vectors_hold = refl

abbrev decide_vectors : List Line
decide_vectors =
    line (decides (1 ∷ 0 ∷ 1 ∷ 0 ∷ 1 ∷ 8 ∷ 0 ∷ 16 ∷ 0 ∷ 252 ∷ 255 ∷ 255 ∷ 255 ∷ 0 ∷ 0 ∷ 0 ∷ 0 ∷ 0 ∷ 0 ∷ 255 ∷ 0 ∷ []) 1 5) (found_in 5 1 []) ∷
    line (decides (1 ∷ 0 ∷ 1 ∷ 0 ∷ 1 ∷ 8 ∷ 0 ∷ 16 ∷ 0 ∷ 1 ∷ 0 ∷ 0 ∷ 0 ∷ 0 ∷ 0 ∷ 0 ∷ 0 ∷ 0 ∷ 0 ∷ 255 ∷ 0 ∷ []) 3 2) (found_in 2 1 []) ∷
    line (decides (1 ∷ 0 ∷ 1 ∷ 0 ∷ 3 ∷ 16 ∷ 0 ∷ 17 ∷ 0 ∷ 1 ∷ 0 ∷ 0 ∷ 0 ∷ 3 ∷ 0 ∷ 0 ∷ 0 ∷ 254 ∷ 255 ∷ 255 ∷ 255 ∷ 119 ∷ 9 ∷ 0 ∷ 0 ∷ 0 ∷ 0 ∷ 255 ∷ 0 ∷ []) 1 2) (found_in 2 1 []) ∷
    line (decides (1 ∷ 0 ∷ 1 ∷ 0 ∷ 3 ∷ 0 ∷ 0 ∷ 33 ∷ 0 ∷ 0 ∷ 0 ∷ 32 ∷ 0 ∷ 16 ∷ 0 ∷ 17 ∷ 0 ∷ 253 ∷ 255 ∷ 255 ∷ 255 ∷ 254 ∷ 255 ∷ 255 ∷ 255 ∷ 3 ∷ 0 ∷ 0 ∷ 0 ∷ 255 ∷ 255 ∷ 255 ∷ 255 ∷ 16 ∷ 0 ∷ 17 ∷ 0 ∷ 2 ∷ 0 ∷ 0 ∷ 0 ∷ 255 ∷ 255 ∷ 255 ∷ 255 ∷ 255 ∷ 255 ∷ 255 ∷ 255 ∷ 255 ∷ 255 ∷ 255 ∷ 255 ∷ 0 ∷ 0 ∷ 255 ∷ 0 ∷ []) 5 1024) (found_in 1024 5 (4 ∷ [])) ∷
    line (decides (1 ∷ 0 ∷ 1 ∷ 0 ∷ 6 ∷ 0 ∷ 0 ∷ 33 ∷ 0 ∷ 0 ∷ 0 ∷ 32 ∷ 0 ∷ 28 ∷ 0 ∷ 16 ∷ 0 ∷ 255 ∷ 255 ∷ 255 ∷ 255 ∷ 3 ∷ 0 ∷ 0 ∷ 0 ∷ 2 ∷ 0 ∷ 0 ∷ 0 ∷ 253 ∷ 255 ∷ 255 ∷ 255 ∷ 255 ∷ 255 ∷ 255 ∷ 255 ∷ 2 ∷ 0 ∷ 0 ∷ 0 ∷ 251 ∷ 255 ∷ 255 ∷ 255 ∷ 0 ∷ 0 ∷ 34 ∷ 0 ∷ 28 ∷ 0 ∷ 16 ∷ 0 ∷ 254 ∷ 255 ∷ 255 ∷ 255 ∷ 3 ∷ 0 ∷ 0 ∷ 0 ∷ 2 ∷ 0 ∷ 0 ∷ 0 ∷ 254 ∷ 255 ∷ 255 ∷ 255 ∷ 3 ∷ 0 ∷ 0 ∷ 0 ∷ 0 ∷ 0 ∷ 0 ∷ 0 ∷ 254 ∷ 255 ∷ 255 ∷ 255 ∷ 28 ∷ 0 ∷ 16 ∷ 0 ∷ 3 ∷ 0 ∷ 0 ∷ 0 ∷ 2 ∷ 0 ∷ 0 ∷ 0 ∷ 3 ∷ 0 ∷ 0 ∷ 0 ∷ 2 ∷ 0 ∷ 0 ∷ 0 ∷ 254 ∷ 255 ∷ 255 ∷ 255 ∷ 1 ∷ 0 ∷ 0 ∷ 0 ∷ 3 ∷ 0 ∷ 0 ∷ 0 ∷ 0 ∷ 0 ∷ 255 ∷ 0 ∷ []) 3 1024) (found_in 1024 3 (1 ∷ [])) ∷
    line (decides (1 ∷ 0 ∷ 1 ∷ 0 ∷ 6 ∷ 0 ∷ 0 ∷ 32 ∷ 0 ∷ 28 ∷ 0 ∷ 16 ∷ 0 ∷ 3 ∷ 0 ∷ 0 ∷ 0 ∷ 252 ∷ 255 ∷ 255 ∷ 255 ∷ 3 ∷ 0 ∷ 0 ∷ 0 ∷ 3 ∷ 0 ∷ 0 ∷ 0 ∷ 2 ∷ 0 ∷ 0 ∷ 0 ∷ 251 ∷ 255 ∷ 255 ∷ 255 ∷ 0 ∷ 0 ∷ 0 ∷ 0 ∷ 0 ∷ 0 ∷ 255 ∷ 0 ∷ []) 5 1) (found_in 1 2 (1 ∷ [])) ∷
    line (decides (1 ∷ 0 ∷ 1 ∷ 0 ∷ 5 ∷ 24 ∷ 0 ∷ 17 ∷ 0 ∷ 255 ∷ 255 ∷ 255 ∷ 255 ∷ 0 ∷ 0 ∷ 0 ∷ 0 ∷ 1 ∷ 0 ∷ 0 ∷ 0 ∷ 1 ∷ 0 ∷ 0 ∷ 0 ∷ 255 ∷ 255 ∷ 255 ∷ 255 ∷ 255 ∷ 255 ∷ 255 ∷ 255 ∷ 0 ∷ 0 ∷ 255 ∷ 0 ∷ []) 8 1) (found_in 1 2 (1 ∷ [])) ∷
    line (decides (1 ∷ 0 ∷ 1 ∷ 0 ∷ 5 ∷ 0 ∷ 0 ∷ 33 ∷ 0 ∷ 0 ∷ 0 ∷ 32 ∷ 0 ∷ 0 ∷ 0 ∷ 33 ∷ 0 ∷ 0 ∷ 0 ∷ 32 ∷ 0 ∷ 0 ∷ 0 ∷ 32 ∷ 0 ∷ 0 ∷ 0 ∷ 32 ∷ 0 ∷ 24 ∷ 0 ∷ 17 ∷ 0 ∷ 40 ∷ 1 ∷ 0 ∷ 0 ∷ 165 ∷ 255 ∷ 255 ∷ 255 ∷ 25 ∷ 1 ∷ 0 ∷ 0 ∷ 220 ∷ 0 ∷ 0 ∷ 0 ∷ 7 ∷ 0 ∷ 0 ∷ 0 ∷ 251 ∷ 255 ∷ 255 ∷ 255 ∷ 24 ∷ 0 ∷ 17 ∷ 0 ∷ 106 ∷ 0 ∷ 0 ∷ 0 ∷ 241 ∷ 255 ∷ 255 ∷ 255 ∷ 236 ∷ 255 ∷ 255 ∷ 255 ∷ 232 ∷ 255 ∷ 255 ∷ 255 ∷ 13 ∷ 255 ∷ 255 ∷ 255 ∷ 249 ∷ 255 ∷ 255 ∷ 255 ∷ 24 ∷ 0 ∷ 17 ∷ 0 ∷ 53 ∷ 0 ∷ 0 ∷ 0 ∷ 9 ∷ 255 ∷ 255 ∷ 255 ∷ 160 ∷ 255 ∷ 255 ∷ 255 ∷ 124 ∷ 255 ∷ 255 ∷ 255 ∷ 110 ∷ 0 ∷ 0 ∷ 0 ∷ 253 ∷ 255 ∷ 255 ∷ 255 ∷ 0 ∷ 0 ∷ 255 ∷ 0 ∷ []) 8 1) (found_in 1 4 (2 ∷ [])) ∷
    line (decides (1 ∷ 0 ∷ 1 ∷ 0 ∷ 3 ∷ 0 ∷ 0 ∷ 34 ∷ 0 ∷ 0 ∷ 0 ∷ 34 ∷ 0 ∷ 0 ∷ 0 ∷ 32 ∷ 0 ∷ 16 ∷ 0 ∷ 16 ∷ 0 ∷ 255 ∷ 255 ∷ 255 ∷ 255 ∷ 255 ∷ 255 ∷ 255 ∷ 255 ∷ 1 ∷ 0 ∷ 0 ∷ 0 ∷ 0 ∷ 0 ∷ 0 ∷ 0 ∷ 16 ∷ 0 ∷ 17 ∷ 0 ∷ 0 ∷ 0 ∷ 0 ∷ 0 ∷ 1 ∷ 0 ∷ 0 ∷ 0 ∷ 0 ∷ 0 ∷ 0 ∷ 0 ∷ 255 ∷ 255 ∷ 255 ∷ 255 ∷ 0 ∷ 0 ∷ 33 ∷ 0 ∷ 16 ∷ 0 ∷ 16 ∷ 0 ∷ 1 ∷ 0 ∷ 0 ∷ 0 ∷ 0 ∷ 0 ∷ 0 ∷ 0 ∷ 0 ∷ 0 ∷ 0 ∷ 0 ∷ 1 ∷ 0 ∷ 0 ∷ 0 ∷ 16 ∷ 0 ∷ 16 ∷ 0 ∷ 255 ∷ 255 ∷ 255 ∷ 255 ∷ 1 ∷ 0 ∷ 0 ∷ 0 ∷ 1 ∷ 0 ∷ 0 ∷ 0 ∷ 0 ∷ 0 ∷ 0 ∷ 0 ∷ 0 ∷ 0 ∷ 255 ∷ 0 ∷ []) 20 1) (found_in 1 3 (1 ∷ [])) ∷
    line (decides (1 ∷ 0 ∷ 1 ∷ 0 ∷ 1 ∷ 8 ∷ 0 ∷ 16 ∷ 0 ∷ 0 ∷ 0 ∷ 0 ∷ 0 ∷ 254 ∷ 255 ∷ 255 ∷ 255 ∷ 0 ∷ 0 ∷ 255 ∷ 0 ∷ []) 3 2) (never_in 2 3) ∷
    line (decides (1 ∷ 0 ∷ 1 ∷ 0 ∷ 1 ∷ 8 ∷ 0 ∷ 16 ∷ 0 ∷ 1 ∷ 0 ∷ 0 ∷ 0 ∷ 254 ∷ 255 ∷ 255 ∷ 255 ∷ 0 ∷ 0 ∷ 255 ∷ 0 ∷ []) 8 2) (never_in 2 3) ∷
    line (decides (1 ∷ 0 ∷ 1 ∷ 0 ∷ 1 ∷ 0 ∷ 0 ∷ 32 ∷ 0 ∷ 0 ∷ 0 ∷ 33 ∷ 0 ∷ 0 ∷ 0 ∷ 32 ∷ 0 ∷ 8 ∷ 0 ∷ 17 ∷ 0 ∷ 0 ∷ 0 ∷ 0 ∷ 0 ∷ 255 ∷ 255 ∷ 255 ∷ 255 ∷ 0 ∷ 0 ∷ 32 ∷ 0 ∷ 0 ∷ 0 ∷ 33 ∷ 0 ∷ 0 ∷ 0 ∷ 34 ∷ 0 ∷ 0 ∷ 0 ∷ 32 ∷ 0 ∷ 8 ∷ 0 ∷ 17 ∷ 0 ∷ 0 ∷ 0 ∷ 0 ∷ 0 ∷ 3 ∷ 0 ∷ 0 ∷ 0 ∷ 8 ∷ 0 ∷ 17 ∷ 0 ∷ 255 ∷ 255 ∷ 255 ∷ 255 ∷ 251 ∷ 255 ∷ 255 ∷ 255 ∷ 0 ∷ 0 ∷ 33 ∷ 0 ∷ 8 ∷ 0 ∷ 16 ∷ 0 ∷ 0 ∷ 0 ∷ 0 ∷ 0 ∷ 255 ∷ 255 ∷ 255 ∷ 255 ∷ 0 ∷ 0 ∷ 32 ∷ 0 ∷ 8 ∷ 0 ∷ 16 ∷ 0 ∷ 1 ∷ 0 ∷ 0 ∷ 0 ∷ 2 ∷ 0 ∷ 0 ∷ 0 ∷ 0 ∷ 0 ∷ 255 ∷ 0 ∷ []) 2000 2) (never_in 2 7) ∷
    line (decides (1 ∷ 0 ∷ 1 ∷ 0 ∷ 1 ∷ 0 ∷ 0 ∷ 33 ∷ 0 ∷ 0 ∷ 0 ∷ 32 ∷ 0 ∷ 0 ∷ 0 ∷ 33 ∷ 0 ∷ 0 ∷ 0 ∷ 33 ∷ 0 ∷ 8 ∷ 0 ∷ 16 ∷ 0 ∷ 254 ∷ 255 ∷ 255 ∷ 255 ∷ 17 ∷ 0 ∷ 0 ∷ 0 ∷ 8 ∷ 0 ∷ 17 ∷ 0 ∷ 1 ∷ 0 ∷ 0 ∷ 0 ∷ 12 ∷ 0 ∷ 0 ∷ 0 ∷ 0 ∷ 0 ∷ 34 ∷ 0 ∷ 8 ∷ 0 ∷ 17 ∷ 0 ∷ 1 ∷ 0 ∷ 0 ∷ 0 ∷ 7 ∷ 0 ∷ 0 ∷ 0 ∷ 0 ∷ 0 ∷ 32 ∷ 0 ∷ 8 ∷ 0 ∷ 17 ∷ 0 ∷ 253 ∷ 255 ∷ 255 ∷ 255 ∷ 17 ∷ 0 ∷ 0 ∷ 0 ∷ 8 ∷ 0 ∷ 17 ∷ 0 ∷ 1 ∷ 0 ∷ 0 ∷ 0 ∷ 241 ∷ 255 ∷ 255 ∷ 255 ∷ 0 ∷ 0 ∷ 255 ∷ 0 ∷ []) 2000 0) (never_in 0 24) ∷
    line (decides (1 ∷ 0 ∷ 1 ∷ 0 ∷ 1 ∷ 8 ∷ 0 ∷ 16 ∷ 0 ∷ 1 ∷ 0 ∷ 0 ∷ 0 ∷ 178 ∷ 255 ∷ 255 ∷ 255 ∷ 0 ∷ 0 ∷ 255 ∷ 0 ∷ []) 0 1) (no_room_in 1 0) ∷
    line (decides (1 ∷ 0 ∷ 1 ∷ 0 ∷ 1 ∷ 8 ∷ 0 ∷ 17 ∷ 0 ∷ 1 ∷ 0 ∷ 0 ∷ 0 ∷ 236 ∷ 255 ∷ 255 ∷ 255 ∷ 0 ∷ 0 ∷ 255 ∷ 0 ∷ []) 2 5) (no_room_in 5 2) ∷
    line (decides (1 ∷ 0 ∷ 1 ∷ 0 ∷ 1 ∷ 8 ∷ 0 ∷ 16 ∷ 0 ∷ 1 ∷ 0 ∷ 0 ∷ 0 ∷ 1 ∷ 0 ∷ 0 ∷ 0 ∷ 0 ∷ 0 ∷ 255 ∷ 0 ∷ []) 2 5) (no_room_in 5 2) ∷
    line (decides (1 ∷ 0 ∷ 1 ∷ 0 ∷ 1 ∷ 0 ∷ 0 ∷ 34 ∷ 0 ∷ 8 ∷ 0 ∷ 16 ∷ 0 ∷ 254 ∷ 255 ∷ 255 ∷ 255 ∷ 0 ∷ 0 ∷ 0 ∷ 0 ∷ 8 ∷ 0 ∷ 16 ∷ 0 ∷ 1 ∷ 0 ∷ 0 ∷ 0 ∷ 254 ∷ 255 ∷ 255 ∷ 255 ∷ 0 ∷ 0 ∷ 255 ∷ 0 ∷ []) 0 0) (no_room_in 0 0) ∷
    line (decides (1 ∷ 0 ∷ 1 ∷ 0 ∷ 5 ∷ 0 ∷ 0 ∷ 32 ∷ 0 ∷ 24 ∷ 0 ∷ 17 ∷ 0 ∷ 2 ∷ 0 ∷ 0 ∷ 0 ∷ 254 ∷ 255 ∷ 255 ∷ 255 ∷ 3 ∷ 0 ∷ 0 ∷ 0 ∷ 255 ∷ 255 ∷ 255 ∷ 255 ∷ 1 ∷ 0 ∷ 0 ∷ 0 ∷ 255 ∷ 255 ∷ 255 ∷ 255 ∷ 0 ∷ 0 ∷ 255 ∷ 0 ∷ []) 0 1) (no_room_in 1 0) ∷
    line (decides_short (1 ∷ 0 ∷ 1 ∷ 0 ∷ 6 ∷ 28 ∷ 0 ∷ 16 ∷ 0 ∷ 5 ∷ 0 ∷ 0 ∷ 0 ∷ 250 ∷ 255 ∷ 255 ∷ 255 ∷ 9 ∷ 0 ∷ 0 ∷ 0 ∷ 9 ∷ 0 ∷ 0 ∷ 0 ∷ 6 ∷ 0 ∷ 0 ∷ 0 ∷ 2 ∷ 0 ∷ 0 ∷ 0 ∷ 11 ∷ 0 ∷ 0 ∷ 0 ∷ 0 ∷ 0 ∷ 255 ∷ 0 ∷ []) 100 0) (count 9) ∷
    []

pub decide_vectors_hold : all_given decide_vectors ≡ wanted decide_vectors
unfolding running
decide_vectors_hold = refl

abbrev judge_vectors : List Line
judge_vectors =
    line (judges (1 ∷ 0 ∷ 1 ∷ 0 ∷ 1 ∷ 8 ∷ 0 ∷ 17 ∷ 0 ∷ 3 ∷ 0 ∷ 0 ∷ 0 ∷ 2 ∷ 0 ∷ 0 ∷ 0 ∷ 0 ∷ 0 ∷ 255 ∷ 0 ∷ []) (5 ∷ [])) (truth (Ok false)) ∷
    line (judges (1 ∷ 0 ∷ 1 ∷ 0 ∷ 1 ∷ 8 ∷ 0 ∷ 17 ∷ 0 ∷ 248 ∷ 255 ∷ 255 ∷ 255 ∷ 178 ∷ 255 ∷ 255 ∷ 255 ∷ 0 ∷ 0 ∷ 255 ∷ 0 ∷ []) (0 ∷ [])) (truth (Ok false)) ∷
    line (judges (1 ∷ 0 ∷ 1 ∷ 0 ∷ 1 ∷ 8 ∷ 0 ∷ 17 ∷ 0 ∷ 2 ∷ 0 ∷ 0 ∷ 0 ∷ 253 ∷ 255 ∷ 255 ∷ 255 ∷ 0 ∷ 0 ∷ 255 ∷ 0 ∷ []) (1 ∷ [])) (truth (Ok false)) ∷
    line (judges (1 ∷ 0 ∷ 1 ∷ 0 ∷ 2 ∷ 12 ∷ 0 ∷ 16 ∷ 0 ∷ 0 ∷ 0 ∷ 0 ∷ 0 ∷ 255 ∷ 255 ∷ 255 ∷ 255 ∷ 55 ∷ 243 ∷ 255 ∷ 255 ∷ 0 ∷ 0 ∷ 255 ∷ 0 ∷ []) (0 ∷ 2 ∷ [])) (truth (Ok false)) ∷
    line (judges (1 ∷ 0 ∷ 1 ∷ 0 ∷ 3 ∷ 16 ∷ 0 ∷ 17 ∷ 0 ∷ 0 ∷ 0 ∷ 0 ∷ 0 ∷ 4 ∷ 0 ∷ 0 ∷ 0 ∷ 255 ∷ 255 ∷ 255 ∷ 255 ∷ 0 ∷ 0 ∷ 0 ∷ 0 ∷ 0 ∷ 0 ∷ 255 ∷ 0 ∷ []) (5 ∷ 2 ∷ 0 ∷ [])) (truth (Ok false)) ∷
    line (judges (1 ∷ 0 ∷ 1 ∷ 0 ∷ 3 ∷ 16 ∷ 0 ∷ 16 ∷ 0 ∷ 8 ∷ 246 ∷ 255 ∷ 255 ∷ 76 ∷ 3 ∷ 0 ∷ 0 ∷ 249 ∷ 247 ∷ 255 ∷ 255 ∷ 255 ∷ 255 ∷ 255 ∷ 255 ∷ 0 ∷ 0 ∷ 255 ∷ 0 ∷ []) (1 ∷ 1 ∷ 0 ∷ [])) (truth (Ok false)) ∷
    line (judges (1 ∷ 0 ∷ 1 ∷ 0 ∷ 2 ∷ 12 ∷ 0 ∷ 17 ∷ 0 ∷ 35 ∷ 0 ∷ 0 ∷ 0 ∷ 1 ∷ 0 ∷ 0 ∷ 0 ∷ 230 ∷ 255 ∷ 255 ∷ 255 ∷ 0 ∷ 0 ∷ 255 ∷ 0 ∷ []) (1099511627776 ∷ 1 ∷ [])) (truth (Err (numbered_refusal 9 0))) ∷
    line (judges (1 ∷ 0 ∷ 1 ∷ 0 ∷ 2 ∷ 12 ∷ 0 ∷ 16 ∷ 0 ∷ 1 ∷ 0 ∷ 0 ∷ 0 ∷ 1 ∷ 0 ∷ 0 ∷ 0 ∷ 252 ∷ 255 ∷ 255 ∷ 255 ∷ 0 ∷ 0 ∷ 255 ∷ 0 ∷ []) (0 ∷ 1 ∷ 586354958738 ∷ 5 ∷ [])) (truth (Err (numbered_refusal 9 0))) ∷
    line (judges (1 ∷ 0 ∷ 1 ∷ 0 ∷ 2 ∷ 12 ∷ 0 ∷ 17 ∷ 0 ∷ 244 ∷ 255 ∷ 255 ∷ 255 ∷ 247 ∷ 255 ∷ 255 ∷ 255 ∷ 249 ∷ 255 ∷ 255 ∷ 255 ∷ 0 ∷ 0 ∷ 255 ∷ 0 ∷ []) (147554280052 ∷ 5 ∷ 0 ∷ 1 ∷ 1099511627775 ∷ [])) (truth (Err (numbered_refusal 9 0))) ∷
    line (judges (1 ∷ 0 ∷ 1 ∷ 0 ∷ 1 ∷ 8 ∷ 0 ∷ 17 ∷ 0 ∷ 254 ∷ 255 ∷ 255 ∷ 255 ∷ 13 ∷ 0 ∷ 0 ∷ 0 ∷ 0 ∷ 0 ∷ 255 ∷ 0 ∷ []) (2 ∷ [])) (truth (Ok true)) ∷
    line (judges (1 ∷ 0 ∷ 1 ∷ 0 ∷ 1 ∷ 8 ∷ 0 ∷ 17 ∷ 0 ∷ 5 ∷ 0 ∷ 0 ∷ 0 ∷ 8 ∷ 0 ∷ 0 ∷ 0 ∷ 0 ∷ 0 ∷ 255 ∷ 0 ∷ []) (1 ∷ [])) (truth (Ok true)) ∷
    line (judges (1 ∷ 0 ∷ 1 ∷ 0 ∷ 1 ∷ 0 ∷ 0 ∷ 32 ∷ 0 ∷ 8 ∷ 0 ∷ 16 ∷ 0 ∷ 18 ∷ 0 ∷ 0 ∷ 0 ∷ 18 ∷ 0 ∷ 0 ∷ 0 ∷ 0 ∷ 0 ∷ 255 ∷ 0 ∷ []) (5 ∷ [])) (truth (Ok true)) ∷
    line (judges (1 ∷ 0 ∷ 1 ∷ 0 ∷ 3 ∷ 16 ∷ 0 ∷ 17 ∷ 0 ∷ 2 ∷ 0 ∷ 0 ∷ 0 ∷ 255 ∷ 255 ∷ 255 ∷ 255 ∷ 255 ∷ 255 ∷ 255 ∷ 255 ∷ 250 ∷ 255 ∷ 255 ∷ 255 ∷ 0 ∷ 0 ∷ 255 ∷ 0 ∷ []) (1 ∷ 5 ∷ 468790447652 ∷ [])) (truth (Ok true)) ∷
    line (judges (1 ∷ 0 ∷ 1 ∷ 0 ∷ 1 ∷ 0 ∷ 0 ∷ 34 ∷ 0 ∷ 8 ∷ 0 ∷ 16 ∷ 0 ∷ 45 ∷ 0 ∷ 0 ∷ 0 ∷ 105 ∷ 6 ∷ 0 ∷ 0 ∷ 8 ∷ 0 ∷ 17 ∷ 0 ∷ 108 ∷ 0 ∷ 0 ∷ 0 ∷ 194 ∷ 7 ∷ 0 ∷ 0 ∷ 0 ∷ 0 ∷ 255 ∷ 0 ∷ []) (1 ∷ [])) (truth (Ok true)) ∷
    line (judges (1 ∷ 0 ∷ 1 ∷ 0 ∷ 3 ∷ 16 ∷ 0 ∷ 17 ∷ 0 ∷ 255 ∷ 255 ∷ 255 ∷ 255 ∷ 2 ∷ 0 ∷ 0 ∷ 0 ∷ 0 ∷ 0 ∷ 0 ∷ 0 ∷ 81 ∷ 0 ∷ 0 ∷ 0 ∷ 0 ∷ 0 ∷ 255 ∷ 0 ∷ []) (1099511627775 ∷ 2 ∷ 1 ∷ [])) (truth (Ok true)) ∷
    line (judges (1 ∷ 0 ∷ 1 ∷ 0 ∷ 2 ∷ 12 ∷ 0 ∷ 16 ∷ 0 ∷ 0 ∷ 0 ∷ 0 ∷ 0 ∷ 116 ∷ 255 ∷ 255 ∷ 255 ∷ 1 ∷ 0 ∷ 0 ∷ 0 ∷ 0 ∷ 0 ∷ 255 ∷ 0 ∷ []) (5 ∷ 5 ∷ [])) (truth (Ok false)) ∷
    line (judges (1 ∷ 0 ∷ 1 ∷ 0 ∷ 2 ∷ 12 ∷ 0 ∷ 17 ∷ 0 ∷ 2 ∷ 0 ∷ 0 ∷ 0 ∷ 0 ∷ 0 ∷ 0 ∷ 0 ∷ 0 ∷ 0 ∷ 0 ∷ 0 ∷ 0 ∷ 0 ∷ 255 ∷ 0 ∷ []) (9 ∷ 5 ∷ [])) (truth (Ok false)) ∷
    line (judges (1 ∷ 0 ∷ 1 ∷ 0 ∷ 1 ∷ 8 ∷ 0 ∷ 16 ∷ 0 ∷ 252 ∷ 255 ∷ 255 ∷ 255 ∷ 0 ∷ 0 ∷ 0 ∷ 0 ∷ 0 ∷ 0 ∷ 255 ∷ 0 ∷ []) (997223352977 ∷ [])) (truth (Ok false)) ∷
    line (judges (1 ∷ 0 ∷ 1 ∷ 0 ∷ 3 ∷ 16 ∷ 0 ∷ 16 ∷ 0 ∷ 2 ∷ 0 ∷ 0 ∷ 0 ∷ 1 ∷ 0 ∷ 0 ∷ 0 ∷ 2 ∷ 0 ∷ 0 ∷ 0 ∷ 255 ∷ 255 ∷ 255 ∷ 255 ∷ 0 ∷ 0 ∷ 255 ∷ 0 ∷ []) (18 ∷ 0 ∷ 18 ∷ [])) (truth (Ok false)) ∷
    line (judges (1 ∷ 0 ∷ 1 ∷ 0 ∷ 2 ∷ 12 ∷ 0 ∷ 17 ∷ 0 ∷ 2 ∷ 0 ∷ 0 ∷ 0 ∷ 1 ∷ 0 ∷ 0 ∷ 0 ∷ 69 ∷ 0 ∷ 0 ∷ 0 ∷ 0 ∷ 0 ∷ 255 ∷ 0 ∷ []) (1099511627775 ∷ 0 ∷ [])) (truth (Ok false)) ∷
    line (judges (1 ∷ 0 ∷ 1 ∷ 0 ∷ 2 ∷ 12 ∷ 0 ∷ 16 ∷ 0 ∷ 255 ∷ 255 ∷ 255 ∷ 255 ∷ 255 ∷ 255 ∷ 255 ∷ 255 ∷ 1 ∷ 0 ∷ 0 ∷ 0 ∷ 0 ∷ 0 ∷ 255 ∷ 0 ∷ []) (1099511627775 ∷ 58131812498 ∷ [])) (truth (Ok false)) ∷
    line (judges (1 ∷ 0 ∷ 1 ∷ 0 ∷ 3 ∷ 217 ∷ 0 ∷ 0 ∷ 34 ∷ 0 ∷ 16 ∷ 0 ∷ 17 ∷ 0 ∷ 0 ∷ 0 ∷ 0 ∷ 0 ∷ 0 ∷ 0 ∷ 0 ∷ 0 ∷ 0 ∷ 0 ∷ 0 ∷ 0 ∷ 1 ∷ 0 ∷ 0 ∷ 0 ∷ 16 ∷ 0 ∷ 17 ∷ 0 ∷ 0 ∷ 0 ∷ 0 ∷ 0 ∷ 0 ∷ 0 ∷ 0 ∷ 0 ∷ 0 ∷ 0 ∷ 0 ∷ 0 ∷ 1 ∷ 0 ∷ 0 ∷ 0 ∷ 0 ∷ 0 ∷ 255 ∷ 0 ∷ []) (2 ∷ [])) (truth (Err (numbered_refusal 2 5))) ∷
    line (judges (1 ∷ 0 ∷ 1 ∷ 0 ∷ 3 ∷ 16 ∷ 0 ∷ 17 ∷ 0 ∷ 0 ∷ 0 ∷ 0 ∷ 0 ∷ 0 ∷ 0 ∷ 0 ∷ 0 ∷ 0 ∷ 0 ∷ 0 ∷ 0 ∷ 255 ∷ 255 ∷ 255 ∷ 255 ∷ 0 ∷ 0 ∷ 255 ∷ 0 ∷ []) (376918732647 ∷ [])) (truth (Err (numbered_refusal 9 0))) ∷
    line (judges (1 ∷ 0 ∷ 1 ∷ 0 ∷ 3 ∷ 0 ∷ 0 ∷ 32 ∷ 0 ∷ 0 ∷ 0 ∷ 32 ∷ 0 ∷ 16 ∷ 0 ∷ 17 ∷ 0 ∷ 0 ∷ 0 ∷ 0 ∷ 0 ∷ 0 ∷ 0 ∷ 0 ∷ 0 ∷ 0 ∷ 0 ∷ 0 ∷ 0 ∷ 253 ∷ 255 ∷ 255 ∷ 255 ∷ 0 ∷ 0 ∷ 255 ∷ 0 ∷ []) (21 ∷ 5 ∷ 3 ∷ 1099511627775 ∷ 0 ∷ 9 ∷ 2 ∷ [])) (truth (Err (numbered_refusal 9 0))) ∷
    line (judges (1 ∷ 0 ∷ 1 ∷ 0 ∷ 1 ∷ 0 ∷ 0 ∷ 32 ∷ 0 ∷ 8 ∷ 0 ∷ 16 ∷ 0 ∷ 255 ∷ 255 ∷ 255 ∷ 255 ∷ 255 ∷ 255 ∷ 255 ∷ 255 ∷ 0 ∷ 0 ∷ 255 ∷ 0 ∷ []) (0 ∷ [])) (truth (Ok true)) ∷
    line (judges (1 ∷ 0 ∷ 1 ∷ 0 ∷ 1 ∷ 0 ∷ 0 ∷ 32 ∷ 0 ∷ 8 ∷ 0 ∷ 16 ∷ 0 ∷ 1 ∷ 0 ∷ 0 ∷ 0 ∷ 1 ∷ 0 ∷ 0 ∷ 0 ∷ 0 ∷ 0 ∷ 255 ∷ 0 ∷ []) (28 ∷ [])) (truth (Ok true)) ∷
    line (judges (1 ∷ 0 ∷ 1 ∷ 0 ∷ 2 ∷ 12 ∷ 0 ∷ 17 ∷ 0 ∷ 228 ∷ 254 ∷ 255 ∷ 255 ∷ 222 ∷ 255 ∷ 255 ∷ 255 ∷ 1 ∷ 0 ∷ 0 ∷ 0 ∷ 0 ∷ 0 ∷ 255 ∷ 0 ∷ []) (0 ∷ 0 ∷ [])) (truth (Ok true)) ∷
    line (judges (1 ∷ 0 ∷ 1 ∷ 0 ∷ 3 ∷ 16 ∷ 0 ∷ 17 ∷ 0 ∷ 0 ∷ 0 ∷ 0 ∷ 0 ∷ 255 ∷ 255 ∷ 255 ∷ 255 ∷ 255 ∷ 255 ∷ 255 ∷ 255 ∷ 0 ∷ 0 ∷ 0 ∷ 0 ∷ 0 ∷ 0 ∷ 255 ∷ 0 ∷ []) (0 ∷ 0 ∷ 0 ∷ [])) (truth (Ok true)) ∷
    line (judges (1 ∷ 0 ∷ 1 ∷ 0 ∷ 3 ∷ 16 ∷ 0 ∷ 16 ∷ 0 ∷ 0 ∷ 0 ∷ 0 ∷ 0 ∷ 0 ∷ 0 ∷ 0 ∷ 0 ∷ 224 ∷ 255 ∷ 255 ∷ 255 ∷ 0 ∷ 0 ∷ 0 ∷ 0 ∷ 0 ∷ 0 ∷ 255 ∷ 0 ∷ []) (0 ∷ 0 ∷ 0 ∷ [])) (truth (Ok true)) ∷
    line (judges (1 ∷ 0 ∷ 1 ∷ 0 ∷ 4 ∷ 0 ∷ 0 ∷ 32 ∷ 0 ∷ 20 ∷ 0 ∷ 17 ∷ 0 ∷ 61 ∷ 250 ∷ 255 ∷ 255 ∷ 117 ∷ 246 ∷ 255 ∷ 255 ∷ 35 ∷ 253 ∷ 255 ∷ 255 ∷ 109 ∷ 1 ∷ 0 ∷ 0 ∷ 7 ∷ 0 ∷ 0 ∷ 0 ∷ 0 ∷ 0 ∷ 255 ∷ 0 ∷ []) (0 ∷ 0 ∷ 0 ∷ 1 ∷ [])) (truth (Ok true)) ∷
    []

pub judge_vectors_hold : all_given judge_vectors ≡ wanted judge_vectors
unfolding running
judge_vectors_hold = refl

abbrev tree_vectors : List Line
tree_vectors =
    line (says_tree (Tree.atom (record { kind = at_most; coefficients = (pos 3 ∷ []); constant = pos 2 })) (5 ∷ [])) (holding false) ∷
    line (says_tree (Tree.atom (record { kind = at_most; coefficients = (negsuc 7 ∷ []); constant = negsuc 77 })) (0 ∷ [])) (holding false) ∷
    line (says_tree (Tree.atom (record { kind = at_most; coefficients = (pos 2 ∷ []); constant = negsuc 2 })) (1 ∷ [])) (holding false) ∷
    line (says_tree (Tree.atom (record { kind = equation; coefficients = (pos 0 ∷ negsuc 0 ∷ []); constant = negsuc 3272 })) (0 ∷ 2 ∷ [])) (holding false) ∷
    line (says_tree (Tree.atom (record { kind = at_most; coefficients = (pos 0 ∷ pos 4 ∷ negsuc 0 ∷ []); constant = pos 0 })) (5 ∷ 2 ∷ 0 ∷ [])) (holding false) ∷
    line (says_tree (Tree.atom (record { kind = equation; coefficients = (negsuc 2551 ∷ pos 844 ∷ negsuc 2054 ∷ []); constant = negsuc 0 })) (1 ∷ 1 ∷ 0 ∷ [])) (holding false) ∷
    line (says_tree (Tree.atom (record { kind = at_most; coefficients = (negsuc 1 ∷ []); constant = pos 13 })) (2 ∷ [])) (holding true) ∷
    line (says_tree (Tree.atom (record { kind = at_most; coefficients = (pos 5 ∷ []); constant = pos 8 })) (1 ∷ [])) (holding true) ∷
    line (says_tree (Tree.not (Tree.atom (record { kind = equation; coefficients = (pos 18 ∷ []); constant = pos 18 }))) (5 ∷ [])) (holding true) ∷
    line (says_tree (Tree.atom (record { kind = at_most; coefficients = (pos 2 ∷ negsuc 0 ∷ negsuc 0 ∷ []); constant = negsuc 5 })) (1 ∷ 5 ∷ 468790447652 ∷ [])) (holding true) ∷
    line (says_tree (Tree.or (Tree.atom (record { kind = equation; coefficients = (pos 45 ∷ []); constant = pos 1641 })) (Tree.atom (record { kind = at_most; coefficients = (pos 108 ∷ []); constant = pos 1986 }))) (1 ∷ [])) (holding true) ∷
    line (says_tree (Tree.atom (record { kind = at_most; coefficients = (negsuc 0 ∷ pos 2 ∷ pos 0 ∷ []); constant = pos 81 })) (1099511627775 ∷ 2 ∷ 1 ∷ [])) (holding true) ∷
    line (asks 3 (Tree.atom (record { kind = at_most; coefficients = (pos 1 ∷ negsuc 2 ∷ pos 2 ∷ []); constant = negsuc 1 }))) (tree true (1 ∷ 0 ∷ 1 ∷ 0 ∷ 3 ∷ 16 ∷ 0 ∷ 17 ∷ 0 ∷ 1 ∷ 0 ∷ 0 ∷ 0 ∷ 253 ∷ 255 ∷ 255 ∷ 255 ∷ 2 ∷ 0 ∷ 0 ∷ 0 ∷ 254 ∷ 255 ∷ 255 ∷ 255 ∷ 0 ∷ 0 ∷ 255 ∷ 0 ∷ [])) ∷
    line (asks 3 (Tree.atom (record { kind = at_most; coefficients = (negsuc 1 ∷ pos 0 ∷ pos 0 ∷ []); constant = negsuc 1 }))) (tree true (1 ∷ 0 ∷ 1 ∷ 0 ∷ 3 ∷ 16 ∷ 0 ∷ 17 ∷ 0 ∷ 254 ∷ 255 ∷ 255 ∷ 255 ∷ 0 ∷ 0 ∷ 0 ∷ 0 ∷ 0 ∷ 0 ∷ 0 ∷ 0 ∷ 254 ∷ 255 ∷ 255 ∷ 255 ∷ 0 ∷ 0 ∷ 255 ∷ 0 ∷ [])) ∷
    line (asks 3 (Tree.and (Tree.atom (record { kind = equation; coefficients = (negsuc 0 ∷ pos 0 ∷ pos 4 ∷ []); constant = pos 232 })) (Tree.atom (record { kind = at_most; coefficients = (negsuc 2 ∷ pos 2 ∷ negsuc 3 ∷ []); constant = pos 1 })))) (tree true (1 ∷ 0 ∷ 1 ∷ 0 ∷ 3 ∷ 0 ∷ 0 ∷ 33 ∷ 0 ∷ 16 ∷ 0 ∷ 16 ∷ 0 ∷ 255 ∷ 255 ∷ 255 ∷ 255 ∷ 0 ∷ 0 ∷ 0 ∷ 0 ∷ 4 ∷ 0 ∷ 0 ∷ 0 ∷ 232 ∷ 0 ∷ 0 ∷ 0 ∷ 16 ∷ 0 ∷ 17 ∷ 0 ∷ 253 ∷ 255 ∷ 255 ∷ 255 ∷ 2 ∷ 0 ∷ 0 ∷ 0 ∷ 252 ∷ 255 ∷ 255 ∷ 255 ∷ 1 ∷ 0 ∷ 0 ∷ 0 ∷ 0 ∷ 0 ∷ 255 ∷ 0 ∷ [])) ∷
    line (asks 1 (Tree.and (Tree.atom (record { kind = at_most; coefficients = (negsuc 29 ∷ []); constant = negsuc 0 })) (Tree.not (Tree.and (Tree.atom (record { kind = at_most; coefficients = (pos 2 ∷ []); constant = negsuc 1 })) (Tree.atom (record { kind = at_most; coefficients = (negsuc 1 ∷ []); constant = pos 1 })))))) (tree true (1 ∷ 0 ∷ 1 ∷ 0 ∷ 1 ∷ 0 ∷ 0 ∷ 33 ∷ 0 ∷ 8 ∷ 0 ∷ 17 ∷ 0 ∷ 226 ∷ 255 ∷ 255 ∷ 255 ∷ 255 ∷ 255 ∷ 255 ∷ 255 ∷ 0 ∷ 0 ∷ 32 ∷ 0 ∷ 0 ∷ 0 ∷ 33 ∷ 0 ∷ 8 ∷ 0 ∷ 17 ∷ 0 ∷ 2 ∷ 0 ∷ 0 ∷ 0 ∷ 254 ∷ 255 ∷ 255 ∷ 255 ∷ 8 ∷ 0 ∷ 17 ∷ 0 ∷ 254 ∷ 255 ∷ 255 ∷ 255 ∷ 1 ∷ 0 ∷ 0 ∷ 0 ∷ 0 ∷ 0 ∷ 255 ∷ 0 ∷ [])) ∷
    line (asks 3 (Tree.not (Tree.not (Tree.and (Tree.atom (record { kind = at_most; coefficients = (pos 2 ∷ pos 2 ∷ negsuc 2 ∷ []); constant = pos 0 })) (Tree.atom (record { kind = equation; coefficients = (pos 1 ∷ pos 0 ∷ negsuc 0 ∷ []); constant = pos 1 })))))) (tree true (1 ∷ 0 ∷ 1 ∷ 0 ∷ 3 ∷ 0 ∷ 0 ∷ 32 ∷ 0 ∷ 0 ∷ 0 ∷ 32 ∷ 0 ∷ 0 ∷ 0 ∷ 33 ∷ 0 ∷ 16 ∷ 0 ∷ 17 ∷ 0 ∷ 2 ∷ 0 ∷ 0 ∷ 0 ∷ 2 ∷ 0 ∷ 0 ∷ 0 ∷ 253 ∷ 255 ∷ 255 ∷ 255 ∷ 0 ∷ 0 ∷ 0 ∷ 0 ∷ 16 ∷ 0 ∷ 16 ∷ 0 ∷ 1 ∷ 0 ∷ 0 ∷ 0 ∷ 0 ∷ 0 ∷ 0 ∷ 0 ∷ 255 ∷ 255 ∷ 255 ∷ 255 ∷ 1 ∷ 0 ∷ 0 ∷ 0 ∷ 0 ∷ 0 ∷ 255 ∷ 0 ∷ [])) ∷
    line (asks 3 (Tree.or (Tree.atom (record { kind = equation; coefficients = (pos 0 ∷ pos 2 ∷ pos 4 ∷ []); constant = pos 1 })) (Tree.not (Tree.not (Tree.not (Tree.atom (record { kind = at_most; coefficients = (pos 2 ∷ pos 0 ∷ negsuc 1 ∷ []); constant = pos 0 }))))))) (tree true (1 ∷ 0 ∷ 1 ∷ 0 ∷ 3 ∷ 0 ∷ 0 ∷ 34 ∷ 0 ∷ 16 ∷ 0 ∷ 16 ∷ 0 ∷ 0 ∷ 0 ∷ 0 ∷ 0 ∷ 2 ∷ 0 ∷ 0 ∷ 0 ∷ 4 ∷ 0 ∷ 0 ∷ 0 ∷ 1 ∷ 0 ∷ 0 ∷ 0 ∷ 0 ∷ 0 ∷ 32 ∷ 0 ∷ 0 ∷ 0 ∷ 32 ∷ 0 ∷ 0 ∷ 0 ∷ 32 ∷ 0 ∷ 16 ∷ 0 ∷ 17 ∷ 0 ∷ 2 ∷ 0 ∷ 0 ∷ 0 ∷ 0 ∷ 0 ∷ 0 ∷ 0 ∷ 254 ∷ 255 ∷ 255 ∷ 255 ∷ 0 ∷ 0 ∷ 0 ∷ 0 ∷ 0 ∷ 0 ∷ 255 ∷ 0 ∷ [])) ∷
    line (asks 4 (Tree.or (Tree.and (Tree.atom (record { kind = at_most; coefficients = (pos 1 ∷ negsuc 2 ∷ pos 2 ∷ negsuc 1 ∷ []); constant = pos 8 })) (Tree.not (Tree.or (Tree.not (Tree.atom (record { kind = at_most; coefficients = (negsuc 0 ∷ negsuc 0 ∷ pos 0 ∷ negsuc 1 ∷ []); constant = negsuc 19 }))) (Tree.not (Tree.not (Tree.not (Tree.not (Tree.not (Tree.or (Tree.atom (record { kind = equation; coefficients = (negsuc 1 ∷ negsuc 0 ∷ pos 0 ∷ negsuc 1 ∷ []); constant = pos 18 })) (Tree.not (Tree.atom (record { kind = equation; coefficients = (negsuc 0 ∷ pos 2 ∷ negsuc 1 ∷ pos 0 ∷ []); constant = negsuc 15 })))))))))))) (Tree.not (Tree.not (Tree.and (Tree.and (Tree.not (Tree.atom (record { kind = at_most; coefficients = (negsuc 0 ∷ negsuc 0 ∷ pos 0 ∷ negsuc 1 ∷ []); constant = negsuc 15 }))) (Tree.atom (record { kind = equation; coefficients = (pos 0 ∷ pos 1 ∷ negsuc 1 ∷ negsuc 0 ∷ []); constant = negsuc 16 }))) (Tree.and (Tree.atom (record { kind = at_most; coefficients = (negsuc 1 ∷ negsuc 1 ∷ pos 1 ∷ pos 1 ∷ []); constant = pos 0 })) (Tree.not (Tree.atom (record { kind = at_most; coefficients = (pos 3 ∷ negsuc 1 ∷ negsuc 0 ∷ pos 2 ∷ []); constant = pos 6 }))))))))) (tree true (1 ∷ 0 ∷ 1 ∷ 0 ∷ 4 ∷ 0 ∷ 0 ∷ 34 ∷ 0 ∷ 0 ∷ 0 ∷ 33 ∷ 0 ∷ 20 ∷ 0 ∷ 17 ∷ 0 ∷ 1 ∷ 0 ∷ 0 ∷ 0 ∷ 253 ∷ 255 ∷ 255 ∷ 255 ∷ 2 ∷ 0 ∷ 0 ∷ 0 ∷ 254 ∷ 255 ∷ 255 ∷ 255 ∷ 8 ∷ 0 ∷ 0 ∷ 0 ∷ 0 ∷ 0 ∷ 32 ∷ 0 ∷ 0 ∷ 0 ∷ 34 ∷ 0 ∷ 0 ∷ 0 ∷ 32 ∷ 0 ∷ 20 ∷ 0 ∷ 17 ∷ 0 ∷ 255 ∷ 255 ∷ 255 ∷ 255 ∷ 255 ∷ 255 ∷ 255 ∷ 255 ∷ 0 ∷ 0 ∷ 0 ∷ 0 ∷ 254 ∷ 255 ∷ 255 ∷ 255 ∷ 236 ∷ 255 ∷ 255 ∷ 255 ∷ 0 ∷ 0 ∷ 32 ∷ 0 ∷ 0 ∷ 0 ∷ 32 ∷ 0 ∷ 0 ∷ 0 ∷ 32 ∷ 0 ∷ 0 ∷ 0 ∷ 32 ∷ 0 ∷ 0 ∷ 0 ∷ 32 ∷ 0 ∷ 0 ∷ 0 ∷ 34 ∷ 0 ∷ 20 ∷ 0 ∷ 16 ∷ 0 ∷ 254 ∷ 255 ∷ 255 ∷ 255 ∷ 255 ∷ 255 ∷ 255 ∷ 255 ∷ 0 ∷ 0 ∷ 0 ∷ 0 ∷ 254 ∷ 255 ∷ 255 ∷ 255 ∷ 18 ∷ 0 ∷ 0 ∷ 0 ∷ 0 ∷ 0 ∷ 32 ∷ 0 ∷ 20 ∷ 0 ∷ 16 ∷ 0 ∷ 255 ∷ 255 ∷ 255 ∷ 255 ∷ 2 ∷ 0 ∷ 0 ∷ 0 ∷ 254 ∷ 255 ∷ 255 ∷ 255 ∷ 0 ∷ 0 ∷ 0 ∷ 0 ∷ 240 ∷ 255 ∷ 255 ∷ 255 ∷ 0 ∷ 0 ∷ 32 ∷ 0 ∷ 0 ∷ 0 ∷ 32 ∷ 0 ∷ 0 ∷ 0 ∷ 33 ∷ 0 ∷ 0 ∷ 0 ∷ 33 ∷ 0 ∷ 0 ∷ 0 ∷ 32 ∷ 0 ∷ 20 ∷ 0 ∷ 17 ∷ 0 ∷ 255 ∷ 255 ∷ 255 ∷ 255 ∷ 255 ∷ 255 ∷ 255 ∷ 255 ∷ 0 ∷ 0 ∷ 0 ∷ 0 ∷ 254 ∷ 255 ∷ 255 ∷ 255 ∷ 240 ∷ 255 ∷ 255 ∷ 255 ∷ 20 ∷ 0 ∷ 16 ∷ 0 ∷ 0 ∷ 0 ∷ 0 ∷ 0 ∷ 1 ∷ 0 ∷ 0 ∷ 0 ∷ 254 ∷ 255 ∷ 255 ∷ 255 ∷ 255 ∷ 255 ∷ 255 ∷ 255 ∷ 239 ∷ 255 ∷ 255 ∷ 255 ∷ 0 ∷ 0 ∷ 33 ∷ 0 ∷ 20 ∷ 0 ∷ 17 ∷ 0 ∷ 254 ∷ 255 ∷ 255 ∷ 255 ∷ 254 ∷ 255 ∷ 255 ∷ 255 ∷ 1 ∷ 0 ∷ 0 ∷ 0 ∷ 1 ∷ 0 ∷ 0 ∷ 0 ∷ 0 ∷ 0 ∷ 0 ∷ 0 ∷ 0 ∷ 0 ∷ 32 ∷ 0 ∷ 20 ∷ 0 ∷ 17 ∷ 0 ∷ 3 ∷ 0 ∷ 0 ∷ 0 ∷ 254 ∷ 255 ∷ 255 ∷ 255 ∷ 255 ∷ 255 ∷ 255 ∷ 255 ∷ 2 ∷ 0 ∷ 0 ∷ 0 ∷ 6 ∷ 0 ∷ 0 ∷ 0 ∷ 0 ∷ 0 ∷ 255 ∷ 0 ∷ [])) ∷
    line (says_tree (Tree.atom (record { kind = equation; coefficients = (pos 0 ∷ negsuc 139 ∷ []); constant = pos 1 })) (5 ∷ 5 ∷ [])) (holding false) ∷
    line (says_tree (Tree.atom (record { kind = at_most; coefficients = (pos 2 ∷ pos 0 ∷ []); constant = pos 0 })) (9 ∷ 5 ∷ [])) (holding false) ∷
    line (says_tree (Tree.atom (record { kind = equation; coefficients = (negsuc 3 ∷ []); constant = pos 0 })) (997223352977 ∷ [])) (holding false) ∷
    line (says_tree (Tree.atom (record { kind = equation; coefficients = (pos 2 ∷ pos 1 ∷ pos 2 ∷ []); constant = negsuc 0 })) (18 ∷ 0 ∷ 18 ∷ [])) (holding false) ∷
    line (says_tree (Tree.atom (record { kind = at_most; coefficients = (pos 2 ∷ pos 1 ∷ []); constant = pos 69 })) (1099511627775 ∷ 0 ∷ [])) (holding false) ∷
    line (says_tree (Tree.atom (record { kind = equation; coefficients = (negsuc 0 ∷ negsuc 0 ∷ []); constant = pos 1 })) (1099511627775 ∷ 58131812498 ∷ [])) (holding false) ∷
    line (says_tree (Tree.not (Tree.atom (record { kind = equation; coefficients = (negsuc 0 ∷ []); constant = negsuc 0 }))) (0 ∷ [])) (holding true) ∷
    line (says_tree (Tree.not (Tree.atom (record { kind = equation; coefficients = (pos 1 ∷ []); constant = pos 1 }))) (28 ∷ [])) (holding true) ∷
    line (says_tree (Tree.atom (record { kind = at_most; coefficients = (negsuc 283 ∷ negsuc 33 ∷ []); constant = pos 1 })) (0 ∷ 0 ∷ [])) (holding true) ∷
    line (says_tree (Tree.atom (record { kind = at_most; coefficients = (pos 0 ∷ negsuc 0 ∷ negsuc 0 ∷ []); constant = pos 0 })) (0 ∷ 0 ∷ 0 ∷ [])) (holding true) ∷
    line (says_tree (Tree.atom (record { kind = equation; coefficients = (pos 0 ∷ pos 0 ∷ negsuc 31 ∷ []); constant = pos 0 })) (0 ∷ 0 ∷ 0 ∷ [])) (holding true) ∷
    line (says_tree (Tree.not (Tree.atom (record { kind = at_most; coefficients = (negsuc 1474 ∷ negsuc 2442 ∷ negsuc 732 ∷ pos 365 ∷ []); constant = pos 7 }))) (0 ∷ 0 ∷ 0 ∷ 1 ∷ [])) (holding true) ∷
    line (asks 1 (Tree.atom (record { kind = equation; coefficients = (pos 0 ∷ []); constant = pos 1 }))) (tree true (1 ∷ 0 ∷ 1 ∷ 0 ∷ 1 ∷ 8 ∷ 0 ∷ 16 ∷ 0 ∷ 0 ∷ 0 ∷ 0 ∷ 0 ∷ 1 ∷ 0 ∷ 0 ∷ 0 ∷ 0 ∷ 0 ∷ 255 ∷ 0 ∷ [])) ∷
    line (asks 1 (Tree.atom (record { kind = equation; coefficients = (pos 1 ∷ []); constant = negsuc 0 }))) (tree true (1 ∷ 0 ∷ 1 ∷ 0 ∷ 1 ∷ 8 ∷ 0 ∷ 16 ∷ 0 ∷ 1 ∷ 0 ∷ 0 ∷ 0 ∷ 255 ∷ 255 ∷ 255 ∷ 255 ∷ 0 ∷ 0 ∷ 255 ∷ 0 ∷ [])) ∷
    line (asks 1 (Tree.atom (record { kind = equation; coefficients = (pos 0 ∷ []); constant = negsuc 0 }))) (tree true (1 ∷ 0 ∷ 1 ∷ 0 ∷ 1 ∷ 8 ∷ 0 ∷ 16 ∷ 0 ∷ 0 ∷ 0 ∷ 0 ∷ 0 ∷ 255 ∷ 255 ∷ 255 ∷ 255 ∷ 0 ∷ 0 ∷ 255 ∷ 0 ∷ [])) ∷
    line (asks 1 (Tree.atom (record { kind = at_most; coefficients = (negsuc 0 ∷ []); constant = pos 0 }))) (tree true (1 ∷ 0 ∷ 1 ∷ 0 ∷ 1 ∷ 8 ∷ 0 ∷ 17 ∷ 0 ∷ 255 ∷ 255 ∷ 255 ∷ 255 ∷ 0 ∷ 0 ∷ 0 ∷ 0 ∷ 0 ∷ 0 ∷ 255 ∷ 0 ∷ [])) ∷
    line (asks 1 (Tree.not (Tree.atom (record { kind = equation; coefficients = (pos 0 ∷ []); constant = pos 1 })))) (tree true (1 ∷ 0 ∷ 1 ∷ 0 ∷ 1 ∷ 0 ∷ 0 ∷ 32 ∷ 0 ∷ 8 ∷ 0 ∷ 16 ∷ 0 ∷ 0 ∷ 0 ∷ 0 ∷ 0 ∷ 1 ∷ 0 ∷ 0 ∷ 0 ∷ 0 ∷ 0 ∷ 255 ∷ 0 ∷ [])) ∷
    line (asks 1 (Tree.not (Tree.atom (record { kind = equation; coefficients = (pos 0 ∷ []); constant = pos 1 })))) (tree true (1 ∷ 0 ∷ 1 ∷ 0 ∷ 1 ∷ 0 ∷ 0 ∷ 32 ∷ 0 ∷ 8 ∷ 0 ∷ 16 ∷ 0 ∷ 0 ∷ 0 ∷ 0 ∷ 0 ∷ 1 ∷ 0 ∷ 0 ∷ 0 ∷ 0 ∷ 0 ∷ 255 ∷ 0 ∷ [])) ∷
    line (asks 3 (Tree.or (Tree.or (Tree.or (Tree.not (Tree.not (Tree.not (Tree.not (Tree.not (Tree.not (Tree.not (Tree.atom (record { kind = equation; coefficients = (pos 1 ∷ pos 1 ∷ pos 1 ∷ []); constant = pos 1 }))))))))) (Tree.not (Tree.not (Tree.atom (record { kind = equation; coefficients = (pos 1 ∷ pos 1 ∷ pos 1 ∷ []); constant = pos 1 }))))) (Tree.or (Tree.not (Tree.not (Tree.not (Tree.not (Tree.not (Tree.not (Tree.not (Tree.not (Tree.atom (record { kind = equation; coefficients = (pos 1 ∷ pos 1 ∷ pos 1 ∷ []); constant = pos 1 })))))))))) (Tree.not (Tree.not (Tree.not (Tree.not (Tree.not (Tree.not (Tree.not (Tree.not (Tree.not (Tree.atom (record { kind = equation; coefficients = (pos 1 ∷ pos 1 ∷ pos 1 ∷ []); constant = pos 1 }))))))))))))) (Tree.or (Tree.or (Tree.not (Tree.not (Tree.not (Tree.not (Tree.not (Tree.atom (record { kind = equation; coefficients = (pos 1 ∷ pos 1 ∷ pos 1 ∷ []); constant = pos 1 }))))))) (Tree.not (Tree.not (Tree.not (Tree.not (Tree.not (Tree.atom (record { kind = equation; coefficients = (pos 1 ∷ pos 1 ∷ pos 1 ∷ []); constant = pos 1 })))))))) (Tree.or (Tree.not (Tree.not (Tree.not (Tree.not (Tree.not (Tree.not (Tree.not (Tree.atom (record { kind = equation; coefficients = (pos 1 ∷ pos 1 ∷ pos 1 ∷ []); constant = pos 1 }))))))))) (Tree.not (Tree.not (Tree.not (Tree.not (Tree.not (Tree.not (Tree.atom (record { kind = equation; coefficients = (pos 1 ∷ pos 1 ∷ pos 1 ∷ []); constant = pos 1 })))))))))))) (tree true (1 ∷ 0 ∷ 1 ∷ 0 ∷ 3 ∷ 0 ∷ 0 ∷ 34 ∷ 0 ∷ 0 ∷ 0 ∷ 34 ∷ 0 ∷ 0 ∷ 0 ∷ 34 ∷ 0 ∷ 0 ∷ 0 ∷ 32 ∷ 0 ∷ 0 ∷ 0 ∷ 32 ∷ 0 ∷ 0 ∷ 0 ∷ 32 ∷ 0 ∷ 0 ∷ 0 ∷ 32 ∷ 0 ∷ 0 ∷ 0 ∷ 32 ∷ 0 ∷ 0 ∷ 0 ∷ 32 ∷ 0 ∷ 0 ∷ 0 ∷ 32 ∷ 0 ∷ 16 ∷ 0 ∷ 16 ∷ 0 ∷ 1 ∷ 0 ∷ 0 ∷ 0 ∷ 1 ∷ 0 ∷ 0 ∷ 0 ∷ 1 ∷ 0 ∷ 0 ∷ 0 ∷ 1 ∷ 0 ∷ 0 ∷ 0 ∷ 0 ∷ 0 ∷ 32 ∷ 0 ∷ 0 ∷ 0 ∷ 32 ∷ 0 ∷ 16 ∷ 0 ∷ 16 ∷ 0 ∷ 1 ∷ 0 ∷ 0 ∷ 0 ∷ 1 ∷ 0 ∷ 0 ∷ 0 ∷ 1 ∷ 0 ∷ 0 ∷ 0 ∷ 1 ∷ 0 ∷ 0 ∷ 0 ∷ 0 ∷ 0 ∷ 34 ∷ 0 ∷ 0 ∷ 0 ∷ 32 ∷ 0 ∷ 0 ∷ 0 ∷ 32 ∷ 0 ∷ 0 ∷ 0 ∷ 32 ∷ 0 ∷ 0 ∷ 0 ∷ 32 ∷ 0 ∷ 0 ∷ 0 ∷ 32 ∷ 0 ∷ 0 ∷ 0 ∷ 32 ∷ 0 ∷ 0 ∷ 0 ∷ 32 ∷ 0 ∷ 0 ∷ 0 ∷ 32 ∷ 0 ∷ 16 ∷ 0 ∷ 16 ∷ 0 ∷ 1 ∷ 0 ∷ 0 ∷ 0 ∷ 1 ∷ 0 ∷ 0 ∷ 0 ∷ 1 ∷ 0 ∷ 0 ∷ 0 ∷ 1 ∷ 0 ∷ 0 ∷ 0 ∷ 0 ∷ 0 ∷ 32 ∷ 0 ∷ 0 ∷ 0 ∷ 32 ∷ 0 ∷ 0 ∷ 0 ∷ 32 ∷ 0 ∷ 0 ∷ 0 ∷ 32 ∷ 0 ∷ 0 ∷ 0 ∷ 32 ∷ 0 ∷ 0 ∷ 0 ∷ 32 ∷ 0 ∷ 0 ∷ 0 ∷ 32 ∷ 0 ∷ 0 ∷ 0 ∷ 32 ∷ 0 ∷ 0 ∷ 0 ∷ 32 ∷ 0 ∷ 16 ∷ 0 ∷ 16 ∷ 0 ∷ 1 ∷ 0 ∷ 0 ∷ 0 ∷ 1 ∷ 0 ∷ 0 ∷ 0 ∷ 1 ∷ 0 ∷ 0 ∷ 0 ∷ 1 ∷ 0 ∷ 0 ∷ 0 ∷ 0 ∷ 0 ∷ 34 ∷ 0 ∷ 0 ∷ 0 ∷ 34 ∷ 0 ∷ 0 ∷ 0 ∷ 32 ∷ 0 ∷ 0 ∷ 0 ∷ 32 ∷ 0 ∷ 0 ∷ 0 ∷ 32 ∷ 0 ∷ 0 ∷ 0 ∷ 32 ∷ 0 ∷ 0 ∷ 0 ∷ 32 ∷ 0 ∷ 16 ∷ 0 ∷ 16 ∷ 0 ∷ 1 ∷ 0 ∷ 0 ∷ 0 ∷ 1 ∷ 0 ∷ 0 ∷ 0 ∷ 1 ∷ 0 ∷ 0 ∷ 0 ∷ 1 ∷ 0 ∷ 0 ∷ 0 ∷ 0 ∷ 0 ∷ 32 ∷ 0 ∷ 0 ∷ 0 ∷ 32 ∷ 0 ∷ 0 ∷ 0 ∷ 32 ∷ 0 ∷ 0 ∷ 0 ∷ 32 ∷ 0 ∷ 0 ∷ 0 ∷ 32 ∷ 0 ∷ 16 ∷ 0 ∷ 16 ∷ 0 ∷ 1 ∷ 0 ∷ 0 ∷ 0 ∷ 1 ∷ 0 ∷ 0 ∷ 0 ∷ 1 ∷ 0 ∷ 0 ∷ 0 ∷ 1 ∷ 0 ∷ 0 ∷ 0 ∷ 0 ∷ 0 ∷ 34 ∷ 0 ∷ 0 ∷ 0 ∷ 32 ∷ 0 ∷ 0 ∷ 0 ∷ 32 ∷ 0 ∷ 0 ∷ 0 ∷ 32 ∷ 0 ∷ 0 ∷ 0 ∷ 32 ∷ 0 ∷ 0 ∷ 0 ∷ 32 ∷ 0 ∷ 0 ∷ 0 ∷ 32 ∷ 0 ∷ 0 ∷ 0 ∷ 32 ∷ 0 ∷ 16 ∷ 0 ∷ 16 ∷ 0 ∷ 1 ∷ 0 ∷ 0 ∷ 0 ∷ 1 ∷ 0 ∷ 0 ∷ 0 ∷ 1 ∷ 0 ∷ 0 ∷ 0 ∷ 1 ∷ 0 ∷ 0 ∷ 0 ∷ 0 ∷ 0 ∷ 32 ∷ 0 ∷ 0 ∷ 0 ∷ 32 ∷ 0 ∷ 0 ∷ 0 ∷ 32 ∷ 0 ∷ 0 ∷ 0 ∷ 32 ∷ 0 ∷ 0 ∷ 0 ∷ 32 ∷ 0 ∷ 0 ∷ 0 ∷ 32 ∷ 0 ∷ 16 ∷ 0 ∷ 16 ∷ 0 ∷ 1 ∷ 0 ∷ 0 ∷ 0 ∷ 1 ∷ 0 ∷ 0 ∷ 0 ∷ 1 ∷ 0 ∷ 0 ∷ 0 ∷ 1 ∷ 0 ∷ 0 ∷ 0 ∷ 0 ∷ 0 ∷ 255 ∷ 0 ∷ [])) ∷
    []

pub tree_vectors_hold : all_given tree_vectors ≡ wanted tree_vectors
unfolding running
tree_vectors_hold = refl

abbrev read_vectors : List Line
read_vectors =
    line (reads (1 ∷ 0 ∷ 1 ∷ 0 ∷ 3 ∷ 16 ∷ 0 ∷ 17 ∷ 0 ∷ 1 ∷ 0 ∷ 0 ∷ 0 ∷ 253 ∷ 255 ∷ 255 ∷ 255 ∷ 2 ∷ 0 ∷ 0 ∷ 0 ∷ 254 ∷ 255 ∷ 255 ∷ 255 ∷ 0 ∷ 0 ∷ 255 ∷ 0 ∷ [])) (accepted (question 3 (2 ∷ []) (pos 1 ∷ negsuc 2 ∷ pos 2 ∷ []) (negsuc 1 ∷ []))) ∷
    line (reads (1 ∷ 0 ∷ 1 ∷ 0 ∷ 3 ∷ 16 ∷ 0 ∷ 17 ∷ 0 ∷ 254 ∷ 255 ∷ 255 ∷ 255 ∷ 0 ∷ 0 ∷ 0 ∷ 0 ∷ 0 ∷ 0 ∷ 0 ∷ 0 ∷ 254 ∷ 255 ∷ 255 ∷ 255 ∷ 0 ∷ 0 ∷ 255 ∷ 0 ∷ [])) (accepted (question 3 (2 ∷ []) (negsuc 1 ∷ []) (negsuc 1 ∷ []))) ∷
    line (reads (1 ∷ 0 ∷ 1 ∷ 0 ∷ 3 ∷ 0 ∷ 0 ∷ 33 ∷ 0 ∷ 16 ∷ 0 ∷ 16 ∷ 0 ∷ 255 ∷ 255 ∷ 255 ∷ 255 ∷ 0 ∷ 0 ∷ 0 ∷ 0 ∷ 4 ∷ 0 ∷ 0 ∷ 0 ∷ 232 ∷ 0 ∷ 0 ∷ 0 ∷ 16 ∷ 0 ∷ 17 ∷ 0 ∷ 253 ∷ 255 ∷ 255 ∷ 255 ∷ 2 ∷ 0 ∷ 0 ∷ 0 ∷ 252 ∷ 255 ∷ 255 ∷ 255 ∷ 1 ∷ 0 ∷ 0 ∷ 0 ∷ 0 ∷ 0 ∷ 255 ∷ 0 ∷ [])) (accepted (question 3 (4 ∷ 1 ∷ 2 ∷ []) (negsuc 0 ∷ pos 0 ∷ pos 4 ∷ pos 0 ∷ pos 0 ∷ pos 0 ∷ negsuc 2 ∷ pos 2 ∷ negsuc 3 ∷ []) (pos 232 ∷ pos 1 ∷ []))) ∷
    line (reads (1 ∷ 0 ∷ 1 ∷ 0 ∷ 1 ∷ 0 ∷ 0 ∷ 33 ∷ 0 ∷ 8 ∷ 0 ∷ 17 ∷ 0 ∷ 226 ∷ 255 ∷ 255 ∷ 255 ∷ 255 ∷ 255 ∷ 255 ∷ 255 ∷ 0 ∷ 0 ∷ 32 ∷ 0 ∷ 0 ∷ 0 ∷ 33 ∷ 0 ∷ 8 ∷ 0 ∷ 17 ∷ 0 ∷ 2 ∷ 0 ∷ 0 ∷ 0 ∷ 254 ∷ 255 ∷ 255 ∷ 255 ∷ 8 ∷ 0 ∷ 17 ∷ 0 ∷ 254 ∷ 255 ∷ 255 ∷ 255 ∷ 1 ∷ 0 ∷ 0 ∷ 0 ∷ 0 ∷ 0 ∷ 255 ∷ 0 ∷ [])) (accepted (question 1 (4 ∷ 2 ∷ 3 ∷ 4 ∷ 2 ∷ 2 ∷ []) (negsuc 29 ∷ pos 0 ∷ pos 0 ∷ pos 0 ∷ pos 0 ∷ pos 0 ∷ pos 2 ∷ pos 0 ∷ pos 0 ∷ pos 0 ∷ pos 0 ∷ pos 0 ∷ negsuc 1 ∷ []) (negsuc 0 ∷ negsuc 1 ∷ pos 1 ∷ []))) ∷
    line (reads (1 ∷ 0 ∷ 1 ∷ 0 ∷ 3 ∷ 0 ∷ 0 ∷ 32 ∷ 0 ∷ 0 ∷ 0 ∷ 32 ∷ 0 ∷ 0 ∷ 0 ∷ 33 ∷ 0 ∷ 16 ∷ 0 ∷ 17 ∷ 0 ∷ 2 ∷ 0 ∷ 0 ∷ 0 ∷ 2 ∷ 0 ∷ 0 ∷ 0 ∷ 253 ∷ 255 ∷ 255 ∷ 255 ∷ 0 ∷ 0 ∷ 0 ∷ 0 ∷ 16 ∷ 0 ∷ 16 ∷ 0 ∷ 1 ∷ 0 ∷ 0 ∷ 0 ∷ 0 ∷ 0 ∷ 0 ∷ 0 ∷ 255 ∷ 255 ∷ 255 ∷ 255 ∷ 1 ∷ 0 ∷ 0 ∷ 0 ∷ 0 ∷ 0 ∷ 255 ∷ 0 ∷ [])) (accepted (question 3 (3 ∷ 3 ∷ 4 ∷ 2 ∷ 1 ∷ []) (pos 2 ∷ pos 2 ∷ negsuc 2 ∷ pos 0 ∷ pos 0 ∷ pos 0 ∷ pos 1 ∷ pos 0 ∷ negsuc 0 ∷ []) (pos 0 ∷ pos 1 ∷ []))) ∷
    line (reads (1 ∷ 0 ∷ 1 ∷ 0 ∷ 3 ∷ 0 ∷ 0 ∷ 34 ∷ 0 ∷ 16 ∷ 0 ∷ 16 ∷ 0 ∷ 0 ∷ 0 ∷ 0 ∷ 0 ∷ 2 ∷ 0 ∷ 0 ∷ 0 ∷ 4 ∷ 0 ∷ 0 ∷ 0 ∷ 1 ∷ 0 ∷ 0 ∷ 0 ∷ 0 ∷ 0 ∷ 32 ∷ 0 ∷ 0 ∷ 0 ∷ 32 ∷ 0 ∷ 0 ∷ 0 ∷ 32 ∷ 0 ∷ 16 ∷ 0 ∷ 17 ∷ 0 ∷ 2 ∷ 0 ∷ 0 ∷ 0 ∷ 0 ∷ 0 ∷ 0 ∷ 0 ∷ 254 ∷ 255 ∷ 255 ∷ 255 ∷ 0 ∷ 0 ∷ 0 ∷ 0 ∷ 0 ∷ 0 ∷ 255 ∷ 0 ∷ [])) (accepted (question 3 (5 ∷ 1 ∷ 3 ∷ 3 ∷ 3 ∷ 2 ∷ []) (pos 0 ∷ pos 2 ∷ pos 4 ∷ pos 0 ∷ pos 0 ∷ pos 0 ∷ pos 2 ∷ pos 0 ∷ negsuc 1 ∷ []) (pos 1 ∷ []))) ∷
    line (reads (1 ∷ 0 ∷ 1 ∷ 0 ∷ 4 ∷ 0 ∷ 0 ∷ 34 ∷ 0 ∷ 0 ∷ 0 ∷ 33 ∷ 0 ∷ 20 ∷ 0 ∷ 17 ∷ 0 ∷ 1 ∷ 0 ∷ 0 ∷ 0 ∷ 253 ∷ 255 ∷ 255 ∷ 255 ∷ 2 ∷ 0 ∷ 0 ∷ 0 ∷ 254 ∷ 255 ∷ 255 ∷ 255 ∷ 8 ∷ 0 ∷ 0 ∷ 0 ∷ 0 ∷ 0 ∷ 32 ∷ 0 ∷ 0 ∷ 0 ∷ 34 ∷ 0 ∷ 0 ∷ 0 ∷ 32 ∷ 0 ∷ 20 ∷ 0 ∷ 17 ∷ 0 ∷ 255 ∷ 255 ∷ 255 ∷ 255 ∷ 255 ∷ 255 ∷ 255 ∷ 255 ∷ 0 ∷ 0 ∷ 0 ∷ 0 ∷ 254 ∷ 255 ∷ 255 ∷ 255 ∷ 236 ∷ 255 ∷ 255 ∷ 255 ∷ 0 ∷ 0 ∷ 32 ∷ 0 ∷ 0 ∷ 0 ∷ 32 ∷ 0 ∷ 0 ∷ 0 ∷ 32 ∷ 0 ∷ 0 ∷ 0 ∷ 32 ∷ 0 ∷ 0 ∷ 0 ∷ 32 ∷ 0 ∷ 0 ∷ 0 ∷ 34 ∷ 0 ∷ 20 ∷ 0 ∷ 16 ∷ 0 ∷ 254 ∷ 255 ∷ 255 ∷ 255 ∷ 255 ∷ 255 ∷ 255 ∷ 255 ∷ 0 ∷ 0 ∷ 0 ∷ 0 ∷ 254 ∷ 255 ∷ 255 ∷ 255 ∷ 18 ∷ 0 ∷ 0 ∷ 0 ∷ 0 ∷ 0 ∷ 32 ∷ 0 ∷ 20 ∷ 0 ∷ 16 ∷ 0 ∷ 255 ∷ 255 ∷ 255 ∷ 255 ∷ 2 ∷ 0 ∷ 0 ∷ 0 ∷ 254 ∷ 255 ∷ 255 ∷ 255 ∷ 0 ∷ 0 ∷ 0 ∷ 0 ∷ 240 ∷ 255 ∷ 255 ∷ 255 ∷ 0 ∷ 0 ∷ 32 ∷ 0 ∷ 0 ∷ 0 ∷ 32 ∷ 0 ∷ 0 ∷ 0 ∷ 33 ∷ 0 ∷ 0 ∷ 0 ∷ 33 ∷ 0 ∷ 0 ∷ 0 ∷ 32 ∷ 0 ∷ 20 ∷ 0 ∷ 17 ∷ 0 ∷ 255 ∷ 255 ∷ 255 ∷ 255 ∷ 255 ∷ 255 ∷ 255 ∷ 255 ∷ 0 ∷ 0 ∷ 0 ∷ 0 ∷ 254 ∷ 255 ∷ 255 ∷ 255 ∷ 240 ∷ 255 ∷ 255 ∷ 255 ∷ 20 ∷ 0 ∷ 16 ∷ 0 ∷ 0 ∷ 0 ∷ 0 ∷ 0 ∷ 1 ∷ 0 ∷ 0 ∷ 0 ∷ 254 ∷ 255 ∷ 255 ∷ 255 ∷ 255 ∷ 255 ∷ 255 ∷ 255 ∷ 239 ∷ 255 ∷ 255 ∷ 255 ∷ 0 ∷ 0 ∷ 33 ∷ 0 ∷ 20 ∷ 0 ∷ 17 ∷ 0 ∷ 254 ∷ 255 ∷ 255 ∷ 255 ∷ 254 ∷ 255 ∷ 255 ∷ 255 ∷ 1 ∷ 0 ∷ 0 ∷ 0 ∷ 1 ∷ 0 ∷ 0 ∷ 0 ∷ 0 ∷ 0 ∷ 0 ∷ 0 ∷ 0 ∷ 0 ∷ 32 ∷ 0 ∷ 20 ∷ 0 ∷ 17 ∷ 0 ∷ 3 ∷ 0 ∷ 0 ∷ 0 ∷ 254 ∷ 255 ∷ 255 ∷ 255 ∷ 255 ∷ 255 ∷ 255 ∷ 255 ∷ 2 ∷ 0 ∷ 0 ∷ 0 ∷ 6 ∷ 0 ∷ 0 ∷ 0 ∷ 0 ∷ 0 ∷ 255 ∷ 0 ∷ [])) (accepted (question 4 (5 ∷ 4 ∷ 2 ∷ 3 ∷ 5 ∷ 3 ∷ 2 ∷ 3 ∷ 3 ∷ 3 ∷ 3 ∷ 3 ∷ 5 ∷ 1 ∷ 3 ∷ 1 ∷ 3 ∷ 3 ∷ 4 ∷ 4 ∷ 3 ∷ 2 ∷ 1 ∷ 4 ∷ 2 ∷ 3 ∷ 2 ∷ []) (pos 1 ∷ negsuc 2 ∷ pos 2 ∷ negsuc 1 ∷ pos 0 ∷ pos 0 ∷ negsuc 0 ∷ negsuc 0 ∷ pos 0 ∷ negsuc 1 ∷ pos 0 ∷ pos 0 ∷ negsuc 1 ∷ negsuc 0 ∷ pos 0 ∷ negsuc 1 ∷ pos 0 ∷ pos 0 ∷ negsuc 0 ∷ pos 2 ∷ negsuc 1 ∷ pos 0 ∷ pos 0 ∷ pos 0 ∷ negsuc 0 ∷ negsuc 0 ∷ pos 0 ∷ negsuc 1 ∷ pos 0 ∷ pos 0 ∷ pos 0 ∷ pos 1 ∷ negsuc 1 ∷ negsuc 0 ∷ pos 0 ∷ pos 0 ∷ negsuc 1 ∷ negsuc 1 ∷ pos 1 ∷ pos 1 ∷ pos 0 ∷ pos 0 ∷ pos 3 ∷ negsuc 1 ∷ negsuc 0 ∷ pos 2 ∷ []) (pos 8 ∷ negsuc 19 ∷ pos 18 ∷ negsuc 15 ∷ negsuc 15 ∷ negsuc 16 ∷ pos 0 ∷ pos 6 ∷ []))) ∷
    line (reads (1 ∷ 0 ∷ 1 ∷ 0 ∷ 2 ∷ [])) (unread (numbered_refusal 1 5)) ∷
    line (reads (1 ∷ 0 ∷ 1 ∷ 0 ∷ 2 ∷ [])) (unread (numbered_refusal 1 5)) ∷
    line (reads (1 ∷ 0 ∷ 1 ∷ 0 ∷ 3 ∷ [])) (unread (numbered_refusal 1 5)) ∷
    line (reads (1 ∷ 0 ∷ 1 ∷ 0 ∷ 2 ∷ 0 ∷ 0 ∷ 33 ∷ 0 ∷ 0 ∷ 0 ∷ 33 ∷ 0 ∷ 12 ∷ 0 ∷ 16 ∷ 0 ∷ 0 ∷ 0 ∷ 0 ∷ 0 ∷ 255 ∷ 255 ∷ 255 ∷ 255 ∷ 0 ∷ 0 ∷ 0 ∷ 0 ∷ 12 ∷ 0 ∷ 17 ∷ 0 ∷ 253 ∷ 255 ∷ 255 ∷ 255 ∷ 0 ∷ 0 ∷ 0 ∷ 0 ∷ 0 ∷ 0 ∷ 0 ∷ 0 ∷ 12 ∷ 0 ∷ 17 ∷ 0 ∷ 1 ∷ 0 ∷ 0 ∷ 0 ∷ 253 ∷ 255 ∷ 255 ∷ 255 ∷ 255 ∷ 255 ∷ 255 ∷ 255 ∷ 0 ∷ 0 ∷ [])) (unread (numbered_refusal 1 61)) ∷
    line (reads (0 ∷ 0 ∷ 34 ∷ 0 ∷ [])) (unread (numbered_refusal 2 0)) ∷
    line (reads (68 ∷ 119 ∷ 0 ∷ 1 ∷ [])) (unread (numbered_refusal 2 0)) ∷
    line (reads (1 ∷ 0 ∷ 15 ∷ 0 ∷ 3 ∷ 0 ∷ 0 ∷ 32 ∷ 0 ∷ 0 ∷ 0 ∷ 34 ∷ 0 ∷ 16 ∷ 0 ∷ 17 ∷ [])) (unread (numbered_refusal 2 0)) ∷
    line (reads (1 ∷ 0 ∷ 1 ∷ 0 ∷ 3 ∷ 0 ∷ 0 ∷ 255 ∷ 0 ∷ 0 ∷ 0 ∷ 255 ∷ 0 ∷ 0 ∷ 0 ∷ 255 ∷ 0 ∷ 0 ∷ 0 ∷ 255 ∷ 0 ∷ 0 ∷ 0 ∷ 255 ∷ 0 ∷ 0 ∷ 0 ∷ 255 ∷ 0 ∷ 0 ∷ 0 ∷ 255 ∷ 0 ∷ 0 ∷ 0 ∷ 255 ∷ 0 ∷ 0 ∷ 0 ∷ 255 ∷ 0 ∷ 0 ∷ 0 ∷ 255 ∷ 0 ∷ 0 ∷ 0 ∷ 255 ∷ 0 ∷ 0 ∷ 0 ∷ 255 ∷ 0 ∷ 0 ∷ 0 ∷ 255 ∷ 0 ∷ 0 ∷ 0 ∷ 255 ∷ 0 ∷ 0 ∷ 0 ∷ 255 ∷ 0 ∷ 0 ∷ 0 ∷ 32 ∷ 0 ∷ 0 ∷ 0 ∷ 32 ∷ 0 ∷ 0 ∷ 0 ∷ 255 ∷ 0 ∷ 0 ∷ 0 ∷ 255 ∷ 0 ∷ 0 ∷ 0 ∷ 255 ∷ 0 ∷ 0 ∷ 0 ∷ 255 ∷ 0 ∷ 0 ∷ 0 ∷ 255 ∷ 0 ∷ 0 ∷ 0 ∷ 255 ∷ 0 ∷ 0 ∷ 0 ∷ 255 ∷ 0 ∷ 0 ∷ 0 ∷ 255 ∷ 0 ∷ 0 ∷ 0 ∷ 255 ∷ 0 ∷ 0 ∷ 0 ∷ 255 ∷ 0 ∷ 0 ∷ 0 ∷ 255 ∷ 0 ∷ 0 ∷ 0 ∷ 255 ∷ 0 ∷ 0 ∷ 0 ∷ 255 ∷ 0 ∷ 0 ∷ 0 ∷ 255 ∷ 0 ∷ 0 ∷ 0 ∷ 255 ∷ 0 ∷ 0 ∷ 0 ∷ 32 ∷ 0 ∷ 0 ∷ 0 ∷ 33 ∷ 0 ∷ 0 ∷ 0 ∷ 33 ∷ 0 ∷ 0 ∷ 0 ∷ 34 ∷ 0 ∷ 0 ∷ 0 ∷ 34 ∷ 0 ∷ 16 ∷ 0 ∷ 16 ∷ 0 ∷ 2 ∷ 0 ∷ 0 ∷ 0 ∷ 255 ∷ 255 ∷ 255 ∷ 255 ∷ 253 ∷ 255 ∷ 255 ∷ 255 ∷ 255 ∷ 255 ∷ 255 ∷ 255 ∷ 0 ∷ 0 ∷ 33 ∷ 0 ∷ 0 ∷ 0 ∷ 32 ∷ 0 ∷ 0 ∷ 0 ∷ 33 ∷ 0 ∷ 0 ∷ 0 ∷ 32 ∷ 0 ∷ 16 ∷ 0 ∷ 17 ∷ 0 ∷ 253 ∷ 255 ∷ 255 ∷ 255 ∷ 0 ∷ 0 ∷ 0 ∷ 0 ∷ 255 ∷ 255 ∷ 255 ∷ 255 ∷ 1 ∷ 0 ∷ 0 ∷ 0 ∷ 0 ∷ 0 ∷ 32 ∷ 0 ∷ 0 ∷ 0 ∷ 32 ∷ 0 ∷ 16 ∷ 0 ∷ 17 ∷ 0 ∷ 253 ∷ 255 ∷ 255 ∷ 255 ∷ 1 ∷ 0 ∷ 0 ∷ 0 ∷ 0 ∷ 0 ∷ 0 ∷ 0 ∷ 2 ∷ 0 ∷ 0 ∷ 0 ∷ 16 ∷ 0 ∷ 16 ∷ 0 ∷ 1 ∷ 0 ∷ 0 ∷ 0 ∷ 2 ∷ 0 ∷ 0 ∷ 0 ∷ 0 ∷ 0 ∷ 0 ∷ 0 ∷ 0 ∷ 0 ∷ 0 ∷ 0 ∷ 16 ∷ 0 ∷ 16 ∷ 0 ∷ 1 ∷ 0 ∷ 0 ∷ 0 ∷ 2 ∷ 0 ∷ 0 ∷ 0 ∷ 253 ∷ 255 ∷ 255 ∷ 255 ∷ 255 ∷ 255 ∷ 255 ∷ 255 ∷ 16 ∷ 0 ∷ 17 ∷ 0 ∷ 255 ∷ 255 ∷ 255 ∷ 255 ∷ 0 ∷ 0 ∷ 0 ∷ 0 ∷ 0 ∷ 0 ∷ 0 ∷ 0 ∷ 2 ∷ 0 ∷ 0 ∷ 0 ∷ 0 ∷ 0 ∷ 32 ∷ 0 ∷ 0 ∷ 0 ∷ 33 ∷ 0 ∷ 16 ∷ 0 ∷ 16 ∷ 0 ∷ 254 ∷ 255 ∷ 255 ∷ 255 ∷ 3 ∷ 0 ∷ 0 ∷ 0 ∷ 255 ∷ 255 ∷ 255 ∷ 255 ∷ 1 ∷ 0 ∷ 0 ∷ 0 ∷ 16 ∷ 0 ∷ 16 ∷ 0 ∷ 3 ∷ 0 ∷ 0 ∷ 0 ∷ 255 ∷ 255 ∷ 255 ∷ 255 ∷ 1 ∷ 0 ∷ 0 ∷ 0 ∷ 1 ∷ 0 ∷ 0 ∷ 0 ∷ 0 ∷ 255 ∷ 0 ∷ [])) (unread (numbered_refusal 2 5)) ∷
    line (reads (1 ∷ 0 ∷ 1 ∷ 0 ∷ 3 ∷ 16 ∷ 0 ∷ 17 ∷ 0 ∷ 254 ∷ 255 ∷ 255 ∷ 255 ∷ 3 ∷ 0 ∷ 0 ∷ 0 ∷ 1 ∷ 0 ∷ 0 ∷ 0 ∷ 3 ∷ 0 ∷ 0 ∷ 0 ∷ 0 ∷ 198 ∷ 255 ∷ 0 ∷ [])) (unread (numbered_refusal 3 25)) ∷
    line (reads (1 ∷ 0 ∷ 1 ∷ 0 ∷ 1 ∷ 0 ∷ 0 ∷ 16 ∷ 0 ∷ 0 ∷ 0 ∷ 0 ∷ 0 ∷ 248 ∷ 255 ∷ 255 ∷ 255 ∷ 8 ∷ 0 ∷ 17 ∷ 0 ∷ 254 ∷ 255 ∷ 255 ∷ 255 ∷ 236 ∷ 255 ∷ 255 ∷ 255 ∷ 0 ∷ 0 ∷ 255 ∷ 0 ∷ [])) (unread (numbered_refusal 3 5)) ∷
    line (reads (1 ∷ 0 ∷ 1 ∷ 0 ∷ 5 ∷ 24 ∷ 0 ∷ 17 ∷ 0 ∷ 2 ∷ 0 ∷ 0 ∷ 0 ∷ 1 ∷ 0 ∷ 0 ∷ 0 ∷ 255 ∷ 255 ∷ 255 ∷ 255 ∷ 254 ∷ 255 ∷ 255 ∷ 255 ∷ 2 ∷ 0 ∷ 0 ∷ 0 ∷ 2 ∷ 0 ∷ 0 ∷ 0 ∷ 0 ∷ 82 ∷ 255 ∷ 0 ∷ [])) (unread (numbered_refusal 3 33)) ∷
    line (reads (1 ∷ 0 ∷ 1 ∷ 0 ∷ 1 ∷ 0 ∷ 0 ∷ 32 ∷ 0 ∷ 0 ∷ 0 ∷ 33 ∷ 0 ∷ 130 ∷ 0 ∷ 32 ∷ 0 ∷ 8 ∷ 0 ∷ 16 ∷ 0 ∷ 1 ∷ 0 ∷ 0 ∷ 0 ∷ 247 ∷ 250 ∷ 255 ∷ 255 ∷ 0 ∷ 0 ∷ 33 ∷ 0 ∷ 0 ∷ 0 ∷ 32 ∷ 0 ∷ 0 ∷ 0 ∷ 32 ∷ 0 ∷ 0 ∷ 0 ∷ 32 ∷ 0 ∷ 8 ∷ 0 ∷ 17 ∷ 0 ∷ 253 ∷ 255 ∷ 255 ∷ 255 ∷ 148 ∷ 9 ∷ 0 ∷ 0 ∷ 8 ∷ 0 ∷ 17 ∷ 0 ∷ 2 ∷ 0 ∷ 0 ∷ 0 ∷ 91 ∷ 247 ∷ 255 ∷ 255 ∷ 0 ∷ 0 ∷ 255 ∷ 0 ∷ [])) (unread (numbered_refusal 3 13)) ∷
    line (reads (1 ∷ 0 ∷ 1 ∷ 0 ∷ 5 ∷ 0 ∷ 0 ∷ 32 ∷ 0 ∷ 0 ∷ 0 ∷ 32 ∷ 0 ∷ 0 ∷ 0 ∷ 32 ∷ 0 ∷ 0 ∷ 0 ∷ 32 ∷ 0 ∷ 0 ∷ 0 ∷ 32 ∷ 0 ∷ 0 ∷ 0 ∷ 32 ∷ 0 ∷ 0 ∷ 0 ∷ 32 ∷ 0 ∷ 0 ∷ 0 ∷ 32 ∷ 0 ∷ 0 ∷ 0 ∷ 32 ∷ 0 ∷ 0 ∷ 0 ∷ 32 ∷ 0 ∷ 0 ∷ 0 ∷ 32 ∷ 0 ∷ 0 ∷ 0 ∷ 32 ∷ 0 ∷ 0 ∷ 0 ∷ 32 ∷ 0 ∷ 0 ∷ 0 ∷ 32 ∷ 0 ∷ 0 ∷ 0 ∷ 32 ∷ 0 ∷ 0 ∷ 0 ∷ 32 ∷ 0 ∷ 0 ∷ 0 ∷ 34 ∷ 0 ∷ 24 ∷ 0 ∷ 17 ∷ 0 ∷ 0 ∷ 0 ∷ 0 ∷ 0 ∷ 0 ∷ 0 ∷ 0 ∷ 0 ∷ 0 ∷ 0 ∷ 0 ∷ 0 ∷ 1 ∷ 0 ∷ 0 ∷ 0 ∷ 255 ∷ 255 ∷ 255 ∷ 255 ∷ 9 ∷ 0 ∷ 0 ∷ 0 ∷ 24 ∷ 0 ∷ 16 ∷ 0 ∷ 255 ∷ 255 ∷ 255 ∷ 255 ∷ 1 ∷ 0 ∷ 0 ∷ 0 ∷ 0 ∷ 0 ∷ 0 ∷ 0 ∷ 255 ∷ 255 ∷ 255 ∷ 255 ∷ 0 ∷ 0 ∷ 0 ∷ 0 ∷ 4 ∷ 0 ∷ 0 ∷ 0 ∷ 0 ∷ 0 ∷ 255 ∷ 0 ∷ [])) (unread (numbered_refusal 5 69)) ∷
    line (reads (1 ∷ 0 ∷ 1 ∷ 0 ∷ 2 ∷ 0 ∷ 0 ∷ 33 ∷ 0 ∷ 0 ∷ 0 ∷ 33 ∷ 0 ∷ 0 ∷ 0 ∷ 33 ∷ 0 ∷ 0 ∷ 0 ∷ 33 ∷ 0 ∷ 0 ∷ 0 ∷ 33 ∷ 0 ∷ 0 ∷ 0 ∷ 33 ∷ 0 ∷ 0 ∷ 0 ∷ 33 ∷ 0 ∷ 0 ∷ 0 ∷ 33 ∷ 0 ∷ 0 ∷ 0 ∷ 33 ∷ 0 ∷ 0 ∷ 0 ∷ 33 ∷ 0 ∷ 0 ∷ 0 ∷ 33 ∷ 0 ∷ 0 ∷ 0 ∷ 33 ∷ 0 ∷ 0 ∷ 0 ∷ 33 ∷ 0 ∷ 0 ∷ 0 ∷ 33 ∷ 0 ∷ 0 ∷ 0 ∷ 33 ∷ 0 ∷ 0 ∷ 0 ∷ 33 ∷ 0 ∷ 0 ∷ 0 ∷ 33 ∷ 0 ∷ 0 ∷ 0 ∷ 33 ∷ 0 ∷ 0 ∷ 0 ∷ 33 ∷ 0 ∷ 12 ∷ 0 ∷ 17 ∷ 0 ∷ 253 ∷ 255 ∷ 255 ∷ 255 ∷ 4 ∷ 0 ∷ 0 ∷ 0 ∷ 0 ∷ 0 ∷ 0 ∷ 0 ∷ 12 ∷ 0 ∷ 17 ∷ 0 ∷ 0 ∷ 0 ∷ 0 ∷ 0 ∷ 252 ∷ 255 ∷ 255 ∷ 255 ∷ 1 ∷ 0 ∷ 0 ∷ 0 ∷ 12 ∷ 0 ∷ 16 ∷ 0 ∷ 2 ∷ 0 ∷ 0 ∷ 0 ∷ 254 ∷ 255 ∷ 255 ∷ 255 ∷ 255 ∷ 255 ∷ 255 ∷ 255 ∷ 0 ∷ 0 ∷ 32 ∷ 0 ∷ 12 ∷ 0 ∷ 16 ∷ 0 ∷ 4 ∷ 0 ∷ 0 ∷ 0 ∷ 5 ∷ 0 ∷ 0 ∷ 0 ∷ 1 ∷ 0 ∷ 0 ∷ 0 ∷ 0 ∷ 0 ∷ 255 ∷ 0 ∷ [])) (unread (numbered_refusal 5 69)) ∷
    line (reads (1 ∷ 0 ∷ 1 ∷ 0 ∷ 1 ∷ 0 ∷ 0 ∷ 34 ∷ 0 ∷ 0 ∷ 0 ∷ 34 ∷ 0 ∷ 0 ∷ 0 ∷ 34 ∷ 0 ∷ 0 ∷ 0 ∷ 34 ∷ 0 ∷ 0 ∷ 0 ∷ 34 ∷ 0 ∷ 0 ∷ 0 ∷ 34 ∷ 0 ∷ 0 ∷ 0 ∷ 34 ∷ 0 ∷ 0 ∷ 0 ∷ 34 ∷ 0 ∷ 0 ∷ 0 ∷ 34 ∷ 0 ∷ 0 ∷ 0 ∷ 34 ∷ 0 ∷ 0 ∷ 0 ∷ 34 ∷ 0 ∷ 0 ∷ 0 ∷ 34 ∷ 0 ∷ 0 ∷ 0 ∷ 34 ∷ 0 ∷ 0 ∷ 0 ∷ 34 ∷ 0 ∷ 0 ∷ 0 ∷ 34 ∷ 0 ∷ 0 ∷ 0 ∷ 34 ∷ 0 ∷ 0 ∷ 0 ∷ 33 ∷ 0 ∷ 0 ∷ 0 ∷ 34 ∷ 0 ∷ 8 ∷ 0 ∷ 16 ∷ 0 ∷ 2 ∷ 0 ∷ 0 ∷ 0 ∷ 255 ∷ 255 ∷ 255 ∷ 255 ∷ 8 ∷ 0 ∷ 16 ∷ 0 ∷ 1 ∷ 0 ∷ 0 ∷ 0 ∷ 250 ∷ 255 ∷ 255 ∷ 255 ∷ 0 ∷ 0 ∷ 32 ∷ 0 ∷ 0 ∷ 0 ∷ 32 ∷ 0 ∷ 0 ∷ 0 ∷ 34 ∷ 0 ∷ 8 ∷ 0 ∷ 16 ∷ 0 ∷ 0 ∷ 0 ∷ 0 ∷ 0 ∷ 250 ∷ 255 ∷ 255 ∷ 255 ∷ 8 ∷ 0 ∷ 17 ∷ 0 ∷ 254 ∷ 255 ∷ 255 ∷ 255 ∷ 3 ∷ 0 ∷ 0 ∷ 0 ∷ 0 ∷ 0 ∷ 33 ∷ 0 ∷ 0 ∷ 0 ∷ 33 ∷ 0 ∷ 8 ∷ 0 ∷ 16 ∷ 0 ∷ 254 ∷ 255 ∷ 255 ∷ 255 ∷ 1 ∷ 0 ∷ 0 ∷ 0 ∷ 8 ∷ 0 ∷ 16 ∷ 0 ∷ 254 ∷ 255 ∷ 255 ∷ 255 ∷ 6 ∷ 0 ∷ 0 ∷ 0 ∷ 0 ∷ 0 ∷ 33 ∷ 0 ∷ 8 ∷ 0 ∷ 17 ∷ 0 ∷ 0 ∷ 0 ∷ 0 ∷ 0 ∷ 3 ∷ 0 ∷ 0 ∷ 0 ∷ 8 ∷ 0 ∷ 17 ∷ 0 ∷ 254 ∷ 255 ∷ 255 ∷ 255 ∷ 0 ∷ 0 ∷ 0 ∷ 0 ∷ 0 ∷ 0 ∷ 255 ∷ 0 ∷ [])) (unread (numbered_refusal 5 69)) ∷
    line (reads (1 ∷ 0 ∷ 1 ∷ 0 ∷ 2 ∷ 0 ∷ 0 ∷ 32 ∷ 0 ∷ 0 ∷ 0 ∷ 32 ∷ 0 ∷ 0 ∷ 0 ∷ 32 ∷ 0 ∷ 0 ∷ 0 ∷ 32 ∷ 0 ∷ 0 ∷ 0 ∷ 32 ∷ 0 ∷ 0 ∷ 0 ∷ 32 ∷ 0 ∷ 0 ∷ 0 ∷ 32 ∷ 0 ∷ 0 ∷ 0 ∷ 32 ∷ 0 ∷ 0 ∷ 0 ∷ 32 ∷ 0 ∷ 0 ∷ 0 ∷ 32 ∷ 0 ∷ 0 ∷ 0 ∷ 32 ∷ 0 ∷ 0 ∷ 0 ∷ 32 ∷ 0 ∷ 0 ∷ 0 ∷ 32 ∷ 0 ∷ 0 ∷ 0 ∷ 32 ∷ 0 ∷ 0 ∷ 0 ∷ 32 ∷ 0 ∷ 0 ∷ 0 ∷ 32 ∷ 0 ∷ 0 ∷ 0 ∷ 32 ∷ 0 ∷ 0 ∷ 0 ∷ 32 ∷ 0 ∷ 0 ∷ 0 ∷ 32 ∷ 0 ∷ 0 ∷ 0 ∷ 32 ∷ 0 ∷ 0 ∷ 0 ∷ 32 ∷ 0 ∷ 0 ∷ 0 ∷ 32 ∷ 0 ∷ 0 ∷ 0 ∷ 32 ∷ 0 ∷ 0 ∷ 0 ∷ 32 ∷ 0 ∷ 0 ∷ 0 ∷ 32 ∷ 0 ∷ 0 ∷ 0 ∷ 32 ∷ 0 ∷ 0 ∷ 0 ∷ 32 ∷ 0 ∷ 0 ∷ 0 ∷ 32 ∷ 0 ∷ 0 ∷ 0 ∷ 32 ∷ 0 ∷ 0 ∷ 0 ∷ 32 ∷ 0 ∷ 0 ∷ 0 ∷ 32 ∷ 0 ∷ 0 ∷ 0 ∷ 32 ∷ 0 ∷ 0 ∷ 0 ∷ 32 ∷ 0 ∷ 0 ∷ 0 ∷ 32 ∷ 0 ∷ 0 ∷ 0 ∷ 32 ∷ 0 ∷ 0 ∷ 0 ∷ 32 ∷ 0 ∷ 0 ∷ 0 ∷ 32 ∷ 0 ∷ 0 ∷ 0 ∷ 32 ∷ 0 ∷ 0 ∷ 0 ∷ 32 ∷ 0 ∷ 0 ∷ 0 ∷ 32 ∷ 0 ∷ 0 ∷ 0 ∷ 32 ∷ 0 ∷ 0 ∷ 0 ∷ 32 ∷ 0 ∷ 0 ∷ 0 ∷ 32 ∷ 0 ∷ 0 ∷ 0 ∷ 32 ∷ 0 ∷ 0 ∷ 0 ∷ 32 ∷ 0 ∷ 0 ∷ 0 ∷ 32 ∷ 0 ∷ 0 ∷ 0 ∷ 32 ∷ 0 ∷ 0 ∷ 0 ∷ 32 ∷ 0 ∷ 0 ∷ 0 ∷ 32 ∷ 0 ∷ 0 ∷ 0 ∷ 32 ∷ 0 ∷ 0 ∷ 0 ∷ 32 ∷ 0 ∷ 0 ∷ 0 ∷ 32 ∷ 0 ∷ 0 ∷ 0 ∷ 32 ∷ 0 ∷ 0 ∷ 0 ∷ 32 ∷ 0 ∷ 0 ∷ 0 ∷ 32 ∷ 0 ∷ 0 ∷ 0 ∷ 32 ∷ 0 ∷ 0 ∷ 0 ∷ 32 ∷ 0 ∷ 0 ∷ 0 ∷ 32 ∷ 0 ∷ 0 ∷ 0 ∷ 32 ∷ 0 ∷ 0 ∷ 0 ∷ 32 ∷ 0 ∷ 0 ∷ 0 ∷ 32 ∷ 0 ∷ 0 ∷ 0 ∷ 32 ∷ 0 ∷ 0 ∷ 0 ∷ 32 ∷ 0 ∷ 0 ∷ 0 ∷ 32 ∷ 0 ∷ 0 ∷ 0 ∷ 32 ∷ 0 ∷ 0 ∷ 0 ∷ 32 ∷ 0 ∷ 0 ∷ 0 ∷ 32 ∷ 0 ∷ 0 ∷ 0 ∷ 32 ∷ 0 ∷ 0 ∷ 0 ∷ 32 ∷ 0 ∷ 0 ∷ 0 ∷ 32 ∷ 0 ∷ 0 ∷ 0 ∷ 33 ∷ 0 ∷ 0 ∷ 0 ∷ 32 ∷ 0 ∷ 0 ∷ 0 ∷ 33 ∷ 0 ∷ 0 ∷ 0 ∷ 33 ∷ 0 ∷ 12 ∷ 0 ∷ 16 ∷ 0 ∷ 0 ∷ 0 ∷ 0 ∷ 0 ∷ 0 ∷ 0 ∷ 0 ∷ 0 ∷ 0 ∷ 0 ∷ 0 ∷ 0 ∷ 12 ∷ 0 ∷ 16 ∷ 0 ∷ 254 ∷ 255 ∷ 255 ∷ 255 ∷ 1 ∷ 0 ∷ 0 ∷ 0 ∷ 255 ∷ 255 ∷ 255 ∷ 255 ∷ 12 ∷ 0 ∷ 16 ∷ 0 ∷ 2 ∷ 0 ∷ 0 ∷ 0 ∷ 0 ∷ 0 ∷ 0 ∷ 0 ∷ 3 ∷ 0 ∷ 0 ∷ 0 ∷ 0 ∷ 0 ∷ 32 ∷ 0 ∷ 0 ∷ 0 ∷ 33 ∷ 0 ∷ 0 ∷ 0 ∷ 34 ∷ 0 ∷ 12 ∷ 0 ∷ 16 ∷ 0 ∷ 1 ∷ 0 ∷ 0 ∷ 0 ∷ 0 ∷ 0 ∷ 0 ∷ 0 ∷ 0 ∷ 0 ∷ 0 ∷ 0 ∷ 12 ∷ 0 ∷ 16 ∷ 0 ∷ 2 ∷ 0 ∷ 0 ∷ 0 ∷ 0 ∷ 0 ∷ 0 ∷ 0 ∷ 2 ∷ 0 ∷ 0 ∷ 0 ∷ 0 ∷ 0 ∷ 33 ∷ 0 ∷ 12 ∷ 0 ∷ 16 ∷ 0 ∷ 254 ∷ 255 ∷ 255 ∷ 255 ∷ 255 ∷ 255 ∷ 255 ∷ 255 ∷ 3 ∷ 0 ∷ 0 ∷ 0 ∷ 0 ∷ 0 ∷ 33 ∷ 0 ∷ 12 ∷ 0 ∷ 16 ∷ 0 ∷ 2 ∷ 0 ∷ 0 ∷ 0 ∷ 255 ∷ 255 ∷ 255 ∷ 255 ∷ 3 ∷ 0 ∷ 0 ∷ 0 ∷ 12 ∷ 0 ∷ 17 ∷ 0 ∷ 254 ∷ 255 ∷ 255 ∷ 255 ∷ 254 ∷ 255 ∷ 255 ∷ 255 ∷ 2 ∷ 0 ∷ 0 ∷ 0 ∷ 0 ∷ 0 ∷ 255 ∷ 0 ∷ [])) (unread (numbered_refusal 5 69)) ∷
    line (reads (1 ∷ 0 ∷ 1 ∷ 0 ∷ 5 ∷ 24 ∷ 0 ∷ 16 ∷ 0 ∷ 253 ∷ 255 ∷ 255 ∷ 255 ∷ 254 ∷ 255 ∷ 255 ∷ 255 ∷ 3 ∷ 0 ∷ 0 ∷ 0 ∷ 253 ∷ 255 ∷ 255 ∷ 255 ∷ 254 ∷ 255 ∷ 255 ∷ 255 ∷ 241 ∷ 255 ∷ 255 ∷ 255 ∷ 0 ∷ 0 ∷ 255 ∷ 0 ∷ 0 ∷ 0 ∷ 255 ∷ 0 ∷ [])) (unread (numbered_refusal 6 37)) ∷
    line (reads (1 ∷ 0 ∷ 1 ∷ 0 ∷ 1 ∷ 0 ∷ 0 ∷ 32 ∷ 0 ∷ 0 ∷ 0 ∷ 34 ∷ 0 ∷ 0 ∷ 0 ∷ 32 ∷ 0 ∷ 8 ∷ 0 ∷ 17 ∷ 0 ∷ 38 ∷ 0 ∷ 0 ∷ 0 ∷ 1 ∷ 0 ∷ 0 ∷ 0 ∷ 8 ∷ 0 ∷ 17 ∷ 0 ∷ 0 ∷ 0 ∷ 0 ∷ 0 ∷ 0 ∷ 0 ∷ 0 ∷ 0 ∷ 0 ∷ 0 ∷ 255 ∷ 0 ∷ 0 ∷ 0 ∷ 255 ∷ 0 ∷ [])) (unread (numbered_refusal 6 45)) ∷
    line (reads (1 ∷ 0 ∷ 1 ∷ 0 ∷ 5 ∷ 0 ∷ 0 ∷ 33 ∷ 0 ∷ 0 ∷ 0 ∷ 32 ∷ 0 ∷ 24 ∷ 0 ∷ 17 ∷ 0 ∷ 1 ∷ 0 ∷ 0 ∷ 0 ∷ 0 ∷ 0 ∷ 0 ∷ 0 ∷ 0 ∷ 0 ∷ 0 ∷ 0 ∷ 0 ∷ 0 ∷ 0 ∷ 0 ∷ 1 ∷ 0 ∷ 0 ∷ 0 ∷ 2 ∷ 0 ∷ 0 ∷ 0 ∷ 24 ∷ 0 ∷ 17 ∷ 0 ∷ 0 ∷ 0 ∷ 0 ∷ 0 ∷ 1 ∷ 0 ∷ 0 ∷ 0 ∷ 0 ∷ 0 ∷ 0 ∷ 0 ∷ 254 ∷ 255 ∷ 255 ∷ 255 ∷ 1 ∷ 0 ∷ 0 ∷ 0 ∷ 255 ∷ 255 ∷ 255 ∷ 255 ∷ 0 ∷ 0 ∷ 255 ∷ 0 ∷ 0 ∷ [])) (unread (numbered_refusal 6 73)) ∷
    line (reads (1 ∷ 0 ∷ 1 ∷ 0 ∷ 5 ∷ 0 ∷ 0 ∷ 32 ∷ 0 ∷ 0 ∷ 0 ∷ 34 ∷ 0 ∷ 24 ∷ 0 ∷ 16 ∷ 0 ∷ 254 ∷ 255 ∷ 255 ∷ 255 ∷ 252 ∷ 255 ∷ 255 ∷ 255 ∷ 0 ∷ 0 ∷ 0 ∷ 0 ∷ 3 ∷ 0 ∷ 0 ∷ 0 ∷ 253 ∷ 255 ∷ 255 ∷ 255 ∷ 253 ∷ 255 ∷ 255 ∷ 255 ∷ 0 ∷ 0 ∷ 33 ∷ 0 ∷ 0 ∷ 0 ∷ 33 ∷ 0 ∷ 24 ∷ 0 ∷ 16 ∷ 0 ∷ 253 ∷ 255 ∷ 255 ∷ 255 ∷ 0 ∷ 0 ∷ 0 ∷ 0 ∷ 1 ∷ 0 ∷ 0 ∷ 0 ∷ 1 ∷ 0 ∷ 0 ∷ 0 ∷ 252 ∷ 255 ∷ 255 ∷ 255 ∷ 254 ∷ 255 ∷ 255 ∷ 255 ∷ 0 ∷ 0 ∷ 33 ∷ 0 ∷ 24 ∷ 0 ∷ 16 ∷ 0 ∷ 4 ∷ 0 ∷ 0 ∷ 0 ∷ 254 ∷ 255 ∷ 255 ∷ 255 ∷ 0 ∷ 0 ∷ 0 ∷ 0 ∷ 1 ∷ 0 ∷ 0 ∷ 0 ∷ 3 ∷ 0 ∷ 0 ∷ 0 ∷ 0 ∷ 0 ∷ 0 ∷ 0 ∷ 24 ∷ 0 ∷ 17 ∷ 0 ∷ 0 ∷ 0 ∷ 0 ∷ 0 ∷ 4 ∷ 0 ∷ 0 ∷ 0 ∷ 5 ∷ 0 ∷ 0 ∷ 0 ∷ 5 ∷ 0 ∷ 0 ∷ 0 ∷ 2 ∷ 0 ∷ 0 ∷ 0 ∷ 255 ∷ 255 ∷ 255 ∷ 255 ∷ 0 ∷ 0 ∷ 32 ∷ 0 ∷ 0 ∷ 0 ∷ 33 ∷ 0 ∷ 0 ∷ 0 ∷ 32 ∷ 0 ∷ 0 ∷ 0 ∷ 32 ∷ 0 ∷ 0 ∷ 0 ∷ 32 ∷ 0 ∷ 24 ∷ 0 ∷ 16 ∷ 0 ∷ 254 ∷ 255 ∷ 255 ∷ 255 ∷ 253 ∷ 255 ∷ 255 ∷ 255 ∷ 1 ∷ 0 ∷ 0 ∷ 0 ∷ 255 ∷ 255 ∷ 255 ∷ 255 ∷ 1 ∷ 0 ∷ 0 ∷ 0 ∷ 2 ∷ 0 ∷ 0 ∷ 0 ∷ 0 ∷ 0 ∷ 34 ∷ 0 ∷ 24 ∷ 0 ∷ 17 ∷ 0 ∷ 2 ∷ 0 ∷ 0 ∷ 0 ∷ 3 ∷ 0 ∷ 0 ∷ 0 ∷ 3 ∷ 0 ∷ 0 ∷ 0 ∷ 2 ∷ 0 ∷ 0 ∷ 0 ∷ 1 ∷ 0 ∷ 0 ∷ 0 ∷ 3 ∷ 0 ∷ 0 ∷ 0 ∷ 0 ∷ 0 ∷ 33 ∷ 0 ∷ 24 ∷ 0 ∷ 17 ∷ 0 ∷ 5 ∷ 0 ∷ 0 ∷ 0 ∷ 251 ∷ 255 ∷ 255 ∷ 255 ∷ 4 ∷ 0 ∷ 0 ∷ 0 ∷ 2 ∷ 0 ∷ 0 ∷ 0 ∷ 252 ∷ 255 ∷ 255 ∷ 255 ∷ 254 ∷ 255 ∷ 255 ∷ 255 ∷ 0 ∷ 0 ∷ 32 ∷ 0 ∷ 0 ∷ 0 ∷ 32 ∷ 0 ∷ 0 ∷ 0 ∷ 32 ∷ 0 ∷ 24 ∷ 0 ∷ 17 ∷ 0 ∷ 5 ∷ 0 ∷ 0 ∷ 0 ∷ 251 ∷ 255 ∷ 255 ∷ 255 ∷ 252 ∷ 255 ∷ 255 ∷ 255 ∷ 251 ∷ 255 ∷ 255 ∷ 255 ∷ 1 ∷ 0 ∷ 0 ∷ 0 ∷ 4 ∷ 0 ∷ 0 ∷ 0 ∷ 0 ∷ 0 ∷ 255 ∷ 0 ∷ 0 ∷ 0 ∷ 32 ∷ 0 ∷ [])) (unread (numbered_refusal 6 293)) ∷
    line (reads (1 ∷ 0 ∷ 1 ∷ 0 ∷ 1 ∷ 8 ∷ 0 ∷ 16 ∷ 0 ∷ 0 ∷ 0 ∷ 0 ∷ 0 ∷ 1 ∷ 0 ∷ 0 ∷ 0 ∷ 0 ∷ 0 ∷ 255 ∷ 0 ∷ [])) (accepted (question 1 (1 ∷ []) [] (pos 1 ∷ []))) ∷
    line (reads (1 ∷ 0 ∷ 1 ∷ 0 ∷ 1 ∷ 8 ∷ 0 ∷ 16 ∷ 0 ∷ 1 ∷ 0 ∷ 0 ∷ 0 ∷ 255 ∷ 255 ∷ 255 ∷ 255 ∷ 0 ∷ 0 ∷ 255 ∷ 0 ∷ [])) (accepted (question 1 (1 ∷ []) (pos 1 ∷ []) (negsuc 0 ∷ []))) ∷
    line (reads (1 ∷ 0 ∷ 1 ∷ 0 ∷ 1 ∷ 8 ∷ 0 ∷ 16 ∷ 0 ∷ 0 ∷ 0 ∷ 0 ∷ 0 ∷ 255 ∷ 255 ∷ 255 ∷ 255 ∷ 0 ∷ 0 ∷ 255 ∷ 0 ∷ [])) (accepted (question 1 (1 ∷ []) [] (negsuc 0 ∷ []))) ∷
    line (reads (1 ∷ 0 ∷ 1 ∷ 0 ∷ 1 ∷ 8 ∷ 0 ∷ 17 ∷ 0 ∷ 255 ∷ 255 ∷ 255 ∷ 255 ∷ 0 ∷ 0 ∷ 0 ∷ 0 ∷ 0 ∷ 0 ∷ 255 ∷ 0 ∷ [])) (accepted (question 1 (2 ∷ []) (negsuc 0 ∷ []) [])) ∷
    line (reads (1 ∷ 0 ∷ 1 ∷ 0 ∷ 1 ∷ 0 ∷ 0 ∷ 32 ∷ 0 ∷ 8 ∷ 0 ∷ 16 ∷ 0 ∷ 0 ∷ 0 ∷ 0 ∷ 0 ∷ 1 ∷ 0 ∷ 0 ∷ 0 ∷ 0 ∷ 0 ∷ 255 ∷ 0 ∷ [])) (accepted (question 1 (3 ∷ 1 ∷ []) [] (pos 1 ∷ []))) ∷
    line (reads (1 ∷ 0 ∷ 1 ∷ 0 ∷ 1 ∷ 0 ∷ 0 ∷ 32 ∷ 0 ∷ 8 ∷ 0 ∷ 16 ∷ 0 ∷ 0 ∷ 0 ∷ 0 ∷ 0 ∷ 1 ∷ 0 ∷ 0 ∷ 0 ∷ 0 ∷ 0 ∷ 255 ∷ 0 ∷ [])) (accepted (question 1 (3 ∷ 1 ∷ []) [] (pos 1 ∷ []))) ∷
    line (reads (1 ∷ 0 ∷ 1 ∷ 0 ∷ 3 ∷ 0 ∷ 0 ∷ 34 ∷ 0 ∷ 0 ∷ 0 ∷ 34 ∷ 0 ∷ 0 ∷ 0 ∷ 34 ∷ 0 ∷ 0 ∷ 0 ∷ 32 ∷ 0 ∷ 0 ∷ 0 ∷ 32 ∷ 0 ∷ 0 ∷ 0 ∷ 32 ∷ 0 ∷ 0 ∷ 0 ∷ 32 ∷ 0 ∷ 0 ∷ 0 ∷ 32 ∷ 0 ∷ 0 ∷ 0 ∷ 32 ∷ 0 ∷ 0 ∷ 0 ∷ 32 ∷ 0 ∷ 16 ∷ 0 ∷ 16 ∷ 0 ∷ 1 ∷ 0 ∷ 0 ∷ 0 ∷ 1 ∷ 0 ∷ 0 ∷ 0 ∷ 1 ∷ 0 ∷ 0 ∷ 0 ∷ 1 ∷ 0 ∷ 0 ∷ 0 ∷ 0 ∷ 0 ∷ 32 ∷ 0 ∷ 0 ∷ 0 ∷ 32 ∷ 0 ∷ 16 ∷ 0 ∷ 16 ∷ 0 ∷ 1 ∷ 0 ∷ 0 ∷ 0 ∷ 1 ∷ 0 ∷ 0 ∷ 0 ∷ 1 ∷ 0 ∷ 0 ∷ 0 ∷ 1 ∷ 0 ∷ 0 ∷ 0 ∷ 0 ∷ 0 ∷ 34 ∷ 0 ∷ 0 ∷ 0 ∷ 32 ∷ 0 ∷ 0 ∷ 0 ∷ 32 ∷ 0 ∷ 0 ∷ 0 ∷ 32 ∷ 0 ∷ 0 ∷ 0 ∷ 32 ∷ 0 ∷ 0 ∷ 0 ∷ 32 ∷ 0 ∷ 0 ∷ 0 ∷ 32 ∷ 0 ∷ 0 ∷ 0 ∷ 32 ∷ 0 ∷ 0 ∷ 0 ∷ 32 ∷ 0 ∷ 16 ∷ 0 ∷ 16 ∷ 0 ∷ 1 ∷ 0 ∷ 0 ∷ 0 ∷ 1 ∷ 0 ∷ 0 ∷ 0 ∷ 1 ∷ 0 ∷ 0 ∷ 0 ∷ 1 ∷ 0 ∷ 0 ∷ 0 ∷ 0 ∷ 0 ∷ 32 ∷ 0 ∷ 0 ∷ 0 ∷ 32 ∷ 0 ∷ 0 ∷ 0 ∷ 32 ∷ 0 ∷ 0 ∷ 0 ∷ 32 ∷ 0 ∷ 0 ∷ 0 ∷ 32 ∷ 0 ∷ 0 ∷ 0 ∷ 32 ∷ 0 ∷ 0 ∷ 0 ∷ 32 ∷ 0 ∷ 0 ∷ 0 ∷ 32 ∷ 0 ∷ 0 ∷ 0 ∷ 32 ∷ 0 ∷ 16 ∷ 0 ∷ 16 ∷ 0 ∷ 1 ∷ 0 ∷ 0 ∷ 0 ∷ 1 ∷ 0 ∷ 0 ∷ 0 ∷ 1 ∷ 0 ∷ 0 ∷ 0 ∷ 1 ∷ 0 ∷ 0 ∷ 0 ∷ 0 ∷ 0 ∷ 34 ∷ 0 ∷ 0 ∷ 0 ∷ 34 ∷ 0 ∷ 0 ∷ 0 ∷ 32 ∷ 0 ∷ 0 ∷ 0 ∷ 32 ∷ 0 ∷ 0 ∷ 0 ∷ 32 ∷ 0 ∷ 0 ∷ 0 ∷ 32 ∷ 0 ∷ 0 ∷ 0 ∷ 32 ∷ 0 ∷ 16 ∷ 0 ∷ 16 ∷ 0 ∷ 1 ∷ 0 ∷ 0 ∷ 0 ∷ 1 ∷ 0 ∷ 0 ∷ 0 ∷ 1 ∷ 0 ∷ 0 ∷ 0 ∷ 1 ∷ 0 ∷ 0 ∷ 0 ∷ 0 ∷ 0 ∷ 32 ∷ 0 ∷ 0 ∷ 0 ∷ 32 ∷ 0 ∷ 0 ∷ 0 ∷ 32 ∷ 0 ∷ 0 ∷ 0 ∷ 32 ∷ 0 ∷ 0 ∷ 0 ∷ 32 ∷ 0 ∷ 16 ∷ 0 ∷ 16 ∷ 0 ∷ 1 ∷ 0 ∷ 0 ∷ 0 ∷ 1 ∷ 0 ∷ 0 ∷ 0 ∷ 1 ∷ 0 ∷ 0 ∷ 0 ∷ 1 ∷ 0 ∷ 0 ∷ 0 ∷ 0 ∷ 0 ∷ 34 ∷ 0 ∷ 0 ∷ 0 ∷ 32 ∷ 0 ∷ 0 ∷ 0 ∷ 32 ∷ 0 ∷ 0 ∷ 0 ∷ 32 ∷ 0 ∷ 0 ∷ 0 ∷ 32 ∷ 0 ∷ 0 ∷ 0 ∷ 32 ∷ 0 ∷ 0 ∷ 0 ∷ 32 ∷ 0 ∷ 0 ∷ 0 ∷ 32 ∷ 0 ∷ 16 ∷ 0 ∷ 16 ∷ 0 ∷ 1 ∷ 0 ∷ 0 ∷ 0 ∷ 1 ∷ 0 ∷ 0 ∷ 0 ∷ 1 ∷ 0 ∷ 0 ∷ 0 ∷ 1 ∷ 0 ∷ 0 ∷ 0 ∷ 0 ∷ 0 ∷ 32 ∷ 0 ∷ 0 ∷ 0 ∷ 32 ∷ 0 ∷ 0 ∷ 0 ∷ 32 ∷ 0 ∷ 0 ∷ 0 ∷ 32 ∷ 0 ∷ 0 ∷ 0 ∷ 32 ∷ 0 ∷ 0 ∷ 0 ∷ 32 ∷ 0 ∷ 16 ∷ 0 ∷ 16 ∷ 0 ∷ 1 ∷ 0 ∷ 0 ∷ 0 ∷ 1 ∷ 0 ∷ 0 ∷ 0 ∷ 1 ∷ 0 ∷ 0 ∷ 0 ∷ 1 ∷ 0 ∷ 0 ∷ 0 ∷ 0 ∷ 0 ∷ 255 ∷ 0 ∷ [])) (accepted (question 3 (5 ∷ 5 ∷ 5 ∷ 3 ∷ 3 ∷ 3 ∷ 3 ∷ 3 ∷ 3 ∷ 3 ∷ 1 ∷ 3 ∷ 3 ∷ 1 ∷ 5 ∷ 3 ∷ 3 ∷ 3 ∷ 3 ∷ 3 ∷ 3 ∷ 3 ∷ 3 ∷ 1 ∷ 3 ∷ 3 ∷ 3 ∷ 3 ∷ 3 ∷ 3 ∷ 3 ∷ 3 ∷ 3 ∷ 1 ∷ 5 ∷ 5 ∷ 3 ∷ 3 ∷ 3 ∷ 3 ∷ 3 ∷ 1 ∷ 3 ∷ 3 ∷ 3 ∷ 3 ∷ 3 ∷ 1 ∷ 5 ∷ 3 ∷ 3 ∷ 3 ∷ 3 ∷ 3 ∷ 3 ∷ 3 ∷ 1 ∷ 3 ∷ 3 ∷ 3 ∷ 3 ∷ 3 ∷ 3 ∷ 1 ∷ []) (pos 1 ∷ pos 1 ∷ pos 1 ∷ pos 0 ∷ pos 0 ∷ pos 0 ∷ pos 1 ∷ pos 1 ∷ pos 1 ∷ pos 0 ∷ pos 0 ∷ pos 0 ∷ pos 1 ∷ pos 1 ∷ pos 1 ∷ pos 0 ∷ pos 0 ∷ pos 0 ∷ pos 1 ∷ pos 1 ∷ pos 1 ∷ pos 0 ∷ pos 0 ∷ pos 0 ∷ pos 1 ∷ pos 1 ∷ pos 1 ∷ pos 0 ∷ pos 0 ∷ pos 0 ∷ pos 1 ∷ pos 1 ∷ pos 1 ∷ pos 0 ∷ pos 0 ∷ pos 0 ∷ pos 1 ∷ pos 1 ∷ pos 1 ∷ pos 0 ∷ pos 0 ∷ pos 0 ∷ pos 1 ∷ pos 1 ∷ pos 1 ∷ []) (pos 1 ∷ pos 1 ∷ pos 1 ∷ pos 1 ∷ pos 1 ∷ pos 1 ∷ pos 1 ∷ pos 1 ∷ []))) ∷
    line (reads (1 ∷ 0 ∷ 1 ∷ [])) (unread (numbered_refusal 1 0)) ∷
    line (reads (1 ∷ 0 ∷ 1 ∷ 0 ∷ 6 ∷ 16 ∷ 0 ∷ 28 ∷ [])) (unread (numbered_refusal 1 5)) ∷
    line (reads (1 ∷ 0 ∷ 1 ∷ 0 ∷ 3 ∷ 16 ∷ 0 ∷ 16 ∷ 0 ∷ 0 ∷ 0 ∷ 0 ∷ [])) (unread (numbered_refusal 1 5)) ∷
    line (reads (1 ∷ 0 ∷ 1 ∷ 0 ∷ 2 ∷ 0 ∷ 0 ∷ 33 ∷ 0 ∷ 0 ∷ 0 ∷ 33 ∷ 0 ∷ 12 ∷ 0 ∷ 16 ∷ 0 ∷ 1 ∷ 0 ∷ 0 ∷ 0 ∷ 2 ∷ 0 ∷ 0 ∷ 0 ∷ 1 ∷ 0 ∷ 0 ∷ 0 ∷ 0 ∷ 0 ∷ 33 ∷ 0 ∷ 12 ∷ 0 ∷ 16 ∷ 0 ∷ 255 ∷ 255 ∷ 255 ∷ 255 ∷ 1 ∷ 0 ∷ 0 ∷ 0 ∷ 255 ∷ [])) (unread (numbered_refusal 1 33)) ∷
    line (reads (1 ∷ 0 ∷ 1 ∷ 0 ∷ 1 ∷ 8 ∷ 0 ∷ 17 ∷ 0 ∷ 0 ∷ 0 ∷ 0 ∷ 128 ∷ 2 ∷ 0 ∷ 0 ∷ 0 ∷ 0 ∷ 0 ∷ 255 ∷ 0 ∷ [])) (unread (numbered_refusal 12 9)) ∷
    line (reads (1 ∷ 0 ∷ 1 ∷ 0 ∷ 3 ∷ 16 ∷ 0 ∷ 16 ∷ 0 ∷ 0 ∷ 0 ∷ 0 ∷ 0 ∷ 0 ∷ 0 ∷ 0 ∷ 0 ∷ 0 ∷ 0 ∷ 1 ∷ 0 ∷ 2 ∷ 0 ∷ 0 ∷ 0 ∷ 0 ∷ 0 ∷ 255 ∷ 0 ∷ [])) (unread (numbered_refusal 12 17)) ∷
    line (reads (1 ∷ 0 ∷ 1 ∷ 0 ∷ 3 ∷ 16 ∷ 0 ∷ 16 ∷ 0 ∷ 0 ∷ 179 ∷ 0 ∷ 0 ∷ 0 ∷ 0 ∷ 0 ∷ 0 ∷ 0 ∷ 247 ∷ 255 ∷ 255 ∷ 255 ∷ 144 ∷ 125 ∷ 0 ∷ 0 ∷ 0 ∷ 0 ∷ 255 ∷ 0 ∷ [])) (unread (numbered_refusal 12 9)) ∷
    line (reads (1 ∷ 0 ∷ 1 ∷ 0 ∷ 2 ∷ 0 ∷ 0 ∷ 33 ∷ 0 ∷ 0 ∷ 0 ∷ 33 ∷ 0 ∷ 12 ∷ 0 ∷ 17 ∷ 0 ∷ 2 ∷ 0 ∷ 0 ∷ 0 ∷ 2 ∷ 0 ∷ 0 ∷ 0 ∷ 2 ∷ 0 ∷ 0 ∷ 0 ∷ 12 ∷ 0 ∷ 17 ∷ 0 ∷ 0 ∷ 0 ∷ 0 ∷ 0 ∷ 0 ∷ 0 ∷ 0 ∷ 0 ∷ 255 ∷ 255 ∷ 255 ∷ 255 ∷ 0 ∷ 0 ∷ 34 ∷ 0 ∷ 0 ∷ 0 ∷ 32 ∷ 0 ∷ 0 ∷ 0 ∷ 34 ∷ 0 ∷ 0 ∷ 0 ∷ 32 ∷ 0 ∷ 0 ∷ 0 ∷ 32 ∷ 0 ∷ 0 ∷ 0 ∷ 32 ∷ 0 ∷ 12 ∷ 0 ∷ 17 ∷ 0 ∷ 0 ∷ 0 ∷ 0 ∷ 0 ∷ 3 ∷ 0 ∷ 0 ∷ 0 ∷ 1 ∷ 0 ∷ 0 ∷ 0 ∷ 0 ∷ 0 ∷ 32 ∷ 0 ∷ 0 ∷ 0 ∷ 32 ∷ 0 ∷ 0 ∷ 0 ∷ 33 ∷ 0 ∷ 0 ∷ 0 ∷ 32 ∷ 0 ∷ 12 ∷ 0 ∷ 17 ∷ 0 ∷ 1 ∷ 0 ∷ 0 ∷ 0 ∷ 1 ∷ 0 ∷ 0 ∷ 0 ∷ 1 ∷ 0 ∷ 0 ∷ 0 ∷ 12 ∷ 0 ∷ 17 ∷ 0 ∷ 3 ∷ 0 ∷ 0 ∷ 0 ∷ 0 ∷ 0 ∷ 0 ∷ 0 ∷ 255 ∷ 255 ∷ 255 ∷ 255 ∷ 0 ∷ 0 ∷ 33 ∷ 0 ∷ 12 ∷ 0 ∷ 17 ∷ 0 ∷ 1 ∷ 16 ∷ 0 ∷ 0 ∷ 0 ∷ 0 ∷ 0 ∷ 0 ∷ 255 ∷ 255 ∷ 255 ∷ 255 ∷ 0 ∷ 0 ∷ 33 ∷ 0 ∷ 0 ∷ 0 ∷ 32 ∷ 0 ∷ 0 ∷ 0 ∷ 32 ∷ 0 ∷ 0 ∷ 0 ∷ 32 ∷ 0 ∷ 0 ∷ 0 ∷ 32 ∷ 0 ∷ 12 ∷ 0 ∷ 16 ∷ 0 ∷ 0 ∷ 0 ∷ 0 ∷ 0 ∷ 0 ∷ 0 ∷ 0 ∷ 0 ∷ 1 ∷ 0 ∷ 0 ∷ 0 ∷ 12 ∷ 0 ∷ 16 ∷ 0 ∷ 2 ∷ 0 ∷ 0 ∷ 0 ∷ 2 ∷ 0 ∷ 0 ∷ 0 ∷ 254 ∷ 255 ∷ 255 ∷ 255 ∷ 0 ∷ 0 ∷ 255 ∷ 0 ∷ [])) (unread (numbered_refusal 12 141)) ∷
    line (reads (1 ∷ 0 ∷ 1 ∷ 0 ∷ 2 ∷ 12 ∷ 0 ∷ 17 ∷ 0 ∷ 0 ∷ 0 ∷ 0 ∷ 0 ∷ 1 ∷ 0 ∷ 0 ∷ 0 ∷ 0 ∷ 0 ∷ 0 ∷ 128 ∷ 0 ∷ 0 ∷ 255 ∷ 0 ∷ [])) (unread (numbered_refusal 13 17)) ∷
    line (reads (1 ∷ 0 ∷ 1 ∷ 0 ∷ 3 ∷ 0 ∷ 0 ∷ 32 ∷ 0 ∷ 0 ∷ 0 ∷ 33 ∷ 0 ∷ 16 ∷ 0 ∷ 16 ∷ 0 ∷ 254 ∷ 255 ∷ 255 ∷ 255 ∷ 255 ∷ 0 ∷ 0 ∷ 0 ∷ 0 ∷ 255 ∷ 255 ∷ 255 ∷ 255 ∷ 16 ∷ 0 ∷ 17 ∷ 0 ∷ 0 ∷ 0 ∷ 0 ∷ 0 ∷ 0 ∷ 0 ∷ 0 ∷ 0 ∷ 255 ∷ 255 ∷ 255 ∷ 255 ∷ 254 ∷ 255 ∷ 255 ∷ 255 ∷ 0 ∷ 0 ∷ 255 ∷ 0 ∷ [])) (unread (numbered_refusal 13 29)) ∷
    line (reads (1 ∷ 0 ∷ 1 ∷ 0 ∷ 6 ∷ 0 ∷ 0 ∷ 33 ∷ 0 ∷ 0 ∷ 0 ∷ 32 ∷ 0 ∷ 28 ∷ 0 ∷ 17 ∷ 0 ∷ 0 ∷ 0 ∷ 0 ∷ 0 ∷ 0 ∷ 0 ∷ 0 ∷ 0 ∷ 255 ∷ 255 ∷ 255 ∷ 255 ∷ 0 ∷ 0 ∷ 0 ∷ 0 ∷ 255 ∷ 255 ∷ 255 ∷ 255 ∷ 0 ∷ 0 ∷ 0 ∷ 0 ∷ 255 ∷ 255 ∷ 255 ∷ 0 ∷ 0 ∷ 0 ∷ 0 ∷ 0 ∷ 0 ∷ 0 ∷ 0 ∷ 1 ∷ 0 ∷ 0 ∷ 0 ∷ 1 ∷ 0 ∷ 0 ∷ 0 ∷ 0 ∷ 0 ∷ 1 ∷ 0 ∷ 0 ∷ 0 ∷ 0 ∷ 0 ∷ 0 ∷ 0 ∷ 0 ∷ 0 ∷ 255 ∷ 0 ∷ [])) (unread (numbered_refusal 13 41)) ∷
    line (reads (1 ∷ 0 ∷ 1 ∷ 0 ∷ 2 ∷ 0 ∷ 0 ∷ 33 ∷ 0 ∷ 0 ∷ 0 ∷ 33 ∷ 0 ∷ 12 ∷ 0 ∷ 17 ∷ 0 ∷ 0 ∷ 0 ∷ 0 ∷ 0 ∷ 245 ∷ 253 ∷ 255 ∷ 255 ∷ 1 ∷ 0 ∷ 0 ∷ 0 ∷ 12 ∷ 0 ∷ 17 ∷ 0 ∷ 0 ∷ 0 ∷ 0 ∷ 0 ∷ 0 ∷ 0 ∷ 0 ∷ 0 ∷ 255 ∷ 255 ∷ 255 ∷ 0 ∷ 0 ∷ 33 ∷ 0 ∷ 0 ∷ 0 ∷ 32 ∷ 0 ∷ 0 ∷ 0 ∷ 32 ∷ 0 ∷ 0 ∷ 0 ∷ 32 ∷ 0 ∷ 12 ∷ 0 ∷ 16 ∷ 0 ∷ 52 ∷ 245 ∷ 255 ∷ 255 ∷ 51 ∷ 3 ∷ 0 ∷ 0 ∷ 1 ∷ 0 ∷ 0 ∷ 0 ∷ 0 ∷ 0 ∷ 32 ∷ 0 ∷ 12 ∷ 0 ∷ 16 ∷ 0 ∷ 112 ∷ 6 ∷ 0 ∷ 0 ∷ 231 ∷ 15 ∷ 0 ∷ 0 ∷ 96 ∷ 2 ∷ 0 ∷ 0 ∷ 0 ∷ 0 ∷ 255 ∷ 0 ∷ [])) (unread (numbered_refusal 13 41)) ∷
    line (reads (1 ∷ 0 ∷ 1 ∷ 12 ∷ 0 ∷ 17 ∷ 0 ∷ 1 ∷ 0 ∷ 0 ∷ 0 ∷ 1 ∷ 0 ∷ 0 ∷ 0 ∷ 255 ∷ 255 ∷ 255 ∷ 255 ∷ 0 ∷ 0 ∷ 255 ∷ 0 ∷ [])) (unread (numbered_refusal 2 0)) ∷
    line (reads (1 ∷ 0 ∷ 1 ∷ 0 ∷ 5 ∷ 0 ∷ 0 ∷ 32 ∷ 0 ∷ 0 ∷ 0 ∷ 32 ∷ 0 ∷ 156 ∷ 0 ∷ 0 ∷ 34 ∷ 0 ∷ 24 ∷ 0 ∷ 16 ∷ 0 ∷ 0 ∷ 0 ∷ 0 ∷ 0 ∷ 2 ∷ 0 ∷ [])) (unread (numbered_refusal 2 13)) ∷
    line (reads (1 ∷ 0 ∷ 1 ∷ 207 ∷ 3 ∷ 16 ∷ 0 ∷ 17 ∷ 0 ∷ 0 ∷ 0 ∷ 0 ∷ 0 ∷ 254 ∷ 255 ∷ 255 ∷ 255 ∷ 1 ∷ 0 ∷ 0 ∷ 0 ∷ 255 ∷ 255 ∷ 255 ∷ 255 ∷ 0 ∷ 0 ∷ 255 ∷ 0 ∷ [])) (unread (numbered_refusal 2 0)) ∷
    line (reads (1 ∷ 0 ∷ 1 ∷ 0 ∷ 3 ∷ 0 ∷ 0 ∷ 33 ∷ 0 ∷ 0 ∷ 0 ∷ 33 ∷ 0 ∷ 0 ∷ 0 ∷ 33 ∷ 0 ∷ 0 ∷ 0 ∷ 33 ∷ 0 ∷ 0 ∷ 0 ∷ 33 ∷ 0 ∷ 0 ∷ 0 ∷ 33 ∷ 0 ∷ 0 ∷ 0 ∷ 33 ∷ 0 ∷ 0 ∷ 0 ∷ 33 ∷ 0 ∷ 0 ∷ 0 ∷ 33 ∷ 0 ∷ 0 ∷ 0 ∷ 33 ∷ 0 ∷ 0 ∷ 0 ∷ 33 ∷ 0 ∷ 0 ∷ 0 ∷ 33 ∷ 0 ∷ 0 ∷ 0 ∷ 33 ∷ 0 ∷ 0 ∷ 0 ∷ 33 ∷ 0 ∷ 0 ∷ 0 ∷ 33 ∷ 0 ∷ 0 ∷ 0 ∷ 33 ∷ 0 ∷ 0 ∷ 0 ∷ 18 ∷ 0 ∷ 0 ∷ 0 ∷ 18 ∷ 0 ∷ 0 ∷ 0 ∷ 18 ∷ 0 ∷ 0 ∷ 0 ∷ 18 ∷ 0 ∷ 0 ∷ 0 ∷ 18 ∷ 0 ∷ 0 ∷ 0 ∷ 18 ∷ 0 ∷ 0 ∷ 0 ∷ 18 ∷ 0 ∷ 0 ∷ 0 ∷ 18 ∷ 0 ∷ 0 ∷ 0 ∷ 18 ∷ 0 ∷ 0 ∷ 0 ∷ 18 ∷ 0 ∷ 0 ∷ 0 ∷ 18 ∷ 0 ∷ 0 ∷ 0 ∷ 18 ∷ 0 ∷ 0 ∷ 0 ∷ 18 ∷ 0 ∷ 0 ∷ 0 ∷ 18 ∷ 0 ∷ 0 ∷ 0 ∷ 18 ∷ 0 ∷ 0 ∷ 0 ∷ 18 ∷ 0 ∷ 0 ∷ 0 ∷ 18 ∷ 0 ∷ 0 ∷ 0 ∷ 18 ∷ 0 ∷ 0 ∷ 0 ∷ 18 ∷ 0 ∷ 0 ∷ 0 ∷ 18 ∷ 0 ∷ 0 ∷ 0 ∷ 18 ∷ 0 ∷ 0 ∷ 0 ∷ 18 ∷ 0 ∷ 0 ∷ 0 ∷ 18 ∷ 0 ∷ 0 ∷ 0 ∷ 18 ∷ 0 ∷ 0 ∷ 0 ∷ 18 ∷ 0 ∷ 0 ∷ 0 ∷ 18 ∷ 0 ∷ 0 ∷ 0 ∷ 18 ∷ 0 ∷ 0 ∷ 0 ∷ 18 ∷ 0 ∷ 0 ∷ 0 ∷ 18 ∷ 0 ∷ 0 ∷ 0 ∷ 18 ∷ 0 ∷ 0 ∷ 0 ∷ 18 ∷ 0 ∷ 0 ∷ 0 ∷ 18 ∷ 0 ∷ 0 ∷ 0 ∷ 18 ∷ 0 ∷ 0 ∷ 0 ∷ 18 ∷ 0 ∷ 0 ∷ 0 ∷ 18 ∷ 0 ∷ 0 ∷ 0 ∷ 18 ∷ 0 ∷ 0 ∷ 0 ∷ 18 ∷ 0 ∷ 0 ∷ 0 ∷ 18 ∷ 0 ∷ 0 ∷ 0 ∷ 18 ∷ 0 ∷ 0 ∷ 0 ∷ 18 ∷ 0 ∷ 0 ∷ 0 ∷ 18 ∷ 0 ∷ 0 ∷ 0 ∷ 18 ∷ 0 ∷ 0 ∷ 0 ∷ 18 ∷ 0 ∷ 0 ∷ 0 ∷ 18 ∷ 0 ∷ 0 ∷ 0 ∷ 18 ∷ 0 ∷ 0 ∷ 0 ∷ 18 ∷ 0 ∷ 0 ∷ 0 ∷ 18 ∷ 0 ∷ 0 ∷ 0 ∷ 18 ∷ 0 ∷ 0 ∷ 0 ∷ 18 ∷ 0 ∷ 0 ∷ 0 ∷ 18 ∷ 0 ∷ 0 ∷ 0 ∷ 18 ∷ 0 ∷ 0 ∷ 0 ∷ 18 ∷ 0 ∷ 0 ∷ 0 ∷ 18 ∷ 0 ∷ 0 ∷ 0 ∷ 18 ∷ 0 ∷ 0 ∷ 0 ∷ 18 ∷ 0 ∷ 0 ∷ 0 ∷ 18 ∷ 0 ∷ 0 ∷ 0 ∷ 18 ∷ 0 ∷ 0 ∷ 0 ∷ 18 ∷ 0 ∷ 0 ∷ 0 ∷ 18 ∷ 0 ∷ 0 ∷ 0 ∷ 18 ∷ 0 ∷ 0 ∷ 0 ∷ 18 ∷ 0 ∷ 0 ∷ 0 ∷ 18 ∷ 0 ∷ 0 ∷ 0 ∷ 18 ∷ 0 ∷ 0 ∷ 0 ∷ 18 ∷ 0 ∷ 0 ∷ 0 ∷ 18 ∷ 0 ∷ 0 ∷ 0 ∷ 18 ∷ 0 ∷ 0 ∷ 0 ∷ 18 ∷ 0 ∷ 0 ∷ 0 ∷ 18 ∷ 0 ∷ 0 ∷ 0 ∷ 18 ∷ 0 ∷ 0 ∷ 0 ∷ 18 ∷ 0 ∷ 0 ∷ 0 ∷ 33 ∷ 0 ∷ 0 ∷ 0 ∷ 32 ∷ 0 ∷ 0 ∷ 0 ∷ 32 ∷ 0 ∷ 16 ∷ 0 ∷ 17 ∷ 0 ∷ 0 ∷ 0 ∷ 0 ∷ 0 ∷ 0 ∷ 0 ∷ 0 ∷ 0 ∷ 3 ∷ 0 ∷ 0 ∷ 0 ∷ 0 ∷ 0 ∷ 0 ∷ 0 ∷ 16 ∷ 0 ∷ 16 ∷ 0 ∷ 2 ∷ 0 ∷ 0 ∷ 0 ∷ 0 ∷ 0 ∷ 0 ∷ 0 ∷ 2 ∷ 0 ∷ 0 ∷ 0 ∷ 1 ∷ 0 ∷ 0 ∷ 0 ∷ 0 ∷ 0 ∷ 255 ∷ 0 ∷ [])) (unread (numbered_refusal 2 69)) ∷
    line (reads (1 ∷ 0 ∷ 1 ∷ 0 ∷ 2 ∷ 12 ∷ 100 ∷ 16 ∷ 0 ∷ 255 ∷ 255 ∷ 255 ∷ 255 ∷ [])) (unread (numbered_refusal 3 5)) ∷
    line (reads (1 ∷ 0 ∷ 1 ∷ 0 ∷ 2 ∷ 12 ∷ 0 ∷ 32 ∷ 0 ∷ 118 ∷ 0 ∷ 0 ∷ 0 ∷ 221 ∷ 5 ∷ [])) (unread (numbered_refusal 3 5)) ∷
    line (reads (1 ∷ 0 ∷ 1 ∷ 0 ∷ 1 ∷ 78 ∷ 0 ∷ 17 ∷ 0 ∷ 145 ∷ 15 ∷ 0 ∷ 0 ∷ 1 ∷ 0 ∷ 0 ∷ 0 ∷ 118 ∷ 0 ∷ 0 ∷ 255 ∷ 0 ∷ [])) (unread (numbered_refusal 3 5)) ∷
    line (reads (1 ∷ 0 ∷ 1 ∷ 0 ∷ 6 ∷ 0 ∷ 0 ∷ 33 ∷ 0 ∷ 0 ∷ 0 ∷ 33 ∷ 0 ∷ 0 ∷ 0 ∷ 33 ∷ 0 ∷ 0 ∷ 0 ∷ 33 ∷ 0 ∷ 0 ∷ 0 ∷ 33 ∷ 0 ∷ 0 ∷ 0 ∷ 33 ∷ 0 ∷ 0 ∷ 0 ∷ 33 ∷ 0 ∷ 0 ∷ 0 ∷ 33 ∷ 0 ∷ 0 ∷ 0 ∷ 33 ∷ 0 ∷ 0 ∷ 0 ∷ 33 ∷ 0 ∷ 0 ∷ 0 ∷ 33 ∷ 0 ∷ 0 ∷ 0 ∷ 33 ∷ 0 ∷ 0 ∷ 0 ∷ 33 ∷ 0 ∷ 0 ∷ 0 ∷ 33 ∷ 0 ∷ 0 ∷ 0 ∷ 33 ∷ 0 ∷ 0 ∷ 0 ∷ 33 ∷ 0 ∷ 8 ∷ 0 ∷ 32 ∷ 0 ∷ 1 ∷ 0 ∷ 0 ∷ 0 ∷ 255 ∷ 255 ∷ 255 ∷ 255 ∷ 0 ∷ 0 ∷ 255 ∷ 0 ∷ 0 ∷ 0 ∷ 255 ∷ 0 ∷ [])) (unread (numbered_refusal 3 69)) ∷
    line (reads (1 ∷ 0 ∷ 1 ∷ 0 ∷ 0 ∷ 16 ∷ 0 ∷ 226 ∷ 0 ∷ 0 ∷ 0 ∷ 142 ∷ 25 ∷ 21 ∷ 255 ∷ 174 ∷ 255 ∷ 255 ∷ 255 ∷ 0 ∷ 0 ∷ 255 ∷ 248 ∷ 0 ∷ [])) (unread (numbered_refusal 4 0)) ∷
    line (reads (1 ∷ 0 ∷ 1 ∷ 0 ∷ 0 ∷ 0 ∷ 0 ∷ 33 ∷ 0 ∷ 0 ∷ 0 ∷ 32 ∷ 0 ∷ 8 ∷ 0 ∷ 16 ∷ 0 ∷ 191 ∷ 3 ∷ 0 ∷ 0 ∷ 8 ∷ 0 ∷ 0 ∷ 0 ∷ 8 ∷ 0 ∷ 17 ∷ 0 ∷ 227 ∷ 1 ∷ 0 ∷ 0 ∷ 6 ∷ 0 ∷ 0 ∷ 0 ∷ 0 ∷ 0 ∷ 255 ∷ 0 ∷ [])) (unread (numbered_refusal 4 0)) ∷
    line (reads (1 ∷ 0 ∷ 1 ∷ 0 ∷ 0 ∷ 0 ∷ 0 ∷ 34 ∷ 0 ∷ 12 ∷ 0 ∷ 16 ∷ 0 ∷ 0 ∷ 0 ∷ 0 ∷ 0 ∷ 2 ∷ 0 ∷ 0 ∷ 0 ∷ 252 ∷ 255 ∷ 255 ∷ 255 ∷ 12 ∷ 0 ∷ 16 ∷ 0 ∷ 2 ∷ 0 ∷ 0 ∷ 0 ∷ 0 ∷ 0 ∷ 0 ∷ 0 ∷ 6 ∷ 0 ∷ 0 ∷ 0 ∷ 0 ∷ 0 ∷ 255 ∷ 0 ∷ [])) (unread (numbered_refusal 4 0)) ∷
    line (reads (1 ∷ 0 ∷ 1 ∷ 0 ∷ 255 ∷ 0 ∷ 0 ∷ 32 ∷ 0 ∷ 0 ∷ 0 ∷ 33 ∷ 0 ∷ 0 ∷ 0 ∷ 32 ∷ 0 ∷ 20 ∷ 0 ∷ 16 ∷ 0 ∷ 0 ∷ 0 ∷ 0 ∷ 0 ∷ 0 ∷ 0 ∷ 0 ∷ 0 ∷ 0 ∷ 0 ∷ 0 ∷ 0 ∷ 0 ∷ 0 ∷ 0 ∷ 0 ∷ 1 ∷ 0 ∷ 0 ∷ 0 ∷ 0 ∷ 0 ∷ 34 ∷ 0 ∷ 0 ∷ 0 ∷ 34 ∷ 0 ∷ 20 ∷ 0 ∷ 16 ∷ 0 ∷ 0 ∷ 0 ∷ 0 ∷ 0 ∷ 0 ∷ 0 ∷ 0 ∷ 0 ∷ 1 ∷ 0 ∷ 0 ∷ 0 ∷ 0 ∷ 183 ∷ 0 ∷ 0 ∷ 255 ∷ 255 ∷ 255 ∷ 255 ∷ 20 ∷ 0 ∷ 16 ∷ 0 ∷ 0 ∷ 0 ∷ 0 ∷ 0 ∷ 0 ∷ 0 ∷ 0 ∷ 0 ∷ 0 ∷ 0 ∷ 0 ∷ 0 ∷ 0 ∷ 1 ∷ 0 ∷ 0 ∷ 0 ∷ 20 ∷ 0 ∷ 16 ∷ 0 ∷ 255 ∷ 255 ∷ 255 ∷ 255 ∷ 0 ∷ 33 ∷ 0 ∷ 0 ∷ 0 ∷ 0 ∷ 0 ∷ 0 ∷ 0 ∷ 0 ∷ 0 ∷ 0 ∷ 0 ∷ 0 ∷ 0 ∷ 0 ∷ 0 ∷ 0 ∷ 0 ∷ 255 ∷ 0 ∷ [])) (unread (numbered_refusal 4 0)) ∷
    line (reads (1 ∷ 0 ∷ 1 ∷ 0 ∷ 1 ∷ 0 ∷ 0 ∷ 32 ∷ 0 ∷ 0 ∷ 0 ∷ 32 ∷ 0 ∷ 0 ∷ 0 ∷ 32 ∷ 0 ∷ 0 ∷ 0 ∷ 32 ∷ 0 ∷ 0 ∷ 0 ∷ 32 ∷ 0 ∷ 0 ∷ 0 ∷ 32 ∷ 0 ∷ 0 ∷ 0 ∷ 32 ∷ 0 ∷ 0 ∷ 0 ∷ 32 ∷ 0 ∷ 0 ∷ 0 ∷ 32 ∷ 0 ∷ 0 ∷ 0 ∷ 32 ∷ 0 ∷ 0 ∷ 0 ∷ 32 ∷ 0 ∷ 0 ∷ 0 ∷ 32 ∷ 0 ∷ 0 ∷ 0 ∷ 32 ∷ 0 ∷ 0 ∷ 0 ∷ 32 ∷ 0 ∷ 0 ∷ 0 ∷ 32 ∷ 0 ∷ 0 ∷ 0 ∷ 32 ∷ 0 ∷ 0 ∷ 0 ∷ 32 ∷ 0 ∷ 8 ∷ 0 ∷ 16 ∷ 0 ∷ 1 ∷ 0 ∷ 0 ∷ 0 ∷ 1 ∷ 0 ∷ 0 ∷ 0 ∷ 0 ∷ 0 ∷ 255 ∷ 0 ∷ [])) (unread (numbered_refusal 5 69)) ∷
    line (reads (1 ∷ 0 ∷ 1 ∷ 0 ∷ 3 ∷ 0 ∷ 0 ∷ 32 ∷ 0 ∷ 0 ∷ 0 ∷ 32 ∷ 0 ∷ 0 ∷ 0 ∷ 32 ∷ 0 ∷ 0 ∷ 0 ∷ 32 ∷ 0 ∷ 0 ∷ 0 ∷ 32 ∷ 0 ∷ 0 ∷ 0 ∷ 32 ∷ 0 ∷ 0 ∷ 0 ∷ 32 ∷ 0 ∷ 0 ∷ 0 ∷ 32 ∷ 0 ∷ 0 ∷ 0 ∷ 32 ∷ 0 ∷ 0 ∷ 0 ∷ 32 ∷ 0 ∷ 0 ∷ 0 ∷ 32 ∷ 0 ∷ 0 ∷ 0 ∷ 32 ∷ 0 ∷ 0 ∷ 0 ∷ 32 ∷ 0 ∷ 0 ∷ 0 ∷ 32 ∷ 0 ∷ 0 ∷ 0 ∷ 32 ∷ 0 ∷ 0 ∷ 0 ∷ 32 ∷ 0 ∷ 16 ∷ 0 ∷ 16 ∷ 0 ∷ 1 ∷ 0 ∷ 0 ∷ 0 ∷ 1 ∷ 0 ∷ 0 ∷ 0 ∷ 1 ∷ 0 ∷ 0 ∷ 0 ∷ 1 ∷ 0 ∷ 0 ∷ 0 ∷ 0 ∷ 0 ∷ 255 ∷ 0 ∷ [])) (unread (numbered_refusal 5 69)) ∷
    line (reads (1 ∷ 0 ∷ 1 ∷ 0 ∷ 3 ∷ 0 ∷ 0 ∷ 32 ∷ 0 ∷ 0 ∷ 0 ∷ 32 ∷ 0 ∷ 0 ∷ 0 ∷ 32 ∷ 0 ∷ 0 ∷ 0 ∷ 32 ∷ 0 ∷ 0 ∷ 0 ∷ 32 ∷ 0 ∷ 0 ∷ 0 ∷ 32 ∷ 0 ∷ 0 ∷ 0 ∷ 32 ∷ 0 ∷ 0 ∷ 0 ∷ 32 ∷ 0 ∷ 0 ∷ 0 ∷ 32 ∷ 0 ∷ 0 ∷ 0 ∷ 32 ∷ 0 ∷ 0 ∷ 0 ∷ 32 ∷ 0 ∷ 0 ∷ 0 ∷ 32 ∷ 0 ∷ 0 ∷ 0 ∷ 32 ∷ 0 ∷ 0 ∷ 0 ∷ 32 ∷ 0 ∷ 0 ∷ 0 ∷ 32 ∷ 0 ∷ 0 ∷ 0 ∷ 32 ∷ 0 ∷ 16 ∷ 0 ∷ 16 ∷ 0 ∷ 1 ∷ 0 ∷ 0 ∷ 0 ∷ 1 ∷ 0 ∷ 0 ∷ 0 ∷ 1 ∷ 0 ∷ 0 ∷ 0 ∷ 1 ∷ 0 ∷ 0 ∷ 0 ∷ 0 ∷ 0 ∷ 255 ∷ 0 ∷ [])) (unread (numbered_refusal 5 69)) ∷
    line (reads (1 ∷ 0 ∷ 1 ∷ 0 ∷ 2 ∷ 0 ∷ 0 ∷ 34 ∷ 0 ∷ 0 ∷ 0 ∷ 34 ∷ 0 ∷ 0 ∷ 0 ∷ 34 ∷ 0 ∷ 0 ∷ 0 ∷ 34 ∷ 0 ∷ 0 ∷ 0 ∷ 34 ∷ 0 ∷ 0 ∷ 0 ∷ 34 ∷ 0 ∷ 0 ∷ 0 ∷ 34 ∷ 0 ∷ 0 ∷ 0 ∷ 34 ∷ 0 ∷ 0 ∷ 0 ∷ 34 ∷ 0 ∷ 0 ∷ 0 ∷ 34 ∷ 0 ∷ 0 ∷ 0 ∷ 34 ∷ 0 ∷ 0 ∷ 0 ∷ 34 ∷ 0 ∷ 0 ∷ 0 ∷ 34 ∷ 0 ∷ 0 ∷ 0 ∷ 34 ∷ 0 ∷ 0 ∷ 0 ∷ 34 ∷ 0 ∷ 0 ∷ 0 ∷ 34 ∷ 0 ∷ 0 ∷ 0 ∷ 34 ∷ 0 ∷ 0 ∷ 0 ∷ 34 ∷ 0 ∷ 0 ∷ 0 ∷ 34 ∷ 0 ∷ 0 ∷ 0 ∷ 34 ∷ 0 ∷ 0 ∷ 0 ∷ 34 ∷ 0 ∷ 0 ∷ 0 ∷ 34 ∷ 0 ∷ 0 ∷ 0 ∷ 34 ∷ 0 ∷ 0 ∷ 0 ∷ 34 ∷ 0 ∷ 0 ∷ 0 ∷ 34 ∷ 0 ∷ 0 ∷ 0 ∷ 34 ∷ 0 ∷ 0 ∷ 0 ∷ 34 ∷ 0 ∷ 0 ∷ 0 ∷ 34 ∷ 0 ∷ 0 ∷ 0 ∷ 34 ∷ 0 ∷ 0 ∷ 0 ∷ 34 ∷ 0 ∷ 0 ∷ 0 ∷ 34 ∷ 0 ∷ 0 ∷ 0 ∷ 34 ∷ 0 ∷ 0 ∷ 0 ∷ 34 ∷ 0 ∷ 0 ∷ 0 ∷ 34 ∷ 0 ∷ 0 ∷ 0 ∷ 34 ∷ 0 ∷ 0 ∷ 0 ∷ 34 ∷ 0 ∷ 0 ∷ 0 ∷ 34 ∷ 0 ∷ 0 ∷ 0 ∷ 34 ∷ 0 ∷ 0 ∷ 0 ∷ 34 ∷ 0 ∷ 0 ∷ 0 ∷ 34 ∷ 0 ∷ 0 ∷ 0 ∷ 34 ∷ 0 ∷ 0 ∷ 0 ∷ 34 ∷ 0 ∷ 0 ∷ 0 ∷ 34 ∷ 0 ∷ 0 ∷ 0 ∷ 34 ∷ 0 ∷ 0 ∷ 0 ∷ 34 ∷ 0 ∷ 0 ∷ 0 ∷ 34 ∷ 0 ∷ 0 ∷ 0 ∷ 34 ∷ 0 ∷ 0 ∷ 0 ∷ 34 ∷ 0 ∷ 0 ∷ 0 ∷ 34 ∷ 0 ∷ 0 ∷ 0 ∷ 34 ∷ 0 ∷ 0 ∷ 0 ∷ 34 ∷ 0 ∷ 0 ∷ 0 ∷ 34 ∷ 0 ∷ 0 ∷ 0 ∷ 34 ∷ 0 ∷ 0 ∷ 0 ∷ 34 ∷ 0 ∷ 0 ∷ 0 ∷ 34 ∷ 0 ∷ 0 ∷ 0 ∷ 34 ∷ 0 ∷ 0 ∷ 0 ∷ 34 ∷ 0 ∷ 0 ∷ 0 ∷ 34 ∷ 0 ∷ 0 ∷ 0 ∷ 34 ∷ 0 ∷ 0 ∷ 0 ∷ 34 ∷ 0 ∷ 0 ∷ 0 ∷ 34 ∷ 0 ∷ 0 ∷ 0 ∷ 34 ∷ 0 ∷ 0 ∷ 0 ∷ 34 ∷ 0 ∷ 0 ∷ 0 ∷ 34 ∷ 0 ∷ 0 ∷ 0 ∷ 34 ∷ 0 ∷ 0 ∷ 0 ∷ 34 ∷ 0 ∷ 0 ∷ 0 ∷ 34 ∷ 0 ∷ 0 ∷ 0 ∷ 34 ∷ 0 ∷ 0 ∷ 0 ∷ 34 ∷ 0 ∷ 0 ∷ 0 ∷ 34 ∷ 0 ∷ 0 ∷ 0 ∷ 33 ∷ 0 ∷ 12 ∷ 0 ∷ 17 ∷ 0 ∷ 0 ∷ 0 ∷ 0 ∷ 0 ∷ 0 ∷ 0 ∷ 0 ∷ 0 ∷ 11 ∷ 0 ∷ 0 ∷ 0 ∷ 0 ∷ 0 ∷ 33 ∷ 0 ∷ 0 ∷ 0 ∷ 34 ∷ 0 ∷ 12 ∷ 0 ∷ 17 ∷ 0 ∷ 0 ∷ 0 ∷ 0 ∷ 0 ∷ 0 ∷ 0 ∷ 0 ∷ 0 ∷ 8 ∷ 0 ∷ 0 ∷ 0 ∷ 12 ∷ 0 ∷ 17 ∷ 0 ∷ 2 ∷ 0 ∷ 0 ∷ 0 ∷ 1 ∷ 0 ∷ 0 ∷ 0 ∷ 255 ∷ 255 ∷ 255 ∷ 255 ∷ 0 ∷ 0 ∷ 32 ∷ 0 ∷ 12 ∷ 0 ∷ 17 ∷ 0 ∷ 2 ∷ 0 ∷ 0 ∷ 0 ∷ 1 ∷ 0 ∷ 0 ∷ 0 ∷ 4 ∷ 0 ∷ 0 ∷ 0 ∷ 0 ∷ 0 ∷ 255 ∷ 0 ∷ [])) (unread (numbered_refusal 5 69)) ∷
    line (reads (1 ∷ 0 ∷ 1 ∷ 0 ∷ 5 ∷ 0 ∷ 0 ∷ 33 ∷ 0 ∷ 24 ∷ 0 ∷ 17 ∷ 0 ∷ 255 ∷ 255 ∷ 255 ∷ 255 ∷ 0 ∷ 0 ∷ 0 ∷ 0 ∷ 0 ∷ 0 ∷ 0 ∷ 0 ∷ 0 ∷ 0 ∷ 0 ∷ 0 ∷ 0 ∷ 0 ∷ 0 ∷ 0 ∷ 1 ∷ 0 ∷ 0 ∷ 0 ∷ 0 ∷ 0 ∷ 32 ∷ 0 ∷ 24 ∷ 0 ∷ 16 ∷ 0 ∷ 1 ∷ 0 ∷ 0 ∷ 0 ∷ 1 ∷ 0 ∷ 0 ∷ 0 ∷ 0 ∷ 0 ∷ 0 ∷ 0 ∷ 0 ∷ 0 ∷ 0 ∷ 0 ∷ 255 ∷ 255 ∷ 255 ∷ 255 ∷ 0 ∷ 0 ∷ 0 ∷ 0 ∷ 0 ∷ 0 ∷ 255 ∷ 0 ∷ 0 ∷ [])) (unread (numbered_refusal 6 73)) ∷
    line (reads (1 ∷ 0 ∷ 1 ∷ 0 ∷ 6 ∷ 0 ∷ 0 ∷ 34 ∷ 0 ∷ 0 ∷ 0 ∷ 33 ∷ 0 ∷ 0 ∷ 0 ∷ 32 ∷ 0 ∷ 0 ∷ 0 ∷ 32 ∷ 0 ∷ 0 ∷ 0 ∷ 33 ∷ 0 ∷ 0 ∷ 0 ∷ 32 ∷ 0 ∷ 0 ∷ 0 ∷ 32 ∷ 0 ∷ 0 ∷ 0 ∷ 32 ∷ 0 ∷ 0 ∷ 0 ∷ 32 ∷ 0 ∷ 28 ∷ 0 ∷ 16 ∷ 0 ∷ 0 ∷ 0 ∷ 0 ∷ 0 ∷ 253 ∷ 255 ∷ 255 ∷ 255 ∷ 255 ∷ 255 ∷ 255 ∷ 255 ∷ 0 ∷ 0 ∷ 0 ∷ 0 ∷ 0 ∷ 0 ∷ 0 ∷ 0 ∷ 3 ∷ 0 ∷ 0 ∷ 0 ∷ 255 ∷ 255 ∷ 255 ∷ 255 ∷ 0 ∷ 0 ∷ 33 ∷ 0 ∷ 0 ∷ 0 ∷ 32 ∷ 0 ∷ 28 ∷ 0 ∷ 16 ∷ 0 ∷ 255 ∷ 255 ∷ 255 ∷ 255 ∷ 0 ∷ 0 ∷ 0 ∷ 0 ∷ 253 ∷ 255 ∷ 255 ∷ 255 ∷ 253 ∷ 255 ∷ 255 ∷ 255 ∷ 1 ∷ 0 ∷ 0 ∷ 0 ∷ 0 ∷ 0 ∷ 0 ∷ 0 ∷ 0 ∷ 0 ∷ 0 ∷ 0 ∷ 28 ∷ 0 ∷ 16 ∷ 0 ∷ 0 ∷ 0 ∷ 0 ∷ 0 ∷ 0 ∷ 0 ∷ 0 ∷ 0 ∷ 0 ∷ 0 ∷ 0 ∷ 0 ∷ 0 ∷ 0 ∷ 0 ∷ 0 ∷ 0 ∷ 0 ∷ 0 ∷ 0 ∷ 0 ∷ 0 ∷ 0 ∷ 0 ∷ 254 ∷ 255 ∷ 255 ∷ 255 ∷ 0 ∷ 0 ∷ 33 ∷ 0 ∷ 0 ∷ 0 ∷ 32 ∷ 0 ∷ 0 ∷ 0 ∷ 32 ∷ 0 ∷ 28 ∷ 0 ∷ 16 ∷ 0 ∷ 3 ∷ 0 ∷ 0 ∷ 0 ∷ 0 ∷ 0 ∷ 0 ∷ 0 ∷ 3 ∷ 0 ∷ 0 ∷ 0 ∷ 0 ∷ 0 ∷ 0 ∷ 0 ∷ 1 ∷ 0 ∷ 0 ∷ 0 ∷ 0 ∷ 0 ∷ 0 ∷ 0 ∷ 255 ∷ 255 ∷ 255 ∷ 255 ∷ 0 ∷ 0 ∷ 33 ∷ 0 ∷ 28 ∷ 0 ∷ 16 ∷ 0 ∷ 0 ∷ 0 ∷ 0 ∷ 0 ∷ 2 ∷ 0 ∷ 0 ∷ 0 ∷ 0 ∷ 0 ∷ 0 ∷ 0 ∷ 1 ∷ 0 ∷ 0 ∷ 0 ∷ 255 ∷ 255 ∷ 255 ∷ 255 ∷ 254 ∷ 255 ∷ 255 ∷ 255 ∷ 6 ∷ 0 ∷ 0 ∷ 0 ∷ 28 ∷ 0 ∷ 17 ∷ 0 ∷ 0 ∷ 0 ∷ 0 ∷ 0 ∷ 0 ∷ 0 ∷ 0 ∷ 0 ∷ 0 ∷ 0 ∷ 0 ∷ 0 ∷ 0 ∷ 0 ∷ 0 ∷ 0 ∷ 0 ∷ 0 ∷ 0 ∷ 0 ∷ 0 ∷ 0 ∷ 0 ∷ 0 ∷ 250 ∷ 255 ∷ 255 ∷ 255 ∷ 0 ∷ 0 ∷ 32 ∷ 0 ∷ 0 ∷ 0 ∷ 34 ∷ 0 ∷ 28 ∷ 0 ∷ 16 ∷ 0 ∷ 1 ∷ 0 ∷ 0 ∷ 0 ∷ 1 ∷ 0 ∷ 0 ∷ 0 ∷ 0 ∷ 0 ∷ 0 ∷ 0 ∷ 0 ∷ 0 ∷ 0 ∷ 0 ∷ 3 ∷ 0 ∷ 0 ∷ 0 ∷ 0 ∷ 0 ∷ 0 ∷ 0 ∷ 255 ∷ 255 ∷ 255 ∷ 255 ∷ 28 ∷ 0 ∷ 17 ∷ 0 ∷ 3 ∷ 0 ∷ 0 ∷ 0 ∷ 2 ∷ 0 ∷ 0 ∷ 0 ∷ 3 ∷ 0 ∷ 0 ∷ 0 ∷ 3 ∷ 0 ∷ 0 ∷ 0 ∷ 0 ∷ 0 ∷ 0 ∷ 0 ∷ 2 ∷ 0 ∷ 0 ∷ 0 ∷ 0 ∷ 0 ∷ 0 ∷ 0 ∷ 0 ∷ 0 ∷ 255 ∷ 0 ∷ 0 ∷ 0 ∷ 32 ∷ 0 ∷ [])) (unread (numbered_refusal 6 333)) ∷
    []

pub read_vectors_hold : all_given read_vectors ≡ wanted read_vectors
unfolding running
read_vectors_hold = refl

abbrev spell_vectors : List Line
spell_vectors =
    line (spells 3 3 (3 ∷ 2 ∷ 2 ∷ 3 ∷ 3 ∷ 67 ∷ 6 ∷ 3 ∷ 3 ∷ 2 ∷ [])) (spelling (Err (numbered_refusal 10 0))) ∷
    line (spells 3 3 (7 ∷ 1 ∷ 2 ∷ 0 ∷ 66 ∷ 7 ∷ 3 ∷ 3 ∷ 13 ∷ 0 ∷ [])) (spelling (Err (numbered_refusal 10 0))) ∷
    line (spells 4 2 (12 ∷ 5 ∷ 8 ∷ 15 ∷ 42 ∷ 0 ∷ 13 ∷ 6 ∷ 9 ∷ 37 ∷ [])) (spelling (Err (numbered_refusal 10 0))) ∷
    line (spells 4 1 (14 ∷ 48 ∷ 3 ∷ 10 ∷ 13 ∷ 9 ∷ 3 ∷ 8 ∷ 17 ∷ 10 ∷ [])) (spelling (Err (numbered_refusal 10 0))) ∷
    line (spells 7 2 []) (spelling (Err (numbered_refusal 4 0))) ∷
    line (spells 1 7 (0 ∷ [])) (spelling (Err (numbered_refusal 4 0))) ∷
    line (spells 4 7 []) (spelling (Err (numbered_refusal 4 0))) ∷
    line (spells 7 7 []) (spelling (Err (numbered_refusal 4 0))) ∷
    line (spells 4 4 (15 ∷ 10 ∷ 3 ∷ 10 ∷ 12 ∷ 9 ∷ 8 ∷ 2 ∷ 13 ∷ 7 ∷ 9 ∷ 6 ∷ 2 ∷ 3 ∷ 10 ∷ 12 ∷ 6 ∷ 11 ∷ 6 ∷ 12 ∷ 4 ∷ 8 ∷ 10 ∷ 9 ∷ 7 ∷ 15 ∷ 9 ∷ 9 ∷ 15 ∷ 12 ∷ 5 ∷ 7 ∷ 12 ∷ 5 ∷ 6 ∷ 14 ∷ 8 ∷ 13 ∷ 1 ∷ 12 ∷ 14 ∷ 11 ∷ 12 ∷ 4 ∷ 5 ∷ 7 ∷ 7 ∷ 5 ∷ 2 ∷ 2 ∷ 13 ∷ 7 ∷ 10 ∷ 6 ∷ 9 ∷ 3 ∷ 10 ∷ 6 ∷ 7 ∷ 2 ∷ 5 ∷ 15 ∷ 10 ∷ 13 ∷ 6 ∷ [])) (spelling (Err (numbered_refusal 9 0))) ∷
    line (spells 6 1 (4 ∷ 35 ∷ 52 ∷ 14 ∷ 57 ∷ 30 ∷ 4 ∷ 38 ∷ 49 ∷ 13 ∷ 26 ∷ 35 ∷ 59 ∷ 41 ∷ 34 ∷ 33 ∷ 49 ∷ 0 ∷ 4 ∷ 58 ∷ 49 ∷ 17 ∷ 2 ∷ 7 ∷ 8 ∷ 44 ∷ 29 ∷ 38 ∷ 39 ∷ 62 ∷ 27 ∷ 35 ∷ 1 ∷ 35 ∷ 32 ∷ 23 ∷ 1 ∷ 8 ∷ 27 ∷ 52 ∷ 62 ∷ 59 ∷ 43 ∷ 38 ∷ 9 ∷ 54 ∷ 55 ∷ 43 ∷ 27 ∷ 43 ∷ 6 ∷ 46 ∷ 2 ∷ 56 ∷ 9 ∷ 3 ∷ 49 ∷ 38 ∷ 34 ∷ 37 ∷ 4 ∷ 5 ∷ 23 ∷ 33 ∷ 46 ∷ [])) (spelling (Err (numbered_refusal 9 0))) ∷
    line (spells 6 2 (23 ∷ 29 ∷ 0 ∷ 48 ∷ 10 ∷ 9 ∷ 40 ∷ 9 ∷ 26 ∷ 6 ∷ 22 ∷ 26 ∷ 40 ∷ 51 ∷ 18 ∷ 59 ∷ 46 ∷ 61 ∷ 35 ∷ 53 ∷ 39 ∷ 39 ∷ 58 ∷ 46 ∷ 17 ∷ 49 ∷ 9 ∷ 6 ∷ 52 ∷ 39 ∷ 5 ∷ 29 ∷ 47 ∷ 44 ∷ 36 ∷ 62 ∷ 27 ∷ 60 ∷ 21 ∷ 6 ∷ 44 ∷ 12 ∷ 11 ∷ 30 ∷ 48 ∷ 15 ∷ 34 ∷ 11 ∷ 58 ∷ 4 ∷ 25 ∷ 15 ∷ 50 ∷ 18 ∷ 0 ∷ 4 ∷ 28 ∷ 12 ∷ 48 ∷ 8 ∷ 42 ∷ 28 ∷ 51 ∷ 42 ∷ 51 ∷ [])) (spelling (Err (numbered_refusal 9 0))) ∷
    line (spells 6 3 (11 ∷ 60 ∷ 58 ∷ 51 ∷ 9 ∷ 37 ∷ 58 ∷ 38 ∷ 10 ∷ 43 ∷ 50 ∷ 53 ∷ 54 ∷ 48 ∷ 50 ∷ 25 ∷ 55 ∷ 6 ∷ 50 ∷ 43 ∷ 61 ∷ 52 ∷ 3 ∷ 41 ∷ 2 ∷ 43 ∷ 63 ∷ 63 ∷ 37 ∷ 53 ∷ 12 ∷ 58 ∷ 56 ∷ 37 ∷ 6 ∷ 38 ∷ 21 ∷ 27 ∷ 35 ∷ 3 ∷ 50 ∷ 19 ∷ 31 ∷ 3 ∷ 10 ∷ 3 ∷ 33 ∷ 7 ∷ 3 ∷ 37 ∷ 27 ∷ 46 ∷ 43 ∷ 27 ∷ 40 ∷ 36 ∷ 45 ∷ 28 ∷ 40 ∷ 43 ∷ 55 ∷ 23 ∷ 21 ∷ 44 ∷ 40 ∷ [])) (spelling (Err (numbered_refusal 9 0))) ∷
    line (spells 4 4 (2 ∷ [])) (spelling (Ok 0)) ∷
    line (spells 6 3 []) (spelling (Ok 0)) ∷
    line (spells 6 2 []) (spelling (Ok 0)) ∷
    line (spells 5 3 []) (spelling (Ok 0)) ∷
    line (spells 4 1 (7 ∷ [])) (spelling (Ok 1)) ∷
    line (spells 6 4 []) (spelling (Ok 0)) ∷
    []

pub spell_vectors_hold : all_given spell_vectors ≡ wanted spell_vectors
unfolding running
spell_vectors_hold = refl

abbrev write_vectors : List Line
write_vectors =
    line (writes (question 7 (1 ∷ []) (negsuc 1 ∷ pos 5 ∷ negsuc 2 ∷ []) (pos 5 ∷ [])) 41) (unwritten 41 (numbered_refusal 4 0)) ∷
    line (writes (question 9 (1 ∷ []) (pos 1 ∷ []) (negsuc 5 ∷ [])) 1024) (unwritten 1024 (numbered_refusal 4 0)) ∷
    line (writes (question 8 (5 ∷ 4 ∷ 1 ∷ 2 ∷ 4 ∷ 3 ∷ 3 ∷ 2 ∷ 2 ∷ []) (pos 1 ∷ pos 0 ∷ pos 0 ∷ pos 0 ∷ pos 0 ∷ pos 0 ∷ pos 3 ∷ pos 0 ∷ pos 0 ∷ pos 0 ∷ pos 0 ∷ pos 0 ∷ negsuc 1 ∷ pos 0 ∷ pos 0 ∷ pos 0 ∷ pos 0 ∷ pos 0 ∷ negsuc 4 ∷ []) (pos 9 ∷ pos 0 ∷ negsuc 7 ∷ negsuc 0 ∷ [])) 22) (unwritten 22 (numbered_refusal 4 0)) ∷
    line (writes (question 7 (5 ∷ 4 ∷ 1 ∷ 3 ∷ 3 ∷ 3 ∷ 3 ∷ 1 ∷ 5 ∷ 2 ∷ 2 ∷ []) (pos 1 ∷ pos 0 ∷ pos 0 ∷ pos 0 ∷ pos 0 ∷ pos 0 ∷ negsuc 0 ∷ []) (pos 6 ∷ negsuc 5 ∷ pos 4 ∷ negsuc 3 ∷ [])) 1024) (unwritten 1024 (numbered_refusal 4 0)) ∷
    line (writes (question 8 (4 ∷ 5 ∷ 1 ∷ 4 ∷ 2 ∷ 1 ∷ 5 ∷ 4 ∷ 1 ∷ 7 ∷ 2 ∷ 5 ∷ 2 ∷ 4 ∷ 1 ∷ 1 ∷ []) (pos 34 ∷ negsuc 1 ∷ pos 0 ∷ pos 0 ∷ pos 0 ∷ pos 0 ∷ pos 23 ∷ pos 30 ∷ pos 0 ∷ pos 0 ∷ pos 0 ∷ pos 0 ∷ pos 24 ∷ pos 23 ∷ pos 0 ∷ pos 0 ∷ pos 0 ∷ pos 0 ∷ pos 15 ∷ pos 22 ∷ pos 0 ∷ pos 0 ∷ pos 0 ∷ pos 0 ∷ pos 31 ∷ negsuc 5 ∷ pos 0 ∷ pos 0 ∷ pos 0 ∷ pos 0 ∷ negsuc 18 ∷ pos 10 ∷ pos 0 ∷ pos 0 ∷ pos 0 ∷ pos 0 ∷ negsuc 17 ∷ negsuc 16 ∷ pos 0 ∷ pos 0 ∷ pos 0 ∷ pos 0 ∷ negsuc 2 ∷ negsuc 28 ∷ []) (pos 292447 ∷ negsuc 611568 ∷ pos 87690 ∷ pos 266566 ∷ negsuc 810085 ∷ pos 72421 ∷ negsuc 643276 ∷ pos 365836 ∷ [])) 1024) (unwritten 1024 (numbered_refusal 4 0)) ∷
    line (writes (question 1 (3 ∷ 1 ∷ []) (pos 3 ∷ pos 1 ∷ []) (pos 3 ∷ [])) 1024) (unwritten 1024 (numbered_refusal 6 64)) ∷
    line (writes (question 1 (4 ∷ 1 ∷ 3 ∷ 1 ∷ []) (pos 2 ∷ pos 0 ∷ pos 0 ∷ pos 0 ∷ pos 0 ∷ pos 0 ∷ pos 2 ∷ []) (negsuc 1 ∷ pos 1 ∷ pos 1 ∷ [])) 1024) (unwritten 1024 (numbered_refusal 6 64)) ∷
    line (writes (question 5 (1 ∷ []) (pos 1 ∷ negsuc 2 ∷ pos 2 ∷ negsuc 1 ∷ pos 0 ∷ pos 3 ∷ []) (pos 4 ∷ pos 0 ∷ pos 0 ∷ pos 0 ∷ pos 0 ∷ pos 1 ∷ [])) 1024) (unwritten 1024 (numbered_refusal 6 64)) ∷
    line (writes (question 1 (5 ∷ 2 ∷ 2 ∷ 0 ∷ 0 ∷ 0 ∷ 0 ∷ 0 ∷ 0 ∷ 0 ∷ 0 ∷ 0 ∷ 0 ∷ 0 ∷ 0 ∷ 0 ∷ 0 ∷ 0 ∷ 0 ∷ 0 ∷ 0 ∷ 0 ∷ 0 ∷ 0 ∷ 0 ∷ 0 ∷ 0 ∷ 0 ∷ 0 ∷ 0 ∷ 0 ∷ 0 ∷ 2 ∷ []) (negsuc 1 ∷ pos 0 ∷ pos 0 ∷ pos 0 ∷ pos 0 ∷ pos 0 ∷ pos 1 ∷ []) (negsuc 0 ∷ pos 1 ∷ [])) 1024) (unwritten 1024 (numbered_refusal 6 32)) ∷
    line (writes (question 2 (4 ∷ 4 ∷ 1 ∷ 4 ∷ 2 ∷ 2 ∷ 2 ∷ []) (pos 202 ∷ pos 155 ∷ pos 61 ∷ negsuc 174 ∷ negsuc 6 ∷ pos 0 ∷ pos 143 ∷ negsuc 159 ∷ pos 50 ∷ negsuc 277 ∷ negsuc 21 ∷ pos 4096 ∷ pos 144 ∷ negsuc 238 ∷ pos 226 ∷ pos 113 ∷ pos 268 ∷ pos 0 ∷ negsuc 245 ∷ pos 188 ∷ pos 275 ∷ pos 275 ∷ pos 260 ∷ []) (pos 8 ∷ pos 10 ∷ pos 1 ∷ [])) 1024) (unwritten 1024 (numbered_refusal 6 64)) ∷
    line (writes (question 1 (5 ∷ 2 ∷ 2 ∷ []) (pos 2 ∷ []) (negsuc 1 ∷ negsuc 0 ∷ [])) 20) (unwritten 20 (numbered_refusal 8 0)) ∷
    line (writes (question 4 (5 ∷ 3 ∷ 1 ∷ 1 ∷ []) (negsuc 4 ∷ negsuc 2 ∷ pos 2 ∷ pos 5 ∷ pos 0 ∷ pos 0 ∷ pos 0 ∷ negsuc 3 ∷ negsuc 4 ∷ pos 5 ∷ []) (pos 0 ∷ negsuc 1 ∷ [])) 10) (unwritten 10 (numbered_refusal 8 0)) ∷
    line (writes (question 1 (3 ∷ 4 ∷ 1 ∷ 1 ∷ []) (pos 2676 ∷ pos 0 ∷ pos 0 ∷ pos 0 ∷ pos 0 ∷ pos 0 ∷ pos 2073 ∷ []) (negsuc 4824 ∷ negsuc 2435 ∷ [])) 39) (unwritten 39 (numbered_refusal 8 0)) ∷
    line (writes (question 6 (4 ∷ 4 ∷ 4 ∷ 3 ∷ 2 ∷ 3 ∷ 4 ∷ 3 ∷ 1 ∷ 3 ∷ 2 ∷ 2 ∷ 1 ∷ []) (pos 2 ∷ negsuc 0 ∷ negsuc 8 ∷ negsuc 0 ∷ pos 6 ∷ pos 8 ∷ negsuc 6 ∷ pos 0 ∷ pos 2 ∷ pos 7 ∷ negsuc 3 ∷ pos 7 ∷ pos 0 ∷ negsuc 4 ∷ pos 5 ∷ negsuc 0 ∷ negsuc 7 ∷ pos 9 ∷ pos 6 ∷ pos 3 ∷ negsuc 6 ∷ pos 9 ∷ pos 9 ∷ negsuc 3 ∷ pos 2 ∷ pos 6 ∷ negsuc 7 ∷ pos 1 ∷ pos 5 ∷ negsuc 1 ∷ []) (negsuc 0 ∷ negsuc 0 ∷ pos 1 ∷ pos 1 ∷ negsuc 0 ∷ [])) 35) (unwritten 35 (numbered_refusal 8 0)) ∷
    line (writes (question 1 (5 ∷ 4 ∷ 3 ∷ 5 ∷ 3 ∷ 5 ∷ 2 ∷ 2 ∷ 3 ∷ 4 ∷ 4 ∷ 3 ∷ 2 ∷ 1 ∷ 4 ∷ 2 ∷ 2 ∷ 2 ∷ 3 ∷ 1 ∷ []) (negsuc 162 ∷ pos 0 ∷ pos 0 ∷ pos 0 ∷ pos 0 ∷ pos 0 ∷ negsuc 174 ∷ pos 0 ∷ pos 0 ∷ pos 0 ∷ pos 0 ∷ pos 0 ∷ negsuc 287 ∷ pos 0 ∷ pos 0 ∷ pos 0 ∷ pos 0 ∷ pos 0 ∷ pos 148 ∷ pos 0 ∷ pos 0 ∷ pos 0 ∷ pos 0 ∷ pos 0 ∷ pos 98 ∷ pos 0 ∷ pos 0 ∷ pos 0 ∷ pos 0 ∷ pos 0 ∷ negsuc 26 ∷ pos 0 ∷ pos 0 ∷ pos 0 ∷ pos 0 ∷ pos 0 ∷ negsuc 259 ∷ pos 0 ∷ pos 0 ∷ pos 0 ∷ pos 0 ∷ pos 0 ∷ pos 60 ∷ []) (negsuc 741419 ∷ pos 742705 ∷ pos 767591 ∷ negsuc 682413 ∷ negsuc 989109 ∷ negsuc 181677 ∷ negsuc 267852 ∷ pos 913725 ∷ [])) 48) (unwritten 48 (numbered_refusal 8 0)) ∷
    line (writes (question 1 (3 ∷ 2 ∷ []) [] (pos 6 ∷ [])) 1024) (written_in 1024 (1 ∷ 0 ∷ 1 ∷ 0 ∷ 1 ∷ 0 ∷ 0 ∷ 32 ∷ 0 ∷ 8 ∷ 0 ∷ 17 ∷ 0 ∷ 0 ∷ 0 ∷ 0 ∷ 0 ∷ 6 ∷ 0 ∷ 0 ∷ 0 ∷ 0 ∷ 0 ∷ 255 ∷ 0 ∷ [])) ∷
    line (writes (question 1 (3 ∷ 1 ∷ []) (negsuc 1 ∷ []) (negsuc 1 ∷ [])) 1024) (written_in 1024 (1 ∷ 0 ∷ 1 ∷ 0 ∷ 1 ∷ 0 ∷ 0 ∷ 32 ∷ 0 ∷ 8 ∷ 0 ∷ 16 ∷ 0 ∷ 254 ∷ 255 ∷ 255 ∷ 255 ∷ 254 ∷ 255 ∷ 255 ∷ 255 ∷ 0 ∷ 0 ∷ 255 ∷ 0 ∷ [])) ∷
    line (writes (question 2 (2 ∷ []) (pos 1 ∷ negsuc 0 ∷ []) (pos 891643 ∷ [])) 1024) (written_in 1024 (1 ∷ 0 ∷ 1 ∷ 0 ∷ 2 ∷ 12 ∷ 0 ∷ 17 ∷ 0 ∷ 1 ∷ 0 ∷ 0 ∷ 0 ∷ 255 ∷ 255 ∷ 255 ∷ 255 ∷ 251 ∷ 154 ∷ 13 ∷ 0 ∷ 0 ∷ 0 ∷ 255 ∷ 0 ∷ [])) ∷
    line (writes (question 2 (2 ∷ []) (negsuc 3704 ∷ pos 3811 ∷ []) (pos 1 ∷ [])) 1024) (written_in 1024 (1 ∷ 0 ∷ 1 ∷ 0 ∷ 2 ∷ 12 ∷ 0 ∷ 17 ∷ 0 ∷ 135 ∷ 241 ∷ 255 ∷ 255 ∷ 227 ∷ 14 ∷ 0 ∷ 0 ∷ 1 ∷ 0 ∷ 0 ∷ 0 ∷ 0 ∷ 0 ∷ 255 ∷ 0 ∷ [])) ∷
    line (writes (question 4 (2 ∷ []) (pos 2 ∷ negsuc 0 ∷ negsuc 2 ∷ pos 5 ∷ []) (negsuc 1 ∷ [])) 1024) (written_in 1024 (1 ∷ 0 ∷ 1 ∷ 0 ∷ 4 ∷ 20 ∷ 0 ∷ 17 ∷ 0 ∷ 2 ∷ 0 ∷ 0 ∷ 0 ∷ 255 ∷ 255 ∷ 255 ∷ 255 ∷ 253 ∷ 255 ∷ 255 ∷ 255 ∷ 5 ∷ 0 ∷ 0 ∷ 0 ∷ 254 ∷ 255 ∷ 255 ∷ 255 ∷ 0 ∷ 0 ∷ 255 ∷ 0 ∷ [])) ∷
    line (writes (question 5 (1 ∷ []) (negsuc 0 ∷ pos 2 ∷ pos 0 ∷ negsuc 0 ∷ []) []) 48) (written_in 48 (1 ∷ 0 ∷ 1 ∷ 0 ∷ 5 ∷ 24 ∷ 0 ∷ 16 ∷ 0 ∷ 255 ∷ 255 ∷ 255 ∷ 255 ∷ 2 ∷ 0 ∷ 0 ∷ 0 ∷ 0 ∷ 0 ∷ 0 ∷ 0 ∷ 255 ∷ 255 ∷ 255 ∷ 255 ∷ 0 ∷ 0 ∷ 0 ∷ 0 ∷ 0 ∷ 0 ∷ 0 ∷ 0 ∷ 0 ∷ 0 ∷ 255 ∷ 0 ∷ [])) ∷
    line (writes (question 6 (4 ∷ 4 ∷ 3 ∷ 4 ∷ 5 ∷ 2 ∷ 2 ∷ 2 ∷ 4 ∷ 1 ∷ 3 ∷ 3 ∷ 1 ∷ 5 ∷ 4 ∷ 1 ∷ 2 ∷ 2 ∷ []) (negsuc 1 ∷ pos 1 ∷ pos 0 ∷ pos 0 ∷ pos 0 ∷ negsuc 1 ∷ pos 1 ∷ pos 3 ∷ pos 2 ∷ pos 3 ∷ pos 2 ∷ pos 3 ∷ negsuc 1 ∷ negsuc 2 ∷ pos 2 ∷ pos 2 ∷ negsuc 2 ∷ pos 1 ∷ negsuc 0 ∷ negsuc 1 ∷ pos 0 ∷ negsuc 2 ∷ pos 2 ∷ pos 0 ∷ negsuc 1 ∷ pos 0 ∷ pos 3 ∷ negsuc 0 ∷ pos 1 ∷ negsuc 2 ∷ negsuc 1 ∷ negsuc 0 ∷ negsuc 0 ∷ pos 3 ∷ pos 2 ∷ negsuc 1 ∷ negsuc 2 ∷ negsuc 0 ∷ pos 3 ∷ negsuc 0 ∷ pos 0 ∷ negsuc 2 ∷ negsuc 0 ∷ negsuc 2 ∷ pos 3 ∷ negsuc 1 ∷ negsuc 0 ∷ negsuc 1 ∷ []) (negsuc 3 ∷ pos 14 ∷ pos 3 ∷ pos 10 ∷ negsuc 17 ∷ negsuc 6 ∷ negsuc 2 ∷ pos 3 ∷ [])) 1024) (written_in 1024 (1 ∷ 0 ∷ 1 ∷ 0 ∷ 6 ∷ 0 ∷ 0 ∷ 33 ∷ 0 ∷ 0 ∷ 0 ∷ 33 ∷ 0 ∷ 0 ∷ 0 ∷ 32 ∷ 0 ∷ 0 ∷ 0 ∷ 33 ∷ 0 ∷ 0 ∷ 0 ∷ 34 ∷ 0 ∷ 28 ∷ 0 ∷ 17 ∷ 0 ∷ 254 ∷ 255 ∷ 255 ∷ 255 ∷ 1 ∷ 0 ∷ 0 ∷ 0 ∷ 0 ∷ 0 ∷ 0 ∷ 0 ∷ 0 ∷ 0 ∷ 0 ∷ 0 ∷ 0 ∷ 0 ∷ 0 ∷ 0 ∷ 254 ∷ 255 ∷ 255 ∷ 255 ∷ 252 ∷ 255 ∷ 255 ∷ 255 ∷ 28 ∷ 0 ∷ 17 ∷ 0 ∷ 1 ∷ 0 ∷ 0 ∷ 0 ∷ 3 ∷ 0 ∷ 0 ∷ 0 ∷ 2 ∷ 0 ∷ 0 ∷ 0 ∷ 3 ∷ 0 ∷ 0 ∷ 0 ∷ 2 ∷ 0 ∷ 0 ∷ 0 ∷ 3 ∷ 0 ∷ 0 ∷ 0 ∷ 14 ∷ 0 ∷ 0 ∷ 0 ∷ 28 ∷ 0 ∷ 17 ∷ 0 ∷ 254 ∷ 255 ∷ 255 ∷ 255 ∷ 253 ∷ 255 ∷ 255 ∷ 255 ∷ 2 ∷ 0 ∷ 0 ∷ 0 ∷ 2 ∷ 0 ∷ 0 ∷ 0 ∷ 253 ∷ 255 ∷ 255 ∷ 255 ∷ 1 ∷ 0 ∷ 0 ∷ 0 ∷ 3 ∷ 0 ∷ 0 ∷ 0 ∷ 0 ∷ 0 ∷ 33 ∷ 0 ∷ 28 ∷ 0 ∷ 16 ∷ 0 ∷ 255 ∷ 255 ∷ 255 ∷ 255 ∷ 254 ∷ 255 ∷ 255 ∷ 255 ∷ 0 ∷ 0 ∷ 0 ∷ 0 ∷ 253 ∷ 255 ∷ 255 ∷ 255 ∷ 2 ∷ 0 ∷ 0 ∷ 0 ∷ 0 ∷ 0 ∷ 0 ∷ 0 ∷ 10 ∷ 0 ∷ 0 ∷ 0 ∷ 0 ∷ 0 ∷ 32 ∷ 0 ∷ 0 ∷ 0 ∷ 32 ∷ 0 ∷ 28 ∷ 0 ∷ 16 ∷ 0 ∷ 254 ∷ 255 ∷ 255 ∷ 255 ∷ 0 ∷ 0 ∷ 0 ∷ 0 ∷ 3 ∷ 0 ∷ 0 ∷ 0 ∷ 255 ∷ 255 ∷ 255 ∷ 255 ∷ 1 ∷ 0 ∷ 0 ∷ 0 ∷ 253 ∷ 255 ∷ 255 ∷ 255 ∷ 238 ∷ 255 ∷ 255 ∷ 255 ∷ 0 ∷ 0 ∷ 34 ∷ 0 ∷ 0 ∷ 0 ∷ 33 ∷ 0 ∷ 28 ∷ 0 ∷ 16 ∷ 0 ∷ 254 ∷ 255 ∷ 255 ∷ 255 ∷ 255 ∷ 255 ∷ 255 ∷ 255 ∷ 255 ∷ 255 ∷ 255 ∷ 255 ∷ 3 ∷ 0 ∷ 0 ∷ 0 ∷ 2 ∷ 0 ∷ 0 ∷ 0 ∷ 254 ∷ 255 ∷ 255 ∷ 255 ∷ 249 ∷ 255 ∷ 255 ∷ 255 ∷ 28 ∷ 0 ∷ 17 ∷ 0 ∷ 253 ∷ 255 ∷ 255 ∷ 255 ∷ 255 ∷ 255 ∷ 255 ∷ 255 ∷ 3 ∷ 0 ∷ 0 ∷ 0 ∷ 255 ∷ 255 ∷ 255 ∷ 255 ∷ 0 ∷ 0 ∷ 0 ∷ 0 ∷ 253 ∷ 255 ∷ 255 ∷ 255 ∷ 253 ∷ 255 ∷ 255 ∷ 255 ∷ 28 ∷ 0 ∷ 17 ∷ 0 ∷ 255 ∷ 255 ∷ 255 ∷ 255 ∷ 253 ∷ 255 ∷ 255 ∷ 255 ∷ 3 ∷ 0 ∷ 0 ∷ 0 ∷ 254 ∷ 255 ∷ 255 ∷ 255 ∷ 255 ∷ 255 ∷ 255 ∷ 255 ∷ 254 ∷ 255 ∷ 255 ∷ 255 ∷ 3 ∷ 0 ∷ 0 ∷ 0 ∷ 0 ∷ 0 ∷ 255 ∷ 0 ∷ [])) ∷
    line (writes (question 3 (5 ∷ 5 ∷ 3 ∷ 3 ∷ 3 ∷ 3 ∷ 3 ∷ 3 ∷ 3 ∷ 3 ∷ 3 ∷ 1 ∷ 5 ∷ 3 ∷ 3 ∷ 3 ∷ 3 ∷ 3 ∷ 3 ∷ 3 ∷ 3 ∷ 3 ∷ 1 ∷ 3 ∷ 3 ∷ 3 ∷ 3 ∷ 3 ∷ 3 ∷ 3 ∷ 3 ∷ 3 ∷ 1 ∷ 5 ∷ 3 ∷ 3 ∷ 3 ∷ 3 ∷ 3 ∷ 3 ∷ 3 ∷ 3 ∷ 3 ∷ 1 ∷ 5 ∷ 3 ∷ 3 ∷ 3 ∷ 3 ∷ 3 ∷ 3 ∷ 3 ∷ 3 ∷ 1 ∷ 3 ∷ 3 ∷ 3 ∷ 3 ∷ 3 ∷ 3 ∷ 3 ∷ 3 ∷ 1 ∷ []) (pos 1 ∷ pos 1 ∷ pos 1 ∷ pos 0 ∷ pos 0 ∷ pos 0 ∷ pos 1 ∷ pos 1 ∷ pos 1 ∷ pos 0 ∷ pos 0 ∷ pos 0 ∷ pos 1 ∷ pos 1 ∷ pos 1 ∷ pos 0 ∷ pos 0 ∷ pos 0 ∷ pos 1 ∷ pos 1 ∷ pos 4097 ∷ pos 0 ∷ pos 0 ∷ pos 0 ∷ pos 1 ∷ pos 1 ∷ pos 1 ∷ pos 0 ∷ pos 0 ∷ pos 0 ∷ pos 1 ∷ pos 1 ∷ pos 1 ∷ []) (pos 1 ∷ pos 1 ∷ pos 1 ∷ pos 1 ∷ pos 1 ∷ pos 1 ∷ [])) 32) (unwritten 32 (numbered_refusal 12 43)) ∷
    line (writes (question 2 (3 ∷ 1 ∷ []) (pos 4097 ∷ negsuc 1 ∷ []) (pos 0 ∷ pos 0 ∷ pos 0 ∷ pos 0 ∷ pos 0 ∷ pos 0 ∷ pos 0 ∷ pos 1 ∷ [])) 1024) (unwritten 1024 (numbered_refusal 12 1)) ∷
    line (writes (question 3 (1 ∷ 0 ∷ 0 ∷ 0 ∷ 0 ∷ 0 ∷ 0 ∷ 0 ∷ 0 ∷ 0 ∷ 0 ∷ 0 ∷ 0 ∷ 0 ∷ 0 ∷ 0 ∷ 0 ∷ 0 ∷ 0 ∷ 0 ∷ 0 ∷ 0 ∷ 0 ∷ 0 ∷ 0 ∷ 0 ∷ 0 ∷ 0 ∷ 0 ∷ 0 ∷ 0 ∷ 0 ∷ 0 ∷ 0 ∷ 0 ∷ 0 ∷ 0 ∷ 0 ∷ 0 ∷ 0 ∷ 0 ∷ 0 ∷ 0 ∷ 0 ∷ 0 ∷ 0 ∷ 0 ∷ 0 ∷ 0 ∷ 0 ∷ 0 ∷ 0 ∷ 0 ∷ 0 ∷ 0 ∷ 0 ∷ 0 ∷ 0 ∷ 0 ∷ 0 ∷ 0 ∷ 0 ∷ 0 ∷ 6 ∷ []) (pos 7 ∷ pos 0 ∷ pos 4097 ∷ []) (pos 36 ∷ [])) 1024) (unwritten 1024 (numbered_refusal 12 0)) ∷
    line (writes (question 5 (5 ∷ 1 ∷ 2 ∷ []) (pos 8 ∷ pos 65536 ∷ negsuc 4096 ∷ pos 5 ∷ pos 5 ∷ pos 0 ∷ pos 5 ∷ pos 9 ∷ pos 3 ∷ pos 7 ∷ pos 4096 ∷ []) (pos 1 ∷ pos 1 ∷ [])) 72) (unwritten 72 (numbered_refusal 12 1)) ∷
    line (writes (question 5 (4 ∷ 4 ∷ 4 ∷ 3 ∷ 1 ∷ 3 ∷ 3 ∷ 3 ∷ 2 ∷ 1 ∷ 4 ∷ 4 ∷ 2 ∷ 3 ∷ 5 ∷ 2 ∷ 1 ∷ 4 ∷ 2 ∷ 1 ∷ []) (pos 18 ∷ pos 34 ∷ pos 8 ∷ pos 33 ∷ pos 31 ∷ pos 0 ∷ pos 4097 ∷ pos 0 ∷ pos 0 ∷ pos 0 ∷ pos 0 ∷ pos 0 ∷ pos 0 ∷ pos 23 ∷ pos 0 ∷ pos 14 ∷ negsuc 30 ∷ pos 0 ∷ pos 0 ∷ pos 0 ∷ pos 0 ∷ negsuc 4 ∷ pos 0 ∷ pos 0 ∷ pos 0 ∷ pos 0 ∷ pos 0 ∷ pos 0 ∷ negsuc 3 ∷ pos 0 ∷ negsuc 26 ∷ pos 0 ∷ negsuc 0 ∷ negsuc 7 ∷ pos 37 ∷ pos 0 ∷ negsuc 12 ∷ negsuc 7 ∷ pos 0 ∷ pos 35 ∷ pos 12 ∷ pos 0 ∷ pos 37 ∷ pos 35 ∷ pos 8 ∷ pos 9 ∷ pos 34 ∷ []) (pos 1 ∷ negsuc 143379 ∷ negsuc 293090 ∷ negsuc 27849 ∷ negsuc 0 ∷ pos 83172 ∷ pos 266763 ∷ negsuc 234006 ∷ [])) 1024) (unwritten 1024 (numbered_refusal 12 8)) ∷
    line (writes (question 2 (1 ∷ []) (negsuc 2 ∷ []) (pos 1000001 ∷ [])) 49) (unwritten 49 (numbered_refusal 13 0)) ∷
    line (writes (question 2 (3 ∷ 3 ∷ 4 ∷ 1 ∷ 3 ∷ 4 ∷ 5 ∷ 1 ∷ 1 ∷ 2 ∷ []) (pos 0 ∷ pos 0 ∷ pos 0 ∷ pos 0 ∷ pos 0 ∷ pos 0 ∷ negsuc 0 ∷ pos 0 ∷ pos 0 ∷ pos 0 ∷ pos 0 ∷ pos 0 ∷ pos 1 ∷ pos 0 ∷ pos 0 ∷ pos 0 ∷ pos 0 ∷ pos 0 ∷ negsuc 0 ∷ []) (pos 0 ∷ pos 0 ∷ pos 1000000 ∷ pos 1000001 ∷ [])) 1024) (unwritten 1024 (numbered_refusal 13 9)) ∷
    line (writes (question 2 (4 ∷ 1 ∷ 4 ∷ 1 ∷ 4 ∷ 1 ∷ 4 ∷ 1 ∷ 4 ∷ 1 ∷ 4 ∷ 1 ∷ 4 ∷ 1 ∷ 1 ∷ 0 ∷ 0 ∷ 0 ∷ 0 ∷ 0 ∷ 0 ∷ 0 ∷ 0 ∷ 0 ∷ 0 ∷ 0 ∷ 0 ∷ 0 ∷ 0 ∷ 0 ∷ 0 ∷ 0 ∷ 0 ∷ 0 ∷ 0 ∷ 0 ∷ 0 ∷ 0 ∷ 0 ∷ 0 ∷ 0 ∷ 0 ∷ 0 ∷ 0 ∷ 0 ∷ 0 ∷ 0 ∷ 0 ∷ 0 ∷ 0 ∷ 0 ∷ 0 ∷ 0 ∷ 0 ∷ 0 ∷ 0 ∷ 0 ∷ 0 ∷ 0 ∷ 0 ∷ 0 ∷ 0 ∷ 0 ∷ 3 ∷ []) (pos 1 ∷ pos 0 ∷ pos 0 ∷ pos 0 ∷ pos 0 ∷ pos 0 ∷ pos 1 ∷ pos 0 ∷ pos 0 ∷ pos 0 ∷ pos 0 ∷ pos 0 ∷ pos 1 ∷ pos 0 ∷ pos 0 ∷ pos 0 ∷ pos 0 ∷ pos 0 ∷ pos 1 ∷ pos 0 ∷ pos 0 ∷ pos 0 ∷ pos 0 ∷ pos 0 ∷ pos 1 ∷ pos 0 ∷ pos 0 ∷ pos 0 ∷ pos 0 ∷ pos 0 ∷ pos 1 ∷ pos 0 ∷ pos 0 ∷ pos 0 ∷ pos 0 ∷ pos 0 ∷ pos 1 ∷ pos 0 ∷ pos 0 ∷ pos 0 ∷ pos 0 ∷ pos 0 ∷ pos 1 ∷ []) (pos 1 ∷ pos 1 ∷ pos 1 ∷ negsuc 2147483647 ∷ pos 1 ∷ pos 1 ∷ pos 1 ∷ pos 1000000 ∷ [])) 1024) (unwritten 1024 (numbered_refusal 13 7)) ∷
    line (writes (question 1 (5 ∷ 0 ∷ 0 ∷ 0 ∷ 0 ∷ 0 ∷ 0 ∷ 0 ∷ 0 ∷ 0 ∷ 0 ∷ 0 ∷ 0 ∷ 0 ∷ 0 ∷ 0 ∷ 0 ∷ 0 ∷ 0 ∷ 0 ∷ 0 ∷ 0 ∷ 0 ∷ 0 ∷ 0 ∷ 0 ∷ 0 ∷ 0 ∷ 0 ∷ 0 ∷ 0 ∷ 0 ∷ 0 ∷ 0 ∷ 0 ∷ 0 ∷ 0 ∷ 0 ∷ 0 ∷ 0 ∷ 0 ∷ 0 ∷ 0 ∷ 0 ∷ 0 ∷ 0 ∷ 0 ∷ 0 ∷ 0 ∷ 0 ∷ 0 ∷ 0 ∷ 0 ∷ 0 ∷ 0 ∷ 0 ∷ 0 ∷ 0 ∷ 0 ∷ 0 ∷ 0 ∷ 0 ∷ 0 ∷ 6 ∷ []) [] (pos 1 ∷ [])) 1024) (unwritten 1024 (numbered_refusal 2 1)) ∷
    line (writes (question 6 (4 ∷ 4 ∷ 3 ∷ 3 ∷ 3 ∷ 2 ∷ []) (pos 3 ∷ pos 6 ∷ pos 0 ∷ pos 1 ∷ pos 7 ∷ pos 6 ∷ pos 5 ∷ pos 1 ∷ pos 6 ∷ pos 9 ∷ pos 6 ∷ pos 7 ∷ []) (negsuc 0 ∷ negsuc 0 ∷ [])) 1024) (unwritten 1024 (numbered_refusal 2 6)) ∷
    line (writes (question 3 (4 ∷ 0 ∷ 5 ∷ 2 ∷ 4 ∷ 2 ∷ 1 ∷ []) (pos 33 ∷ pos 27 ∷ pos 0 ∷ pos 0 ∷ pos 0 ∷ pos 0 ∷ pos 0 ∷ pos 0 ∷ pos 4097 ∷ pos 0 ∷ pos 0 ∷ pos 0 ∷ negsuc 26 ∷ pos 8 ∷ pos 0 ∷ pos 0 ∷ pos 0 ∷ pos 0 ∷ pos 2 ∷ pos 23 ∷ pos 18 ∷ []) (pos 1 ∷ negsuc 28 ∷ pos 0 ∷ negsuc 5 ∷ [])) 1024) (unwritten 1024 (numbered_refusal 2 1)) ∷
    line (writes (question 0 (5 ∷ 1 ∷ 4 ∷ 5 ∷ 1 ∷ 2 ∷ 2 ∷ []) (pos 0 ∷ pos 2 ∷ pos 3 ∷ pos 0 ∷ pos 0 ∷ pos 0 ∷ pos 1 ∷ pos 1 ∷ pos 0 ∷ pos 0 ∷ pos 0 ∷ pos 0 ∷ pos 2 ∷ pos 1 ∷ pos 2 ∷ pos 0 ∷ pos 0 ∷ pos 0 ∷ pos 0 ∷ negsuc 2 ∷ []) (pos 0 ∷ pos 1 ∷ pos 1 ∷ pos 1 ∷ [])) 1024) (unwritten 1024 (numbered_refusal 4 0)) ∷
    line (writes (question 255 (3 ∷ 4 ∷ 3 ∷ 4 ∷ 3 ∷ 3 ∷ 2 ∷ 4 ∷ 3 ∷ 1 ∷ 3 ∷ 3 ∷ 1 ∷ 1 ∷ []) (pos 0 ∷ pos 0 ∷ pos 0 ∷ pos 0 ∷ pos 0 ∷ pos 0 ∷ pos 0 ∷ pos 1 ∷ pos 1 ∷ pos 0 ∷ pos 0 ∷ pos 1 ∷ negsuc 0 ∷ negsuc 0 ∷ pos 0 ∷ pos 0 ∷ pos 1 ∷ []) (negsuc 0 ∷ negsuc 0 ∷ pos 1 ∷ [])) 1024) (unwritten 1024 (numbered_refusal 4 0)) ∷
    line (writes (question 0 (4 ∷ 2 ∷ 3 ∷ 2 ∷ []) (pos 1 ∷ negsuc 2 ∷ negsuc 7 ∷ pos 0 ∷ pos 0 ∷ pos 0 ∷ pos 3 ∷ pos 4096 ∷ pos 4 ∷ []) (negsuc 0 ∷ negsuc 0 ∷ [])) 1024) (unwritten 1024 (numbered_refusal 4 0)) ∷
    line (writes (question 255 (4 ∷ 3 ∷ 2 ∷ 4 ∷ 2 ∷ 4 ∷ 1 ∷ 2 ∷ []) (pos 1 ∷ pos 0 ∷ pos 0 ∷ pos 0 ∷ pos 0 ∷ pos 0 ∷ pos 1 ∷ pos 0 ∷ pos 0 ∷ pos 0 ∷ pos 0 ∷ pos 0 ∷ negsuc 4096 ∷ pos 0 ∷ pos 0 ∷ pos 0 ∷ pos 0 ∷ pos 0 ∷ pos 3 ∷ []) (negsuc 0 ∷ pos 1 ∷ negsuc 0 ∷ negsuc 0 ∷ [])) 1024) (unwritten 1024 (numbered_refusal 4 0)) ∷
    line (writes (question 0 (5 ∷ 4 ∷ 3 ∷ 3 ∷ 2 ∷ 3 ∷ 3 ∷ 6 ∷ 4 ∷ 4 ∷ 1 ∷ 4 ∷ 1 ∷ 3 ∷ 1 ∷ 3 ∷ 3 ∷ 2 ∷ 2 ∷ 4 ∷ 3 ∷ 2 ∷ 2 ∷ []) (pos 3427 ∷ pos 611 ∷ pos 629 ∷ pos 3473 ∷ pos 0 ∷ pos 0 ∷ pos 2531 ∷ pos 4082 ∷ pos 2216 ∷ pos 1391 ∷ pos 0 ∷ pos 0 ∷ negsuc 212 ∷ pos 0 ∷ negsuc 1638 ∷ pos 743 ∷ pos 0 ∷ pos 0 ∷ pos 0 ∷ pos 922 ∷ pos 0 ∷ pos 3141 ∷ pos 0 ∷ pos 0 ∷ pos 2603 ∷ negsuc 3332 ∷ pos 0 ∷ pos 0 ∷ pos 0 ∷ pos 0 ∷ pos 0 ∷ negsuc 3464 ∷ []) (pos 1379 ∷ negsuc 992 ∷ pos 0 ∷ negsuc 3658 ∷ pos 1627 ∷ negsuc 4996 ∷ negsuc 3259 ∷ [])) 1024) (unwritten 1024 (numbered_refusal 4 0)) ∷
    line (writes (question 2 (4 ∷ 1 ∷ 4 ∷ 1 ∷ 4 ∷ 1 ∷ 4 ∷ 1 ∷ 4 ∷ 1 ∷ 4 ∷ 1 ∷ 4 ∷ 1 ∷ 4 ∷ 1 ∷ 1 ∷ []) (pos 1 ∷ pos 1 ∷ pos 0 ∷ pos 0 ∷ pos 0 ∷ pos 0 ∷ pos 1 ∷ pos 1 ∷ pos 0 ∷ pos 0 ∷ pos 0 ∷ pos 0 ∷ pos 1 ∷ pos 1 ∷ pos 0 ∷ pos 0 ∷ pos 0 ∷ pos 0 ∷ pos 1 ∷ pos 1 ∷ pos 0 ∷ pos 0 ∷ pos 0 ∷ pos 0 ∷ pos 1 ∷ pos 1 ∷ pos 0 ∷ pos 0 ∷ pos 0 ∷ pos 0 ∷ pos 1 ∷ pos 1 ∷ pos 0 ∷ pos 0 ∷ pos 0 ∷ pos 0 ∷ pos 1 ∷ pos 1 ∷ pos 0 ∷ pos 0 ∷ pos 0 ∷ pos 0 ∷ pos 1 ∷ pos 1 ∷ []) (pos 1 ∷ pos 1 ∷ pos 1 ∷ pos 1 ∷ pos 1 ∷ pos 1 ∷ pos 1 ∷ pos 1 ∷ [])) 1024) (unwritten 1024 (numbered_refusal 5 16)) ∷
    line (writes (question 2 (3 ∷ 3 ∷ 3 ∷ 3 ∷ 3 ∷ 3 ∷ 3 ∷ 3 ∷ 3 ∷ 3 ∷ 3 ∷ 3 ∷ 3 ∷ 3 ∷ 3 ∷ 3 ∷ 1 ∷ []) (pos 1 ∷ pos 1 ∷ []) (pos 1 ∷ [])) 1024) (unwritten 1024 (numbered_refusal 5 16)) ∷
    line (writes (question 2 (3 ∷ 3 ∷ 3 ∷ 3 ∷ 3 ∷ 3 ∷ 3 ∷ 3 ∷ 3 ∷ 3 ∷ 3 ∷ 3 ∷ 3 ∷ 3 ∷ 3 ∷ 3 ∷ 1 ∷ []) (pos 1 ∷ pos 1 ∷ []) (pos 1 ∷ [])) 1024) (unwritten 1024 (numbered_refusal 5 16)) ∷
    line (writes (question 3 (3 ∷ 3 ∷ 3 ∷ 3 ∷ 3 ∷ 3 ∷ 3 ∷ 3 ∷ 3 ∷ 3 ∷ 3 ∷ 3 ∷ 3 ∷ 3 ∷ 3 ∷ 3 ∷ 1 ∷ []) (pos 1 ∷ pos 1 ∷ pos 1 ∷ []) (pos 1 ∷ [])) 1024) (unwritten 1024 (numbered_refusal 5 16)) ∷
    line (writes (question 1 (3 ∷ 3 ∷ 3 ∷ 3 ∷ 3 ∷ 3 ∷ 3 ∷ 3 ∷ 3 ∷ 3 ∷ 3 ∷ 3 ∷ 3 ∷ 3 ∷ 3 ∷ 3 ∷ 1 ∷ []) (pos 1 ∷ pos 0 ∷ pos 0 ∷ pos 0 ∷ pos 0 ∷ pos 0 ∷ pos 0 ∷ pos 0 ∷ pos 0 ∷ pos 0 ∷ pos 0 ∷ pos 0 ∷ pos 0 ∷ pos 0 ∷ pos 0 ∷ pos 0 ∷ pos 0 ∷ pos 0 ∷ pos 0 ∷ pos 0 ∷ pos 0 ∷ pos 0 ∷ pos 0 ∷ pos 0 ∷ pos 0 ∷ pos 0 ∷ pos 0 ∷ pos 0 ∷ pos 0 ∷ pos 0 ∷ pos 0 ∷ pos 0 ∷ pos 0 ∷ pos 0 ∷ pos 0 ∷ pos 0 ∷ pos 0 ∷ negsuc 4096 ∷ pos 0 ∷ pos 0 ∷ pos 0 ∷ pos 0 ∷ pos 0 ∷ pos 0 ∷ pos 4096 ∷ []) (pos 1 ∷ [])) 1024) (unwritten 1024 (numbered_refusal 5 16)) ∷
    line (writes (question 1 (3 ∷ 1 ∷ 3 ∷ 3 ∷ 3 ∷ 3 ∷ 3 ∷ 3 ∷ 3 ∷ 3 ∷ 3 ∷ 3 ∷ 3 ∷ 3 ∷ 3 ∷ 3 ∷ 1 ∷ []) (pos 1 ∷ []) (pos 1 ∷ [])) 1024) (unwritten 1024 (numbered_refusal 6 2)) ∷
    line (writes (question 3 (1 ∷ 2 ∷ []) (pos 2 ∷ pos 0 ∷ pos 1 ∷ []) (negsuc 0 ∷ [])) 1024) (unwritten 1024 (numbered_refusal 6 1)) ∷
    line (writes (question 3 (1 ∷ 7 ∷ []) (pos 2 ∷ pos 1 ∷ negsuc 0 ∷ []) (negsuc 0 ∷ [])) 1024) (unwritten 1024 (numbered_refusal 6 1)) ∷
    line (writes (question 4 (4 ∷ 3 ∷ 3 ∷ 2 ∷ 1 ∷ 0 ∷ 0 ∷ 0 ∷ 0 ∷ 0 ∷ 0 ∷ 0 ∷ 0 ∷ 0 ∷ 0 ∷ 0 ∷ 0 ∷ 0 ∷ 0 ∷ 0 ∷ 0 ∷ 0 ∷ 0 ∷ 0 ∷ 0 ∷ 0 ∷ 0 ∷ 0 ∷ 0 ∷ 0 ∷ 0 ∷ 0 ∷ 0 ∷ 0 ∷ 0 ∷ 0 ∷ 0 ∷ 0 ∷ 0 ∷ 0 ∷ 0 ∷ 0 ∷ 0 ∷ 0 ∷ 0 ∷ 0 ∷ 0 ∷ 0 ∷ 0 ∷ 0 ∷ 0 ∷ 0 ∷ 0 ∷ 0 ∷ 0 ∷ 0 ∷ 0 ∷ 0 ∷ 0 ∷ 0 ∷ 0 ∷ 0 ∷ 0 ∷ 2 ∷ []) (negsuc 1 ∷ pos 1 ∷ negsuc 0 ∷ negsuc 1 ∷ pos 0 ∷ pos 0 ∷ pos 1 ∷ pos 3 ∷ pos 1 ∷ pos 3 ∷ []) (pos 1 ∷ [])) 68) (unwritten 68 (numbered_refusal 6 63)) ∷
    line (writes (question 3 (4 ∷ 3 ∷ 2 ∷ 3 ∷ 5 ∷ 5 ∷ 1 ∷ 2 ∷ 2 ∷ []) (pos 0 ∷ pos 0 ∷ pos 0 ∷ pos 0 ∷ pos 0 ∷ pos 0 ∷ pos 26 ∷ pos 29 ∷ pos 38 ∷ pos 0 ∷ pos 0 ∷ pos 0 ∷ pos 33 ∷ pos 15 ∷ negsuc 28 ∷ pos 0 ∷ pos 0 ∷ pos 0 ∷ pos 0 ∷ negsuc 15 ∷ negsuc 4095 ∷ pos 0 ∷ pos 0 ∷ pos 0 ∷ pos 0 ∷ pos 0 ∷ pos 0 ∷ pos 0 ∷ pos 0 ∷ pos 0 ∷ pos 0 ∷ pos 0 ∷ pos 0 ∷ pos 0 ∷ pos 0 ∷ pos 0 ∷ pos 0 ∷ pos 0 ∷ pos 0 ∷ pos 0 ∷ pos 0 ∷ pos 0 ∷ pos 0 ∷ pos 0 ∷ pos 0 ∷ pos 4097 ∷ []) (pos 0 ∷ negsuc 0 ∷ pos 7 ∷ negsuc 8 ∷ [])) 1024) (unwritten 1024 (numbered_refusal 6 64)) ∷
    line (writes (question 1 (3 ∷ 3 ∷ 3 ∷ 3 ∷ 3 ∷ 3 ∷ 3 ∷ 3 ∷ 3 ∷ 3 ∷ 3 ∷ 3 ∷ 3 ∷ 3 ∷ 3 ∷ 1 ∷ []) (pos 1 ∷ []) (pos 1 ∷ [])) 2) (unwritten 2 (numbered_refusal 8 0)) ∷
    line (writes (question 5 (4 ∷ 2 ∷ 1 ∷ []) (pos 0 ∷ pos 1 ∷ negsuc 1 ∷ pos 1 ∷ pos 0 ∷ pos 0 ∷ pos 0 ∷ pos 0 ∷ pos 2 ∷ pos 1 ∷ []) (pos 1 ∷ pos 9 ∷ [])) 68) (unwritten 68 (numbered_refusal 8 0)) ∷
    line (writes (question 3 (4 ∷ 3 ∷ 3 ∷ 1 ∷ 2 ∷ []) (pos 1 ∷ pos 0 ∷ pos 0 ∷ pos 0 ∷ pos 0 ∷ pos 0 ∷ pos 1 ∷ pos 1 ∷ []) (negsuc 0 ∷ negsuc 4 ∷ [])) 60) (unwritten 60 (numbered_refusal 8 0)) ∷
    line (writes (question 5 (4 ∷ 2 ∷ 1 ∷ []) (pos 3 ∷ pos 0 ∷ pos 5 ∷ pos 5 ∷ negsuc 4 ∷ pos 0 ∷ negsuc 2 ∷ []) (pos 0 ∷ negsuc 10 ∷ [])) 17) (unwritten 17 (numbered_refusal 8 0)) ∷
    line (writes (question 1 (3 ∷ 4 ∷ 1 ∷ 1 ∷ []) (negsuc 193 ∷ pos 0 ∷ pos 0 ∷ pos 0 ∷ pos 0 ∷ pos 0 ∷ pos 205 ∷ []) (negsuc 544267 ∷ pos 1 ∷ [])) 26) (unwritten 26 (numbered_refusal 8 0)) ∷
    line (writes (question 1 (1 ∷ []) (pos 3 ∷ []) (pos 1 ∷ [])) 1024) (written_in 1024 (1 ∷ 0 ∷ 1 ∷ 0 ∷ 1 ∷ 8 ∷ 0 ∷ 16 ∷ 0 ∷ 3 ∷ 0 ∷ 0 ∷ 0 ∷ 1 ∷ 0 ∷ 0 ∷ 0 ∷ 0 ∷ 0 ∷ 255 ∷ 0 ∷ [])) ∷
    line (writes (question 1 (2 ∷ []) (pos 1 ∷ []) (negsuc 0 ∷ [])) 1024) (written_in 1024 (1 ∷ 0 ∷ 1 ∷ 0 ∷ 1 ∷ 8 ∷ 0 ∷ 17 ∷ 0 ∷ 1 ∷ 0 ∷ 0 ∷ 0 ∷ 255 ∷ 255 ∷ 255 ∷ 255 ∷ 0 ∷ 0 ∷ 255 ∷ 0 ∷ [])) ∷
    line (writes (question 1 (2 ∷ []) (pos 2 ∷ []) (pos 1000000 ∷ [])) 1024) (written_in 1024 (1 ∷ 0 ∷ 1 ∷ 0 ∷ 1 ∷ 8 ∷ 0 ∷ 17 ∷ 0 ∷ 2 ∷ 0 ∷ 0 ∷ 0 ∷ 64 ∷ 66 ∷ 15 ∷ 0 ∷ 0 ∷ 0 ∷ 255 ∷ 0 ∷ [])) ∷
    line (writes (question 2 (1 ∷ []) (pos 1 ∷ negsuc 0 ∷ []) (pos 1 ∷ [])) 25) (written_in 25 (1 ∷ 0 ∷ 1 ∷ 0 ∷ 2 ∷ 12 ∷ 0 ∷ 16 ∷ 0 ∷ 1 ∷ 0 ∷ 0 ∷ 0 ∷ 255 ∷ 255 ∷ 255 ∷ 255 ∷ 1 ∷ 0 ∷ 0 ∷ 0 ∷ 0 ∷ 0 ∷ 255 ∷ 0 ∷ [])) ∷
    line (writes (question 2 (2 ∷ []) [] (pos 1 ∷ [])) 1024) (written_in 1024 (1 ∷ 0 ∷ 1 ∷ 0 ∷ 2 ∷ 12 ∷ 0 ∷ 17 ∷ 0 ∷ 0 ∷ 0 ∷ 0 ∷ 0 ∷ 0 ∷ 0 ∷ 0 ∷ 0 ∷ 1 ∷ 0 ∷ 0 ∷ 0 ∷ 0 ∷ 0 ∷ 255 ∷ 0 ∷ [])) ∷
    line (writes (question 2 (2 ∷ []) (pos 0 ∷ negsuc 0 ∷ []) []) 1024) (written_in 1024 (1 ∷ 0 ∷ 1 ∷ 0 ∷ 2 ∷ 12 ∷ 0 ∷ 17 ∷ 0 ∷ 0 ∷ 0 ∷ 0 ∷ 0 ∷ 255 ∷ 255 ∷ 255 ∷ 255 ∷ 0 ∷ 0 ∷ 0 ∷ 0 ∷ 0 ∷ 0 ∷ 255 ∷ 0 ∷ [])) ∷
    line (writes (question 3 (3 ∷ 4 ∷ 4 ∷ 4 ∷ 3 ∷ 3 ∷ 4 ∷ 2 ∷ 2 ∷ 3 ∷ 1 ∷ 4 ∷ 2 ∷ 1 ∷ 5 ∷ 1 ∷ 5 ∷ 3 ∷ 2 ∷ 2 ∷ []) (pos 3 ∷ pos 1 ∷ pos 3 ∷ pos 0 ∷ pos 0 ∷ pos 0 ∷ pos 2 ∷ negsuc 2 ∷ pos 0 ∷ pos 0 ∷ pos 0 ∷ pos 0 ∷ pos 0 ∷ pos 0 ∷ negsuc 2 ∷ pos 0 ∷ pos 0 ∷ pos 0 ∷ pos 0 ∷ pos 0 ∷ pos 0 ∷ pos 0 ∷ pos 0 ∷ pos 0 ∷ pos 0 ∷ negsuc 2 ∷ pos 0 ∷ pos 0 ∷ pos 0 ∷ pos 0 ∷ pos 1 ∷ negsuc 0 ∷ negsuc 0 ∷ pos 0 ∷ pos 0 ∷ pos 0 ∷ pos 0 ∷ pos 0 ∷ pos 2 ∷ pos 0 ∷ pos 0 ∷ pos 0 ∷ pos 2 ∷ pos 0 ∷ pos 3 ∷ []) (pos 1 ∷ pos 1 ∷ negsuc 0 ∷ negsuc 3 ∷ pos 4 ∷ pos 4 ∷ negsuc 0 ∷ [])) 217) (written_in 217 (1 ∷ 0 ∷ 1 ∷ 0 ∷ 3 ∷ 0 ∷ 0 ∷ 32 ∷ 0 ∷ 0 ∷ 0 ∷ 33 ∷ 0 ∷ 0 ∷ 0 ∷ 33 ∷ 0 ∷ 0 ∷ 0 ∷ 33 ∷ 0 ∷ 0 ∷ 0 ∷ 32 ∷ 0 ∷ 0 ∷ 0 ∷ 32 ∷ 0 ∷ 0 ∷ 0 ∷ 33 ∷ 0 ∷ 16 ∷ 0 ∷ 17 ∷ 0 ∷ 3 ∷ 0 ∷ 0 ∷ 0 ∷ 1 ∷ 0 ∷ 0 ∷ 0 ∷ 3 ∷ 0 ∷ 0 ∷ 0 ∷ 1 ∷ 0 ∷ 0 ∷ 0 ∷ 16 ∷ 0 ∷ 17 ∷ 0 ∷ 2 ∷ 0 ∷ 0 ∷ 0 ∷ 253 ∷ 255 ∷ 255 ∷ 255 ∷ 0 ∷ 0 ∷ 0 ∷ 0 ∷ 1 ∷ 0 ∷ 0 ∷ 0 ∷ 0 ∷ 0 ∷ 32 ∷ 0 ∷ 16 ∷ 0 ∷ 16 ∷ 0 ∷ 0 ∷ 0 ∷ 0 ∷ 0 ∷ 0 ∷ 0 ∷ 0 ∷ 0 ∷ 253 ∷ 255 ∷ 255 ∷ 255 ∷ 255 ∷ 255 ∷ 255 ∷ 255 ∷ 0 ∷ 0 ∷ 33 ∷ 0 ∷ 16 ∷ 0 ∷ 17 ∷ 0 ∷ 0 ∷ 0 ∷ 0 ∷ 0 ∷ 0 ∷ 0 ∷ 0 ∷ 0 ∷ 0 ∷ 0 ∷ 0 ∷ 0 ∷ 252 ∷ 255 ∷ 255 ∷ 255 ∷ 16 ∷ 0 ∷ 16 ∷ 0 ∷ 0 ∷ 0 ∷ 0 ∷ 0 ∷ 253 ∷ 255 ∷ 255 ∷ 255 ∷ 0 ∷ 0 ∷ 0 ∷ 0 ∷ 4 ∷ 0 ∷ 0 ∷ 0 ∷ 0 ∷ 0 ∷ 34 ∷ 0 ∷ 16 ∷ 0 ∷ 16 ∷ 0 ∷ 1 ∷ 0 ∷ 0 ∷ 0 ∷ 255 ∷ 255 ∷ 255 ∷ 255 ∷ 255 ∷ 255 ∷ 255 ∷ 255 ∷ 4 ∷ 0 ∷ 0 ∷ 0 ∷ 0 ∷ 0 ∷ 34 ∷ 0 ∷ 0 ∷ 0 ∷ 32 ∷ 0 ∷ 16 ∷ 0 ∷ 17 ∷ 0 ∷ 0 ∷ 0 ∷ 0 ∷ 0 ∷ 0 ∷ 0 ∷ 0 ∷ 0 ∷ 2 ∷ 0 ∷ 0 ∷ 0 ∷ 255 ∷ 255 ∷ 255 ∷ 255 ∷ 16 ∷ 0 ∷ 17 ∷ 0 ∷ 2 ∷ 0 ∷ 0 ∷ 0 ∷ 0 ∷ 0 ∷ 0 ∷ 0 ∷ 3 ∷ 0 ∷ 0 ∷ 0 ∷ 0 ∷ 0 ∷ 0 ∷ 0 ∷ 0 ∷ 0 ∷ 255 ∷ 0 ∷ [])) ∷
    []

pub write_vectors_hold : all_given write_vectors ≡ wanted write_vectors
unfolding running
write_vectors_hold = refl

abbrev build_cells_vectors : List (Pair Built)
build_cells_vectors =
    pair (built_cells (1 ∷ 0 ∷ 1 ∷ 0 ∷ 2 ∷ 12 ∷ 0 ∷ 16 ∷ 0 ∷ 2 ∷ 0 ∷ 0 ∷ 0 ∷ 0 ∷ 0 ∷ 0 ∷ 0 ∷ 1 ∷ 0 ∷ 0 ∷ 0 ∷ 0 ∷ 0 ∷ 255 ∷ 0 ∷ []) 4 22) (table_in (Ok (Building.Built 2)) 4 (pos 1 ∷ negsuc 2147483647 ∷ []) 22 (0 ∷ 1 ∷ 1 ∷ 1 ∷ 1 ∷ 0 ∷ 1 ∷ 1 ∷ 1 ∷ 1 ∷ [])) ∷
    pair (built_cells (1 ∷ 0 ∷ 1 ∷ 0 ∷ 1 ∷ 0 ∷ 0 ∷ 32 ∷ 0 ∷ 8 ∷ 0 ∷ 17 ∷ 0 ∷ 0 ∷ 0 ∷ 0 ∷ 0 ∷ 242 ∷ 255 ∷ 255 ∷ 255 ∷ 0 ∷ 0 ∷ 255 ∷ 0 ∷ []) 8 24) (table_in (Ok (Building.Built 5)) 8 (negsuc 13 ∷ negsuc 6 ∷ negsuc 3 ∷ negsuc 1 ∷ negsuc 0 ∷ []) 24 (1 ∷ 1 ∷ 1 ∷ 1 ∷ 2 ∷ 2 ∷ 1 ∷ 3 ∷ 3 ∷ 1 ∷ 4 ∷ 4 ∷ 1 ∷ 4 ∷ 4 ∷ [])) ∷
    pair (built_cells (1 ∷ 0 ∷ 1 ∷ 0 ∷ 1 ∷ 0 ∷ 0 ∷ 32 ∷ 0 ∷ 0 ∷ 0 ∷ 33 ∷ 0 ∷ 8 ∷ 0 ∷ 17 ∷ 0 ∷ 0 ∷ 0 ∷ 0 ∷ 0 ∷ 255 ∷ 255 ∷ 255 ∷ 255 ∷ 0 ∷ 0 ∷ 32 ∷ 0 ∷ 8 ∷ 0 ∷ 16 ∷ 0 ∷ 255 ∷ 255 ∷ 255 ∷ 255 ∷ 255 ∷ 255 ∷ 255 ∷ 255 ∷ 0 ∷ 0 ∷ 255 ∷ 0 ∷ []) 6 11) (table_in (Ok (Building.Built 3)) 6 (negsuc 0 ∷ negsuc 0 ∷ negsuc 0 ∷ negsuc 2147483647 ∷ negsuc 0 ∷ pos 0 ∷ []) 11 (1 ∷ 1 ∷ 2 ∷ 1 ∷ 1 ∷ 1 ∷ 1 ∷ 2 ∷ 1 ∷ [])) ∷
    pair (built_cells (1 ∷ 0 ∷ 1 ∷ 0 ∷ 2 ∷ 12 ∷ 0 ∷ 16 ∷ 0 ∷ 255 ∷ 255 ∷ 255 ∷ 255 ∷ 255 ∷ 255 ∷ 255 ∷ 255 ∷ 1 ∷ 0 ∷ 0 ∷ 0 ∷ 0 ∷ 0 ∷ 255 ∷ 0 ∷ []) 1 8) (table_in (Ok (Building.NoRoom 1)) 1 (pos 1 ∷ []) 8 []) ∷
    pair (built_cells (1 ∷ 0 ∷ 1 ∷ 0 ∷ 3 ∷ 16 ∷ 0 ∷ 17 ∷ 0 ∷ 0 ∷ 0 ∷ 0 ∷ 0 ∷ 255 ∷ 255 ∷ 255 ∷ 255 ∷ 255 ∷ 255 ∷ 255 ∷ 255 ∷ 0 ∷ 0 ∷ 0 ∷ 0 ∷ 0 ∷ 0 ∷ 255 ∷ 0 ∷ []) 1 15) (table_in (Ok (Building.NoRoom 1)) 1 (pos 0 ∷ []) 15 []) ∷
    pair (built_cells (1 ∷ 0 ∷ 1 ∷ 0 ∷ 2 ∷ 0 ∷ 0 ∷ 34 ∷ 0 ∷ 12 ∷ 0 ∷ 17 ∷ 0 ∷ 201 ∷ 0 ∷ 0 ∷ 0 ∷ 201 ∷ 0 ∷ 0 ∷ 0 ∷ 255 ∷ 255 ∷ 255 ∷ 255 ∷ 12 ∷ 0 ∷ 16 ∷ 0 ∷ 0 ∷ 0 ∷ 0 ∷ 0 ∷ 246 ∷ 0 ∷ 0 ∷ 0 ∷ 13 ∷ 177 ∷ 241 ∷ 255 ∷ 0 ∷ 0 ∷ 255 ∷ 0 ∷ []) 2 7) (table_in (Ok (Building.NoRoom 1)) 2 (negsuc 0 ∷ negsuc 937714 ∷ []) 7 []) ∷
    pair (built_cells (1 ∷ 0 ∷ 1 ∷ 0 ∷ 6 ∷ 0 ∷ 0 ∷ 32 ∷ 0 ∷ 0 ∷ 0 ∷ 33 ∷ 0 ∷ 0 ∷ 0 ∷ 33 ∷ 0 ∷ 8 ∷ 0 ∷ 17 ∷ 0 ∷ 171 ∷ 13 ∷ 0 ∷ 0 ∷ 0 ∷ 0 ∷ 0 ∷ 0 ∷ 0 ∷ 0 ∷ 33 ∷ 0 ∷ 0 ∷ 0 ∷ 33 ∷ 0 ∷ 0 ∷ 0 ∷ 32 ∷ 0 ∷ 8 ∷ 0 ∷ 17 ∷ 0 ∷ 32 ∷ 4 ∷ 0 ∷ 0 ∷ 255 ∷ 255 ∷ 255 ∷ 255 ∷ 8 ∷ 0 ∷ 17 ∷ 0 ∷ 213 ∷ 14 ∷ 0 ∷ 0 ∷ 0 ∷ 0 ∷ 0 ∷ 0 ∷ 0 ∷ 0 ∷ 34 ∷ 0 ∷ 0 ∷ 0 ∷ 33 ∷ 0 ∷ 8 ∷ 0 ∷ 17 ∷ 0 ∷ 25 ∷ 248 ∷ 255 ∷ 255 ∷ 255 ∷ 255 ∷ 255 ∷ 255 ∷ 8 ∷ 0 ∷ 16 ∷ 0 ∷ 142 ∷ 1 ∷ 0 ∷ 0 ∷ 1 ∷ 0 ∷ 0 ∷ 0 ∷ 8 ∷ 0 ∷ 16 ∷ 0 ∷ 211 ∷ 246 ∷ 255 ∷ 255 ∷ 255 ∷ 255 ∷ 255 ∷ 255 ∷ 0 ∷ 0 ∷ 34 ∷ 0 ∷ 0 ∷ 0 ∷ 32 ∷ 0 ∷ 8 ∷ 0 ∷ 17 ∷ 0 ∷ 108 ∷ 14 ∷ 0 ∷ 0 ∷ 255 ∷ 255 ∷ 255 ∷ 255 ∷ 8 ∷ 0 ∷ 17 ∷ 0 ∷ 227 ∷ 253 ∷ 255 ∷ 255 ∷ 221 ∷ 255 ∷ 255 ∷ 255 ∷ 0 ∷ 0 ∷ 255 ∷ 0 ∷ 0 ∷ 0 ∷ 255 ∷ 0 ∷ []) 10 24) (table_in (Err (numbered_refusal 3 17)) 10 [] 24 []) ∷
    pair (built_cells (1 ∷ 0 ∷ 1 ∷ 0 ∷ 255 ∷ 24 ∷ 0 ∷ 16 ∷ 0 ∷ 0 ∷ 0 ∷ 0 ∷ 0 ∷ 3 ∷ 0 ∷ 0 ∷ 0 ∷ 255 ∷ 255 ∷ 255 ∷ 255 ∷ 253 ∷ 255 ∷ 255 ∷ 255 ∷ 253 ∷ 255 ∷ 255 ∷ 255 ∷ 0 ∷ 0 ∷ 0 ∷ 0 ∷ 0 ∷ 0 ∷ 255 ∷ 0 ∷ []) 2 6) (table_in (Err (numbered_refusal 4 0)) 2 [] 6 []) ∷
    []

pub build_cells_vectors_hold : all_in build_cells_vectors ≡ all_wanted build_cells_vectors
unfolding running
build_cells_vectors_hold = refl

abbrev decide_cells_vectors : List (Pair Decided)
decide_cells_vectors =
    pair (decided_cells (1 ∷ 0 ∷ 1 ∷ 0 ∷ 3 ∷ 0 ∷ 0 ∷ 32 ∷ 0 ∷ 16 ∷ 0 ∷ 16 ∷ 0 ∷ 0 ∷ 0 ∷ 0 ∷ 0 ∷ 1 ∷ 0 ∷ 0 ∷ 0 ∷ 0 ∷ 0 ∷ 0 ∷ 0 ∷ 1 ∷ 0 ∷ 0 ∷ 0 ∷ 0 ∷ 0 ∷ 255 ∷ 0 ∷ []) 1 2 1) (decision_in (Ok (Decision.Found 1 0)) 1 (pos 1 ∷ []) 2 (0 ∷ 0 ∷ []) 1 []) ∷
    pair (decided_cells (1 ∷ 0 ∷ 1 ∷ 0 ∷ 3 ∷ 0 ∷ 0 ∷ 34 ∷ 0 ∷ 0 ∷ 0 ∷ 33 ∷ 0 ∷ 16 ∷ 0 ∷ 17 ∷ 0 ∷ 255 ∷ 255 ∷ 255 ∷ 255 ∷ 0 ∷ 0 ∷ 0 ∷ 0 ∷ 254 ∷ 255 ∷ 255 ∷ 255 ∷ 0 ∷ 0 ∷ 0 ∷ 0 ∷ 0 ∷ 0 ∷ 32 ∷ 0 ∷ 16 ∷ 0 ∷ 16 ∷ 0 ∷ 0 ∷ 0 ∷ 0 ∷ 0 ∷ 0 ∷ 0 ∷ 0 ∷ 0 ∷ 0 ∷ 0 ∷ 0 ∷ 0 ∷ 0 ∷ 0 ∷ 0 ∷ 0 ∷ 0 ∷ 0 ∷ 32 ∷ 0 ∷ 16 ∷ 0 ∷ 16 ∷ 0 ∷ 2 ∷ 0 ∷ 0 ∷ 0 ∷ 2 ∷ 0 ∷ 0 ∷ 0 ∷ 0 ∷ 0 ∷ 0 ∷ 0 ∷ 1 ∷ 0 ∷ 0 ∷ 0 ∷ 0 ∷ 0 ∷ 255 ∷ 0 ∷ []) 10 3 1024) (decision_in (Ok (Decision.Found 1 0)) 10 (pos 0 ∷ pos 0 ∷ pos 1 ∷ []) 3 (0 ∷ 0 ∷ []) 1024 []) ∷
    pair (decided_cells (1 ∷ 0 ∷ 1 ∷ 0 ∷ 6 ∷ 0 ∷ 0 ∷ 32 ∷ 0 ∷ 0 ∷ 0 ∷ 33 ∷ 0 ∷ 28 ∷ 0 ∷ 16 ∷ 0 ∷ 3 ∷ 0 ∷ 0 ∷ 0 ∷ 4 ∷ 0 ∷ 0 ∷ 0 ∷ 0 ∷ 0 ∷ 0 ∷ 0 ∷ 0 ∷ 0 ∷ 0 ∷ 0 ∷ 0 ∷ 0 ∷ 0 ∷ 0 ∷ 4 ∷ 0 ∷ 0 ∷ 0 ∷ 0 ∷ 0 ∷ 0 ∷ 0 ∷ 28 ∷ 0 ∷ 16 ∷ 0 ∷ 2 ∷ 0 ∷ 0 ∷ 0 ∷ 3 ∷ 0 ∷ 0 ∷ 0 ∷ 3 ∷ 0 ∷ 0 ∷ 0 ∷ 5 ∷ 0 ∷ 0 ∷ 0 ∷ 5 ∷ 0 ∷ 0 ∷ 0 ∷ 0 ∷ 0 ∷ 0 ∷ 0 ∷ 1 ∷ 0 ∷ 0 ∷ 0 ∷ 0 ∷ 0 ∷ 255 ∷ 0 ∷ []) 4 3 1024) (decision_in (Ok (Decision.Found 1 0)) 4 (pos 0 ∷ pos 1 ∷ []) 3 (0 ∷ 0 ∷ []) 1024 []) ∷
    pair (decided_cells (1 ∷ 0 ∷ 1 ∷ 0 ∷ 4 ∷ 20 ∷ 0 ∷ 16 ∷ 0 ∷ 2 ∷ 0 ∷ 0 ∷ 0 ∷ 0 ∷ 0 ∷ 0 ∷ 0 ∷ 255 ∷ 255 ∷ 255 ∷ 255 ∷ 2 ∷ 0 ∷ 0 ∷ 0 ∷ 1 ∷ 0 ∷ 0 ∷ 0 ∷ 0 ∷ 0 ∷ 255 ∷ 0 ∷ []) 5 11 2) (decision_in (Ok (Decision.Found 3 1)) 5 (pos 1 ∷ negsuc 2147483647 ∷ pos 0 ∷ []) 11 (0 ∷ 0 ∷ 0 ∷ 0 ∷ 0 ∷ 5 ∷ []) 2 (5 ∷ [])) ∷
    pair (decided_cells (1 ∷ 0 ∷ 1 ∷ 0 ∷ 1 ∷ 0 ∷ 0 ∷ 32 ∷ 0 ∷ 8 ∷ 0 ∷ 17 ∷ 0 ∷ 0 ∷ 0 ∷ 0 ∷ 0 ∷ 0 ∷ 0 ∷ 0 ∷ 0 ∷ 0 ∷ 0 ∷ 255 ∷ 0 ∷ []) 2 2 3) (decision_in (Ok (Decision.Never 1)) 2 (pos 0 ∷ []) 2 (0 ∷ 0 ∷ []) 3 []) ∷
    pair (decided_cells (1 ∷ 0 ∷ 1 ∷ 0 ∷ 2 ∷ 12 ∷ 0 ∷ 16 ∷ 0 ∷ 12 ∷ 248 ∷ 255 ∷ 255 ∷ 0 ∷ 0 ∷ 0 ∷ 0 ∷ 255 ∷ 255 ∷ 255 ∷ 255 ∷ 0 ∷ 0 ∷ 255 ∷ 0 ∷ []) 4 13 0) (decision_in (Ok (Decision.Never 2)) 4 (negsuc 0 ∷ negsuc 2147483647 ∷ []) 13 (0 ∷ 0 ∷ 0 ∷ 0 ∷ []) 0 []) ∷
    pair (decided_cells (1 ∷ 0 ∷ 1 ∷ 0 ∷ 3 ∷ 16 ∷ 0 ∷ 16 ∷ 0 ∷ 2 ∷ 0 ∷ 0 ∷ 0 ∷ 3 ∷ 0 ∷ 0 ∷ 0 ∷ 1 ∷ 0 ∷ 0 ∷ 0 ∷ 0 ∷ 0 ∷ 0 ∷ 0 ∷ 0 ∷ 0 ∷ 255 ∷ 0 ∷ []) 0 0 3) (decision_in (Ok (Decision.NoRoom 0)) 0 [] 0 [] 3 []) ∷
    pair (decided_cells (1 ∷ 0 ∷ 1 ∷ 0 ∷ 2 ∷ 0 ∷ 0 ∷ 32 ∷ 0 ∷ 12 ∷ 0 ∷ 16 ∷ 0 ∷ 0 ∷ 0 ∷ 0 ∷ 0 ∷ 39 ∷ 0 ∷ 0 ∷ 0 ∷ 255 ∷ 255 ∷ 255 ∷ 255 ∷ 0 ∷ 0 ∷ 255 ∷ 0 ∷ []) 1 1 3) (decision_in (Ok (Decision.NoRoom 0)) 1 [] 1 [] 3 []) ∷
    pair (decided_cells (1 ∷ 0 ∷ 1 ∷ 0 ∷ 2 ∷ 12 ∷ 0 ∷ 17 ∷ 0 ∷ 2 ∷ 0 ∷ 0 ∷ 0 ∷ 1 ∷ 0 ∷ 0 ∷ 0 ∷ 255 ∷ 255 ∷ 255 ∷ 255 ∷ 0 ∷ 0 ∷ 255 ∷ 0 ∷ []) 2 4 2) (decision_in (Ok (Decision.NoRoom 2)) 2 (negsuc 0 ∷ negsuc 1 ∷ []) 4 (0 ∷ 0 ∷ 0 ∷ 1 ∷ []) 2 []) ∷
    pair (decided_cells (1 ∷ 0 ∷ 1 ∷ 0 ∷ 3 ∷ 0 ∷ 0 ∷ 32 ∷ 0 ∷ 0 ∷ 0 ∷ 32 ∷ 0 ∷ 0 ∷ 0 ∷ 32 ∷ 0 ∷ 0 ∷ 0 ∷ 33 ∷ 0 ∷ 16 ∷ 0 ∷ 16 ∷ 0 ∷ 254 ∷ 255 ∷ 255 ∷ 255 ∷ 0 ∷ 0 ∷ 0 ∷ 0 ∷ 0 ∷ 0 ∷ 0 ∷ 0 ∷ 255 ∷ 255 ∷ 255 ∷ 255 ∷ 0 ∷ 0 ∷ 32 ∷ 0 ∷ 0 ∷ 0 ∷ 32 ∷ 0 ∷ 16 ∷ 0 ∷ 17 ∷ 0 ∷ 255 ∷ 255 ∷ 255 ∷ 255 ∷ 2 ∷ 0 ∷ 0 ∷ 0 ∷ 1 ∷ 16 ∷ 0 ∷ 0 ∷ 255 ∷ 255 ∷ 255 ∷ 255 ∷ 0 ∷ 0 ∷ 255 ∷ 0 ∷ []) 3 2 2) (decision_in (Err (numbered_refusal 12 61)) 3 [] 2 [] 2 []) ∷
    pair (decided_cells (1 ∷ 0 ∷ 1 ∷ 0 ∷ 2 ∷ 0 ∷ 0 ∷ 34 ∷ 0 ∷ 0 ∷ 0 ∷ 33 ∷ 0 ∷ 12 ∷ 0 ∷ 17 ∷ 0 ∷ 4 ∷ 0 ∷ 0 ∷ 0 ∷ 5 ∷ 0 ∷ 0 ∷ 0 ∷ 253 ∷ 255 ∷ 255 ∷ 255 ∷ 12 ∷ 0 ∷ 17 ∷ 0 ∷ 254 ∷ 255 ∷ 255 ∷ 255 ∷ 252 ∷ 255 ∷ 255 ∷ 255 ∷ 1 ∷ 0 ∷ 0 ∷ 0 ∷ 0 ∷ 0 ∷ 32 ∷ 0 ∷ 0 ∷ 0 ∷ 34 ∷ 0 ∷ 0 ∷ 0 ∷ 32 ∷ 0 ∷ 0 ∷ 0 ∷ 34 ∷ 0 ∷ 0 ∷ 0 ∷ 32 ∷ 0 ∷ 0 ∷ 0 ∷ 33 ∷ 0 ∷ 12 ∷ 0 ∷ 17 ∷ 0 ∷ 4 ∷ 0 ∷ 0 ∷ 0 ∷ 0 ∷ 0 ∷ 0 ∷ 0 ∷ 0 ∷ 0 ∷ 0 ∷ 12 ∷ 0 ∷ 16 ∷ 0 ∷ 0 ∷ 0 ∷ 0 ∷ 0 ∷ 252 ∷ 255 ∷ 255 ∷ 255 ∷ 0 ∷ 0 ∷ 0 ∷ 0 ∷ 0 ∷ 0 ∷ 33 ∷ 0 ∷ 12 ∷ 0 ∷ 16 ∷ 0 ∷ 1 ∷ 0 ∷ 0 ∷ 0 ∷ 3 ∷ 0 ∷ 0 ∷ 0 ∷ 1 ∷ 0 ∷ 0 ∷ 0 ∷ 12 ∷ 0 ∷ 17 ∷ 0 ∷ 3 ∷ 0 ∷ 0 ∷ 0 ∷ 4 ∷ 0 ∷ 0 ∷ 0 ∷ 0 ∷ 0 ∷ 0 ∷ 0 ∷ 0 ∷ 0 ∷ 33 ∷ 0 ∷ 12 ∷ 0 ∷ 16 ∷ 0 ∷ 5 ∷ 0 ∷ 0 ∷ 0 ∷ 0 ∷ 0 ∷ 0 ∷ 0 ∷ 253 ∷ 255 ∷ 255 ∷ 255 ∷ 12 ∷ 0 ∷ 17 ∷ 0 ∷ 0 ∷ 0 ∷ 0 ∷ 0 ∷ 0 ∷ 0 ∷ 0 ∷ 0 ∷ 0 ∷ 0 ∷ 0 ∷ 0 ∷ 0 ∷ 0 ∷ 255 ∷ 0 ∷ []) 2 5 3) (decision_in (Err (numbered_refusal 13 81)) 2 [] 5 [] 3 []) ∷
    []

pub decide_cells_vectors_hold : all_in decide_cells_vectors ≡ all_wanted decide_cells_vectors
unfolding running
decide_cells_vectors_hold = refl

abbrev record_vectors : List (Pair (Result Record Refusal))
record_vectors =
    pair (record_at (1 ∷ 0 ∷ 1 ∷ 0 ∷ 2 ∷ 12 ∷ 0 ∷ 16 ∷ 0 ∷ 168 ∷ 255 ∷ 255 ∷ 255 ∷ 0 ∷ 0 ∷ 0 ∷ 0 ∷ 42 ∷ 0 ∷ 0 ∷ 0 ∷ 0 ∷ 0 ∷ 255 ∷ 0 ∷ []) 15) (taken 15 42 0 19) ∷
    pair (record_at (1 ∷ 0 ∷ 1 ∷ 0 ∷ 3 ∷ 16 ∷ 0 ∷ 16 ∷ 0 ∷ 5 ∷ 0 ∷ 0 ∷ 0 ∷ 0 ∷ 0 ∷ 0 ∷ 0 ∷ 0 ∷ 0 ∷ 0 ∷ 0 ∷ 236 ∷ 255 ∷ 255 ∷ 255 ∷ 0 ∷ 0 ∷ 255 ∷ 0 ∷ []) 0) (taken 0 1 1 5) ∷
    pair (record_at (1 ∷ 0 ∷ 1 ∷ 0 ∷ 3 ∷ 16 ∷ 0 ∷ 16 ∷ 0 ∷ 0 ∷ 0 ∷ 0 ∷ 0 ∷ 3 ∷ 0 ∷ 0 ∷ 0 ∷ 1 ∷ 0 ∷ 0 ∷ 0 ∷ 249 ∷ 255 ∷ 255 ∷ 255 ∷ 0 ∷ 0 ∷ 255 ∷ 0 ∷ []) 0) (taken 0 1 1 5) ∷
    pair (record_at (1 ∷ 0 ∷ 1 ∷ 0 ∷ 3 ∷ 16 ∷ 0 ∷ 17 ∷ 0 ∷ 207 ∷ 247 ∷ 255 ∷ 255 ∷ 31 ∷ 4 ∷ 0 ∷ 0 ∷ 0 ∷ 0 ∷ 0 ∷ 0 ∷ 1 ∷ 0 ∷ 0 ∷ 0 ∷ 0 ∷ 0 ∷ 255 ∷ 0 ∷ []) 15) (taken 15 0 0 19) ∷
    pair (record_at (1 ∷ 0 ∷ 1 ∷ 0 ∷ 2 ∷ 0 ∷ 0 ∷ 32 ∷ 0 ∷ 12 ∷ 0 ∷ 17 ∷ 0 ∷ 8 ∷ 0 ∷ 0 ∷ 0 ∷ 38 ∷ 0 ∷ 0 ∷ 0 ∷ 1 ∷ 0 ∷ 0 ∷ 0 ∷ 0 ∷ 0 ∷ 255 ∷ 0 ∷ []) 16) (Err (numbered_refusal 1 16)) ∷
    pair (record_at (1 ∷ 0 ∷ 1 ∷ 0 ∷ 1 ∷ 0 ∷ 0 ∷ 32 ∷ 0 ∷ 0 ∷ 0 ∷ 32 ∷ 0 ∷ 8 ∷ 0 ∷ 16 ∷ 0 ∷ 221 ∷ 255 ∷ 255 ∷ 255 ∷ 0 ∷ 0 ∷ 0 ∷ 0 ∷ 0 ∷ 0 ∷ 255 ∷ 0 ∷ []) 29) (Err (numbered_refusal 1 29)) ∷
    []

pub record_vectors_hold : all_in record_vectors ≡ all_wanted record_vectors
unfolding running
record_vectors_hold = refl
