-- An answer in figures: the refusal's number, then the place and, behind it, the values of the answer.
use Rattle.std.specs.Prelude.{ℕ, zero, suc, ◌-◌, ◌<◌, ◌≡◌, List, [], ◌∷◌, length, get_or, take, drop, Ok, Err, Result}
use Rattle.scope.specs.declared.Question.{Question}
use Rattle.scope.specs.declared.Refusal.{Refusal}
use Rattle.scope.specs.declared.Decision.{Decision}
use Rattle.scope.specs.declared.Building.{Building}
use Rattle.scope.specs.Wire.{question_held}
use Rattle.scope.specs.Refusals.{Told, rule_number, read_told}

-- so many cells behind the number
abbrev pub Leads : List ℕ → ℕ → ℕ → List ℕ → Type 0
Leads all count refusal cells = (count < length all) × (get_or all 0 0 ≡ refusal) × (take count (drop 1 all) ≡ cells)

-- ---- calls whose cells are the place and the values that document 01 gives

-- so many cells of values: 0 in those that have none
abbrev pub zero_filled : ℕ → List ℕ → List ℕ
zero_filled zero values = []
zero_filled (suc count) [] = 0 ∷ zero_filled count []
zero_filled (suc count) (v ∷ values) = v ∷ zero_filled count values

-- the place, and so many cells of values behind it
abbrev pub placed : ℕ → Told → List ℕ
placed count t = t.place ∷ zero_filled count t.values

-- ---- reading: the place, and n, which is 0 where it was refused; importing: the bounds of the names behind them

abbrev pub read_cells : Result Question Refusal → List ℕ
read_cells h = (read_told h).place ∷ (question_held h).n ∷ []

abbrev pub import_cells : Result Question Refusal → List ℕ → List ℕ
import_cells h names = (read_told h).place ∷ (question_held h).n ∷ names

-- ---- deciding and building: the place, the verdict, the states, the letters

abbrev pub four_cells : ℕ → ℕ → ℕ → ℕ → List ℕ
four_cells place verdict states letters = place ∷ verdict ∷ states ∷ letters ∷ []

-- the verdicts
abbrev pub REFUSED : ℕ
REFUSED = 0

abbrev pub FOUND : ℕ
FOUND = 1

abbrev pub NEVER : ℕ
NEVER = 2

abbrev pub BUILT : ℕ
BUILT = 3

abbrev pub decide_cells : Result Decision Refusal → List ℕ
decide_cells (Ok (Decision.Found states letters)) = four_cells 0 FOUND states letters
decide_cells (Ok (Decision.Never states)) = four_cells 0 NEVER states 0
decide_cells (Ok (Decision.NoRoom states)) = four_cells 0 REFUSED states 0
decide_cells (Ok (Decision.Short states letters)) = four_cells 0 REFUSED states letters
decide_cells (Err r) = four_cells r.place REFUSED 0 0

abbrev pub build_cells : Result Building Refusal → List ℕ
build_cells (Ok (Building.Built states)) = four_cells 0 BUILT states 0
build_cells (Ok (Building.NoRoom states)) = four_cells 0 REFUSED states 0
build_cells (Err r) = four_cells r.place REFUSED 0 0

-- ---- an answer of a call that may refuse, by what is told of its value: refused, the number, the place and no values

abbrev pub number_in : {A : Type 0} → (A → ℕ) → Result A Refusal → ℕ
number_in f (Ok v) = f v
number_in f (Err r) = rule_number r.rule

abbrev pub cells_in : {A : Type 0} → ℕ → (A → List ℕ) → Result A Refusal → List ℕ
cells_in count f (Ok v) = f v
cells_in count f (Err r) = r.place ∷ zero_filled (count - 1) []
