-- What an exported call answers: the refusal's number, and in `told` the place and, behind it, the values of its answer.
-- A cell that is not lent is not written.
use Rattle.std.specs.Prelude.{ℕ, ◌≡◌, List, ℤ, Result}
use Rattle.std.proofs.lemmas.List.Edits.{sets}
use Rattle.scope.specs.declared.Question.{Question}
use Rattle.scope.specs.declared.Refusal.{Refusal}
use Rattle.scope.specs.Refusals.{Told, read_told, write_told, decide_told, build_told}
use Rattle.scope.specs.Writing.{Wrote}
use Rattle.scope.specs.Deciding.{Decided}
use Rattle.scope.specs.Building.{Built}
use Rattle.figures.specs.Figures.{placed, read_cells, import_cells, decide_cells, build_cells}
use Rattle.lent.specs.Lent.{PartsInto}

pub record Tells (refusal : ℕ) (cells lent : List ℕ) (number₁ : ℕ) (told₁ : List ℕ) : Type 0 where
  pub number : number₁ ≡ refusal
  pub told : told₁ ≡ sets lent 0 cells

-- ---- calls whose cells are the place and the values that document 01 gives

-- a call whose answer has so many values
abbrev pub Gives : ℕ → Told → List ℕ → ℕ → List ℕ → Type 0
Gives count t lent number₁ told₁ = Tells t.number (placed count t) lent number₁ told₁

pub record WritesInto (w : Wrote) (lent : List ℕ) (number₁ : ℕ) (bytes₁ told₁ : List ℕ) : Type 0 where
  pub told : Gives 1 (write_told w.answer) lent number₁ told₁
  pub bytes : bytes₁ ≡ w.buffer

-- ---- reading: beside the place, n, which is 0 where it was refused

pub record ReadsInto (h : Result Question Refusal) (codes₀ : List ℕ) (coefficients₀ constants₀ : List ℤ) (lent : List ℕ) (number₁ : ℕ) (codes₁ : List ℕ) (coefficients₁ constants₁ : List ℤ) (told₁ : List ℕ) : Type 0 where
  pub told : Tells (read_told h).number (read_cells h) lent number₁ told₁
  pub parts : PartsInto h codes₀ coefficients₀ constants₀ codes₁ coefficients₁ constants₁

-- ---- importing: behind n the bounds of the names, zeros where it was refused

pub record ImportsInto (h : Result Question Refusal) (names codes₀ : List ℕ) (coefficients₀ constants₀ : List ℤ) (lent : List ℕ) (number₁ : ℕ) (codes₁ : List ℕ) (coefficients₁ constants₁ : List ℤ) (told₁ : List ℕ) : Type 0 where
  pub told : Tells (read_told h).number (import_cells h names) lent number₁ told₁
  pub parts : PartsInto h codes₀ coefficients₀ constants₀ codes₁ coefficients₁ constants₁

-- ---- deciding and building: the place, the verdict, the states, the letters

pub record DecidesInto (d : Decided) (lent : List ℕ) (number₁ : ℕ) (keys₁ : List ℤ) (path₁ word₁ told₁ : List ℕ) : Type 0 where
  pub number : number₁ ≡ (decide_told d.answer).number
  pub keys : keys₁ ≡ d.keys
  pub path : path₁ ≡ d.path
  pub word : word₁ ≡ d.word
  pub told : told₁ ≡ sets lent 0 (decide_cells d.answer)

pub record BuildsInto (b : Built) (lent : List ℕ) (number₁ : ℕ) (keys₁ : List ℤ) (table₁ told₁ : List ℕ) : Type 0 where
  pub number : number₁ ≡ (build_told b.answer).number
  pub keys : keys₁ ≡ b.keys
  pub table : table₁ ≡ b.table
  pub told : told₁ ≡ sets lent 0 (build_cells b.answer)
