-- What is told of an answer that may refuse is what the documents give for it, whole.
use Rattle.std.specs.Prelude.{ℕ, ◌≡◌, refl, List, Bool, Ok, Err, Result}
use Rattle.scope.specs.declared.Question.{Question}
use Rattle.scope.specs.declared.Record.{Record}
use Rattle.scope.specs.declared.Refusal.{Refusal}
use Rattle.scope.specs.declared.Decision.{Decision}
use Rattle.scope.specs.declared.Building.{Building}
use Rattle.scope.specs.Refusals.{record_told, read_told, write_told, truth_told, decide_told, build_told, spell_told}
use Rattle.figures.specs.Figures.{placed, read_cells, decide_cells, build_cells, number_in, cells_in}

-- the number, and the cells, of an answer in terms of its value alone
pub record Tied {A : Type 0} (count : ℕ) (number : A → ℕ) (cells : A → List ℕ) (a : Result A Refusal) (number₁ : ℕ) (cells₁ : List ℕ) : Type 0 where
  pub number_tied : number_in number a ≡ number₁
  pub cells_tied : cells_in count cells a ≡ cells₁

pub record_tied : (a : Result Record Refusal) → Tied 5 (λ (r : Record). (record_told (Ok r)).number) (λ (r : Record). placed 4 (record_told (Ok r))) a (record_told a).number (placed 4 (record_told a))
record_tied (Ok v) = record { number_tied = refl; cells_tied = refl }
record_tied (Err r) = record { number_tied = refl; cells_tied = refl }

pub write_tied : (a : Result ℕ Refusal) → Tied 2 (λ (v : ℕ). (write_told (Ok v)).number) (λ (v : ℕ). placed 1 (write_told (Ok v))) a (write_told a).number (placed 1 (write_told a))
write_tied (Ok v) = record { number_tied = refl; cells_tied = refl }
write_tied (Err r) = record { number_tied = refl; cells_tied = refl }

pub truth_tied : (a : Result Bool Refusal) → Tied 2 (λ (b : Bool). (truth_told (Ok b)).number) (λ (b : Bool). placed 1 (truth_told (Ok b))) a (truth_told a).number (placed 1 (truth_told a))
truth_tied (Ok v) = record { number_tied = refl; cells_tied = refl }
truth_tied (Err r) = record { number_tied = refl; cells_tied = refl }

pub spell_tied : (a : Result ℕ Refusal) → Tied 2 (λ (v : ℕ). (spell_told (Ok v)).number) (λ (v : ℕ). placed 1 (spell_told (Ok v))) a (spell_told a).number (placed 1 (spell_told a))
spell_tied (Ok v) = record { number_tied = refl; cells_tied = refl }
spell_tied (Err r) = record { number_tied = refl; cells_tied = refl }

pub read_tied : (h : Result Question Refusal) → Tied 2 (λ (q : Question). (read_told (Ok q)).number) (λ (q : Question). read_cells (Ok q)) h (read_told h).number (read_cells h)
read_tied (Ok q) = record { number_tied = refl; cells_tied = refl }
read_tied (Err r) = record { number_tied = refl; cells_tied = refl }

pub decide_tied : (a : Result Decision Refusal) → Tied 4 (λ (d : Decision). (decide_told (Ok d)).number) (λ (d : Decision). decide_cells (Ok d)) a (decide_told a).number (decide_cells a)
decide_tied (Ok d) = record { number_tied = refl; cells_tied = refl }
decide_tied (Err r) = record { number_tied = refl; cells_tied = refl }

pub build_tied : (a : Result Building Refusal) → Tied 4 (λ (b : Building). (build_told (Ok b)).number) (λ (b : Building). build_cells (Ok b)) a (build_told a).number (build_cells a)
build_tied (Ok b) = record { number_tied = refl; cells_tied = refl }
build_tied (Err r) = record { number_tied = refl; cells_tied = refl }
