-- The calls as C and Rust link them (`pelohuaki_c`): an outcome of each, as its own contract has it; any two coincide; and what the verdict cell of
-- `told` says, back to the demands.
use Rattle.std.specs.Prelude.{◌≡◌, refl, ◌↔◌, List, [], ◌∷◌, ℕ, ◌≤◌, length, get_or, ℤ, Ok, Err, Result}
use Rattle.std.proofs.Common.{sym, ap, ◌∙◌, arith}
use mathlib.Core.Logic.Iff
use Rattle.std.proofs.lemmas.List.Edits.{sets}
use base.Fml.{Lft}
use Rattle.std.specs.Borrow.{Bor, MutBor}
use Rattle.scope.specs.declared.Refusal.{Refusal}
use Rattle.scope.specs.declared.Decision.{Decision}
use Rattle.scope.specs.declared.Building.{Building}
use Rattle.scope.specs.Tree.{IsQuestion}
use Rattle.scope.specs.Numbering.{machine_of}
use Rattle.scope.specs.Deciding.{decided}
use Rattle.scope.specs.Building.{built}
use Rattle.theory.specs.Wire.Octets.{Octets}
use Rattle.theory.specs.Calls.Deciding.{StatesAre}
use Rattle.theory.specs.Calls.Questions.{held_in, rows_for, Guarded, never_guarded, built_exactly}
use Rattle.figures.specs.Figures.{decide_cells, build_cells}
use Rattle.pelohuaki_c.proofs.pelohuaki_record_at.Reads as record-at
use Rattle.pelohuaki_c.proofs.pelohuaki_read.Reads as read
use Rattle.pelohuaki_c.proofs.pelohuaki_write.Reads as write
use Rattle.pelohuaki_c.proofs.pelohuaki_import.Reads as importing
use Rattle.pelohuaki_c.proofs.pelohuaki_judge.Reads as judge
use Rattle.pelohuaki_c.proofs.pelohuaki_decide.Reads as decide
use Rattle.pelohuaki_c.proofs.pelohuaki_build.Reads as build
use Rattle.pelohuaki_c.proofs.pelohuaki_run.Reads as run
use Rattle.pelohuaki_c.proofs.pelohuaki_spell.Reads as spell
use Rattle.promises.specs.Calls.{lent, lent_mut}

abbrev Cells : Type 0
Cells = Bor (List ℕ)

abbrev SignedCells : Type 0
SignedCells = Bor (List ℤ)

-- and those that the call may write
abbrev MutCells : Type 0
MutCells = MutBor (List ℕ)

abbrev MutSignedCells : Type 0
MutSignedCells = MutBor (List ℤ)

-- ---- outcomes: the number that is returned, and each lent buffer afterwards

-- of a call that writes `told` alone
pub record ToldOutcome : Type 0 where
  pub number : ℕ
  pub told : List ℕ

-- of reading and importing
pub record ReadCells : Type 0 where
  pub number : ℕ
  pub codes : List ℕ
  pub coefficients : List ℤ
  pub constants : List ℤ
  pub told : List ℕ

pub record WroteCells : Type 0 where
  pub number : ℕ
  pub bytes : List ℕ
  pub told : List ℕ

pub record DecidedCells : Type 0 where
  pub number : ℕ
  pub keys : List ℤ
  pub path : List ℕ
  pub word : List ℕ
  pub told : List ℕ

pub record BuiltCells : Type 0 where
  pub number : ℕ
  pub keys : List ℤ
  pub table : List ℕ
  pub told : List ℕ

abbrev pub RecordExported : List ℕ → ℕ → List ℕ → ToldOutcome → Type 0
RecordExported bytes at told o = record-at.Post ([], ([], tt)) (lent bytes, (at, (lent_mut told, tt))) o.number (lent bytes, (at, (lent_mut o.told, tt)))

abbrev pub ReadExported : List ℕ → List ℕ → List ℤ → List ℤ → List ℕ → ReadCells → Type 0
ReadExported bytes codes coefficients constants told o =
    read.Post ([], ([], ([], ([], ([], tt))))) (lent bytes, (lent_mut codes, (lent_mut coefficients, (lent_mut constants, (lent_mut told, tt)))))
    o.number (lent bytes, (lent_mut o.codes, (lent_mut o.coefficients, (lent_mut o.constants, (lent_mut o.told, tt)))))

abbrev pub WriteExported : ℕ → List ℕ → List ℤ → List ℤ → List ℕ → List ℕ → WroteCells → Type 0
WriteExported n codes coefficients constants bytes told o =
    write.Post ([], ([], ([], ([], ([], tt))))) (n, (lent codes, (lent coefficients, (lent constants, (lent_mut bytes, (lent_mut told, tt))))))
    o.number (n, (lent codes, (lent coefficients, (lent constants, (lent_mut o.bytes, (lent_mut o.told, tt))))))

abbrev pub ImportExported : List ℕ → List ℕ → List ℤ → List ℤ → List ℕ → ReadCells → Type 0
ImportExported text codes coefficients constants told o =
    importing.Post ([], ([], ([], ([], ([], tt))))) (lent text, (lent_mut codes, (lent_mut coefficients, (lent_mut constants, (lent_mut told, tt)))))
    o.number (lent text, (lent_mut o.codes, (lent_mut o.coefficients, (lent_mut o.constants, (lent_mut o.told, tt)))))

abbrev pub JudgeExported : List ℕ → List ℕ → List ℕ → ToldOutcome → Type 0
JudgeExported bytes values told o = judge.Post ([], ([], ([], tt))) (lent bytes, (lent values, (lent_mut told, tt))) o.number (lent bytes, (lent values, (lent_mut o.told, tt)))

abbrev pub DecideExported : List ℕ → List ℤ → List ℕ → List ℕ → List ℕ → DecidedCells → Type 0
DecideExported bytes keys path word told o =
    decide.Post ([], ([], ([], ([], ([], tt))))) (lent bytes, (lent_mut keys, (lent_mut path, (lent_mut word, (lent_mut told, tt)))))
    o.number (lent bytes, (lent_mut o.keys, (lent_mut o.path, (lent_mut o.word, (lent_mut o.told, tt)))))

abbrev pub BuildExported : List ℕ → List ℤ → List ℕ → List ℕ → BuiltCells → Type 0
BuildExported bytes keys table told o =
    build.Post ([], ([], ([], ([], tt)))) (lent bytes, (lent_mut keys, (lent_mut table, (lent_mut told, tt)))) o.number (lent bytes, (lent_mut o.keys, (lent_mut o.table, (lent_mut o.told, tt))))

abbrev pub RunExported : ℕ → List ℕ → List ℕ → List ℕ → ToldOutcome → Type 0
RunExported n cells word told o = run.Post ([], ([], ([], tt))) (n, (lent cells, (lent word, (lent_mut told, tt)))) o.number (n, (lent cells, (lent word, (lent_mut o.told, tt))))

abbrev pub SpellExported : ℕ → ℕ → List ℕ → List ℕ → ToldOutcome → Type 0
SpellExported n variable word told o = spell.Post ([], ([], tt)) (n, (variable, (lent word, (lent_mut told, tt)))) o.number (n, (variable, (lent word, (lent_mut o.told, tt))))

-- ---- whatever is lent, wherever it lies: nothing is asked of it, and what the contract says is such an outcome

module _ (κ μ : Lft) (bytes : Cells) (told : MutCells) (at : ℕ) where
  pub exported_record_any : record-at.Pre (κ, (μ, tt)) (bytes, (at, (told, tt)))
  exported_record_any = tt

  pub exported_record_tied : (number : ℕ) (told₁ : MutCells) → record-at.Post (κ, (μ, tt)) (bytes, (at, (told, tt))) number (bytes, (at, (told₁, tt)))
      → RecordExported bytes.now at told.now (record { number = number; told = told₁.now })
  exported_record_tied number told₁ p = p

module _ (κ μ ν ξ ο : Lft) (bytes : Cells) (codes : MutCells) (coefficients constants : MutSignedCells) (told : MutCells) where
  pub exported_read_any : read.Pre (κ, (μ, (ν, (ξ, (ο, tt))))) (bytes, (codes, (coefficients, (constants, (told, tt)))))
  exported_read_any = tt

  pub exported_read_tied : (number : ℕ) (codes₁ : MutCells) (coefficients₁ constants₁ : MutSignedCells) (told₁ : MutCells)
      → read.Post (κ, (μ, (ν, (ξ, (ο, tt))))) (bytes, (codes, (coefficients, (constants, (told, tt))))) number (bytes, (codes₁, (coefficients₁, (constants₁, (told₁, tt)))))
      → ReadExported bytes.now codes.now coefficients.now constants.now told.now
      (record { number = number; codes = codes₁.now; coefficients = coefficients₁.now; constants = constants₁.now; told = told₁.now })
  exported_read_tied number codes₁ coefficients₁ constants₁ told₁ p = p

module _ (κ μ ν ξ ο : Lft) (n : ℕ) (codes : Cells) (coefficients constants : SignedCells) (bytes told : MutCells) where
  pub exported_write_any : write.Pre (κ, (μ, (ν, (ξ, (ο, tt))))) (n, (codes, (coefficients, (constants, (bytes, (told, tt))))))
  exported_write_any = tt

  pub exported_write_tied : (number : ℕ) (bytes₁ told₁ : MutCells)
      → write.Post (κ, (μ, (ν, (ξ, (ο, tt))))) (n, (codes, (coefficients, (constants, (bytes, (told, tt)))))) number (n, (codes, (coefficients, (constants, (bytes₁, (told₁, tt))))))
      → WriteExported n codes.now coefficients.now constants.now bytes.now told.now (record { number = number; bytes = bytes₁.now; told = told₁.now })
  exported_write_tied number bytes₁ told₁ p = p

module _ (κ μ ν ξ ο : Lft) (text : Cells) (codes : MutCells) (coefficients constants : MutSignedCells) (told : MutCells) where
  pub exported_import_any : importing.Pre (κ, (μ, (ν, (ξ, (ο, tt))))) (text, (codes, (coefficients, (constants, (told, tt)))))
  exported_import_any = tt

  pub exported_import_tied : (number : ℕ) (codes₁ : MutCells) (coefficients₁ constants₁ : MutSignedCells) (told₁ : MutCells)
      → importing.Post (κ, (μ, (ν, (ξ, (ο, tt))))) (text, (codes, (coefficients, (constants, (told, tt))))) number (text, (codes₁, (coefficients₁, (constants₁, (told₁, tt)))))
      → ImportExported text.now codes.now coefficients.now constants.now told.now
      (record { number = number; codes = codes₁.now; coefficients = coefficients₁.now; constants = constants₁.now; told = told₁.now })
  exported_import_tied number codes₁ coefficients₁ constants₁ told₁ p = p

module _ (κ μ ν : Lft) (bytes values : Cells) (told : MutCells) where
  pub exported_judge_any : judge.Pre (κ, (μ, (ν, tt))) (bytes, (values, (told, tt)))
  exported_judge_any = tt

  pub exported_judge_tied : (number : ℕ) (told₁ : MutCells) → judge.Post (κ, (μ, (ν, tt))) (bytes, (values, (told, tt))) number (bytes, (values, (told₁, tt)))
      → JudgeExported bytes.now values.now told.now (record { number = number; told = told₁.now })
  exported_judge_tied number told₁ p = p

module _ (κ μ ν ξ ο : Lft) (bytes : Cells) (keys : MutSignedCells) (path word told : MutCells) where
  pub exported_decide_any : decide.Pre (κ, (μ, (ν, (ξ, (ο, tt))))) (bytes, (keys, (path, (word, (told, tt)))))
  exported_decide_any = tt

  pub exported_decide_tied : (number : ℕ) (keys₁ : MutSignedCells) (path₁ word₁ told₁ : MutCells)
      → decide.Post (κ, (μ, (ν, (ξ, (ο, tt))))) (bytes, (keys, (path, (word, (told, tt))))) number (bytes, (keys₁, (path₁, (word₁, (told₁, tt)))))
      → DecideExported bytes.now keys.now path.now word.now told.now (record { number = number; keys = keys₁.now; path = path₁.now; word = word₁.now; told = told₁.now })
  exported_decide_tied number keys₁ path₁ word₁ told₁ p = p

module _ (κ μ ν ξ : Lft) (bytes : Cells) (keys : MutSignedCells) (table told : MutCells) where
  pub exported_build_any : build.Pre (κ, (μ, (ν, (ξ, tt)))) (bytes, (keys, (table, (told, tt))))
  exported_build_any = tt

  pub exported_build_tied : (number : ℕ) (keys₁ : MutSignedCells) (table₁ told₁ : MutCells)
      → build.Post (κ, (μ, (ν, (ξ, tt)))) (bytes, (keys, (table, (told, tt)))) number (bytes, (keys₁, (table₁, (told₁, tt))))
      → BuildExported bytes.now keys.now table.now told.now (record { number = number; keys = keys₁.now; table = table₁.now; told = told₁.now })
  exported_build_tied number keys₁ table₁ told₁ p = p

module _ (κ μ ν : Lft) (n : ℕ) (cells word : Cells) (told : MutCells) where
  pub exported_run_any : run.Pre (κ, (μ, (ν, tt))) (n, (cells, (word, (told, tt))))
  exported_run_any = tt

  pub exported_run_tied : (number : ℕ) (told₁ : MutCells) → run.Post (κ, (μ, (ν, tt))) (n, (cells, (word, (told, tt)))) number (n, (cells, (word, (told₁, tt))))
      → RunExported n cells.now word.now told.now (record { number = number; told = told₁.now })
  exported_run_tied number told₁ p = p

module _ (κ μ : Lft) (n variable : ℕ) (word : Cells) (told : MutCells) where
  pub exported_spell_any : spell.Pre (κ, (μ, tt)) (n, (variable, (word, (told, tt))))
  exported_spell_any = tt

  pub exported_spell_tied : (number : ℕ) (told₁ : MutCells) → spell.Post (κ, (μ, tt)) (n, (variable, (word, (told, tt)))) number (n, (variable, (word, (told₁, tt))))
      → SpellExported n variable word.now told.now (record { number = number; told = told₁.now })
  exported_spell_tied number told₁ p = p

-- ---- any two coincide

pub record_exported_once : (bytes : List ℕ) (at : ℕ) (told : List ℕ) {o p : ToldOutcome} → RecordExported bytes at told o → RecordExported bytes at told p → o ≡ p
record_exported_once bytes at told a b = λ i. record { number = (a.number ∙ sym b.number) i; told = (a.told ∙ sym b.told) i }

pub read_exported_once : (bytes codes : List ℕ) (coefficients constants : List ℤ) (told : List ℕ) {o p : ReadCells}
    → ReadExported bytes codes coefficients constants told o → ReadExported bytes codes coefficients constants told p → o ≡ p
read_exported_once bytes codes coefficients constants told a b = λ i. record {
  number = (a.told.number ∙ sym b.told.number) i;
  codes = (a.parts.codes ∙ sym b.parts.codes) i;
  coefficients = (a.parts.coefficients ∙ sym b.parts.coefficients) i;
  constants = (a.parts.constants ∙ sym b.parts.constants) i;
  told = (a.told.told ∙ sym b.told.told) i;
}

pub write_exported_once : (n : ℕ) (codes : List ℕ) (coefficients constants : List ℤ) (bytes told : List ℕ) {o p : WroteCells}
    → WriteExported n codes coefficients constants bytes told o → WriteExported n codes coefficients constants bytes told p → o ≡ p
write_exported_once n codes coefficients constants bytes told a b = λ i. record {
  number = (a.told.number ∙ sym b.told.number) i;
  bytes = (a.bytes ∙ sym b.bytes) i;
  told = (a.told.told ∙ sym b.told.told) i;
}

pub import_exported_once : (text codes : List ℕ) (coefficients constants : List ℤ) (told : List ℕ) {o p : ReadCells}
    → ImportExported text codes coefficients constants told o → ImportExported text codes coefficients constants told p → o ≡ p
import_exported_once text codes coefficients constants told a b = λ i. record {
  number = (a.told.number ∙ sym b.told.number) i;
  codes = (a.parts.codes ∙ sym b.parts.codes) i;
  coefficients = (a.parts.coefficients ∙ sym b.parts.coefficients) i;
  constants = (a.parts.constants ∙ sym b.parts.constants) i;
  told = (a.told.told ∙ sym b.told.told) i;
}

pub judge_exported_once : (bytes values told : List ℕ) {o p : ToldOutcome} → JudgeExported bytes values told o → JudgeExported bytes values told p → o ≡ p
judge_exported_once bytes values told a b = λ i. record { number = (a.number ∙ sym b.number) i; told = (a.told ∙ sym b.told) i }

pub decide_exported_once : (bytes : List ℕ) (keys : List ℤ) (path word told : List ℕ) {o p : DecidedCells}
    → DecideExported bytes keys path word told o → DecideExported bytes keys path word told p → o ≡ p
decide_exported_once bytes keys path word told a b = λ i. record {
  number = (a.number ∙ sym b.number) i;
  keys = (a.keys ∙ sym b.keys) i;
  path = (a.path ∙ sym b.path) i;
  word = (a.word ∙ sym b.word) i;
  told = (a.told ∙ sym b.told) i;
}

pub build_exported_once : (bytes : List ℕ) (keys : List ℤ) (table told : List ℕ) {o p : BuiltCells} → BuildExported bytes keys table told o → BuildExported bytes keys table told p → o ≡ p
build_exported_once bytes keys table told a b = λ i. record {
  number = (a.number ∙ sym b.number) i;
  keys = (a.keys ∙ sym b.keys) i;
  table = (a.table ∙ sym b.table) i;
  told = (a.told ∙ sym b.told) i;
}

pub run_exported_once : (n : ℕ) (cells word told : List ℕ) {o p : ToldOutcome} → RunExported n cells word told o → RunExported n cells word told p → o ≡ p
run_exported_once n cells word told a b = λ i. record { number = (a.number ∙ sym b.number) i; told = (a.told ∙ sym b.told) i }

pub spell_exported_once : (n variable : ℕ) (word told : List ℕ) {o p : ToldOutcome} → SpellExported n variable word told o → SpellExported n variable word told p → o ≡ p
spell_exported_once n variable word told a b = λ i. record { number = (a.number ∙ sym b.number) i; told = (a.told ∙ sym b.told) i }

-- ---- the verdict cell, where two cells of `told` are lent

second_cell : (l : List ℕ) (a b c d : ℕ) → 2 ≤ length l → get_or (sets l 0 (a ∷ b ∷ c ∷ d ∷ [])) 1 0 ≡ b
second_cell [] a b c d h = absurd (omega arith)
second_cell (x ∷ []) a b c d h = absurd (omega arith)
second_cell (x ∷ y ∷ []) a b c d h = refl
second_cell (x ∷ y ∷ z ∷ []) a b c d h = refl
second_cell (x ∷ y ∷ z ∷ u ∷ l) a b c d h = refl

-- 1 found, 2 never, 3 built, 0 where the call was refused
abbrev verdict_cell : Result Decision Refusal → ℕ
verdict_cell (Ok (Decision.Found states letters)) = 1
verdict_cell (Ok (Decision.Never states)) = 2
verdict_cell (Ok (Decision.NoRoom states)) = 0
verdict_cell (Ok (Decision.Short states letters)) = 0
verdict_cell (Err r) = 0

abbrev built_cell : Result Building Refusal → ℕ
built_cell (Ok (Building.Built states)) = 3
built_cell (Ok (Building.NoRoom states)) = 0
built_cell (Err r) = 0

decide_cell : (l : List ℕ) → 2 ≤ length l → (a : Result Decision Refusal) → get_or (sets l 0 (decide_cells a)) 1 0 ≡ verdict_cell a
decide_cell l h (Ok (Decision.Found states letters)) = second_cell l 0 1 states letters h
decide_cell l h (Ok (Decision.Never states)) = second_cell l 0 2 states 0 h
decide_cell l h (Ok (Decision.NoRoom states)) = second_cell l 0 0 states 0 h
decide_cell l h (Ok (Decision.Short states letters)) = second_cell l 0 0 states letters h
decide_cell l h (Err r) = second_cell l r.place 0 0 0 h

build_cell : (l : List ℕ) → 2 ≤ length l → (a : Result Building Refusal) → get_or (sets l 0 (build_cells a)) 1 0 ≡ built_cell a
build_cell l h (Ok (Building.Built states)) = second_cell l 0 3 states 0 h
build_cell l h (Ok (Building.NoRoom states)) = second_cell l 0 0 states 0 h
build_cell l h (Err r) = second_cell l r.place 0 0 0 h

is_never : (a : Result Decision Refusal) → verdict_cell a ≡ 2 → (states : ℕ) × (a ≡ Ok (Decision.Never states))
is_never (Ok (Decision.Found states letters)) e = absurd (omega (arith, e))
is_never (Ok (Decision.Never states)) e = (states, refl)
is_never (Ok (Decision.NoRoom states)) e = absurd (omega (arith, e))
is_never (Ok (Decision.Short states letters)) e = absurd (omega (arith, e))
is_never (Err r) e = absurd (omega (arith, e))

is_built : (a : Result Building Refusal) → built_cell a ≡ 3 → (states : ℕ) × (a ≡ Ok (Building.Built states))
is_built (Ok (Building.Built states)) e = (states, refl)
is_built (Ok (Building.NoRoom states)) e = absurd (omega (arith, e))
is_built (Err r) e = absurd (omega (arith, e))

-- a 2 is never: the bytes are a question's, its reachable states have rows, and no naturals satisfy it
pub never_exported : (bytes : List ℕ) (keys : List ℤ) (path word told : List ℕ) → Octets bytes → 2 ≤ length told → {o : DecidedCells} → DecideExported bytes keys path word told o
    → (get_or o.told 1 0 ≡ 2) ↔ Guarded bytes keys path
never_exported bytes keys path word told octets room out =
    let a : Result Decision Refusal = (decided bytes keys path word).answer in
    let cell = ap (λ (l : List ℕ). get_or l 1 0) out.told ∙ decide_cell told room a in
    Iff.trans (λ e. is_never a (sym cell ∙ e), λ (states, e). cell ∙ ap verdict_cell e) (never_guarded bytes keys path word octets)

-- a 3 is built: the bytes are a question's, and the rows lent are at least its reachable states
pub built_exported : (bytes : List ℕ) (keys : List ℤ) (table told : List ℕ) → Octets bytes → 2 ≤ length told → {o : BuiltCells} → BuildExported bytes keys table told o
    → (get_or o.told 1 0 ≡ 3) ↔ ((states : ℕ) × ((q : IsQuestion bytes) × (StatesAre (machine_of (held_in q)) states × (states ≤ rows_for q keys table))))
built_exported bytes keys table told octets room out =
    let a : Result Building Refusal = (built bytes keys table).answer in
    let cell = ap (λ (l : List ℕ). get_or l 1 0) out.told ∙ build_cell told room a in
    (λ e. let s = is_built a (sym cell ∙ e) in (s.0, (built_exactly bytes keys table octets s.0).0 s.1), λ (states, q). cell ∙ ap built_cell ((built_exactly bytes keys table octets states).1 q))
