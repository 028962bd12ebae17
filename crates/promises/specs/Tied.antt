-- Whatever is lent, wherever it lies in memory: a call asks nothing of it (`Pre`), and what its contract says (`Post`) is an outcome of Calls.
use Rattle.std.specs.Prelude.{List, ℕ, ℤ, Result, Bool}
use base.Fml.{Lft}
use Rattle.std.specs.Borrow.{Bor, MutBor}
use Rattle.scope.specs.declared.Refusal.{Refusal}
use Rattle.scope.specs.declared.Record.{Record}
use Rattle.scope.specs.declared.Decision.{Decision}
use Rattle.scope.specs.declared.Building.{Building}
use Rattle.scope.specs.declared.Question.{Question}
use Rattle.reading.specs.declared.ReadPart.{ReadPart}
use Rattle.importing.specs.declared.answer.Import.{Import}
use Rattle.records.proofs.record_at.Reads as record-at
use Rattle.records.proofs.body.Reads as body
use Rattle.reading.proofs.read.Reads as read
use Rattle.reading.proofs.read_from.Reads as read-from
use Rattle.writing.proofs.write.Reads as write
use Rattle.importing.proofs.import.Reads as importing
use Rattle.judge.proofs.judge.Reads as judge
use Rattle.words.proofs.run.Reads as run
use Rattle.words.proofs.spell.Reads as spell
use Rattle.decide.proofs.decide.Reads as decide
use Rattle.build.proofs.build.Reads as build
use Rattle.promises.specs.Calls.{RecordOutcome, BodyOutcome, ReadOutcome, PartOutcome, ImportOutcome, JudgeOutcome, RunOutcome, SpellOutcome, WriteOutcome, DecideOutcome, BuildOutcome}

-- cells that are read
abbrev Cells : Type 0
Cells = Bor (List ℕ)

-- and those that the call may write
abbrev MutCells : Type 0
MutCells = MutBor (List ℕ)

abbrev MutSignedCells : Type 0
MutSignedCells = MutBor (List ℤ)

module _ (κ : Lft) (bytes : Cells) where
  pub read_any : read.Pre (κ, tt) (bytes, tt)
  read_any = tt

  pub read_tied : (r : Result Question Refusal) → read.Post (κ, tt) (bytes, tt) r (bytes, tt) → ReadOutcome bytes.now r
  read_tied r p = p

  pub record_any : (at : ℕ) → record-at.Pre (κ, tt) (bytes, (at, tt))
  record_any at = tt

  pub record_tied : (at : ℕ) (r : Result Record Refusal) → record-at.Post (κ, tt) (bytes, (at, tt)) r (bytes, (at, tt)) → RecordOutcome bytes.now at r
  record_tied at r p = p

  pub body_any : (start len : ℕ) → body.Pre (κ, tt) (bytes, (start, (len, tt)))
  body_any start len = tt

  pub body_tied : (start len : ℕ) (part : Cells) → body.Post (κ, tt) (bytes, (start, (len, tt))) part (bytes, (start, (len, tt))) → BodyOutcome bytes start len part
  body_tied start len part p = p

  pub part_any : (at : ℕ) → read-from.Pre (κ, tt) (bytes, (at, tt))
  part_any at = tt

  pub part_tied : (at : ℕ) (r : Result ReadPart Refusal) → read-from.Post (κ, tt) (bytes, (at, tt)) r (bytes, (at, tt)) → PartOutcome bytes.now at r
  part_tied at r p = p

module _ (κ : Lft) (text : Cells) where
  pub import_any : importing.Pre (κ, tt) (text, tt)
  import_any = tt

  pub import_tied : (r : Result Import Refusal) → importing.Post (κ, tt) (text, tt) r (text, tt) → ImportOutcome text.now r
  import_tied r p = p

module _ (κ μ : Lft) (q : Bor Question) (bytes : MutCells) where
  pub write_any : write.Pre (κ, (μ, tt)) (q, (bytes, tt))
  write_any = tt

  pub write_tied : (r : Result ℕ Refusal) (bytes₁ : MutCells) → write.Post (κ, (μ, tt)) (q, (bytes, tt)) r (q, (bytes₁, tt)) → WriteOutcome q.now bytes.now (record { answer = r; buffer = bytes₁.now })
  write_tied r bytes₁ p = p

module _ (κ μ : Lft) (bytes values : Cells) where
  pub judge_any : judge.Pre (κ, (μ, tt)) (bytes, (values, tt))
  judge_any = tt

  pub judge_tied : (r : Result Bool Refusal) → judge.Post (κ, (μ, tt)) (bytes, (values, tt)) r (bytes, (values, tt)) → JudgeOutcome bytes.now values.now r
  judge_tied r p = p

module _ (κ μ : Lft) (n : ℕ) (cells word : Cells) where
  pub run_any : run.Pre (κ, (μ, tt)) (n, (cells, (word, tt)))
  run_any = tt

  pub run_tied : (r : Result Bool Refusal) → run.Post (κ, (μ, tt)) (n, (cells, (word, tt))) r (n, (cells, (word, tt))) → RunOutcome n cells.now word.now r
  run_tied r p = p

module _ (κ : Lft) (n variable : ℕ) (word : Cells) where
  pub spell_any : spell.Pre (κ, tt) (n, (variable, (word, tt)))
  spell_any = tt

  pub spell_tied : (r : Result ℕ Refusal) → spell.Post (κ, tt) (n, (variable, (word, tt))) r (n, (variable, (word, tt))) → SpellOutcome n variable word.now r
  spell_tied r p = p

module _ (κ μ ν ξ : Lft) (bytes : Cells) (keys : MutSignedCells) (path word : MutCells) where
  pub decide_any : decide.Pre (κ, (μ, (ν, (ξ, tt)))) (bytes, (keys, (path, (word, tt))))
  decide_any = tt

  pub decide_tied : (r : Result Decision Refusal) (keys₁ : MutSignedCells) (path₁ word₁ : MutCells)
      → decide.Post (κ, (μ, (ν, (ξ, tt)))) (bytes, (keys, (path, (word, tt)))) r (bytes, (keys₁, (path₁, (word₁, tt))))
      → DecideOutcome bytes.now keys.now path.now word.now (record { answer = r; keys = keys₁.now; path = path₁.now; word = word₁.now })
  decide_tied r keys₁ path₁ word₁ p = p

module _ (κ μ ν : Lft) (bytes : Cells) (keys : MutSignedCells) (table : MutCells) where
  pub build_any : build.Pre (κ, (μ, (ν, tt))) (bytes, (keys, (table, tt)))
  build_any = tt

  pub build_tied : (r : Result Building Refusal) (keys₁ : MutSignedCells) (table₁ : MutCells) → build.Post (κ, (μ, (ν, tt))) (bytes, (keys, (table, tt))) r (bytes, (keys₁, (table₁, tt)))
      → BuildOutcome bytes.now keys.now table.now (record { answer = r; keys = keys₁.now; table = table₁.now })
  build_tied r keys₁ table₁ p = p
