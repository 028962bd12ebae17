-- An outcome of each public call: its answer and what each lent buffer holds afterwards, as the call's own contract has it. `Post` is read off the
-- `ensures` of the code, so that nothing is said here a second time.
use Rattle.std.specs.Prelude.{List, [], ℕ, ℤ, Result, Bool}
use Rattle.std.specs.Borrow.{Bor, MutBor}
use Rattle.scope.specs.declared.Refusal.{Refusal}
use Rattle.scope.specs.declared.Record.{Record}
use Rattle.scope.specs.declared.Question.{Question}
use Rattle.scope.specs.declared.Limits.{Limits}
use Rattle.scope.specs.Writing.{Wrote}
use Rattle.scope.specs.Words.{Word}
use Rattle.scope.specs.Deciding.{Decided}
use Rattle.scope.specs.Building.{Built}
use Rattle.reading.specs.declared.ReadPart.{ReadPart}
use Rattle.importing.specs.declared.answer.Import.{Import}
use Rattle.scope.proofs.Question.empty.Reads as empty
use Rattle.scope.proofs.Question.limits.Reads as limits
use Rattle.records.proofs.record_at.Reads as record-at
use Rattle.records.proofs.body.Reads as body
use Rattle.reading.proofs.read.Reads as read
use Rattle.reading.proofs.read_from.Reads as read-from
use Rattle.writing.proofs.write.Reads as write
use Rattle.importing.proofs.import.Reads as importing
use Rattle.judge.proofs.judge.Reads as judge
use Rattle.words.proofs.run.Reads as run
use Rattle.words.proofs.spell.Reads as spell
use Rattle.decide.proofs.decide.Reads as decide
use Rattle.build.proofs.build.Reads as build

-- a reference to lent cells; Tied shows that no outcome depends on where they lie in memory
abbrev pub lent : {X : Type 0} → X → Bor X
lent x = record { ref_ptr = (0, 0); now = x }

-- the same, of cells that the call may write
abbrev pub lent_mut : {X : Type 0} → X → MutBor X
lent_mut x = record { ref_ptr = (0, 0); ghost_name = 0; now = x }

-- ---- a question's constructor and limits

abbrev pub EmptyOutcome : Question → Type 0
EmptyOutcome r = empty.Post tt tt r tt

abbrev pub LimitsOutcome : Limits → Type 0
LimitsOutcome r = limits.Post tt tt r tt

-- ---- calls that lend nothing to be written

abbrev pub RecordOutcome : List ℕ → ℕ → Result Record Refusal → Type 0
RecordOutcome bytes at r = record-at.Post ([], tt) (lent bytes, (at, tt)) r (lent bytes, (at, tt))

abbrev pub ReadOutcome : List ℕ → Result Question Refusal → Type 0
ReadOutcome bytes r = read.Post ([], tt) (lent bytes, tt) r (lent bytes, tt)

abbrev pub PartOutcome : List ℕ → ℕ → Result ReadPart Refusal → Type 0
PartOutcome bytes at r = read-from.Post ([], tt) (lent bytes, (at, tt)) r (lent bytes, (at, tt))

abbrev pub ImportOutcome : List ℕ → Result Import Refusal → Type 0
ImportOutcome text r = importing.Post ([], tt) (lent text, tt) r (lent text, tt)

abbrev pub JudgeOutcome : List ℕ → List ℕ → Result Bool Refusal → Type 0
JudgeOutcome bytes values r = judge.Post ([], ([], tt)) (lent bytes, (lent values, tt)) r (lent bytes, (lent values, tt))

abbrev pub RunOutcome : ℕ → List ℕ → Word → Result Bool Refusal → Type 0
RunOutcome n cells word r = run.Post ([], ([], tt)) (n, (lent cells, (lent word, tt))) r (n, (lent cells, (lent word, tt)))

abbrev pub SpellOutcome : ℕ → ℕ → Word → Result ℕ Refusal → Type 0
SpellOutcome n variable word r = spell.Post ([], tt) (n, (variable, (lent word, tt))) r (n, (variable, (lent word, tt)))

-- the part of the caller's bytes that is handed back: where it lies counts
abbrev pub BodyOutcome : Bor (List ℕ) → ℕ → ℕ → Bor (List ℕ) → Type 0
BodyOutcome bytes start len part = body.Post ([], tt) (bytes, (start, (len, tt))) part (bytes, (start, (len, tt)))

-- ---- calls that are lent buffers: an outcome is the answer and each buffer afterwards

abbrev pub WriteOutcome : Question → List ℕ → Wrote → Type 0
WriteOutcome q buffer o = write.Post ([], ([], tt)) (lent q, (lent_mut buffer, tt)) o.answer (lent q, (lent_mut o.buffer, tt))

abbrev pub DecideOutcome : List ℕ → List ℤ → List ℕ → List ℕ → Decided → Type 0
DecideOutcome bytes keys path word o =
    decide.Post ([], ([], ([], ([], tt)))) (lent bytes, (lent_mut keys, (lent_mut path, (lent_mut word, tt)))) o.answer (lent bytes, (lent_mut o.keys, (lent_mut o.path, (lent_mut o.word, tt))))

abbrev pub BuildOutcome : List ℕ → List ℤ → List ℕ → Built → Type 0
BuildOutcome bytes keys table o =
    build.Post ([], ([], ([], tt))) (lent bytes, (lent_mut keys, (lent_mut table, tt))) o.answer (lent bytes, (lent_mut o.keys, (lent_mut o.table, tt)))
