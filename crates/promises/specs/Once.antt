-- Each contract determines the answer and each lent cell afterwards: any two outcomes that it allows coincide.
use Rattle.std.specs.Prelude.{◌≡◌, List, ℕ, ℤ, Result, Bool}
use Rattle.std.proofs.Common.{sym, ◌∙◌}
use Rattle.std.specs.Borrow.{Bor}
use Rattle.scope.specs.declared.Refusal.{Refusal}
use Rattle.scope.specs.declared.Record.{Record}
use Rattle.scope.specs.declared.Question.{Question}
use Rattle.scope.specs.declared.Limits.{Limits}
use Rattle.scope.specs.Writing.{Wrote, wrote}
use Rattle.scope.specs.Words.{Word}
use Rattle.scope.specs.Deciding.{Decided, decided}
use Rattle.scope.specs.Building.{Built, built}
use Rattle.reading.specs.declared.ReadPart.{ReadPart}
use Rattle.importing.specs.declared.answer.Import.{Import}
use Rattle.promises.specs.Calls.{EmptyOutcome, LimitsOutcome, RecordOutcome, BodyOutcome, ReadOutcome, PartOutcome, ImportOutcome, JudgeOutcome, RunOutcome, SpellOutcome, WriteOutcome, DecideOutcome, BuildOutcome}

-- ---- the outcome of a call that is lent buffers is that of the definitions

pub write_is : (q : Question) (buffer : List ℕ) {o : Wrote} → WriteOutcome q buffer o → o ≡ wrote q buffer
write_is q buffer a = λ i. record { answer = a.answer i; buffer = a.buffer i }

pub decide_is : (bytes : List ℕ) (keys : List ℤ) (path word : List ℕ) {o : Decided} → DecideOutcome bytes keys path word o → o ≡ decided bytes keys path word
decide_is bytes keys path word a = λ i. record { answer = a.answer i; keys = a.keys i; path = a.path i; word = a.word i }

pub build_is : (bytes : List ℕ) (keys : List ℤ) (table : List ℕ) {o : Built} → BuildOutcome bytes keys table o → o ≡ built bytes keys table
build_is bytes keys table a = λ i. record { answer = a.answer i; keys = a.keys i; table = a.table i }

-- ---- any two coincide

pub empty_once : {r s : Question} → EmptyOutcome r → EmptyOutcome s → r ≡ s
empty_once a b = a ∙ sym b

pub limits_once : {r s : Limits} → LimitsOutcome r → LimitsOutcome s → r ≡ s
limits_once a b = a ∙ sym b

pub record_once : (bytes : List ℕ) (at : ℕ) {r s : Result Record Refusal} → RecordOutcome bytes at r → RecordOutcome bytes at s → r ≡ s
record_once bytes at a b = a ∙ sym b

-- of a part of the caller's bytes, where it lies and what it holds: that is all of a reference that a program can see
pub record SamePart (p q : Bor (List ℕ)) : Type 0 where
  pub lies : p.ref_ptr ≡ q.ref_ptr
  pub holds : p.now ≡ q.now

pub body_once : (bytes : Bor (List ℕ)) (start len : ℕ) {p q : Bor (List ℕ)} → BodyOutcome bytes start len p → BodyOutcome bytes start len q → SamePart p q
body_once bytes start len a b = record { lies = a.lies ∙ sym b.lies; holds = a.holds ∙ sym b.holds }

pub read_once : (bytes : List ℕ) {r s : Result Question Refusal} → ReadOutcome bytes r → ReadOutcome bytes s → r ≡ s
read_once bytes a b = a ∙ sym b

pub part_once : (bytes : List ℕ) (at : ℕ) {r s : Result ReadPart Refusal} → PartOutcome bytes at r → PartOutcome bytes at s → r ≡ s
part_once bytes at a b = a ∙ sym b

pub import_once : (text : List ℕ) {r s : Result Import Refusal} → ImportOutcome text r → ImportOutcome text s → r ≡ s
import_once text a b = a ∙ sym b

pub judge_once : (bytes values : List ℕ) {r s : Result Bool Refusal} → JudgeOutcome bytes values r → JudgeOutcome bytes values s → r ≡ s
judge_once bytes values a b = a ∙ sym b

pub run_once : (n : ℕ) (cells : List ℕ) (word : Word) {r s : Result Bool Refusal} → RunOutcome n cells word r → RunOutcome n cells word s → r ≡ s
run_once n cells word a b = a ∙ sym b

pub spell_once : (n variable : ℕ) (word : Word) {r s : Result ℕ Refusal} → SpellOutcome n variable word r → SpellOutcome n variable word s → r ≡ s
spell_once n variable word a b = a ∙ sym b

pub write_once : (q : Question) (buffer : List ℕ) {o p : Wrote} → WriteOutcome q buffer o → WriteOutcome q buffer p → o ≡ p
write_once q buffer a b = write_is q buffer a ∙ sym (write_is q buffer b)

pub decide_once : (bytes : List ℕ) (keys : List ℤ) (path word : List ℕ) {o p : Decided} → DecideOutcome bytes keys path word o → DecideOutcome bytes keys path word p → o ≡ p
decide_once bytes keys path word a b = decide_is bytes keys path word a ∙ sym (decide_is bytes keys path word b)

pub build_once : (bytes : List ℕ) (keys : List ℤ) (table : List ℕ) {o p : Built} → BuildOutcome bytes keys table o → BuildOutcome bytes keys table p → o ≡ p
build_once bytes keys table a b = build_is bytes keys table a ∙ sym (build_is bytes keys table b)
