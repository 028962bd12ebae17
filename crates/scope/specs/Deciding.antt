-- Document 01, "Deciding and building", of deciding: the rows lent, found, never and no room, and what each lent buffer holds after.
use Rattle.std.specs.Prelude.{ℕ, suc, ◌/◌, min, Bool, true, false, List, [], ◌∷◌, map, length, take, leb, ℤ, Ok, Err, Result}
use Rattle.std.proofs.Math.Option.{Option, none, some}
use Rattle.scope.specs.declared.Refusal.{Refusal}
use Rattle.scope.specs.declared.Decision.{Decision}
use Rattle.scope.specs.declared.Question.{Question}
use Rattle.scope.specs.Whole.{joined, at_front}
use Rattle.scope.specs.Sizes.{most_states}
use Rattle.scope.specs.Question.{atom_count}
use Rattle.scope.specs.Wire.{read_held}
use Rattle.scope.specs.Words.{Word}
use Rattle.scope.specs.States.{State, cells_of}
use Rattle.scope.specs.Numbering.{Machine, Row, Rows, machine_of, numbered, word_of, first_accepting}

-- ---- the verdict of a machine where r rows are lent and l are numbered

pub data Verdict : Type 0 where
  found : ℕ → Verdict
  never : Verdict
  no_room : Verdict

-- the smallest state below r that accepts, and whether the reachable states are at most r
abbrev pub verdict_by : Option ℕ → Bool → Verdict
verdict_by (some w) fits = found w
verdict_by none true = never
verdict_by none false = no_room

unfoldable pub verdict : {S : Type 0} → Machine S → ℕ → Rows S → Verdict
verdict m r l = verdict_by (first_accepting m (take r l)) (leb (length l) r)

-- the rows of every state counted
abbrev pub counted : {S : Type 0} → Verdict → ℕ → Rows S → Rows S
counted (found w) r l = take (suc w) l
counted never r l = l
counted no_room r l = take r l

-- ---- the lent areas

-- R: the least of key cells / m, path cells / 2 and 65,535
unfoldable pub decide_room : Question → List ℤ → List ℕ → ℕ
decide_room q keys path = min (min (length keys / atom_count q) (length path / 2)) most_states

unfoldable pub key_cells : Rows State → List ℤ
key_cells l = joined (map (λ (r : Row State). cells_of r.state) l)

unfoldable pub path_cells : Rows State → List ℕ
path_cells l = joined (map (λ (r : Row State). r.from ∷ r.letter ∷ []) l)

-- ---- deciding: the answer, and the key area, the path area and the word buffer afterwards

pub record Decided : Type 0 where
  pub answer : Result Decision Refusal
  pub keys : List ℤ
  pub path : List ℕ
  pub word : List ℕ

-- whether the word has room comes first
abbrev pub found_answer : Bool → ℕ → Word → Result Decision Refusal
found_answer true states w = Ok (Decision.Found states (length w))
found_answer false states w = Ok (Decision.Short states (length w))

abbrev pub found_word : Bool → Word → List ℕ → List ℕ
found_word true w word = at_front w word
found_word false w word = word

abbrev pub decide_answer : Verdict → ℕ → Rows State → Machine State → List ℕ → Result Decision Refusal
decide_answer (found w) r l m word = found_answer (leb (length (word_of m l w)) (length word)) (suc w) (word_of m l w)
decide_answer never r l m word = Ok (Decision.Never (length l))
decide_answer no_room r l m word = Ok (Decision.NoRoom r)

abbrev pub word_after : Verdict → Rows State → Machine State → List ℕ → List ℕ
word_after (found w) l m word = found_word (leb (length (word_of m l w)) (length word)) (word_of m l w) word
word_after never l m word = word
word_after no_room l m word = word

unfoldable pub decided_question : Question → List ℤ → List ℕ → List ℕ → Decided
decided_question q keys path word =
    let m = machine_of q in
    let r = decide_room q keys path in
    let l = numbered m r in
    let v = verdict m r l in
    let rows = counted v r l in
    record {
      answer = decide_answer v r l m word;
      keys = at_front (key_cells rows) keys;
      path = at_front (path_cells rows) path;
      word = word_after v l m word;
    }

-- a refused question changes no lent cell
abbrev pub decided_by : Result Question Refusal → List ℤ → List ℕ → List ℕ → Decided
decided_by (Ok q) keys path word = decided_question q keys path word
decided_by (Err r) keys path word = record { answer = Err r; keys = keys; path = path; word = word }

unfoldable pub decided : List ℕ → List ℤ → List ℕ → List ℕ → Decided
decided bytes keys path word = decided_by (read_held bytes) keys path word
