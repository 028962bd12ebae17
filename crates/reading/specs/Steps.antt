-- What the code answers on its way along document 01's checks, and a node noted in the parts of a question.
use Rattle.std.specs.Prelude.{ℕ, ◌+◌, ◌≡◌, ⊤, not, List, [], eqb, Option, Some, None, Result, Ok}
use Rattle.std.proofs.Math.Option as maybe
use Rattle.scope.specs.declared.Question.{Question}
use Rattle.scope.specs.declared.Refusal.{Refusal}
use Rattle.scope.specs.Question.{Node, unused, atom, code_of, is_unused}
use Rattle.scope.specs.Refusals.{first_refusal, unless_refused}
use Rattle.scope.specs.Wire.{Reading, byte_at, kind_at, frame_checks, head_checks, node_of_kind, node_at, node_checks, after_node, body_length}
use Rattle.records.specs.Formula.{counts}
use Rattle.records.specs.Parts.{node_or}

-- ---- a record of a known kind and length

abbrev pub frame_or : maybe.Option Refusal → Result ⊤ Refusal
frame_or o = unless_refused o tt

abbrev pub frame_answer : List ℕ → ℕ → ℕ → ℕ → Result ⊤ Refusal
frame_answer b at due size = frame_or (first_refusal (frame_checks b at (eqb (kind_at b at) due) size []))

-- ---- the head

abbrev pub head_answer : List ℕ → ℕ → Result ℕ Refusal
head_answer b at = unless_refused (first_refusal (head_checks b at)) (byte_at b (at + 4))

-- ---- a node

abbrev pub node_here : List ℕ → ℕ → Node
node_here b at = node_of_kind (kind_at b at)

-- the code, where the node is used
abbrev pub used_code : Node → Option ℕ
used_code unused = None
used_code (atom κ) = Some (code_of (atom κ))
used_code Node.not = Some (code_of Node.not)
used_code Node.and = Some (code_of Node.and)
used_code Node.or = Some (code_of Node.or)

-- its kind, its length, its body
abbrev pub node_frame : List ℕ → ℕ → ℕ → Result ℕ Refusal
node_frame b at n = node_or (first_refusal (frame_checks b at (not (is_unused (node_here b at))) (body_length n (node_here b at)) [])) (node_here b at)

-- with all its checks
abbrev pub node_answer : List ℕ → ℕ → Reading → Result ℕ Refusal
node_answer b depth s = node_or (first_refusal (node_checks b depth s)) (node_at b s)

-- what is read so far, whatever is due
abbrev pub reading_at : Question → ℕ → ℕ → ℕ → Reading
reading_at q nodes atoms place = record { question = q; shape = counts nodes atoms; place = place }

pub record NodeRead (b : List ℕ) (depth : ℕ) (s : Reading) (r : Result ℕ Refusal) (after : Question) : Type 0 where
  pub answer : r ≡ node_answer b depth s
  pub noted : (code : ℕ) → r ≡ Ok code → after ≡ (after_node b depth [] s).question
