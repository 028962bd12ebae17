-- Document 01, "A question on the wire", with document 02, E1, of writing a held question: its checks in their order, the bytes, and the buffer after.
use Rattle.std.specs.Prelude.{ℕ, zero, suc, ◌+◌, ◌/◌, ◌%◌, ◌-◌, Bool, true, false, not, cond, ◌||◌, ◌&&◌, List, [], ◌∷◌, ◌++◌, map, length, get_or, leb, ltb, eqb, ℤ, pos, Ok, Err, Result}
use Rattle.std.specs.Int.{w32}
use Rattle.std.proofs.Common.{of_z}
use Rattle.scope.specs.declared.Refusal.{Refusal}
use Rattle.scope.specs.declared.Rule.{Rule}
use Rattle.scope.specs.declared.Question.{Question}
use Rattle.scope.specs.Whole.{eq_z, all_from, joined, at_front}
use Rattle.scope.specs.Sizes.{most_variables, most_nodes, variables_fit}
use Rattle.scope.specs.Question.{Node, node_of, is_unused, is_atom, coefficients_of, constant_of}
use Rattle.scope.specs.Refusals.{Check, check, refusal, first_refusal, Progress, stopped, going, ended, or_stopped, onward}
use Rattle.scope.specs.Wire.{Shape, unread, grown, place_check, size_checks, head_kind, end_kind, kind_of, atom_checks}

-- ---- the bytes

abbrev pub two_bytes : ℕ → List ℕ
two_bytes v = v % 256 ∷ v / 256 % 256 ∷ []

-- four bytes, in two's complement
abbrev pub number_bytes : ℤ → List ℕ
number_bytes z = let v = of_z w32 z in v % 256 ∷ v / 256 % 256 ∷ v / 65536 % 256 ∷ v / 16777216 % 256 ∷ []

abbrev pub record_bytes : ℕ → List ℕ → List ℕ
record_bytes kind body = two_bytes (length body) ++ (two_bytes kind ++ body)

unfoldable pub atom_body : List ℤ → ℤ → List ℕ
atom_body coefficients constant = joined (map number_bytes coefficients) ++ number_bytes constant

unfoldable pub node_bytes : Question → Node → ℕ → List ℕ
node_bytes q x i = record_bytes (kind_of x) (cond (is_atom x) (atom_body (coefficients_of q i) (constant_of q i)) [])

-- ---- the walk over the nodes

-- the formula so far, and its bytes
pub record Walk : Type 0 where
  pub shape : Shape
  pub bytes : List ℕ

-- the head: n
abbrev pub head_held_checks : Question → List Check
head_held_checks q = check Rule.BeyondLimit 0 (variables_fit q.n) ∷ []

abbrev pub first_walk : Question → Walk
first_walk q = record { shape = unread; bytes = record_bytes head_kind (q.n ∷ []) }

unfoldable pub head_written : Question → Progress Walk Walk
head_written q = or_stopped (first_refusal (head_held_checks q)) (going (first_walk q))

-- the node whose turn it is
abbrev pub node_held : Question → Walk → Node
node_held q w = node_of (get_or q.codes w.shape.nodes 0)

-- a node, where a part is due: at the 65th place there is no code to look at, and a number's place is its node
abbrev pub node_held_checks : Question → ℕ → Walk → List Check
node_held_checks q depth w =
    let i = w.shape.nodes in
    let x = node_held q w in
    let a = w.shape.atoms in
    place_check i w.shape ∷
    check Rule.NotDue i (not (is_unused x)) ∷
    size_checks i x depth w.shape
    (atom_checks i 0 x (coefficients_of q a) (constant_of q a))

abbrev pub after_written : Question → ℕ → List ℕ → Walk → Walk
after_written q depth due w = record { shape = grown (node_held q w) depth due w.shape; bytes = w.bytes ++ node_bytes q (node_held q w) w.shape.atoms }

unfoldable pub node_written : Question → ℕ → List ℕ → Walk → Progress Walk Walk
node_written q depth due w = or_stopped (first_refusal (node_held_checks q depth w)) (going (after_written q depth due w))

abbrev pub due_written : Question → List ℕ → Walk → Progress Walk Walk
due_written q [] w = ended w
due_written q (depth ∷ due) w = node_written q depth due w

unfoldable pub part_written : Question → Walk → Progress Walk Walk
part_written q w = due_written q w.shape.due w

-- ---- what is left over

-- a code after the formula that is not zero, at its own place: the count codes from i on
unfoldable pub code_checks : ℕ → List ℕ → ℕ → List Check → List Check
code_checks zero codes i later = later
code_checks (suc count) codes i later = check Rule.LeftOver i (eqb (get_or codes i 0) 0) ∷ code_checks count codes (suc i) later

-- cell c of the coefficients is one of n in the row of one of the first atoms; the others are zero
abbrev pub coefficient_used : ℕ → ℕ → ℕ → Bool
coefficient_used n atoms c = ltb (c % most_variables) n && ltb (c / most_variables) atoms

unfoldable pub numbers_clear : Question → ℕ → Bool
numbers_clear q atoms =
    all_from (λ c z. coefficient_used q.n atoms c || eq_z z (pos 0)) 0 q.coefficients && all_from (λ i z. ltb i atoms || eq_z z (pos 0)) 0 q.constants

abbrev pub number_checks : Question → ℕ → List Check
number_checks q atoms = check Rule.LeftOver most_nodes (numbers_clear q atoms) ∷ []

unfoldable pub left_over_checks : Question → Shape → List Check
left_over_checks q s = code_checks (most_nodes - s.nodes) q.codes s.nodes (number_checks q s.atoms)

unfoldable pub end_written : Question → Progress Walk Walk → Progress Walk Walk
end_written q (stopped r) = stopped r
end_written q (going w) = stopped (refusal Rule.TooMany most_nodes)
end_written q (ended w) = or_stopped (first_refusal (left_over_checks q w.shape)) (ended (record { shape = w.shape; bytes = w.bytes ++ record_bytes end_kind [] }))

-- no more than 64 nodes, and the end of the formula
unfoldable pub written : Question → Progress Walk Walk
written q = end_written q (onward (most_nodes + 1) (part_written q) (head_written q))

-- ---- writing into a buffer, which has room for some bytes

pub record Wrote : Type 0 where
  pub answer : Result ℕ Refusal
  pub buffer : List ℕ

-- whether the bytes have room comes first
abbrev pub fitted : Bool → List ℕ → List ℕ → Wrote
fitted true bytes buffer = record { answer = Ok (length bytes); buffer = at_front bytes buffer }
fitted false bytes buffer = record { answer = Err (refusal Rule.TooShort 0); buffer = buffer }

abbrev pub wrote_of : Progress Walk Walk → List ℕ → Wrote
wrote_of (stopped r) buffer = record { answer = Err r; buffer = buffer }
wrote_of (going w) buffer = record { answer = Err (refusal Rule.TooMany most_nodes); buffer = buffer }
wrote_of (ended w) buffer = fitted (leb (length w.bytes) (length buffer)) w.bytes buffer

unfoldable pub wrote : Question → List ℕ → Wrote
wrote q buffer = wrote_of (written q) buffer
