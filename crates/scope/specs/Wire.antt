-- Document 01, "A question on the wire", with document 02, E1: records, what is due, the checks at each record, and reading a question whole.
use Rattle.std.specs.Prelude.{ℕ, zero, suc, ◌+◌, ◌*◌, Bool, true, false, not, cond, ◌||◌, List, [], ◌∷◌, ◌++◌, length, get_or, set, replicate, leb, ltb, eqb, ℤ, Ok, Err, Result}
use Rattle.std.proofs.lemmas.List.Edits.{sets}
use Rattle.std.specs.Int.{w32}
use Rattle.std.proofs.Common.{to_z}
use Rattle.scope.specs.declared.Record.{Record}
use Rattle.scope.specs.declared.Rule.{Rule}
use Rattle.scope.specs.declared.Question.{Question}
use Rattle.scope.specs.declared.Refusal.{Refusal}
use Rattle.scope.specs.Sizes.{most_variables, most_atoms, most_nodes, most_depth, variables_fit, coefficient_fits, constant_fits}
use Rattle.scope.specs.Question.{Node, atom, equation, at_most, unused, code_of, is_unused, is_atom, parts, empty_question}
use Rattle.scope.specs.Refusals.{Check, check, refusal, first_refusal, unless_refused, Progress, stopped, going, ended, or_stopped, onward}

-- ---- little-endian numbers

abbrev pub byte_at : List ℕ → ℕ → ℕ
byte_at b at = get_or b at 0

abbrev pub two_at : List ℕ → ℕ → ℕ
two_at b at = byte_at b at + 256 * byte_at b (at + 1)

-- four bytes, in two's complement
abbrev pub number_at : List ℕ → ℕ → ℤ
number_at b at = to_z w32 (two_at b at + 65536 * two_at b (at + 2))

-- the count numbers from a place on
unfoldable pub numbers_at : ℕ → List ℕ → ℕ → List ℤ
numbers_at zero b at = []
numbers_at (suc count) b at = number_at b at ∷ numbers_at count b (at + 4)

-- ---- records: a two-byte length of the body, a two-byte kind, the body

abbrev pub length_at : List ℕ → ℕ → ℕ
length_at b at = two_at b at

abbrev pub kind_at : List ℕ → ℕ → ℕ
kind_at b at = two_at b (at + 2)

-- fewer than 4 bytes left, and body cut, each the other way round
abbrev pub header_there : List ℕ → ℕ → Bool
header_there b at = leb (at + 4) (length b)

abbrev pub body_there : List ℕ → ℕ → Bool
body_there b at = leb (at + 4 + length_at b at) (length b)

abbrev pub record_here : List ℕ → ℕ → Record
record_here b at = record { kind = kind_at b at; start = at + 4; len = length_at b at; next = at + 4 + length_at b at }

abbrev pub record_checks : List ℕ → ℕ → List Check
record_checks b at = check Rule.BytesEnd at (header_there b at) ∷ check Rule.BytesEnd at (body_there b at) ∷ []

-- a bare step
unfoldable pub record_at : List ℕ → ℕ → Result Record Refusal
record_at b at = unless_refused (first_refusal (record_checks b at)) (record_here b at)

-- in a question: whether the kind is one that is due, then the size of its body, and what is looked at later
abbrev pub frame_checks : List ℕ → ℕ → Bool → ℕ → List Check → List Check
frame_checks b at due size later =
    check Rule.BytesEnd at (header_there b at) ∷
    check Rule.NotDue at due ∷
    check Rule.BodyLength at (eqb (length_at b at) size) ∷
    check Rule.BytesEnd at (body_there b at) ∷
    later

-- ---- kinds

abbrev pub head_kind : ℕ
head_kind = 0x0001

abbrev pub end_kind : ℕ
end_kind = 0x00FF

abbrev pub kind_of : Node → ℕ
kind_of unused = 0
kind_of (atom equation) = 0x0010
kind_of (atom at_most) = 0x0011
kind_of Node.not = 0x0020
kind_of Node.and = 0x0021
kind_of Node.or = 0x0022

-- the node of a kind: unused where the kind is none of a node
abbrev pub node_of_kind : ℕ → Node
node_of_kind k =
    cond (eqb k 0x0010) (atom equation)
    (cond (eqb k 0x0011) (atom at_most)
    (cond (eqb k 0x0020) Node.not
    (cond (eqb k 0x0021) Node.and
    (cond (eqb k 0x0022) Node.or
    unused))))

-- the length of a node's body: n coefficients, then k, four bytes each, or empty
abbrev pub body_length : ℕ → Node → ℕ
body_length n x = cond (is_atom x) (4 * (n + 1)) 0

-- ---- the formula as far as it is known: its nodes and atoms so far, and the depths of the parts still due, the next one first

pub record Shape : Type 0 where
  pub nodes : ℕ
  pub atoms : ℕ
  pub due : List ℕ

-- one formula is due, its root at depth 1
abbrev pub unread : Shape
unread = record { nodes = 0; atoms = 0; due = 1 ∷ [] }

-- a node takes the place of the part that was due first, and its own parts are due before the others, one deeper
unfoldable pub grown : Node → ℕ → List ℕ → Shape → Shape
grown x depth due s = record { nodes = s.nodes + 1; atoms = s.atoms + cond (is_atom x) 1 0; due = replicate (parts x) (depth + 1) ++ due }

-- a 65th node
abbrev pub place_check : ℕ → Shape → Check
place_check place s = check Rule.TooMany place (ltb s.nodes most_nodes)

-- a ninth atom or depth 17
abbrev pub size_checks : ℕ → Node → ℕ → Shape → List Check → List Check
size_checks place x depth s later = check Rule.TooMany place (not (is_atom x) || ltb s.atoms most_atoms) ∷ check Rule.TooMany place (leb depth most_depth) ∷ later

-- an atom's numbers in field order (E1), the coefficients and then the constant: the first at `place`, each next one `apart` further on
unfoldable pub field_checks : ℕ → ℕ → List ℤ → ℤ → List Check
field_checks place apart [] constant = check Rule.ConstantBeyond place (constant_fits constant) ∷ []
field_checks place apart (a ∷ coefficients) constant = check Rule.CoefficientBeyond place (coefficient_fits a) ∷ field_checks (place + apart) apart coefficients constant

abbrev pub atom_checks : ℕ → ℕ → Node → List ℤ → ℤ → List Check
atom_checks place apart x coefficients constant = cond (is_atom x) (field_checks place apart coefficients constant) []

-- ---- reading

-- what is read so far, and the place of the next record
pub record Reading : Type 0 where
  pub question : Question
  pub shape : Shape
  pub place : ℕ

-- the question that was read, and the place after it
pub record Ended : Type 0 where
  pub question : Question
  pub next : ℕ

-- the head: n
abbrev pub head_checks : List ℕ → ℕ → List Check
head_checks b at = frame_checks b at (eqb (kind_at b at) head_kind) 1 (check Rule.BeyondLimit at (variables_fit (byte_at b (at + 4))) ∷ [])

abbrev pub after_head : List ℕ → ℕ → Reading
after_head b at = record {
  question = record { n = byte_at b (at + 4); codes = empty_question.codes; coefficients = empty_question.coefficients; constants = empty_question.constants };
  shape = unread;
  place = at + 5;
}

unfoldable pub head_read : List ℕ → ℕ → Progress Reading Ended
head_read b at = or_stopped (first_refusal (head_checks b at)) (going (after_head b at))

-- a node noted in the question; its numbers where it is an atom
unfoldable pub noted : Bool → Node → List ℤ → ℤ → Shape → Question → Question
noted true x coefficients constant s q = record {
  n = q.n;
  codes = set q.codes s.nodes (code_of x);
  coefficients = sets q.coefficients (most_variables * s.atoms) coefficients;
  constants = set q.constants s.atoms constant;
}
noted false x coefficients constant s q = record {
  n = q.n;
  codes = set q.codes s.nodes (code_of x);
  coefficients = q.coefficients;
  constants = q.constants;
}

-- the node at the place, and the numbers of an atom there
abbrev pub node_at : List ℕ → Reading → Node
node_at b s = node_of_kind (kind_at b s.place)

abbrev pub coefficients_at : List ℕ → Reading → List ℤ
coefficients_at b s = numbers_at s.question.n b (s.place + 4)

abbrev pub constant_at : List ℕ → Reading → ℤ
constant_at b s = number_at b (s.place + 4 + 4 * s.question.n)

-- a node, where a part is due at this depth and others after it: a number's place is its first byte
abbrev pub node_checks : List ℕ → ℕ → Reading → List Check
node_checks b depth s =
    let at = s.place in
    let x = node_at b s in
    frame_checks b at (not (is_unused x)) (body_length s.question.n x)
    (place_check at s.shape ∷
    size_checks at x depth s.shape
    (atom_checks (at + 4) 4 x (coefficients_at b s) (constant_at b s)))

abbrev pub after_node : List ℕ → ℕ → List ℕ → Reading → Reading
after_node b depth due s = record {
  question = noted (is_atom (node_at b s)) (node_at b s) (coefficients_at b s) (constant_at b s) s.shape s.question;
  shape = grown (node_at b s) depth due s.shape;
  place = s.place + 4 + body_length s.question.n (node_at b s);
}

unfoldable pub node_read : List ℕ → ℕ → List ℕ → Reading → Progress Reading Ended
node_read b depth due s = or_stopped (first_refusal (node_checks b depth s)) (going (after_node b depth due s))

-- the end, where no part is due
abbrev pub end_checks : List ℕ → ℕ → List Check
end_checks b at = frame_checks b at (eqb (kind_at b at) end_kind) 0 []

abbrev pub after_end : Reading → Ended
after_end s = record { question = s.question; next = s.place + 4 }

unfoldable pub end_read : List ℕ → Reading → Progress Reading Ended
end_read b s = or_stopped (first_refusal (end_checks b s.place)) (ended (after_end s))

abbrev pub due_read : List ℕ → List ℕ → Reading → Progress Reading Ended
due_read b [] s = end_read b s
due_read b (depth ∷ due) s = node_read b depth due s

unfoldable pub record_read : List ℕ → Reading → Progress Reading Ended
record_read b s = due_read b s.shape.due s

-- the question that starts at a place, up to its end record: no more than 64 nodes and the end follow the head
unfoldable pub read_from : List ℕ → ℕ → Progress Reading Ended
read_from b at = onward (most_nodes + 1) (record_read b) (head_read b at)

-- after the end, any byte left is refused, at that byte
abbrev pub whole_checks : List ℕ → ℕ → List Check
whole_checks b next = check Rule.LeftOver next (leb (length b) next) ∷ []

unfoldable pub whole_read : List ℕ → Progress Reading Ended → Progress Reading Ended
whole_read b (stopped r) = stopped r
whole_read b (going s) = going s
whole_read b (ended e) = or_stopped (first_refusal (whole_checks b e.next)) (ended e)

-- (nothing is left going: a 65th node is refused)
abbrev pub held_of : Progress Reading Ended → Result Question Refusal
held_of (stopped r) = Err r
held_of (going s) = Err (refusal Rule.TooMany s.place)
held_of (ended e) = Ok e.question

unfoldable pub read_held : List ℕ → Result Question Refusal
read_held b = held_of (whole_read b (read_from b 0))

-- the question that is held then: the empty one where it was refused
abbrev pub question_held : Result Question Refusal → Question
question_held (Ok q) = q
question_held (Err r) = empty_question
