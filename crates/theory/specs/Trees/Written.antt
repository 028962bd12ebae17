-- A held value is written exactly if it is a question's, and its bytes are then those of the tree.
use Rattle.std.specs.Prelude.{◌≡◌, true, List, [], ◌∷◌, ◌++◌, ℕ, ◌<◌, T, is_ok}
use Rattle.std.proofs.Common.{sym, ap, ◌∙◌, subst, arith}
use Rattle.scope.specs.declared.Question.{Question}
use Rattle.scope.specs.Refusals.{ended}
use Rattle.scope.specs.Wire.{head_kind, end_kind, kind_of, question_held}
use Rattle.scope.specs.Writing.{record_bytes, atom_body, Walk, written}
use Rattle.scope.specs.Question.{Node}
use Rattle.scope.specs.Tree.{Tree, within_limits, tree_bytes, question_bytes, held_as, IsHeld}
use Rattle.theory.specs.Wire.Octets.{Octets, octets_append}
use Rattle.theory.specs.Wire.Held.{Sized}
use Rattle.theory.specs.Wire.Sound.{variables_range}
use Rattle.theory.specs.Wire.ReadWritten.{record_octets, body_octets, written_octets, read_written}
use Rattle.theory.specs.Wire.WrittenRead.{WrittenBack, written_read}
use Rattle.theory.specs.Trees.Limits.{tree_limits}
use Rattle.theory.specs.Trees.Read.{tree_read}
use Rattle.theory.specs.Trees.Parsed.{accepted_tree, question_read}

-- ---- the bytes of a tree are bytes

tree_octets : (t : Tree) → Octets (tree_bytes t)
unfolding tree_bytes
tree_octets (Tree.atom a) = record_octets (kind_of (Node.atom a.kind)) (atom_body a.coefficients a.constant) (body_octets true a.coefficients a.constant)
tree_octets (Tree.not t) = octets_append (record_bytes (kind_of Node.not) []) (tree_bytes t) (record_octets (kind_of Node.not) [] tt) (tree_octets t)
tree_octets (Tree.and t u) = octets_append (record_bytes (kind_of Node.and) []) (tree_bytes t ++ tree_bytes u) (record_octets (kind_of Node.and) [] tt) (octets_append (tree_bytes t) (tree_bytes u) (tree_octets t) (tree_octets u))
tree_octets (Tree.or t u) = octets_append (record_bytes (kind_of Node.or) []) (tree_bytes t ++ tree_bytes u) (record_octets (kind_of Node.or) [] tt) (octets_append (tree_bytes t) (tree_bytes u) (tree_octets t) (tree_octets u))

question_octets : (n : ℕ) (t : Tree) → T (within_limits n t) → Octets (question_bytes n t)
unfolding question_bytes
question_octets n t within =
    let small : n < 256 = omega (arith, (variables_range n ((tree_limits n t).0 within).variables).1) in
    octets_append (record_bytes head_kind (n ∷ [])) (tree_bytes t ++ record_bytes end_kind []) (record_octets head_kind (n ∷ []) (small, tt))
    (octets_append (tree_bytes t) (record_bytes end_kind []) (tree_octets t) (record_octets end_kind [] tt))

-- ---- writing

-- it is a question's, and these are its bytes
pub record WrittenAs (q : Question) (bytes : List ℕ) : Type 0 where
  pub held : IsHeld q
  pub bytes_are : bytes ≡ question_bytes held.n held.tree

pub written_question : (q : Question) (w : Walk) → Sized q → written q ≡ ended w → WrittenAs q w.bytes
written_question q w z e =
    let r = read_written q w z e in
    let t = accepted_tree w.bytes (written_octets q w e) (ap is_ok r) in
    record {
      held = record { n = t.n; tree = t.tree; within = t.within; held_is = ap question_held (sym r ∙ question_read w.bytes t) };
      bytes_are = t.bytes_are;
    }

pub held_written : (n : ℕ) (t : Tree) → T (within_limits n t) → (w : Walk) × (written (held_as n t) ≡ ended w) × (w.bytes ≡ question_bytes n t)
held_written n t within =
    let r = tree_read n t within in
    let b : WrittenBack (question_bytes n t) (held_as n t) =
    subst (WrittenBack (question_bytes n t)) (ap question_held r) (written_read (question_bytes n t) (question_octets n t within) (ap is_ok r)) in
    (b.walk, b.written, b.bytes)
