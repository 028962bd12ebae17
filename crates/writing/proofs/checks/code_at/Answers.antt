-- `writing::checks::code_at` meets its contract: each test settles a check.
use mathlib.Core.Path.{◌≡◌, sym, ap, ◌∙◌}
use mathlib.Core.Bool.{Bool, true, false}
use Prim.Native.Nat.{ℕ}
use Rattle.std.proofs.Common.{Err}
use Rattle.scope.specs.declared.Question.{Question}
use Rattle.scope.specs.Question.{Node}
use Rattle.scope.specs.Writing.{Walk, node_held}
use Rattle.records.specs.Formula.{size_fits}
use Rattle.writing.specs.Writes.{walk_at}
use Rattle.writing.proofs.Checking.{code_full, code_kind, code_large, code_plain, code_atom}
use Rattle.writing.proofs.checks.code_at.Goals as goal
use Rattle.writing.proofs.checks.code_at.Goals.{Start}

-- the question that is lent, and the node
module _ (s : goal.Start) where
  abbrev held : Question
  held = s.args.question.now

  abbrev walk : Walk
  walk = walk_at held s.args.nodes s.args.atoms

  abbrev here : Node
  here = node_held held walk

size_is : (a b v t : Bool) (atoms depth : ℕ) → a ≡ b → v ≡ size_fits a atoms depth → v ≡ t → size_fits b atoms depth ≡ t
size_is a b v t atoms depth e f g = ap (λ (x : Bool). size_fits x atoms depth) (sym e) ∙ sym f ∙ g

pub returns-then-nodes-ge-NODES : goal.returns-then-nodes-ge-NODES
returns-then-nodes-ge-NODES c =
    ap Err c.at.ensures ∙ code_full (held (goal.at.returns-then-nodes-ge-NODES c).Start) c.args.depth (walk (goal.at.returns-then-nodes-ge-NODES c).Start) c.if-nodes-ge-NODES.true

pub returns-then-not-is_node : goal.returns-then-not-is_node
returns-then-not-is_node c =
    ap Err c.at-then-not-is_node.ensures ∙ code_kind (held (goal.at.returns-then-not-is_node c).Start) c.args.depth (walk (goal.at.returns-then-not-is_node c).Start) c.if-nodes-ge-NODES.false (sym c.is_node.ensures ∙ c.if-not-is_node.true)

pub returns-then-not-sized : goal.returns-then-not-sized
returns-then-not-sized c =
    ap Err c.at-then-not-sized.ensures
    ∙ code_large (held (goal.at.returns-then-not-sized c).Start) c.args.depth (walk (goal.at.returns-then-not-sized c).Start)
    c.if-nodes-ge-NODES.false (sym c.is_node.ensures ∙ c.if-not-is_node.false) (size_is _ _ _ false _ _ c.is_atom-atom.ensures c.sized.ensures c.if-not-sized.true)

pub returns-then-not-atom : goal.returns-then-not-atom
returns-then-not-atom c =
    code_plain (held (goal.at.returns-then-not-atom c).Start) c.args.depth (walk (goal.at.returns-then-not-atom c).Start)
    c.if-nodes-ge-NODES.false (sym c.is_node.ensures ∙ c.if-not-is_node.false) (size_is _ _ _ true _ _ c.is_atom-atom.ensures c.sized.ensures c.if-not-sized.false)
    (sym c.is_atom-atom.ensures ∙ c.if-not-atom.true)

pub returns : goal.returns
returns c =
    c.atom_at.ensures
    ∙ code_atom (held (goal.at.returns c).Start) c.args.depth (walk (goal.at.returns c).Start)
    c.if-nodes-ge-NODES.false (sym c.is_node.ensures ∙ c.if-not-is_node.false) (size_is _ _ _ true _ _ c.is_atom-atom.ensures c.sized.ensures c.if-not-sized.false)
    (sym c.is_atom-atom.ensures ∙ c.if-not-atom.false)
