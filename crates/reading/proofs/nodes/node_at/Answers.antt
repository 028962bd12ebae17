-- `reading::nodes::node_at` meets its contract: the frame, and then the size of the formula and the numbers.
use mathlib.Core.Path.{◌≡◌, refl, sym, ap, ◌∙◌}
use mathlib.Core.Bool.{Bool, true, false}
use mathlib.Core.List.{List}
use Prim.Native.Nat.{ℕ}
use Rattle.std.proofs.Common.{Ok, Err}
use Rattle.std.proofs.lemmas.Result.{err_from_is_err_and}
use Rattle.scope.specs.Question.{Node, node_of, is_atom}
use Rattle.scope.specs.Wire.{Reading, node_at, coefficients_at, constant_at}
use Rattle.records.specs.Formula.{size_fits}
use Rattle.records.proofs.Checks.{sized_few}
use Rattle.reading.specs.Steps.{reading_at, node_frame}
use Rattle.reading.proofs.Taken.{NodeKnown, node_known, atom_within, frame_kept, node_full, node_large, node_plain, node_atom}
use Rattle.reading.proofs.Noting.{noted_plain, noted_atom, read_refused, read_noted}
use Rattle.reading.proofs.nodes.node_at.Goals as goal
use Rattle.reading.proofs.nodes.node_at.Goals.{In_ok-code}

module _ (c : goal.In_ok-code) where
  -- what is read so far, the bytes, and the node at the place
  abbrev so_far : Reading
  so_far = reading_at c.args.question.now c.args.shape.now.nodes c.args.shape.now.atoms c.args.at

  abbrev bytes : List ℕ
  bytes = c.args.bytes.now

  abbrev here : Node
  here = node_at bytes so_far

  framed : node_frame bytes c.args.at c.args.question.now.n ≡ Ok c.in_ok-code.code
  framed = rw c.from.ensures at (sym c.in_ok-code.ensures)

  node : NodeKnown bytes c.args.at c.args.question.now.n c.in_ok-code.code
  node = node_known _ _ _ _ framed

  -- what `is_atom` and `sized` say of the node
  module _ (a : Bool) (e : a ≡ is_atom (node_of c.in_ok-code.code)) where
    atom_is : (t : Bool) → a ≡ t → is_atom here ≡ t
    atom_is t f = sym (e ∙ ap is_atom node.known.node) ∙ f

    size_is : (v t : Bool) → v ≡ size_fits a c.args.shape.now.atoms c.args.depth → v ≡ t → size_fits (is_atom here) c.args.shape.now.atoms c.args.depth ≡ t
    size_is v t f g = ap (λ (w : Bool). size_fits w c.args.shape.now.atoms c.args.depth) (atom_is _ refl) ∙ sym f ∙ g

pub returns-in_err-code : goal.returns-in_err-code
returns-in_err-code c =
    let s = reading_at c.args.question.now c.args.shape.now.nodes c.args.shape.now.atoms c.args.at in
    let p = err_from_is_err_and c.from_residual.result c.from_residual.ensures.1 in
    let e = rw c.from.ensures at (sym c.in_err-code.ensures) in
    rw (p.1, p.2) (read_refused c.args.bytes.now c.args.depth s _ (sym e ∙ frame_kept c.args.bytes.now c.args.depth s _ e) _ _ refl)

pub returns-then-nodes-ge-NODES : goal.returns-then-nodes-ge-NODES
returns-then-nodes-ge-NODES c =
    let s = (goal.at.returns-then-nodes-ge-NODES c).In_ok-code in
    read_refused (bytes s) s.args.depth (so_far s) _
    (ap Err c.at.ensures ∙ node_full (bytes s) s.args.depth (so_far s) _ (framed s) c.if-nodes-ge-NODES.true)
    _ _ refl

pub returns-then-not-sized : goal.returns-then-not-sized
returns-then-not-sized c =
    let s = (goal.at.returns-then-not-sized c).In_ok-code in
    read_refused (bytes s) s.args.depth (so_far s) _
    (ap Err c.at-then-not-sized.ensures ∙ node_large (bytes s) s.args.depth (so_far s) _ (framed s) c.if-nodes-ge-NODES.false (size_is s c.is_atom-atom.result c.is_atom-atom.ensures _ false c.sized.ensures c.if-not-sized.true))
    _ _ refl

pub returns-then-not-atom : goal.returns-then-not-atom
returns-then-not-atom c =
    let s = (goal.at.returns-then-not-atom c).In_ok-code in
    let plain = atom_is s c.is_atom-atom.result c.is_atom-atom.ensures false c.if-not-atom.true in
    read_noted (bytes s) s.args.depth (so_far s) _
    (sym (framed s) ∙ node_plain (bytes s) s.args.depth (so_far s) _ (framed s) c.if-nodes-ge-NODES.false (size_is s c.is_atom-atom.result c.is_atom-atom.ensures _ true c.sized.ensures c.if-not-sized.false) plain)
    _ (noted_plain (so_far s).question (so_far s).shape (here s) (coefficients_at (bytes s) (so_far s)) (constant_at (bytes s) (so_far s)) _ (node s).is plain)

pub take_atom-requires : goal.take_atom-requires
take_atom-requires c =
    let s = (goal.at.take_atom-requires c).In_ok-code in (
      record {
        variables = c.requires;
        few = sized_few _ s.args.shape.now.atoms s.args.depth (size_is s c.is_atom-atom.result c.is_atom-atom.ensures _ true c.sized.ensures c.if-not-sized.false) (atom_is s c.is_atom-atom.result c.is_atom-atom.ensures true c.if-not-atom.false);
      },
      atom_within (bytes s) s.args.at s.args.question.now.n _ (node s) (ap is_atom (node s).known.node ∙ atom_is s c.is_atom-atom.result c.is_atom-atom.ensures true c.if-not-atom.false),
    )

pub returns : goal.returns
returns c =
    let s = (goal.at.returns c).In_ok-code in
    let t = c.take_atom.ensures in
    record {
      answer = node_atom (bytes s) s.args.depth (so_far s) _ (framed s) c.if-nodes-ge-NODES.false (size_is s c.is_atom-atom.result c.is_atom-atom.ensures _ true c.sized.ensures c.if-not-sized.false) (atom_is s c.is_atom-atom.result c.is_atom-atom.ensures true c.if-not-atom.false) _ t.answer;
      noted = λ code e. noted_atom (so_far s).question (so_far s).shape (here s) (coefficients_at (bytes s) (so_far s)) (constant_at (bytes s) (so_far s)) _ (node s).is _ (atom_is s c.is_atom-atom.result c.is_atom-atom.ensures true c.if-not-atom.false) t.variables t.codes (t.coefficients code e) t.constants;
    }
