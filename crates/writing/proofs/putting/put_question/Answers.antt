-- `writing::putting::put_question` meets its contract: what is still to be put leads to the whole.
use borrow.Author.Rules.{rules}
use native.Mathlib.Omega.{arith}
use mathlib.Core.Path.{◌≡◌, sym, ap, ◌∙◌}
use Prim.Native.Nat.{ℕ, ◌≤◌, ◌<◌, ◌+◌}
use lib.ListN.{length}
use lib.Seq.{sets}
use mathlib.Core.Bool.{true}
use Rattle.scope.specs.Sizes.{most_atoms}
use Rattle.scope.specs.Question.{is_atom}
use Rattle.scope.specs.Wire.{body_length}
use Rattle.scope.specs.Writing.{node_bytes}
use Rattle.scope.specs.declared.Question.{Question}
use Rattle.writing.specs.Writes.{code_node, atoms_to, bytes_to}
use Rattle.writing.proofs.Lengths.{node_length, bytes_first}
use Rattle.writing.proofs.Placing.{nodes_start, nodes_again, nodes_whole, length_below, atoms_below, atoms_most, bytes_least}
use Rattle.writing.proofs.putting.put_question.Goals as goal
use Rattle.writing.proofs.putting.put_question.Goals.{At-loop-i, In-loop-i}

-- the question that is lent by its parts
abbrev held : goal.In-loop-i → Question
held c = c.args.question.now

few : (c : goal.In-loop-i) → is_atom (code_node (held c) c.loop-i.i) ≡ true → atoms_to (held c) c.loop-i.i < most_atoms
few c e = atoms_below (held c) c.loop-i.i c.args.nodes (omega arith) e c.requires.few_atoms

long : (c : goal.In-loop-i)
    → length (node_bytes (held c) (code_node (held c) c.loop-i.i) (atoms_to (held c) c.loop-i.i)) ≡ 4 + body_length c.args.question.now.n (code_node (held c) c.loop-i.i)
long c = node_length (held c) (search rules) c.requires.variables (code_node (held c) c.loop-i.i) _ (few c)

below : (c : goal.In-loop-i) → c.loop-i.at + 4 + body_length c.args.question.now.n (code_node (held c) c.loop-i.i) ≤ length (bytes_to (held c) c.args.nodes)
below c =
    omega (arith, c.loop-i.invariant.at_is, long c, length_below (held c) c.loop-i.i c.args.nodes (omega arith))

same : (c : goal.At-loop-i) → length c.loop-i.bytes ≡ length c.args.bytes.now
same c = c.loop-i.invariant.same ∙ c.put_head.auto.bytes

-- n, as it is counted
count : (c : goal.In-loop-i) → c.from-n.result ≡ c.args.question.now.n
count c = c.from-n.ensures

counted_length : (c : goal.In-loop-i)
    → body_length c.from-n.result (code_node (held c) c.loop-i.i) ≡ body_length c.args.question.now.n (code_node (held c) c.loop-i.i)
counted_length c = ap (λ (n : ℕ). body_length n (code_node (held c) c.loop-i.i)) (count c)

pub put_head-requires : goal.put_head-requires
put_head-requires c = omega (arith, c.requires.room, bytes_least c.args.question.now c.args.nodes)

pub loop-i-init : goal.loop-i-init
loop-i-init c = nodes_start c.args.question.now c.args.nodes c.put_head.new.bytes

pub put_node-requires : goal.put_node-requires
put_node-requires c =
    record {
      variables = c.requires.variables;
      few = λ a. rw c.loop-i.invariant.atoms_is (few (goal.at.put_node-requires c).In-loop-i a);
      room = omega (arith, below (goal.at.put_node-requires c).In-loop-i, c.requires.room, same (goal.at.put_node-requires c).At-loop-i);
    }

pub overflow_add-at : goal.overflow_add-at
overflow_add-at c = omega (arith, below (goal.at.overflow_add-at c).In-loop-i, c.requires.short, counted_length (goal.at.overflow_add-at c).In-loop-i, c.body_length.ensures)

pub overflow_add-at-in-loop-i : goal.overflow_add-at-in-loop-i
overflow_add-at-in-loop-i c = omega (arith, below (goal.at.overflow_add-at-in-loop-i c).In-loop-i, c.requires.short, counted_length (goal.at.overflow_add-at-in-loop-i c).In-loop-i, c.body_length.ensures)

pub counted-atoms-requires : goal.counted-atoms-requires
counted-atoms-requires c =
    omega (arith, c.loop-i.invariant.atoms_is, c.requires.few_atoms, atoms_most (held (goal.at.counted-atoms-requires c).In-loop-i) c.loop-i.i c.args.nodes c.loop-i.invariant.within)

pub loop-i-preserved : goal.loop-i-preserved
loop-i-preserved c =
    let q = held (goal.at.loop-i-preserved c).In-loop-i in
    nodes_again c.loop-i.invariant (omega arith)
    c.put_node.new.bytes c.body_length.result c.counted-atoms.result c.put_node.auto.bytes
    c.put_node.ensures
    (ap (λ (k : ℕ). length (node_bytes q (code_node q c.loop-i.i) k)) c.loop-i.invariant.atoms_is ∙ long (goal.at.loop-i-preserved c).In-loop-i ∙ ap (λ (k : ℕ). 4 + k) (sym (c.body_length.ensures ∙ counted_length (goal.at.loop-i-preserved c).In-loop-i))) c.counted-atoms.ensures

pub returns : goal.returns
returns c =
    nodes_whole c.loop-i.invariant (omega arith)
    c.args.bytes.now c.put_header.new.bytes (c.put_head.ensures ∙ ap (sets c.args.bytes.now 0) (sym (bytes_first c.args.question.now))) c.put_header.ensures
