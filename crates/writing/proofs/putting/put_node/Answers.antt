-- `writing::putting::put_node` meets its contract, for an atom and for any other node.
use borrow.Author.Rules.{rules}
use mathlib.Core.Path.{◌≡◌, sym, ◌∙◌}
use mathlib.Core.Bool.{true, false}
use Rattle.scope.specs.declared.Question.{Question}
use Rattle.scope.specs.Question.{node_of, is_atom}
use Rattle.writing.proofs.Placing.{put_plain, put_with_body, body_is}
use Rattle.writing.proofs.putting.put_node.Goals as goal
use Rattle.writing.proofs.putting.put_node.Goals.{Start, Then-is_atom}

-- the question by its numbers
abbrev held : goal.Start → Question
held s = s.args.question.now

atom : (c : goal.Then-is_atom) → is_atom (node_of c.args.code) ≡ true
atom c = sym c.is_atom.ensures ∙ c.if-is_atom.true

pub returns-then-is_atom : goal.returns-then-is_atom
returns-then-is_atom c =
    let p = c.requires in
    let e = atom (goal.at.returns-then-is_atom c).Then-is_atom in
    put_with_body (held (goal.at.returns-then-is_atom c).Start) (node_of c.args.code) c.args.atom c.args.at c.args.bytes.now c.put_header.new.bytes c.kind_of_code-kind.result c.narrow-len.result
    c.kind_of_code-kind.ensures c.put_header.ensures e
    (body_is (held (goal.at.returns-then-is_atom c).Start) (node_of c.args.code) c.args.atom _ (search rules) p.variables (p.few e) e (c.narrow-len.ensures ∙ rw c.from.ensures at c.body_length.ensures))
    c.put_atom.new.bytes c.put_atom.ensures

pub returns-else-is_atom : goal.returns-else-is_atom
returns-else-is_atom c =
    let e : is_atom (node_of c.args.code) ≡ false = sym c.is_atom.ensures ∙ c.if-is_atom.false in
    put_plain (held (goal.at.returns-else-is_atom c).Start) (node_of c.args.code) c.args.atom c.args.at c.args.bytes.now c.put_header.new.bytes c.kind_of_code-kind.result c.narrow-len.result
    c.kind_of_code-kind.ensures c.put_header.ensures e (c.narrow-len.ensures ∙ rw c.from.ensures at c.body_length.ensures ∙ rw e)
