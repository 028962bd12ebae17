-- `reading::formula_from` meets its contract: what is still to be read leads to the whole reading.
use native.Mathlib.Omega.{arith}
use mathlib.Core.Path.{◌≡◌, sym, ap, ◌∙◌}
use mathlib.Core.List.{List}
use Prim.Native.Nat.{ℕ, ◌+◌}
use Rattle.std.proofs.Common.{Result, Ok}
use Rattle.std.proofs.lemmas.Result.{err_from_is_err_and}
use Rattle.scope.specs.declared.Question.{Question}
use Rattle.scope.specs.declared.Refusal.{Refusal}
use Rattle.scope.specs.Refusals.{going, onward}
use Rattle.scope.specs.Wire as wire
use Rattle.scope.specs.Sizes.{most_nodes}
use Rattle.records.specs.declared.shape.Shape.{Shape}
use Rattle.records.specs.Formula.{Unread, shape_of, due_depth}
use Rattle.records.proofs.Due.{grown_nodes, first_is, first_none}
use Rattle.reading.specs.Steps.{node_answer}
use Rattle.reading.specs.Answers.{headed, formula_read}
use Rattle.reading.proofs.Taken.{NodeTaken, node_taken}
use Rattle.reading.proofs.Turns.{reading_of, reading_by, left_end, left_refused, left_again, end_says}
use Rattle.reading.proofs.formula_from.Goals as goal
use Rattle.reading.proofs.formula_from.Goals.{In_ok-code}

-- reading begins with the head's question and nothing read
begun : (b : List ℕ) (q : Question) (at : ℕ) (s : Shape) → q ≡ headed q.n → Unread s
    → onward (most_nodes + 1) (wire.record_read b) (going (reading_of q s at)) ≡ formula_read b q.n at
begun b q at s e u = λ i. onward (most_nodes + 1) (wire.record_read b) (going (record { question = e i; shape = u.shape i; place = at }))

-- what a node answers at the depth that is due
answered : (b : List ℕ) (s : wire.Reading) (d e : ℕ) (a r : Result ℕ Refusal) → a ≡ node_answer b d s → d ≡ e → a ≡ r → node_answer b e s ≡ r
answered b s d e a r f g h = sym (f ∙ ap (λ (depth : ℕ). node_answer b depth s) g) ∙ h

pub returns-in_err-code : goal.returns-in_err-code
returns-in_err-code c =
    let l = c.loop-depth in
    let p = err_from_is_err_and c.from_residual.result c.from_residual.ensures.1 in
    rw (p.1, p.2)
    (sym (begun c.args.bytes.now c.args.question.now c.args.at _ c.requires.0 c.unread-shape.ensures)
    ∙ left_refused l.invariant (first_is c.loop-depth.shape _ c.in-Some.ensures).0 _ (answered c.args.bytes.now (reading_by l.question l.shape l.place) _ (due_depth l.shape) _ _ c.node_at.ensures.answer (first_is c.loop-depth.shape _ c.in-Some.ensures).1 c.in_err-code.was))

-- the node that a turn took
module _ (c : goal.In_ok-code) where
  abbrev shape : Shape
  shape = c.loop-depth.shape

  abbrev so_far : wire.Reading
  so_far = reading_by c.loop-depth.question shape c.loop-depth.place

  asked : node_answer c.args.bytes.now (due_depth shape) so_far ≡ Ok c.in_ok-code.code
  asked = answered c.args.bytes.now so_far _ (due_depth shape) _ _ c.node_at.ensures.answer (first_is c.loop-depth.shape _ c.in-Some.ensures).1 c.in_ok-code.was

  node : NodeTaken c.args.bytes.now (due_depth shape) so_far c.in_ok-code.code
  node = node_taken c.args.bytes.now (due_depth shape) so_far _ asked

pub grow-requires : goal.grow-requires
grow-requires c =
    let k = node (goal.at.grow-requires c).In_ok-code in
    record { sound = c.loop-depth.invariant.sound; due = (first_is c.loop-depth.shape _ c.in-Some.ensures).0; room = k.room; shallow = k.shallow; node = k.node.known.used; known = k.node.known.small }

pub loop-depth-smaller : goal.loop-depth-smaller
loop-depth-smaller c = omega (arith, (node (goal.at.loop-depth-smaller c).In_ok-code).room, grown_nodes _ _ _ c.grow.ensures)

pub loop-depth-preserved : goal.loop-depth-preserved
loop-depth-preserved c =
    let e : c.loop-depth.place + (4 + c.body_length.result) ≡ c.loop-depth.place + 4 + c.body_length.result = omega arith in
    let n : c.from-n.result ≡ c.loop-depth.question.n = c.from-n.ensures ∙ sym c.loop-depth.invariant.variables in
    rw e (left_again c.loop-depth.invariant (first_is c.loop-depth.shape _ c.in-Some.ensures).0 _ (asked (goal.at.loop-depth-preserved c).In_ok-code)
    _ (rw n at c.body_length.ensures) _ _ (c.node_at.ensures.noted _ c.in_ok-code.was) c.grow.ensures)

pub returns : goal.returns
returns c =
    let b = c.args.bytes.now in
    let l = c.loop-depth in
    end_says (formula_read b c.args.question.now.n c.args.at) b l.place (shape_of l.shape) l.question _ c.end_from.ensures
    (sym (begun b c.args.question.now c.args.at _ c.requires.0 c.unread-shape.ensures) ∙ left_end l.invariant (first_none c.loop-depth.shape c.in_default.ensures))
