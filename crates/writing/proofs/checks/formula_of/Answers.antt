-- `writing::checks::formula_of` meets its contract: what is still to be walked leads to the whole.
use borrow.Author.Rules.{rules}
use native.Mathlib.Omega.{arith}
use lib.ListN.{length}
use Rattle.scope.specs.Sizes.{most_variables, most_atoms}
use mathlib.Core.Path.{◌≡◌, sym, ap, ◌∙◌}
use Prim.Native.Nat.{ℕ, ◌*◌}
use Rattle.scope.specs.declared.Question.{Question}
use Rattle.std.proofs.Common.{Result, Ok}
use Rattle.std.proofs.lemmas.Result.{err_from_is_err_and}
use Rattle.scope.specs.declared.Refusal.{Refusal}
use Rattle.scope.specs.Writing.{Walk}
use Rattle.writing.specs.Writes.{code_answer}
use Rattle.records.specs.declared.shape.Shape.{Shape}
use Rattle.records.specs.Formula.{due_depth}
use Rattle.records.proofs.Due.{grown_nodes, first_is, first_none}
use Rattle.writing.proofs.Checking.{CodeTaken, code_taken}
use Rattle.writing.proofs.Walks.{walk_by, walking_start, walking_refused, walking_again, walking_end}
use Rattle.writing.proofs.checks.formula_of.Goals as goal
use Rattle.writing.proofs.checks.formula_of.Goals.{In_ok-code}

-- what a node answers at the depth that is due
answered : (q : Question) (w : Walk) (d e : ℕ) (a r : Result ℕ Refusal) → a ≡ code_answer q d w → d ≡ e → a ≡ r → code_answer q e w ≡ r
answered q w d e a r f g h = sym (f ∙ ap (λ (depth : ℕ). code_answer q depth w) g) ∙ h

-- the node that a turn took
module _ (c : goal.In_ok-code) where
  abbrev held : Question
  held = c.args.question.now

  abbrev shape : Shape
  shape = c.loop-depth.shape

  asked : code_answer held (due_depth shape) (walk_by held shape) ≡ Ok c.in_ok-code.code
  asked = answered held (walk_by held shape) _ (due_depth shape) _ _ c.code_at.ensures (first_is c.loop-depth.shape _ c.in-Some.ensures).1 c.in_ok-code.was

  node : CodeTaken held (due_depth shape) (walk_by held shape) c.in_ok-code.code
  node = code_taken held (due_depth shape) (walk_by held shape) _ asked

pub loop-depth-init : goal.loop-depth-init
loop-depth-init c = walking_start c.args.question.now _ c.unread-shape.ensures

pub returns-in_err-code : goal.returns-in_err-code
returns-in_err-code c =
    let q = c.args.question.now in
    let s = c.loop-depth.shape in
    let p = err_from_is_err_and c.from_residual.result c.from_residual.ensures.1 in
    rw (p.1, p.2) (walking_refused c.loop-depth.invariant (first_is c.loop-depth.shape _ c.in-Some.ensures).0 _ (answered q (walk_by q s) _ (due_depth s) _ _ c.code_at.ensures (first_is c.loop-depth.shape _ c.in-Some.ensures).1 c.in_err-code.was))

pub grow-requires : goal.grow-requires
grow-requires c =
    let k = node (goal.at.grow-requires c).In_ok-code in
    record { sound = c.loop-depth.invariant.sound; due = (first_is c.loop-depth.shape _ c.in-Some.ensures).0; room = k.room; shallow = k.shallow; node = k.known.used; known = k.known.small }

pub loop-depth-smaller : goal.loop-depth-smaller
loop-depth-smaller c = omega (arith, (node (goal.at.loop-depth-smaller c).In_ok-code).room, grown_nodes _ _ _ c.grow.ensures)

pub loop-depth-preserved : goal.loop-depth-preserved
loop-depth-preserved c =
    let f : length c.args.question.now.coefficients ≡ most_variables * most_atoms = search rules in
    walking_again c.loop-depth.invariant (first_is c.loop-depth.shape _ c.in-Some.ensures).0
    f c.requires _ _ (asked (goal.at.loop-depth-preserved c).In_ok-code) (rw c.from-n.ensures at c.body_length.ensures) _ c.grow.ensures

pub returns : goal.returns
returns c = walking_end c.loop-depth.invariant c.requires (first_none c.loop-depth.shape c.in_default.ensures)
