-- `lexicon::broken_at` meets its contract. The invariant: the text is broken where it is from the index on, with this state and so many lists open.
-- Assumes nothing.
use native.Mathlib.Omega.{arith}
use mathlib.Core.Path.{◌≡◌, refl, sym, ap, ◌∙◌}
use mathlib.Core.Bool.{Bool, cond, ◌&&◌, and-false}
use mathlib.Core.Option.{none, some}
use borrow.Author.Tests.{eq-eqb, ne_eqb}
use lib.Dec.{eqb}
use lib.ListN.{length}
use Rattle.smtlib.specs.Lexicon.{broken_at}
use Rattle.lexicon.specs.Steps.{hand_of, move_said}
use Rattle.lexicon.specs.Spots.{spot_of}
use Rattle.lexicon.proofs.Depths.{after_small, then_broken, then_goes}
use Rattle.lexicon.proofs.Broken.{broken_more, broken_here, broken_end}
use Rattle.lexicon.proofs.broken_at.Goals as goal
use Rattle.lexicon.proofs.broken_at.Goals.{After-complete, else-complete-via-then-complete+else-depth-eq0, else-complete-via-else-complete}

pub loop-i-init : goal.loop-i-init
unfolding broken_at
loop-i-init c = (omega arith, refl)

pub returns-in_default : goal.returns-in_default
returns-in_default c =
    let no = then_broken (move_said c.move_of-step.result) c.loop-i.depth (sym c.in_default.is ∙ c.depth_then.ensures) in
    sym (ap spot_of (c.loop-i.invariant.1 ∙ broken_here _ _ c.loop-i.depth c.loop-i.i c.loop-i-test.true (rw c.move_of-step.ensures at no)))

pub loop-i-preserved : goal.loop-i-preserved
loop-i-preserved c =
    let m = move_said c.move_of-step.result in
    let goes = then_goes m c.loop-i.depth c.in-Some.behind (sym c.depth_then.ensures ∙ c.in-Some.is) in (
      rw goes.1 at (after_small m c.loop-i.depth c.loop-i.invariant.0 goes.0),
      c.loop-i.invariant.1 ∙
          broken_more _ _ c.loop-i.depth c.loop-i.i _ _ c.loop-i-test.true (rw c.move_of-step.ensures at goes.0) (rw (← c.move_of-step.ensures) (sym c.state-state.ensures)) (rw c.move_of-step.ensures at goes.1),
    )

-- the text ends
at_end : (c : goal.After-complete) → broken_at c.args.text.now ≡ cond (c.complete.result && eqb c.loop-i.depth 0) none (some (length c.args.text.now))
at_end c =
    c.loop-i.invariant.1 ∙ (let e : c.loop-i.i ≡ length c.args.text.now = omega arith in
    rw e (broken_end _ (hand_of c.loop-i.state) c.loop-i.depth (length c.args.text.now) (omega arith)))
    ∙ ap (λ (t : Bool). cond (t && eqb c.loop-i.depth 0) none (some (length c.args.text.now))) (sym c.complete.ensures)

pub returns-then-depth-eq0 : goal.returns-then-depth-eq0
returns-then-depth-eq0 c =
    sym (ap spot_of (rw (c.if-complete.true, eq-eqb _ _ c.if-depth-eq0.true) at (at_end (goal.at.returns-then-depth-eq0 c).After-complete)))

pub returns : goal.returns
returns c =
    let e = at_end (goal.at.returns c).After-complete in
    elim c.else-complete.branch [
      | else-complete-via-then-complete+else-depth-eq0 w ↦ sym (ap spot_of (rw (ne_eqb _ _ w.if-depth-eq0.false, and-false c.complete.result) at e))
      | else-complete-via-else-complete w ↦ sym (ap spot_of (rw w.if-complete.false at e))
    ]
