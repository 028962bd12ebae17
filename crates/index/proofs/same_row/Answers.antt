-- `index::same_row` meets its contract: the first four cells at once, then the rest. The invariant: the row and the key agree below from + i, as
-- far as the row goes. The measure is 4 less i.
use mathlib.Core.Path.{◌≡◌, ap}
use mir.Syntax.{w32}
use mir.Val.{of_z}
use native.Mathlib.Omega.{arith}
use borrow.Author.Rules.{rules}
use borrow.Author.Count.{below_more}
use lib.IntN.{pos}
use Rattle.theory.specs.Numbers.Bits.{same_bits}
use Rattle.index.specs.Rows.{row_is, row_cells_lem}
use Rattle.index.proofs.same_row.Goals as goal
use Rattle.index.proofs.same_row.Goals.{then-width-ge4+else-fronts_differ, else-width-ge4, then-at-width+else-keys-base, else-at-width}

pub returns-then-fronts_differ : goal.returns-then-fronts_differ
returns-then-fronts_differ c =
    let differ = rw c.if-fronts_differ.true at c.fronts_differ.ensures in
    λ e.
    differ
    (λ i h. row_cells_lem c.args.keys.now c.args.key.now c.args.width c.args.row (pos 0) e i (omega (arith, c.if-width-ge4.true)))

pub loop-i-init : goal.loop-i-init
loop-i-init c =
    elim c.if-width-ge4.branch [
      | then-width-ge4+else-fronts_differ w ↦
          let same = rw w.if-fronts_differ.false at w.fronts_differ.ensures in
          let is : c.if-width-ge4.from ≡ 4 = w.from-is in
          record { few = omega arith; left = omega arith; low = omega arith; agree = λ k h l. same k (omega arith) }
      | else-width-ge4 w ↦
          let is : c.if-width-ge4.from ≡ 0 = w.from-is in
          record { few = omega arith; left = omega arith; low = omega arith; agree = λ k h l. absurd (omega arith) }
    ]

pub returns-then-keys-base : goal.returns-then-keys-base
returns-then-keys-base c = λ e. c.if-keys-base.true (ap (of_z w32) (row_cells_lem _ _ _ _ (pos 0) e _ c.if-at-width.true))

pub loop-i-preserved : goal.loop-i-preserved
loop-i-preserved c =
    let inv = c.loop-i.invariant in
    record {
      few = inv.few;
      left = inv.left;
      low = search rules;
      agree = λ k h.
          below_more _ _ inv.agree
          (λ l.
          elim c.if-at-width.branch [
            | then-at-width+else-keys-base w ↦ same_bits w32 _ _ (search rules) (search rules) w.if-keys-base.false
            | else-at-width w ↦ absurd (omega arith)
          ]) k (omega arith);
    }

pub returns : goal.returns
returns c =
    let pre = c.requires in
    let inv = c.loop-i.invariant in
    row_is _ _ _ _ (pos 0) pre.2 (omega (arith, pre.0, pre.1)) (λ i l. inv.agree i (omega (arith, inv.left, c.loop-i-test.false)) l)

pub overflow_add-at : goal.overflow_add-at
overflow_add-at c = omega (arith, c.loop-i.invariant.few)
