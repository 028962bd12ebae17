-- `index::load_row` meets its contract. The invariant: the key has the row's cells below i, and 0 from there on.
use mathlib.Core.Path.{sym, ◌∙◌}
use Prim.Native.Nat.{◌+◌, ◌*◌}
use native.Mathlib.Nat.{le_antisymm}
use native.Mathlib.Omega.{arith}
use borrow.Author.Rules.{rules}
use borrow.Author.Count.{below_none, below_more}
use lib.ListN.{get_or}
use lib.Seq.{get_or-set_same, get_or-set_other}
use lib.IntN.{pos}
use Rattle.theory.specs.Numbers.Bits.{read}
use Rattle.index.specs.Rows.{row_is}
use Rattle.index.specs.Laws.{key_zeros, key_more}
use Rattle.index.proofs.load_row.Goals as goal

pub loop-i-init : goal.loop-i-init
loop-i-init c = (search rules, key_zeros 0, below_none _)

pub loop-i-preserved : goal.loop-i-preserved
loop-i-preserved c =
    let key = c.loop-i.key in
    let i = c.loop-i.i in
    let z = get_or c.args.keys.now (c.args.row * c.args.width + i) (pos 0) in
    rw (read z c.x-1.given) (
      search rules,
      key_more key i z c.loop-i.invariant.1,
      below_more _ i
          (λ k l. c.loop-i.invariant.2 k l ∙ sym (get_or-set_other key i k z (pos 0) (λ e. omega arith)))
          (sym (get_or-set_same key i z (pos 0) (omega (arith, c.loop-i.invariant.1.eight)))),
    )

pub returns : goal.returns
returns c =
    let inv = c.loop-i.invariant in (
      sym (row_is c.args.keys.now _ c.args.width c.args.row (pos 0) c.requires.1 (omega (arith, inv.1.eight)) (λ i l. inv.2 i (omega arith))),
      rw (le_antisymm c.loop-i.invariant.0 c.loop-i-test.false) at inv.1,
    )
