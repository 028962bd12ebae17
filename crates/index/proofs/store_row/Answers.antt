-- `index::store_row` meets its contract. The invariant: the key's first i cells are stored.
use mathlib.Core.Path.{refl}
use Prim.Native.Nat.{◌*◌}
use native.Mathlib.Nat.{le_antisymm}
use native.Mathlib.Numerals.{add-one}
use native.Mathlib.Omega.{arith}
use borrow.Author.Rules.{rules}
use lib.ListN.{get_or, length-set}
use lib.Seq.{paste-zero, paste-suc}
use lib.IntN.{pos}
use Rattle.theory.specs.Numbers.Bits.{read}
use Rattle.index.proofs.store_row.Goals as goal

pub loop-i-init : goal.loop-i-init
loop-i-init c = (search rules, refl, paste-zero _ (c.args.row * c.args.width) c.args.key.now)

pub loop-i-preserved : goal.loop-i-preserved
loop-i-preserved c =
    let i = c.loop-i.i in
    let base = c.args.row * c.args.width in
    let x = read (get_or c.args.key.now i (pos 0)) c.x-1.given in (
      search rules,
      rw length-set c.loop-i.invariant.1,
      rw (x, c.loop-i.invariant.2, add-one) (paste-suc c.args.keys.now base c.args.key.now i (pos 0) (omega arith) (omega arith)),
    )

pub shape_of-keys : goal.shape_of-keys
shape_of-keys c = c.loop-i.invariant.1

pub returns : goal.returns
returns c = rw (le_antisymm c.loop-i.invariant.0 c.loop-i-test.false) at c.loop-i.invariant.2
