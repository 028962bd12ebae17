-- `forms::words::grown` meets its contract. Assumes nothing.
use Prim.Native.Nat.{◌+◌, ◌*◌}
use native.Mathlib.Omega.{arith}
use mathlib.Core.Path.{sym}
use Rattle.forms.specs.Numerals.{digit_bounds, clipped_same, clipped_most}
use Rattle.forms.proofs.words.grown.Goals as goal

pub overflow_sub-byte : goal.overflow_sub-byte
overflow_sub-byte c = (digit_bounds c.args.byte c.requires.1).0

pub returns-then-more-gt1000000 : goal.returns-then-more-gt1000000
returns-then-more-gt1000000 c = rw c.from.ensures at (sym (clipped_most (10 * c.args.value + c.from.result) c.if-more-gt1000000.true))

pub returns : goal.returns
returns c =
    let h = c.if-more-gt1000000.false in
    rw c.from.ensures (let g = rw c.from.ensures at h in sym (clipped_same _ (omega arith)))
