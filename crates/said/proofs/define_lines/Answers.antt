-- `said::define_lines` meets its contract. Assumes nothing.
use Prim.Native.Nat.{◌+◌, ◌<◌}
use native.Mathlib.Omega.{arith}
use mathlib.Core.Path.{refl, ◌∙◌}
use lib.ListN.{length}
use Rattle.scope.specs.Words.{values_from, spelled}
use Rattle.told.specs.Writers.{put_none, put_both, put_as}
use Rattle.said.specs.Said.{define_lines}
use Rattle.said.proofs.Names.{lines_more, one_row_more}
use Rattle.said.proofs.define_lines.Goals as goal

pub loop-i-init : goal.loop-i-init
unfolding define_lines spelled values_from
loop-i-init c = (omega arith, refl, put_none _ _)

pub loop-i-preserved : goal.loop-i-preserved
loop-i-preserved c =
    let h : c.loop-i.i < c.args.n = omega arith in
    let lines = lines_more c.args.text.now c.args.bounds.now c.loop-i.i c.args.word.now _ c.value_of-value.ensures in (
      omega (arith, one_row_more c.loop-i.i (c.loop-i.i + 1) (length c.args.text.now + 64) (omega arith)),
      c.define_line-next.auto.out ∙ c.loop-i.invariant.1,
      put_as lines (put_both c.loop-i.invariant.2 c.define_line-next.ensures.0),
    )
