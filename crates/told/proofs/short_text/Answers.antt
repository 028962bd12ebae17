-- `told::short_text` meets its contract. Assumes nothing.
use native.Mathlib.Omega.{arith}
use Rattle.told.specs.Text.{short_text}
use Rattle.told.specs.Writers.{put_both}
use Rattle.told.proofs.short_text.Goals as goal

pub returns : goal.returns
unfolding short_text
returns c =
    (put_both c.put_bytes-end.ensures c.states_line.ensures.0, omega arith)
