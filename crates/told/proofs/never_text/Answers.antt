-- `told::never_text` meets its contract. Assumes nothing.
use native.Mathlib.Omega.{arith}
use Rattle.told.specs.Text.{never_text}
use Rattle.told.specs.Writers.{put_both}
use Rattle.told.proofs.never_text.Goals as goal

pub returns : goal.returns
unfolding never_text
returns c =
    (put_both c.put_bytes-end.ensures c.states_line.ensures.0, omega arith)
