-- `told::no_room_text` meets its contract. Assumes nothing.
use native.Mathlib.Omega.{arith}
use Rattle.told.specs.Text.{no_room_text}
use Rattle.told.specs.Writers.{put_both}
use Rattle.told.proofs.no_room_text.Goals as goal

pub returns : goal.returns
unfolding no_room_text
returns c =
    (put_both c.put_bytes-end.ensures c.states_line.ensures.0, omega arith)
