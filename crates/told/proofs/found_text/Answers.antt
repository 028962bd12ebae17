-- `told::found_text` meets its contract. Assumes nothing.
use native.Mathlib.Omega.{arith}
use Rattle.told.specs.Text.{found_text}
use Rattle.told.specs.Writers.{put_both}
use Rattle.told.proofs.found_text.Goals as goal

pub returns : goal.returns
unfolding found_text
returns c =
    let letters = put_both c.letters_line-end.ensures.0 c.states_line.ensures.0 in
    (put_both c.put_bytes-values.ensures (put_both c.values_line-letters.ensures.0 letters), omega arith)
