-- `told::refused_text` meets its contract. Assumes nothing.
use native.Mathlib.Omega.{arith}
use Rattle.std.proofs.Common.{ap, ◌∙◌}
use Rattle.told.specs.Text.{spaced, refused_text}
use Rattle.told.specs.Writers.{put_both, put_as}
use Rattle.told.proofs.refused_text.Goals as goal

pub returns : goal.returns
unfolding refused_text
returns c =
    let places = put_both (put_as (ap spaced (c.from.ensures ∙ c.number.ensures)) c.put_number-said.ensures.0) (put_both c.put_bytes-before.ensures c.put_number-end.ensures.0) in
    (put_both c.put_bytes-start.ensures (put_both places c.put_byte.ensures), omega arith)
