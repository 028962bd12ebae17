-- `whole::put_number` meets its contract: the four bytes stand in the place of the part.
use Rattle.std.proofs.Common.{◌≡◌, ◌+◌, refl, ap, w32}
use mathlib.Core.Path.{◌∙◌}
use Rattle.scope.specs.Writing.{number_bytes}
use mir.ValLaws.{to_z-of_z}
use Rattle.whole.proofs.Stored.{put_part}
use Rattle.whole.proofs.put_number.Goals as goal

pub returns : goal.returns
returns c =
    let z = c.args.z in
    let v : c.to_le_bytes.result ≡ number_bytes z = c.to_le_bytes.ensures ∙ ap number_bytes (to_z-of_z w32 z c.ranges.z) in
    rw (c.copy_from_slice.ensures.after, v) (put_part c.args.bytes.now (number_bytes z) c.args.at (c.args.at + 4) refl c.requires)
