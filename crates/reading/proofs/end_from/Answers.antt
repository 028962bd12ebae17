-- `reading::end_from` meets its contract: the end record is there, or what was refused.
use native.Mathlib.Omega.{arith}
use mathlib.Core.Path.{sym}
use Rattle.reading.proofs.Framed.{answer_within}
use Rattle.reading.proofs.end_from.Goals as goal

pub overflow_add-result : goal.overflow_add-result
overflow_add-result c = omega (arith, answer_within c.args.bytes.now c.args.at _ 0 (sym c.in_ok-frame_at.ensures))
