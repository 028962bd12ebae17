-- `reading::frames::head_at` meets its contract: the frame, and then n within its limit.
use native.Mathlib.Omega.{arith}
use mathlib.Core.Path.{◌≡◌, sym, ap, ◌∙◌}
use Rattle.std.proofs.Common.{Ok, Err}
use Rattle.std.proofs.lemmas.Result.{err_from_is_err_and}
use Rattle.reading.specs.Steps.{frame_answer}
use Rattle.reading.proofs.Framed.{answer_within, head_refused, head_beyond, head_there}
use Rattle.reading.proofs.frames.head_at.Goals as goal
use Rattle.reading.proofs.frames.head_at.Goals.{In_ok-frame_at}

there : (c : goal.In_ok-frame_at) → frame_answer c.args.bytes.now c.args.at 1 1 ≡ Ok tt
there c = sym c.in_ok-frame_at.ensures

pub overflow_add-n : goal.overflow_add-n
overflow_add-n c = omega (arith, answer_within c.args.bytes.now c.args.at 1 1 (there c))

pub bounds-bytes-at : goal.bounds-bytes-at
bounds-bytes-at c =
    omega (arith, answer_within c.args.bytes.now c.args.at 1 1 (there (goal.at.bounds-bytes-at c).In_ok-frame_at))

pub returns-then-not-variables_fit : goal.returns-then-not-variables_fit
returns-then-not-variables_fit c =
    ap Err c.at.ensures ∙ head_beyond c.args.bytes.now c.args.at (there (goal.at.returns-then-not-variables_fit c).In_ok-frame_at) (sym c.variables_fit.ensures ∙ c.if-not-variables_fit.true)

pub returns-in_err-frame_at : goal.returns-in_err-frame_at
returns-in_err-frame_at c =
    let p = err_from_is_err_and c.from_residual.result c.from_residual.ensures.1 in
    rw (p.1, p.2) (head_refused c.args.bytes.now c.args.at _ (sym c.in_err-frame_at.ensures))

pub returns : goal.returns
returns c =
    head_there c.args.bytes.now c.args.at (there (goal.at.returns c).In_ok-frame_at) (sym c.variables_fit.ensures ∙ c.if-not-variables_fit.false)
