-- `records::record_at` meets its contract: what the header says and whether the body is there decide the case of `record_at`.
use native.Mathlib.Omega.{arith}
use mathlib.Core.Path.{◌∙◌, sym}
use Rattle.records.proofs.Found.{HeaderFound, header_found, cut, step_short, step_cut, step_whole}
use Rattle.records.proofs.record_at.Goals as goal
use Rattle.records.proofs.record_at.Goals.{In-Some}

found : (c : goal.In-Some) → HeaderFound c.args.bytes.now c.args.at c.in-Some.header
found c = header_found _ _ _ (sym c.header_at.ensures ∙ c.in-Some.is)

pub returns-in_default : goal.returns-in_default
returns-in_default c =
    rw c.at.ensures (step_short c.args.bytes.now c.args.at (cut c.args.bytes.now c.args.at (sym c.header_at.ensures ∙ c.in_default.is)))

pub returns-then-bytes-at : goal.returns-then-bytes-at
returns-then-bytes-at c =
    let h = found (goal.at.returns-then-bytes-at c).In-Some in
    rw c.at-then-bytes-at.ensures (step_cut c.args.bytes.now c.args.at h.there (omega (arith, h.len_is)))

pub returns : goal.returns
returns c =
    let h = found (goal.at.returns c).In-Some in
    rw (h.kind_is, h.len_is) (step_whole c.args.bytes.now c.args.at (omega (arith, h.len_is)))
