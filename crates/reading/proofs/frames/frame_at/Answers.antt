-- `reading::frames::frame_at` meets its contract: each test settles a check.
use native.Mathlib.Omega.{arith}
use mathlib.Core.Path.{◌≡◌, sym, ap, ◌∙◌}
use mathlib.Core.Bool.{Bool, true}
use mathlib.Core.List.{List, []}
use Prim.Native.Nat.{ℕ}
use lib.Dec.{eqb}
use borrow.Author.Tests.{eq-eqb, ne_eqb}
use Rattle.std.proofs.Common.{Err}
use Rattle.scope.specs.Wire.{kind_at}
use Rattle.records.proofs.Found.{HeaderFound, header_found, cut}
use Rattle.reading.specs.Steps.{frame_or}
use Rattle.reading.proofs.Framed.{frame_short, frame_other, frame_length, frame_cut, frame_there, no_checks}
use Rattle.reading.proofs.frames.frame_at.Goals as goal
use Rattle.reading.proofs.frames.frame_at.Goals.{In-Some}

-- the kind that is due
abbrev due : List ℕ → ℕ → ℕ → Bool
due b at kind = eqb (kind_at b at) kind

module _ (c : goal.In-Some) where
  found : HeaderFound c.args.bytes.now c.args.at c.in-Some.header
  found = header_found _ _ _ (sym c.header_at.ensures ∙ c.in-Some.is)

  is_due : c.in-Some.header.kind ≡ c.args.due → due c.args.bytes.now c.args.at c.args.due ≡ true
  is_due e = eq-eqb (kind_at c.args.bytes.now c.args.at) c.args.due (sym found.kind_is ∙ e)

pub returns-in_default : goal.returns-in_default
returns-in_default c =
    ap Err c.at.ensures ∙ sym (ap frame_or (frame_short c.args.bytes.now c.args.at (due c.args.bytes.now c.args.at c.args.due) c.args.size [] (cut c.args.bytes.now c.args.at (sym c.header_at.ensures ∙ c.in_default.is))))

pub returns-then-header-due : goal.returns-then-header-due
returns-then-header-due c =
    let h = found (goal.at.returns-then-header-due c).In-Some in
    ap Err c.at-then-header-due.ensures ∙ sym (ap frame_or (frame_other c.args.bytes.now c.args.at (due c.args.bytes.now c.args.at c.args.due) c.args.size [] h.there (ne_eqb (kind_at c.args.bytes.now c.args.at) c.args.due (λ e. c.if-header-due.true (h.kind_is ∙ e)))))

pub returns-then-header-size : goal.returns-then-header-size
returns-then-header-size c =
    let h = found (goal.at.returns-then-header-size c).In-Some in
    ap Err c.at-then-header-size.ensures ∙ sym (ap frame_or (frame_length c.args.bytes.now c.args.at (due c.args.bytes.now c.args.at c.args.due) c.args.size [] h.there (is_due (goal.at.returns-then-header-size c).In-Some c.if-header-due.false) (λ e. c.if-header-size.true (h.len_is ∙ e))))

pub returns-then-bytes-at : goal.returns-then-bytes-at
returns-then-bytes-at c =
    let h = found (goal.at.returns-then-bytes-at c).In-Some in
    ap Err c.at-then-bytes-at.ensures ∙ sym (ap frame_or (frame_cut c.args.bytes.now c.args.at (due c.args.bytes.now c.args.at c.args.due) c.args.size [] h.there (is_due (goal.at.returns-then-bytes-at c).In-Some c.if-header-due.false) (sym h.len_is ∙ c.if-header-size.false) (omega (arith, h.there, h.len_is))))

pub returns : goal.returns
returns c =
    let h = found (goal.at.returns c).In-Some in
    sym (ap frame_or (frame_there c.args.bytes.now c.args.at (due c.args.bytes.now c.args.at c.args.due) c.args.size [] h.there (is_due (goal.at.returns c).In-Some c.if-header-due.false) (sym h.len_is ∙ c.if-header-size.false) (omega (arith, h.there, h.len_is)) ∙ no_checks))
