-- `reading::nodes::node_frame` meets its contract: each test settles a check.
use native.Mathlib.Omega.{arith}
use mathlib.Core.Path.{◌≡◌, sym, ap, ◌∙◌}
use mathlib.Core.Bool.{true, not}
use mathlib.Core.Option.{Option}
use mathlib.Core.List.{List, []}
use Prim.Native.Nat.{ℕ}
use Rattle.std.proofs.Common.{Result, Ok, Err}
use Rattle.scope.specs.declared.Refusal.{Refusal}
use Rattle.scope.specs.Question.{node_of, code_of, is_unused}
use Rattle.scope.specs.Wire.{node_of_kind, body_length}
use Rattle.theory.specs.Wire.Records.{node_of_code}
use Rattle.records.specs.declared.headers.Header.{Header}
use Rattle.records.specs.Parts.{node_or}
use Rattle.records.proofs.Found.{HeaderFound, header_found, cut}
use Rattle.reading.specs.Steps.{node_here, used_code}
use Rattle.reading.proofs.Framed.{frame_short, frame_other, frame_length, frame_cut, frame_there, no_checks}
use Rattle.reading.proofs.Taken.{code_none, code_some}
use Rattle.reading.proofs.nodes.node_frame.Goals as goal
use Rattle.reading.proofs.nodes.node_frame.Goals.{In-Some, In-Some-code_of_kind}

abbrev answer : List ℕ → ℕ → Option Refusal → Result ℕ Refusal
answer b at o = node_or o (node_here b at)

-- the header that is there, and the code of its kind
found : (c : goal.In-Some) → HeaderFound c.args.bytes.now c.args.at c.in-Some.header
found c = header_found _ _ _ (sym c.header_at.ensures ∙ c.in-Some.is)

kind_is : (b : List ℕ) (at : ℕ) (g : Header) → HeaderFound b at g → used_code (node_here b at) ≡ used_code (node_of_kind g.kind)
kind_is b at g h = sym (ap (λ (k : ℕ). used_code (node_of_kind k)) h.kind_is)

module _ (c : goal.In-Some-code_of_kind) where
  abbrev b : List ℕ
  b = c.args.bytes.now

  header : HeaderFound b c.args.at c.in-Some.header
  header = found (goal.at.In-Some-code_of_kind c).In-Some

  used : (not (is_unused (node_here b c.args.at)) ≡ true) × (c.in-Some-code_of_kind.code ≡ code_of (node_here b c.args.at))
  used = code_some (node_here b c.args.at) _ (kind_is b c.args.at _ header ∙ sym c.code_of_kind.ensures ∙ c.in-Some-code_of_kind.is)

  -- the length that is due, by the code
  due : (length : ℕ) → length ≡ body_length c.args.n (node_of c.in-Some-code_of_kind.code) → length ≡ body_length c.args.n (node_here b c.args.at)
  due length e = e ∙ ap (body_length c.args.n) (ap node_of used.1 ∙ node_of_code (node_here b c.args.at))

pub returns-in_default : goal.returns-in_default
returns-in_default c =
    ap Err c.at.ensures ∙ sym (ap (answer c.args.bytes.now c.args.at) (frame_short c.args.bytes.now c.args.at (not (is_unused (node_here c.args.bytes.now c.args.at))) (body_length c.args.n (node_here c.args.bytes.now c.args.at)) [] (cut c.args.bytes.now c.args.at (sym c.header_at.ensures ∙ c.in_default.is))))

pub returns-in_default-code_of_kind : goal.returns-in_default-code_of_kind
returns-in_default-code_of_kind c =
    let b = c.args.bytes.now in
    let h = found (goal.at.returns-in_default-code_of_kind c).In-Some in
    ap Err c.at-in_default-code_of_kind.ensures
    ∙ sym (ap (answer b c.args.at) (frame_other b c.args.at (not (is_unused (node_here b c.args.at))) (body_length c.args.n (node_here b c.args.at)) [] h.there (code_none (node_here b c.args.at) (kind_is b c.args.at _ h ∙ sym c.code_of_kind.ensures ∙ c.in_default-code_of_kind.is))))

pub returns-then-len-body_length : goal.returns-then-len-body_length
returns-then-len-body_length c =
    let b = c.args.bytes.now in
    let s = (goal.at.returns-then-len-body_length c).In-Some-code_of_kind in
    ap Err c.at-then-len-body_length.ensures
    ∙ sym (ap (answer b c.args.at) (frame_length b c.args.at (not (is_unused (node_here b c.args.at))) (body_length c.args.n (node_here b c.args.at)) [] (header s).there (used s).0 (λ e. c.if-len-body_length.true ((header s).len_is ∙ e ∙ sym (due s _ c.body_length.ensures)))))

pub returns-then-bytes-at : goal.returns-then-bytes-at
returns-then-bytes-at c =
    let b = c.args.bytes.now in
    let s = (goal.at.returns-then-bytes-at c).In-Some-code_of_kind in
    ap Err c.at-then-bytes-at.ensures
    ∙ sym (ap (answer b c.args.at) (frame_cut b c.args.at (not (is_unused (node_here b c.args.at))) (body_length c.args.n (node_here b c.args.at)) [] (header s).there (used s).0 (sym (header s).len_is ∙ c.if-len-body_length.false ∙ due s _ c.body_length.ensures) (omega (arith, (header s).there, (header s).len_is, c.if-bytes-at.true))))

pub returns : goal.returns
returns c =
    let b = c.args.bytes.now in
    let s = (goal.at.returns c).In-Some-code_of_kind in
    ap Ok (used s).1
    ∙ sym (ap (answer b c.args.at) (frame_there b c.args.at (not (is_unused (node_here b c.args.at))) (body_length c.args.n (node_here b c.args.at)) [] (header s).there (used s).0 (sym (header s).len_is ∙ c.if-len-body_length.false ∙ due s _ c.body_length.ensures) (omega (arith, (header s).there, (header s).len_is)) ∙ no_checks))
