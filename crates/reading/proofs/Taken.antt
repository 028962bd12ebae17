-- A node by what the checks of its frame said, and the checks after those.
use mathlib.Core.Path.{◌≡◌, refl, sym, ap, ◌∙◌}
use mathlib.Core.Bool.{true, false, not}
use mathlib.Core.Option.{Option, none, some}
use mathlib.Core.List.{List, []}
use Prim.Native.Nat.{ℕ, ◌+◌, ◌*◌, ◌<◌, ◌≤◌}
use native.Mathlib.Omega.{arith}
use lib.ListN.{length}
use lib.Dec.{T, eqb, leb→le, ltb→lt}
use Rattle.scope.specs.declared.Rule.{Rule}
use Rattle.scope.specs.declared.Refusal.{Refusal}
use Rattle.scope.specs.Sizes.{most_nodes, most_depth}
use Rattle.scope.specs.Question.{Node, unused, atom, node_of, code_of, is_unused, is_atom}
use Rattle.scope.specs.Refusals.{unless_refused, Check, refusal, first_refusal}
use Rattle.scope.specs.Wire.{Reading, length_at, body_there, frame_checks, field_checks, body_length, node_at, coefficients_at, constant_at, node_checks}
use Rattle.theory.specs.Wire.Checks.{none_passed}
use Rattle.std.specs.Prelude.{Result, Ok, Err, Some, None}
use Rattle.records.specs.Formula.{size_fits}
use Rattle.records.specs.Parts.{node_or}
use Rattle.records.proofs.Codes.{Coded, coded}
use Rattle.records.proofs.Checks.{no_room_lem, some_room, too_large_lem, small_enough, no_numbers_lem, atom_numbers, node_none, node_some}
use Rattle.reading.specs.Steps.{used_code, node_here, node_frame, node_answer}
use Rattle.reading.proofs.Framed.{frame_refused, frame_passed, frame_within}

-- ---- there is a code exactly where the node is used

pub code_none : (x : Node) → used_code x ≡ None → not (is_unused x) ≡ false
code_none unused e = refl
code_none (atom κ) e = let z : ◌≡◌ {A = ℕ} 0 1 = cc in absurd (omega arith)
code_none Node.not e = let z : ◌≡◌ {A = ℕ} 0 1 = cc in absurd (omega arith)
code_none Node.and e = let z : ◌≡◌ {A = ℕ} 0 1 = cc in absurd (omega arith)
code_none Node.or e = let z : ◌≡◌ {A = ℕ} 0 1 = cc in absurd (omega arith)

pub code_some : (x : Node) (code : ℕ) → used_code x ≡ Some code → (not (is_unused x) ≡ true) × (code ≡ code_of x)
code_some unused code e = let z : ◌≡◌ {A = ℕ} 0 1 = cc in absurd (omega arith)
code_some (atom κ) code e = (refl, cc)
code_some Node.not code e = (refl, cc)
code_some Node.and code e = (refl, cc)
code_some Node.or code e = (refl, cc)

-- ---- a node whose frame is there

pub record NodeKnown (b : List ℕ) (at n code : ℕ) : Type 0 where
  pub is : code ≡ code_of (node_here b at)
  pub known : Coded (node_here b at) code
  pub within : at + 4 + body_length n (node_of code) ≤ length b

by_frame : (b : List ℕ) (at n code : ℕ) → code ≡ code_of (node_here b at) → T (not (is_unused (node_here b at))) → T (eqb (length_at b at) (body_length n (node_here b at))) → T (body_there b at)
    → NodeKnown b at n code
by_frame b at n code e u l c =
    let k = coded (node_here b at) code u e in
    record { is = e; known = k; within = omega (arith, ap (body_length n) k.node, frame_within b at (body_length n (node_here b at)) l c) }

pub atom_within : (b : List ℕ) (at n code : ℕ) → NodeKnown b at n code → is_atom (node_of code) ≡ true → at + 4 + 4 * (n + 1) ≤ length b
atom_within b at n code k a = rw a at k.within

module _ (b : List ℕ) (at n code : ℕ) (e : node_frame b at n ≡ Ok code) where
  abbrev frame : List Check
  frame = frame_checks b at (not (is_unused (node_here b at))) (body_length n (node_here b at)) []

  pub node_framed : (first_refusal frame ≡ none) × (code ≡ code_of (node_here b at))
  node_framed = node_none (first_refusal frame) (node_here b at) code e

  pub node_known : NodeKnown b at n code
  node_known = let p = none_passed frame node_framed.0 in by_frame b at n code node_framed.1 p.1.0 p.1.1.0 p.1.1.1.0

-- ---- a node that passed every check

pub record NodeTaken (b : List ℕ) (depth : ℕ) (s : Reading) (code : ℕ) : Type 0 where
  pub passed : first_refusal (node_checks b depth s) ≡ none
  pub node : NodeKnown b s.place s.question.n code
  pub room : s.shape.nodes < most_nodes
  pub shallow : depth ≤ most_depth

pub node_taken : (b : List ℕ) (depth : ℕ) (s : Reading) (code : ℕ) → node_answer b depth s ≡ Ok code → NodeTaken b depth s code
node_taken b depth s code e =
    let h = node_none (first_refusal (node_checks b depth s)) (node_at b s) code e in
    let p = none_passed (node_checks b depth s) h.0 in
    record {
      passed = h.0;
      node = by_frame b s.place s.question.n code h.1 p.1.0 p.1.1.0 p.1.1.1.0;
      room = ltb→lt s.shape.nodes most_nodes p.1.1.1.1.0;
      shallow = leb→le depth most_depth p.1.1.1.1.1.1.0;
    }

pub node_refused : (b : List ℕ) (depth : ℕ) (s : Reading) (r : Refusal) → node_answer b depth s ≡ Err r → first_refusal (node_checks b depth s) ≡ some r
node_refused b depth s r e = node_some (first_refusal (node_checks b depth s)) (node_at b s) r e

-- ---- the checks after the frame

module _ (b : List ℕ) (depth : ℕ) (s : Reading) where
  abbrev x : Node
  x = node_at b s

  abbrev framed : Result ℕ Refusal
  framed = node_frame b s.place s.question.n

  abbrev answer : Option Refusal → Result ℕ Refusal
  answer o = node_or o x

  pub frame_kept : (r : Refusal) → framed ≡ Err r → framed ≡ node_answer b depth s
  frame_kept r e = e ∙ sym (ap answer (frame_refused b s.place (not (is_unused x)) (body_length s.question.n x) _ r (node_some _ x r e)))

  module _ (code : ℕ) (k : framed ≡ Ok code) where
    later : (cs : List Check) → first_refusal (frame_checks b s.place (not (is_unused x)) (body_length s.question.n x) cs) ≡ first_refusal cs
    later cs = frame_passed b s.place (not (is_unused x)) (body_length s.question.n x) cs (node_framed b s.place s.question.n code k).0

    pub node_full : most_nodes ≤ s.shape.nodes → Err (refusal Rule.TooMany s.place) ≡ node_answer b depth s
    node_full h = sym (ap answer (later _ ∙ no_room_lem s.place s.shape _ h))

    module _ (h : s.shape.nodes < most_nodes) where
      pub node_large : size_fits (is_atom x) s.shape.atoms depth ≡ false → Err (refusal Rule.TooMany s.place) ≡ node_answer b depth s
      node_large e = sym (ap answer (later _ ∙ some_room s.place s.shape _ h ∙ too_large_lem s.place s.shape _ x depth e))

      module _ (e : size_fits (is_atom x) s.shape.atoms depth ≡ true) where
        pub node_plain : is_atom x ≡ false → framed ≡ node_answer b depth s
        node_plain a = ap answer (node_framed b s.place s.question.n code k).0
            ∙ sym (ap answer (later _ ∙ some_room s.place s.shape _ h ∙ small_enough s.place s.shape _ x depth e ∙ no_numbers_lem (s.place + 4) 4 x (coefficients_at b s) (constant_at b s) a))

        pub node_atom : is_atom x ≡ true → (r : Result ℕ Refusal) → r ≡ unless_refused (first_refusal (field_checks (s.place + 4) 4 (coefficients_at b s) (constant_at b s))) code → r ≡ node_answer b depth s
        node_atom a r f = f
            ∙ ap (unless_refused (first_refusal (field_checks (s.place + 4) 4 (coefficients_at b s) (constant_at b s)))) (node_framed b s.place s.question.n code k).1
            ∙ sym (ap answer (later _ ∙ some_room s.place s.shape _ h ∙ small_enough s.place s.shape _ x depth e ∙ atom_numbers (s.place + 4) 4 x (coefficients_at b s) (constant_at b s) a))
