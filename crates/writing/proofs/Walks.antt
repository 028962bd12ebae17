-- One turn of the walk over a held question's nodes, and what is still to be walked.
use mathlib.Core.Path.{◌≡◌, refl, sym, ap, ◌∙◌}
use mathlib.Core.Bool.{Bool, true, false, cond}
use mathlib.Core.Option.{Option, none, some}
use mathlib.Core.List.{List, ◌++◌}
use Prim.Native.Nat.{ℕ, ◌+◌, ◌-◌, ◌*◌, ◌<◌, ◌≤◌}
use native.Mathlib.Omega.{arith}
use lib.ListN.{length, length-append}
use Rattle.scope.specs.declared.Question.{Question}
use Rattle.scope.specs.declared.Refusal.{Refusal}
use Rattle.scope.specs.Sizes.{most_variables, most_atoms, most_nodes}
use Rattle.scope.specs.Question.{Node, node_of, is_atom}
use Rattle.scope.specs.Refusals.{first_refusal, stopped, going, ended, or_stopped, onward}
use Rattle.scope.specs.Wire as wire
use Rattle.scope.specs.Wire.{body_length}
use Rattle.scope.specs.Writing.{node_bytes, Walk, node_held_checks, after_written, node_written, due_written, part_written}
use Rattle.theory.specs.Wire.Checks.{onward_stopped, onward_ended}
use Rattle.theory.specs.Wire.WritingSteps.{part_ended}
use Rattle.std.specs.Prelude.{Ok, Err}
use Rattle.records.specs.declared.shape.Shape.{Shape}
use Rattle.records.specs.Formula.{ShapeSound, Grown, Unread, shape_of, due_depth, later_of}
use Rattle.records.proofs.Due.{due_first, due_none, onward_first, grown_nodes}
use Rattle.writing.specs.Writes.{code_node, atoms_to, bytes_to, code_answer, FormulaIs, walk_at, formula_written}
use Rattle.writing.proofs.Checking.{CodeTaken, code_taken, code_refused}
use Rattle.writing.proofs.Lengths.{body_share, node_length, bytes_first, bytes_head, bytes_next, atoms_first, atoms_next}

abbrev pub walk_of : Question → Shape → Walk
walk_of q s = record { shape = shape_of s; bytes = bytes_to q s.nodes }

-- the same, whatever is due
abbrev pub walk_by : Question → Shape → Walk
walk_by q s = walk_at q s.nodes s.atoms

-- ---- a turn

module _ (q : Question) (s : Shape) (h : ShapeSound s) (t : s.top < most_nodes + 2) where
  abbrev after : Walk
  after = after_written q (due_depth s) (later_of s) (walk_of q s)

  turn : (o : Option Refusal) → first_refusal (node_held_checks q (due_depth s) (walk_of q s)) ≡ o → part_written q (walk_of q s) ≡ or_stopped o (going after)
  unfolding part_written node_written
  turn o e = ap (λ (l : List ℕ). due_written q l (walk_of q s)) (due_first s h t) ∙ ap (λ (v : Option Refusal). or_stopped v (going after)) e

  turn_refused : (r : Refusal) → code_answer q (due_depth s) (walk_by q s) ≡ Err r → part_written q (walk_of q s) ≡ stopped r
  turn_refused r e = turn (some r) (code_refused q (due_depth s) (walk_by q s) r e)

  turn_taken : (code : ℕ) → CodeTaken q (due_depth s) (walk_by q s) code → part_written q (walk_of q s) ≡ going after
  turn_taken code k = turn none k.passed

-- ---- what is still to be walked

pub record Walking (q : Question) (s : Shape) (len : ℕ) : Type 0 where
  pub sound : ShapeSound s
  pub few : s.atoms ≤ most_atoms
  pub atoms_is : s.atoms ≡ atoms_to q s.nodes
  pub len_is : len ≡ length (bytes_to q s.nodes)
  pub short : len ≤ 5 + 4 * s.nodes + 4 * (most_variables + 1) * s.atoms
  pub rest : onward (most_nodes + 1 - s.nodes) (part_written q) (going (walk_of q s)) ≡ formula_written q

grown_atoms : (s : Shape) (code : ℕ) (r : Shape) → Grown s code r → r.atoms ≡ s.atoms + cond (is_atom (node_of code)) 1 0
unfolding wire.grown
grown_atoms s code r g = ap (λ (w : wire.Shape). w.atoms) g.shape

atoms_few : (t : Bool) (atoms : ℕ) → (t ≡ true → atoms < most_atoms) → atoms ≤ most_atoms → atoms + cond t 1 0 ≤ most_atoms
atoms_few true atoms h k = omega (arith, h refl)
atoms_few false atoms h k = omega arith

pub walking_start : (q : Question) (s : Shape) → Unread s → Walking q s 5
walking_start q s u =
    let m : s.nodes ≡ 0 = ap (λ (w : wire.Shape). w.nodes) u.shape in
    let a : s.atoms ≡ 0 = ap (λ (w : wire.Shape). w.atoms) u.shape in
    record {
      sound = u.sound;
      few = omega arith;
      atoms_is = a ∙ sym (ap (atoms_to q) m ∙ atoms_first q);
      len_is = sym (ap (λ (i : ℕ). length (bytes_to q i)) m ∙ bytes_head q);
      short = omega arith;
      rest = ap (λ (f : ℕ). onward f (part_written q) (going (walk_of q s))) (let d : most_nodes + 1 - s.nodes ≡ most_nodes + 1 = omega arith in d)
          ∙ (λ i. onward (most_nodes + 1) (part_written q) (going (record { shape = u.shape i; bytes = (ap (bytes_to q) m ∙ bytes_first q) i })));
    }

module _ {q : Question} {s : Shape} {len : ℕ} (w : Walking q s len) where
  first : formula_written q ≡ onward (most_nodes - s.nodes) (part_written q) (part_written q (walk_of q s))
  first = sym w.rest ∙ onward_first (part_written q) s.nodes (walk_of q s) w.sound.bounded

  pub walking_end : q.n ≤ most_variables → most_nodes + 2 ≤ s.top → FormulaIs q (record { nodes = s.nodes; atoms = s.atoms; len = len }) × (formula_written q ≡ ended (walk_by q s))
  walking_end variables t = (
    record {
      variables = variables;
      few_nodes = w.sound.bounded;
      few_atoms = w.few;
      atoms_is = w.atoms_is;
      len_is = w.len_is;
      short = omega (arith, w.short, w.few, w.sound.bounded);
    },
    first
        ∙ ap (onward (most_nodes - s.nodes) (part_written q)) (part_ended q (walk_of q s) (due_none s w.sound t))
        ∙ onward_ended (most_nodes - s.nodes) (part_written q) (walk_of q s)
        ∙ (λ i. ended (record { shape = record { nodes = s.nodes; atoms = s.atoms; due = due_none s w.sound t i }; bytes = bytes_to q s.nodes })),
  )

  module _ (t : s.top < most_nodes + 2) where
    pub walking_refused : (r : Refusal) → code_answer q (due_depth s) (walk_by q s) ≡ Err r → formula_written q ≡ stopped r
    walking_refused r e = first ∙ ap (onward (most_nodes - s.nodes) (part_written q)) (turn_refused q s w.sound t r e) ∙ onward_stopped (most_nodes - s.nodes) (part_written q) r

    pub walking_again : length q.coefficients ≡ most_variables * most_atoms → q.n ≤ most_variables → (code size : ℕ) → code_answer q (due_depth s) (walk_by q s) ≡ Ok code → size ≡ body_length q.n (node_of code)
        → (r : Shape) → Grown s code r → Walking q r (len + (4 + size))
    walking_again full few code size e z r g =
        let k = code_taken q (due_depth s) (walk_by q s) code e in
        let x = code_node q s.nodes in
        let n = k.known.node in
        let i : size ≡ body_length q.n x = z ∙ ap (body_length q.n) n in
        let m : r.nodes ≡ s.nodes + 1 = grown_nodes s code r g in
        let d : most_nodes + 1 - r.nodes ≡ most_nodes - s.nodes = omega (arith, k.room) in
        let a : r.atoms ≡ s.atoms + cond (is_atom x) 1 0 = grown_atoms s code r g ∙ ap (λ (y : Node). s.atoms + cond (is_atom y) 1 0) n in
        let y : bytes_to q r.nodes ≡ bytes_to q s.nodes ++ node_bytes q x s.atoms =
        ap (bytes_to q) m ∙ bytes_next q s.nodes ∙ ap (λ (i : ℕ). bytes_to q s.nodes ++ node_bytes q x i) (sym w.atoms_is) in
        let l : length (node_bytes q x s.atoms) ≡ 4 + size = node_length q full few x s.atoms k.few ∙ ap (λ (j : ℕ). 4 + j) (sym i) in
        record {
          sound = g.sound;
          few = rw a (atoms_few (is_atom x) s.atoms k.few w.few);
          atoms_is = a ∙ ap (λ (i : ℕ). i + cond (is_atom x) 1 0) w.atoms_is ∙ sym (ap (atoms_to q) m ∙ atoms_next q s.nodes);
          len_is = sym (ap length y ∙ length-append (bytes_to q s.nodes) (node_bytes q x s.atoms) ∙ omega (arith, l, w.len_is));
          short = omega (arith, w.short, m, a, i, body_share q.n x few);
          rest = rw d (ap (onward (most_nodes - s.nodes) (part_written q))
              ((λ i. going (record { shape = (g.shape ∙ ap (λ (z : Node). wire.grown z (due_depth s) (later_of s) (shape_of s)) n) i; bytes = y i })) ∙ sym (turn_taken q s w.sound t code k))
              ∙ sym first);
        }
