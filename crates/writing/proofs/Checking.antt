-- The checks on a held question: an atom's numbers, a node's code, and what is left over.
use mathlib.Core.Path.{◌≡◌, sym, ap, ◌∙◌}
use mathlib.Core.Bool.{true, false, not}
use mathlib.Core.Option.{Option, none, some}
use mathlib.Core.List.{[], ◌++◌}
use Prim.Native.Nat.{ℕ, ◌+◌, ◌<◌, ◌≤◌}
use lib.Dec.{T, leb→le, ltb→lt}
use lib.ListN.{get_or}
use Rattle.scope.specs.declared.Rule.{Rule}
use Rattle.scope.specs.declared.Question.{Question}
use Rattle.scope.specs.declared.Refusal.{Refusal}
use Rattle.scope.specs.Whole.{all_from}
use Rattle.scope.specs.Sizes.{most_atoms, most_nodes, most_depth, variables_fit}
use Rattle.scope.specs.Question.{Node, is_unused, is_atom, coefficients_of, constant_of}
use Rattle.scope.specs.Refusals.{unless_refused, refusal, first_refusal, Progress, stopped, going, ended, or_stopped, onward}
use Rattle.scope.specs.Wire.{end_kind, field_checks}
use Rattle.scope.specs.Writing.{record_bytes, Walk, first_walk, head_written, node_held, node_held_checks, part_written, numbers_clear, number_checks, left_over_checks, end_written, written}
use Rattle.theory.specs.Wire.Checks.{none_passed, onward_stopped}
use Rattle.theory.specs.Wire.Records.{code_of_node}
use Rattle.theory.specs.Wire.WritingSteps.{head_written_lem}
use Rattle.std.specs.Prelude.{Result, Ok, Err}
use Rattle.std.specs.Prelude as maybe
use Rattle.records.specs.Formula.{counts, size_fits}
use Rattle.records.specs.Parts.{node_or}
use Rattle.records.proofs.Codes.{Coded, coded}
use Rattle.records.proofs.Checks.{true_T, first_failed, first_passed, no_room_lem, some_room, too_large_lem, small_enough, few_atoms, no_numbers_lem, atom_numbers, node_none, node_some}
use Rattle.fields.specs.Fields.{numbers_answer}
use Rattle.writing.specs.Writes.{bytes_to, code_answer, walk_at, formula_written, left_or, CodeLeft, coefficient_clear, constant_clear}

module _ (q : Question) (a : ℕ) where
  -- ---- what is left over of the numbers

  pub cells_clear : all_from (coefficient_clear q.n a) 0 q.coefficients ≡ true → all_from (constant_clear a) 0 q.constants ≡ numbers_clear q a
  unfolding numbers_clear
  cells_clear e = rw e

  pub cells_left : all_from (coefficient_clear q.n a) 0 q.coefficients ≡ false → false ≡ numbers_clear q a
  unfolding numbers_clear
  cells_left e = rw e

-- ---- a node's code

module _ (q : Question) (depth : ℕ) (w : Walk) where
  abbrev i : ℕ
  i = w.shape.nodes

  abbrev x : Node
  x = node_held q w

  abbrev answer : Option Refusal → Result ℕ Refusal
  answer o = node_or o x

  pub code_full : most_nodes ≤ i → Err (refusal Rule.TooMany i) ≡ code_answer q depth w
  code_full h = sym (ap answer (no_room_lem i w.shape _ h))

  module _ (h : i < most_nodes) where
    pub code_kind : not (is_unused x) ≡ false → Err (refusal Rule.NotDue i) ≡ code_answer q depth w
    code_kind u = sym (ap answer (some_room i w.shape _ h ∙ first_failed Rule.NotDue i (not (is_unused x)) _ u))

    module _ (u : not (is_unused x) ≡ true) where
      pub code_large : size_fits (is_atom x) w.shape.atoms depth ≡ false → Err (refusal Rule.TooMany i) ≡ code_answer q depth w
      code_large e = sym (ap answer (some_room i w.shape _ h ∙ first_passed Rule.NotDue i (not (is_unused x)) _ u ∙ too_large_lem i w.shape _ x depth e))

      module _ (e : size_fits (is_atom x) w.shape.atoms depth ≡ true) where
        same_code : Ok (get_or q.codes i 0) ≡ answer none
        same_code = ap Ok (sym (code_of_node (get_or q.codes i 0) (true_T (not (is_unused x)) u)))

        pub code_plain : is_atom x ≡ false → Ok (get_or q.codes i 0) ≡ code_answer q depth w
        code_plain a = same_code
            ∙ sym (ap answer (some_room i w.shape _ h ∙ first_passed Rule.NotDue i (not (is_unused x)) _ u ∙ small_enough i w.shape _ x depth e ∙ no_numbers_lem i 0 x (coefficients_of q w.shape.atoms) (constant_of q w.shape.atoms) a))

        pub code_atom : is_atom x ≡ true → numbers_answer q w.shape.atoms i (get_or q.codes i 0) ≡ code_answer q depth w
        code_atom a =
            ap (unless_refused (first_refusal (field_checks i 0 (coefficients_of q w.shape.atoms) (constant_of q w.shape.atoms)))) (sym (code_of_node (get_or q.codes i 0) (true_T (not (is_unused x)) u)))
            ∙ sym (ap answer (some_room i w.shape _ h ∙ first_passed Rule.NotDue i (not (is_unused x)) _ u ∙ small_enough i w.shape _ x depth e ∙ atom_numbers i 0 x (coefficients_of q w.shape.atoms) (constant_of q w.shape.atoms) a))

-- a code that passed every check
pub record CodeTaken (q : Question) (depth : ℕ) (w : Walk) (code : ℕ) : Type 0 where
  pub passed : first_refusal (node_held_checks q depth w) ≡ none
  pub known : Coded (node_held q w) code
  pub room : w.shape.nodes < most_nodes
  pub few : is_atom (node_held q w) ≡ true → w.shape.atoms < most_atoms
  pub shallow : depth ≤ most_depth

pub code_taken : (q : Question) (depth : ℕ) (w : Walk) (code : ℕ) → code_answer q depth w ≡ Ok code → CodeTaken q depth w code
code_taken q depth w code e =
    let h = node_none (first_refusal (node_held_checks q depth w)) (node_held q w) code e in
    let p = none_passed (node_held_checks q depth w) h.0 in
    record {
      passed = h.0;
      known = coded (node_held q w) code p.1.0 h.1;
      room = ltb→lt w.shape.nodes most_nodes p.0;
      few = few_atoms (is_atom (node_held q w)) w.shape.atoms p.1.1.0;
      shallow = leb→le depth most_depth p.1.1.1.0;
    }

pub code_refused : (q : Question) (depth : ℕ) (w : Walk) (r : Refusal) → code_answer q depth w ≡ Err r → first_refusal (node_held_checks q depth w) ≡ some r
code_refused q depth w r e = node_some (first_refusal (node_held_checks q depth w)) (node_held q w) r e

-- ---- every check on a held question

module _ (q : Question) where
  pub n_beyond : variables_fit q.n ≡ false → written q ≡ stopped (refusal Rule.BeyondLimit 0)
  unfolding written end_written head_written
  n_beyond e = ap (λ (o : Option Refusal). end_written q (onward (most_nodes + 1) (part_written q) (or_stopped o (going (first_walk q))))) (first_failed Rule.BeyondLimit 0 (variables_fit q.n) [] e)
      ∙ ap (end_written q) (onward_stopped (most_nodes + 1) (part_written q) (refusal Rule.BeyondLimit 0))

  module _ (t : T (variables_fit q.n)) where
    from_head : written q ≡ end_written q (formula_written q)
    unfolding written
    from_head = ap (λ (p : Progress Walk Walk). end_written q (onward (most_nodes + 1) (part_written q) p)) (head_written_lem q t)

    pub formula_refused : (r : Refusal) → formula_written q ≡ stopped r → written q ≡ stopped r
    unfolding end_written
    formula_refused r f = from_head ∙ ap (end_written q) f

    module _ (nodes atoms : ℕ) (f : formula_written q ≡ ended (walk_at q nodes atoms)) where
      abbrev closed : Option Refusal → Progress Walk Walk
      closed o = or_stopped o (ended (record { shape = counts nodes atoms; bytes = bytes_to q nodes ++ record_bytes end_kind [] }))

      over : (left : maybe.Option ℕ) → CodeLeft q.codes nodes left → written q ≡ closed (left_or left (first_refusal (number_checks q atoms)))
      unfolding end_written left_over_checks
      over left l = from_head ∙ ap (end_written q) f ∙ ap closed (l (number_checks q atoms))

      pub code_over : (left : ℕ) → CodeLeft q.codes nodes (maybe.Some left) → written q ≡ stopped (refusal Rule.LeftOver left)
      code_over left l = over (maybe.Some left) l

      module _ (l : CodeLeft q.codes nodes maybe.None) where
        pub number_over : numbers_clear q atoms ≡ false → written q ≡ stopped (refusal Rule.LeftOver most_nodes)
        unfolding first_refusal
        number_over c = over maybe.None l ∙ rw c

        pub nothing_over : numbers_clear q atoms ≡ true → written q ≡ closed none
        unfolding first_refusal
        nothing_over c = over maybe.None l ∙ rw c
