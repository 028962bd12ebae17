-- One step of writing, by what its checks say; and that nothing is left over exactly where what is unused is zero.
use Rattle.std.specs.Prelude.{◌≡◌, refl, true, false, not, ◌||◌, List, [], ◌∷◌, T, ltb, length, pos}
use Rattle.std.proofs.Common.{sym, ap, ◌∙◌, ⊎_elim, arith, leb→le, le→leb, ltb→lt, lt→ltb, nltb→le, eqb→eq}
use Rattle.std.proofs.Math.Logic.{by_cases}
use Rattle.std.proofs.Math.Bool.{Bool}
use Prim.Native.Nat.{ℕ, zero, suc, ◌+◌, ◌-◌, ◌/◌, ◌%◌, ◌≤◌, ◌<◌}
use Rattle.std.proofs.Math.Decide.{dec_lt}
use Rattle.std.proofs.Math.ListN.{get_or, get_or-eq_default}
use Rattle.std.proofs.Math.IntN.{ℤ}
use Rattle.std.proofs.Math.Facts.{and_no}
use Rattle.scope.specs.declared.Question.{Question}
use Rattle.scope.specs.Whole.{eq_z, all_from}
use Rattle.scope.specs.Sizes.{variables_fit, numbers_fit, most_atoms, most_depth, most_nodes, most_variables}
use Rattle.scope.specs.Question.{is_unused, is_atom, coefficients_of, constant_of}
use Rattle.scope.specs.Refusals.{Check, Progress, going, ended}
use Rattle.scope.specs.Wire.{Shape}
use Rattle.scope.specs.Writing.{Walk, head_written, node_written, due_written, part_written, code_checks, coefficient_used, numbers_clear, left_over_checks, first_walk, node_held, node_held_checks, after_written, head_held_checks, number_checks}
use Rattle.theory.specs.Numbers.Integers.{eqZ→eq, eq→eq_z}
use Rattle.theory.specs.Wire.Checks.{Passed, and_first, and_second, and_both, if_asked, was_asked, still_going, still_ended, passed_on, going_one, ended_one, going_not_ended}
use Rattle.theory.specs.Wire.Fields.{passed_atom, atom_passed}
use Rattle.theory.specs.Wire.Held.{Sized, Blank}
use Rattle.theory.specs.Wire.ReadingSteps.{eq→eqb}

-- ---- the head

pub head_written_lem : (q : Question) → T (variables_fit q.n) → head_written q ≡ going (first_walk q)
unfolding head_written
head_written_lem q t = passed_on (head_held_checks q) (going (first_walk q)) (t, tt)

pub written_head : (q : Question) (w : Walk) → head_written q ≡ going w → T (variables_fit q.n) × (w ≡ first_walk q)
unfolding head_written
written_head q w e =
    let h : (T (variables_fit q.n) × Unit {0}) × (◌≡◌ {A = Progress Walk Walk} (going (first_walk q)) (going w)) = still_going (head_held_checks q) (going (first_walk q)) w e in
    (h.0.0, sym (going_one (first_walk q) w h.1))

pub head_not_ended : (q : Question) (w : Walk) → head_written q ≡ ended w → ⊥
unfolding head_written
head_not_ended q w e = going_not_ended (first_walk q) w (still_ended (head_held_checks q) (going (first_walk q)) w e).1

-- ---- a node

pub record NodeHeld (q : Question) (depth : ℕ) (w : Walk) : Type 0 where
  pub room : w.shape.nodes < most_nodes
  pub used : T (not (is_unused (node_held q w)))
  pub few : T (is_atom (node_held q w)) → w.shape.atoms < most_atoms
  pub shallow : depth ≤ most_depth
  pub fit : T (is_atom (node_held q w)) → T (numbers_fit (coefficients_of q w.shape.atoms) (constant_of q w.shape.atoms))

held_checks : (q : Question) (depth : ℕ) (w : Walk) → NodeHeld q depth w → Passed (node_held_checks q depth w)
held_checks q depth w h = (
  lt→ltb w.shape.nodes most_nodes h.room,
  (
    h.used,
    (
      if_asked (is_atom (node_held q w)) (ltb w.shape.atoms most_atoms) (λ t. lt→ltb w.shape.atoms most_atoms (h.few t)),
      (
        le→leb depth most_depth h.shallow,
        atom_passed (is_atom (node_held q w)) w.shape.nodes 0 (coefficients_of q w.shape.atoms) (constant_of q w.shape.atoms) h.fit,
      ),
    ),
  ),
)

held_facts : (q : Question) (depth : ℕ) (w : Walk) → Passed (node_held_checks q depth w) → NodeHeld q depth w
held_facts q depth w p = record {
  room = ltb→lt w.shape.nodes most_nodes p.0;
  used = p.1.0;
  few = λ t. ltb→lt w.shape.atoms most_atoms (was_asked (is_atom (node_held q w)) (ltb w.shape.atoms most_atoms) p.1.1.0 t);
  shallow = leb→le depth most_depth p.1.1.1.0;
  fit = passed_atom (is_atom (node_held q w)) w.shape.nodes 0 (coefficients_of q w.shape.atoms) (constant_of q w.shape.atoms) p.1.1.1.1;
}

pub record HeldStep (q : Question) (w v : Walk) : Type 0 where
  pub depth : ℕ
  pub due : List ℕ
  pub first : w.shape.due ≡ depth ∷ due
  pub there : NodeHeld q depth w
  pub after : v ≡ after_written q depth due w

pub part_going : (q : Question) (w : Walk) (depth : ℕ) (due : List ℕ) → w.shape.due ≡ depth ∷ due → NodeHeld q depth w
    → part_written q w ≡ going (after_written q depth due w)
unfolding part_written node_written
part_going q w depth due e h = ap (λ (l : List ℕ). due_written q l w) e ∙ passed_on (node_held_checks q depth w) (going (after_written q depth due w)) (held_checks q depth w h)

pub part_ended : (q : Question) (w : Walk) → w.shape.due ≡ [] → part_written q w ≡ ended w
unfolding part_written
part_ended q w e = ap (λ (l : List ℕ). due_written q l w) e

due_going : (q : Question) (w v : Walk) (l : List ℕ) → w.shape.due ≡ l → due_written q l w ≡ going v → HeldStep q w v
unfolding node_written
due_going q w v [] d e = absurd (going_not_ended v w (sym e))
due_going q w v (depth ∷ due) d e =
    let h : Passed (node_held_checks q depth w) × (◌≡◌ {A = Progress Walk Walk} (going (after_written q depth due w)) (going v)) = still_going (node_held_checks q depth w) (going (after_written q depth due w)) v e in
    record { depth = depth; due = due; first = d; there = held_facts q depth w h.0; after = sym (going_one (after_written q depth due w) v h.1) }

due_ended : (q : Question) (w v : Walk) (l : List ℕ) → w.shape.due ≡ l → due_written q l w ≡ ended v → (w.shape.due ≡ []) × (v ≡ w)
unfolding node_written
due_ended q w v [] d e = (d, sym (ended_one w v e))
due_ended q w v (depth ∷ due) d e = absurd (going_not_ended (after_written q depth due w) v (still_ended (node_held_checks q depth w) (going (after_written q depth due w)) v e).1)

pub going_part : (q : Question) (w v : Walk) → part_written q w ≡ going v → HeldStep q w v
unfolding part_written
going_part q w v e = due_going q w v w.shape.due refl e

pub ended_part : (q : Question) (w v : Walk) → part_written q w ≡ ended v → (w.shape.due ≡ []) × (v ≡ w)
unfolding part_written
ended_part q w v e = due_ended q w v w.shape.due refl e

-- ---- what is left over

or_else_lem : (a b : Bool) → T (a || b) → (T a → ⊥) → T b
or_else_lem true b t f = absurd (f tt)
or_else_lem false b t f = t

or_by : (a b : Bool) → (T (not a) → T b) → T (a || b)
or_by true b f = tt
or_by false b f = f tt

all_at : {A : Type 0} (f : ℕ → A → Bool) (i : ℕ) (l : List A) (d : A) → T (all_from f i l) → (j c : ℕ) → c ≡ i + j → j < length l → T (f c (get_or l j d))
unfolding all_from
all_at f i [] d t j c e h = absurd (omega arith)
all_at f i (a ∷ l) d t zero c e h = let same : c ≡ i = omega arith in rw same (and_first (f i a) (all_from f (suc i) l) t)
all_at f i (a ∷ l) d t (suc j) c e h = all_at f (suc i) l d (and_second (f i a) (all_from f (suc i) l) t) j c (omega arith) (omega arith)

at_all : {A : Type 0} (f : ℕ → A → Bool) (i : ℕ) (l : List A) (d : A) → ((j c : ℕ) → c ≡ i + j → j < length l → T (f c (get_or l j d))) → T (all_from f i l)
unfolding all_from
at_all f i [] d h = tt
at_all f i (a ∷ l) d h = and_both (f i a) (all_from f (suc i) l) (h 0 i (omega arith) (omega arith)) (at_all f (suc i) l d (λ j c e k. h (suc j) c (omega arith) (omega arith)))

codes_passed : (count : ℕ) (codes : List ℕ) (i : ℕ) (later : List Check) → ((j : ℕ) → i ≤ j → get_or codes j 0 ≡ 0) → Passed later → Passed (code_checks count codes i later)
unfolding code_checks
codes_passed zero codes i later h p = p
codes_passed (suc count) codes i later h p = (eq→eqb (get_or codes i 0) 0 (h i (omega arith)), codes_passed count codes (suc i) later (λ j k. h j (omega arith)) p)

passed_codes : (count : ℕ) (codes : List ℕ) (i : ℕ) (later : List Check) → Passed (code_checks count codes i later)
    → ((j c : ℕ) → c ≡ i + j → j < count → get_or codes c 0 ≡ 0) × Passed later
unfolding code_checks
passed_codes zero codes i later p = (λ j c e h. absurd (omega arith), p)
passed_codes (suc count) codes i later p =
    let r : ((j c : ℕ) → c ≡ suc i + j → j < count → get_or codes c 0 ≡ 0) × Passed later = passed_codes count codes (suc i) later p.1 in
    (at_index (eqb→eq (get_or codes i 0) 0 p.0) r.0, r.1)
  where
    at_index : get_or codes i 0 ≡ 0 → ((j c : ℕ) → c ≡ suc i + j → j < count → get_or codes c 0 ≡ 0) → (j c : ℕ) → c ≡ i + j → j < suc count → get_or codes c 0 ≡ 0
    at_index here later zero c e h = let same : c ≡ i = omega arith in rw same here
    at_index here later (suc j) c e h = later j c (omega arith) (omega arith)

module _ (q : Question) (s : Shape) (z : Sized q) (room : s.nodes ≤ most_nodes) where
  clear : T (numbers_clear q s.atoms) → ((i : ℕ) → s.nodes ≤ i → get_or q.codes i 0 ≡ 0) → Blank q s.nodes s.atoms
  unfolding numbers_clear
  clear t codes = record { codes = codes; right = λ c h. cell c (λ u. not_right c h u); below = λ c h. cell c (λ u. not_below c h u); constants = constant }
    where
      cells : ℕ → ℤ → Bool
      cells c z = coefficient_used q.n s.atoms c || eq_z z (pos 0)

      entries : ℕ → ℤ → Bool
      entries i z = ltb i s.atoms || eq_z z (pos 0)

      cell : (c : ℕ) → (T (coefficient_used q.n s.atoms c) → ⊥) → get_or q.coefficients c (pos 0) ≡ pos 0
      cell c f = by_cases (dec_lt c (length q.coefficients))
          (λ h. eqZ→eq (get_or q.coefficients c (pos 0)) (pos 0)
          (or_else_lem (coefficient_used q.n s.atoms c) (eq_z (get_or q.coefficients c (pos 0)) (pos 0))
          (all_at cells 0 q.coefficients (pos 0) (and_first (all_from cells 0 q.coefficients) (all_from entries 0 q.constants) t) c c (omega arith) h) f))
          (λ h. get_or-eq_default q.coefficients (pos 0) (omega arith))

      not_right : (c : ℕ) → q.n ≤ c % most_variables → T (coefficient_used q.n s.atoms c) → ⊥
      not_right c h u = omega (arith, ltb→lt (c % most_variables) q.n (and_first (ltb (c % most_variables) q.n) (ltb (c / most_variables) s.atoms) u))

      not_below : (c : ℕ) → s.atoms ≤ c / most_variables → T (coefficient_used q.n s.atoms c) → ⊥
      not_below c h u = omega (arith, ltb→lt (c / most_variables) s.atoms (and_second (ltb (c % most_variables) q.n) (ltb (c / most_variables) s.atoms) u))

      constant : (i : ℕ) → s.atoms ≤ i → get_or q.constants i (pos 0) ≡ pos 0
      constant i k = by_cases (dec_lt i (length q.constants))
          (λ h. eqZ→eq (get_or q.constants i (pos 0)) (pos 0)
          (or_else_lem (ltb i s.atoms) (eq_z (get_or q.constants i (pos 0)) (pos 0))
          (all_at entries 0 q.constants (pos 0) (and_second (all_from cells 0 q.coefficients) (all_from entries 0 q.constants) t) i i (omega arith) h)
          (λ u. omega (arith, ltb→lt i s.atoms u))))
          (λ h. get_or-eq_default q.constants (pos 0) (omega arith))

  pub left_blank : Passed (left_over_checks q s) → Blank q s.nodes s.atoms
  unfolding left_over_checks
  left_blank p =
      let r : ((j c : ℕ) → c ≡ s.nodes + j → j < most_nodes - s.nodes → get_or q.codes c 0 ≡ 0) × Passed (number_checks q s.atoms)
      = passed_codes (most_nodes - s.nodes) q.codes s.nodes (number_checks q s.atoms) p in
      clear r.1.0
      (λ i h. by_cases (dec_lt i most_nodes)
      (λ k. r.0 (i - s.nodes) i (omega arith) (omega arith))
      (λ k. get_or-eq_default q.codes 0 (omega (arith, z.codes))))

  blank_clear : Blank q s.nodes s.atoms → T (numbers_clear q s.atoms)
  unfolding numbers_clear
  blank_clear b = and_both (all_from cells 0 q.coefficients) (all_from entries 0 q.constants)
      (at_all cells 0 q.coefficients (pos 0) cell)
      (at_all entries 0 q.constants (pos 0) entry)
    where
      cells : ℕ → ℤ → Bool
      cells c z = coefficient_used q.n s.atoms c || eq_z z (pos 0)

      entries : ℕ → ℤ → Bool
      entries i z = ltb i s.atoms || eq_z z (pos 0)

      cell : (j c : ℕ) → c ≡ 0 + j → j < length q.coefficients → T (cells c (get_or q.coefficients j (pos 0)))
      cell j c e h =
          let same : j ≡ c = omega arith in
          rw same
          (or_by (coefficient_used q.n s.atoms c) (eq_z (get_or q.coefficients c (pos 0)) (pos 0))
          (λ t. eq→eq_z (get_or q.coefficients c (pos 0)) (pos 0)
          (⊎_elim (λ f. b.right c (nltb→le (c % most_variables) q.n f)) (λ f. b.below c (nltb→le (c / most_variables) s.atoms f)) (and_no (ltb (c % most_variables) q.n) (ltb (c / most_variables) s.atoms) t))))

      entry : (j c : ℕ) → c ≡ 0 + j → j < length q.constants → T (entries c (get_or q.constants j (pos 0)))
      entry j c e h =
          let same : j ≡ c = omega arith in
          rw same
          (or_by (ltb c s.atoms) (eq_z (get_or q.constants c (pos 0)) (pos 0))
          (λ t. eq→eq_z (get_or q.constants c (pos 0)) (pos 0) (b.constants c (nltb→le c s.atoms t))))

  pub blank_left : Blank q s.nodes s.atoms → Passed (left_over_checks q s)
  unfolding left_over_checks
  blank_left b = codes_passed (most_nodes - s.nodes) q.codes s.nodes (number_checks q s.atoms) b.codes (blank_clear b, tt)
