-- One turn of reading: a node, the end, and what is still to be read.
use mathlib.Core.Path.{◌≡◌, refl, sym, ap, ◌∙◌}
use mathlib.Core.Option.{Option, none, some}
use mathlib.Core.List.{List, []}
use Prim.Native.Nat.{ℕ, zero, suc, ◌+◌, ◌-◌, ◌<◌, ◌≤◌}
use native.Mathlib.Omega.{arith}
use lib.ListN.{length}
use Rattle.scope.specs.declared.Question.{Question}
use Rattle.scope.specs.declared.Refusal.{Refusal}
use Rattle.scope.specs.Sizes.{most_nodes}
use Rattle.scope.specs.Question.{Node, node_of, is_atom}
use Rattle.scope.specs.Refusals.{unless_refused, first_refusal, Progress, stopped, going, ended, or_stopped, onward}
use Rattle.scope.specs.Wire as wire
use Rattle.scope.specs.Wire.{Reading, Ended, body_length, node_at, coefficients_at, constant_at, end_checks, after_node, after_end, node_read, end_read, due_read, record_read}
use Rattle.theory.specs.Wire.Checks.{onward_stopped}
use Rattle.std.specs.Prelude.{Result, Ok, Err}
use Rattle.records.specs.declared.shape.Shape.{Shape}
use Rattle.records.specs.Formula.{ShapeSound, Grown, due_of, shape_of, due_depth, later_of}
use Rattle.records.proofs.Due.{due_first, due_none, grown_nodes, onward_first}
use Rattle.reading.specs.Steps.{node_answer, reading_at}
use Rattle.reading.specs.Answers.{FromSays, end_answer}
use Rattle.reading.proofs.Taken.{NodeTaken, node_taken, node_refused}
use Rattle.reading.proofs.Noting.{noted_n, noted_counts}

abbrev pub reading_of : Question → Shape → ℕ → Reading
reading_of q s p = record { question = q; shape = shape_of s; place = p }

-- the same, whatever is due
abbrev pub reading_by : Question → Shape → ℕ → Reading
reading_by q s p = reading_at q s.nodes s.atoms p

settled : {A B : Type 0} (step : A → Progress A B) (f : ℕ) (o : Option Refusal) (e : B) → onward f step (or_stopped o (ended e)) ≡ or_stopped o (ended e)
unfolding onward
settled step zero o e = refl
settled step (suc f) none e = refl
settled step (suc f) (some r) e = refl

-- ---- a turn

module _ (b : List ℕ) (q : Question) (s : Shape) (p : ℕ) (h : ShapeSound s) where
  turn_end : most_nodes + 2 ≤ s.top → record_read b (reading_of q s p) ≡ end_read b (reading_of q s p)
  unfolding record_read
  turn_end t = ap (λ (l : List ℕ). due_read b l (reading_of q s p)) (due_none s h t)

  abbrev after : Reading
  after = after_node b (due_depth s) (later_of s) (reading_of q s p)

  module _ (t : s.top < most_nodes + 2) where
    turn : (o : Option Refusal) → first_refusal (wire.node_checks b (due_depth s) (reading_of q s p)) ≡ o → record_read b (reading_of q s p) ≡ or_stopped o (going after)
    unfolding record_read node_read
    turn o e = ap (λ (l : List ℕ). due_read b l (reading_of q s p)) (due_first s h t) ∙ ap (λ (v : Option Refusal). or_stopped v (going after)) e

    turn_refused : (r : Refusal) → node_answer b (due_depth s) (reading_by q s p) ≡ Err r → record_read b (reading_of q s p) ≡ stopped r
    turn_refused r e = turn (some r) (node_refused b (due_depth s) (reading_by q s p) r e)

    turn_taken : (code : ℕ) → NodeTaken b (due_depth s) (reading_by q s p) code → record_read b (reading_of q s p) ≡ going after
    turn_taken code k = turn none k.passed

-- ---- what is still to be read

pub record Left (b : List ℕ) (q₀ : Question) (s₀ : Shape) (p₀ : ℕ) (q : Question) (s : Shape) (p : ℕ) : Type 0 where
  pub sound : ShapeSound s
  pub within : p ≤ length b
  pub variables : q.n ≡ q₀.n
  pub rest : onward (most_nodes + 1 - s.nodes) (record_read b) (going (reading_of q s p)) ≡ onward (most_nodes + 1) (record_read b) (going (reading_of q₀ s₀ p₀))

module _ {b : List ℕ} {q₀ : Question} {s₀ : Shape} {p₀ : ℕ} {q : Question} {s : Shape} {p : ℕ} (left : Left b q₀ s₀ p₀ q s p) where
  abbrev whole : Progress Reading Ended
  whole = onward (most_nodes + 1) (record_read b) (going (reading_of q₀ s₀ p₀))

  first : whole ≡ onward (most_nodes - s.nodes) (record_read b) (record_read b (reading_of q s p))
  first = sym left.rest ∙ onward_first (record_read b) s.nodes (reading_of q s p) left.sound.bounded

  pub left_end : most_nodes + 2 ≤ s.top → whole ≡ end_read b (reading_of q s p)
  unfolding end_read
  left_end t = first ∙ ap (onward (most_nodes - s.nodes) (record_read b)) (turn_end b q s p left.sound t)
      ∙ settled (record_read b) (most_nodes - s.nodes) (first_refusal (end_checks b p)) (after_end (reading_of q s p))

  module _ (t : s.top < most_nodes + 2) where
    pub left_refused : (r : Refusal) → node_answer b (due_depth s) (reading_by q s p) ≡ Err r → whole ≡ stopped r
    left_refused r e = first ∙ ap (onward (most_nodes - s.nodes) (record_read b)) (turn_refused b q s p left.sound t r e) ∙ onward_stopped (most_nodes - s.nodes) (record_read b) r

    pub left_again : (code : ℕ) → node_answer b (due_depth s) (reading_by q s p) ≡ Ok code → (len : ℕ) → len ≡ body_length q.n (node_of code)
        → (q' : Question) (s' : Shape) → q' ≡ (after_node b (due_depth s) [] (reading_by q s p)).question → Grown s code s' → Left b q₀ s₀ p₀ q' s' (p + 4 + len)
    left_again code e len y q' s' f g =
        let k = node_taken b (due_depth s) (reading_by q s p) code e in
        let x = node_at b (reading_by q s p) in
        let n = k.node.known.node in
        let m : s'.nodes ≡ s.nodes + 1 = grown_nodes s code s' g in
        let d : most_nodes + 1 - s'.nodes ≡ most_nodes - s.nodes = omega arith in
        record {
          sound = g.sound;
          within = omega (arith, y, k.node.within);
          variables = ap (λ (r : Question). r.n) f ∙ noted_n (is_atom x) x _ _ _ q ∙ left.variables;
          rest = rw d (ap (onward (most_nodes - s.nodes) (record_read b)) ((λ i. going (record {
            question = (f ∙ noted_counts (is_atom x) x (coefficients_at b (reading_by q s p)) (constant_at b (reading_by q s p)) s.nodes s.atoms (due_of s) q) i;
            shape = (g.shape ∙ ap (λ (z : Node). wire.grown z (due_depth s) (later_of s) (shape_of s)) n) i;
            place = p + 4 + (y ∙ ap (body_length q.n) n) i;
          })) ∙ sym (turn_taken b q s p left.sound t code k))
              ∙ sym first);
        }

-- ---- the end

pub end_says : (p : Progress Reading Ended) (b : List ℕ) (at : ℕ) (s : wire.Shape) (q : Question) (r : Result ℕ Refusal) → r ≡ end_answer b at
    → p ≡ end_read b (record { question = q; shape = s; place = at }) → FromSays p r q
unfolding end_read
end_says p b at s q r e f = rw (e, f) (by (first_refusal (end_checks b at)))
  where
    by : (o : Option Refusal) → FromSays (or_stopped o (ended (record { question = q; next = at + 4 }))) (unless_refused o (at + 4)) q
    by none = refl
    by (some r) = refl
