-- Where writing is refused: at a node that was reached by passing every node before it, or at what is left over, with the first check that fails there.
use Rattle.std.specs.Prelude.{◌≡◌, refl, ◌↔◌, List, [], ◌∷◌, ℕ, suc, ◌+◌, ◌-◌, T}
use Rattle.std.proofs.Common.{sym, ap, ◌∙◌, subst, arith}
use Rattle.scope.specs.declared.Rule.{Rule}
use Rattle.scope.specs.declared.Question.{Question}
use Rattle.scope.specs.declared.Refusal.{Refusal}
use Rattle.scope.specs.Sizes.{variables_fit, most_nodes}
use Rattle.scope.specs.Refusals.{refusal, Progress, stopped, going, ended, onward}
use Rattle.scope.specs.Wire.{grown}
use Rattle.scope.specs.Writing.{Walk, head_written, node_written, due_written, part_written, left_over_checks, end_written, written, first_walk, node_held, node_held_checks, after_written, head_held_checks}
use Rattle.theory.specs.Wire.Checks.{FirstFailing, failing_stops, stopped_failing, stopped_one, still_going, going_not_ended, going_not_stopped, stopped_not_ended, ended_not_stopped, onward_stopped, onward_ended, onward_going}
use Rattle.theory.specs.Wire.Lockstep.{kept_onward, stopped_onward, going_onward}
use Rattle.theory.specs.Wire.Shapes.{Formed, unread_formed, formed_grown}
use Rattle.theory.specs.Wire.WritingSteps.{head_written_lem, written_head, head_not_ended, HeldStep, part_going, part_ended, going_part, ended_part}
use Rattle.theory.specs.Wire.Wholes.{after_last}

-- ---- what is reached by passing nodes

pub data Walked (q : Question) : Walk → Type 0 where
  first : T (variables_fit q.n) → Walked q (first_walk q)
  later : {w v : Walk} → Walked q w → HeldStep q w v → Walked q v

walked_formed : {q : Question} {w : Walk} → Walked q w → Formed w.shape
walked_formed (first t) = unread_formed
walked_formed {q} (later {w = w} {v = v} h st) =
    subst (λ (u : Walk). Formed u.shape) (sym st.after)
    (formed_grown (node_held q w) st.depth st.due w.shape (walked_formed h) st.first st.there.room st.there.used st.there.few st.there.shallow)

one_node : (q : Question) (w v : Walk) → HeldStep q w v → v.shape.nodes ≡ w.shape.nodes + 1
unfolding grown
one_node q w v st = ap (λ (u : Walk). u.shape.nodes) st.after

walked_on : (q : Question) (w v : Walk) → Walked q w → part_written q w ≡ going v → Walked q v
walked_on q w v h e = later h (going_part q w v e)

-- the walk over the nodes, before what is left over
abbrev pub nodes_written : Question → Progress Walk Walk
nodes_written q = onward (most_nodes + 1) (part_written q) (head_written q)

-- from there on writing goes on, one step less for each node
walked_onward : {q : Question} {w : Walk} → Walked q w → nodes_written q ≡ onward ((most_nodes + 1) - w.shape.nodes) (part_written q) (going w)
walked_onward {q} (first t) = ap (onward (most_nodes + 1) (part_written q)) (head_written_lem q t)
walked_onward {q} (later {w = w} {v = v} h st) =
    let fuel : (most_nodes + 1) - w.shape.nodes ≡ suc ((most_nodes + 1) - v.shape.nodes) = omega (arith, one_node q w v st, st.there.room) in
    walked_onward h
    ∙ ap (λ (f : ℕ). onward f (part_written q) (going w)) fuel
    ∙ onward_going ((most_nodes + 1) - v.shape.nodes) (part_written q) w
    ∙ ap (onward ((most_nodes + 1) - v.shape.nodes) (part_written q)) (part_going q w st.depth st.due st.first st.there ∙ ap going (sym st.after))

walked_step : {q : Question} {w : Walk} → Walked q w → nodes_written q ≡ onward (most_nodes - w.shape.nodes) (part_written q) (part_written q w)
walked_step {q} {w} h =
    let fuel : (most_nodes + 1) - w.shape.nodes ≡ suc (most_nodes - w.shape.nodes) = omega (arith, (walked_formed h).nodes) in
    walked_onward h ∙ ap (λ (f : ℕ). onward f (part_written q) (going w)) fuel ∙ onward_going (most_nodes - w.shape.nodes) (part_written q) w

-- ---- where it is refused

pub data RefusedAt (q : Question) (r : Refusal) : Type 0 where
  at_head : FirstFailing (head_held_checks q) r → RefusedAt q r
  at_node : (w : Walk) (depth : ℕ) (due : List ℕ) → Walked q w → w.shape.due ≡ depth ∷ due → FirstFailing (node_held_checks q depth w) r → RefusedAt q r
  at_rest : (w : Walk) → Walked q w → w.shape.due ≡ [] → FirstFailing (left_over_checks q w.shape) r → RefusedAt q r

due_stopped : (q : Question) (w : Walk) (r : Refusal) (l : List ℕ) → Walked q w → w.shape.due ≡ l → due_written q l w ≡ stopped r → RefusedAt q r
unfolding node_written
due_stopped q w r [] h d e = absurd (ended_not_stopped w r e)
due_stopped q w r (depth ∷ due) h d e =
    at_node w depth due h d (stopped_failing (node_held_checks q depth w) (going (after_written q depth due w)) r (λ t x. going_not_stopped (after_written q depth due w) t x) e)

part_stopped : (q : Question) (w : Walk) (r : Refusal) → Walked q w → part_written q w ≡ stopped r → RefusedAt q r
unfolding part_written
part_stopped q w r h e = due_stopped q w r w.shape.due h refl e

head_stopped : (q : Question) (r : Refusal) → head_written q ≡ stopped r → FirstFailing (head_held_checks q) r
unfolding head_written
head_stopped q r e = stopped_failing (head_held_checks q) (going (first_walk q)) r (λ t x. going_not_stopped (first_walk q) t x) e

-- by how the head was written
module _ (q : Question) (p : Progress Walk Walk) (P : Type 0)
    (refused : (r : Refusal) → FirstFailing (head_held_checks q) r → stopped r ≡ p → P)
    (walking : T (variables_fit q.n) → onward (most_nodes + 1) (part_written q) (going (first_walk q)) ≡ p → P) where
  by_head : nodes_written q ≡ p → P
  by_head e = go (head_written q) refl e
    where
      go : (o : Progress Walk Walk) → head_written q ≡ o → onward (most_nodes + 1) (part_written q) o ≡ p → P
      go (stopped t) x e = refused t (head_stopped q t x) (sym (onward_stopped (most_nodes + 1) (part_written q) t) ∙ e)
      go (going u) x e =
          let g : T (variables_fit q.n) × (u ≡ first_walk q) = written_head q u x in
          walking g.0 (ap (λ (v : Walk). onward (most_nodes + 1) (part_written q) (going v)) (sym g.1) ∙ e)
      go (ended u) x e = absurd (head_not_ended q u x)

nodes_stopped : (q : Question) (r : Refusal) → nodes_written q ≡ stopped r → RefusedAt q r
nodes_stopped q r = by_head q (stopped r) (RefusedAt q r)
    (λ t f e. at_head (subst (FirstFailing (head_held_checks q)) (stopped_one t r e) f))
    (λ t e.
    let h : (c : Walk) × Walked q c × (part_written q c ≡ stopped r) = stopped_onward (part_written q) (Walked q) (walked_on q) (most_nodes + 1) (first_walk q) r (first t) e in
    part_stopped q h.0 r h.1 h.2)

-- no walk is left going: there is no 65th place
never_walking : (q : Question) (w : Walk) → nodes_written q ≡ going w → ⊥
never_walking q w = by_head q (going w) ⊥
    (λ t f e. going_not_stopped w t (sym e))
    (λ t e.
    let h : Walked q w × (w.shape.nodes ≡ 0 + (most_nodes + 1)) =
    going_onward (part_written q) (Walked q) (walked_on q) (λ (v : Walk). v.shape.nodes) (λ v u k y. one_node q v u (going_part q v u y)) (most_nodes + 1) (first_walk q) w (first t) e in
    omega (arith, h.1, (walked_formed h.0).nodes))

nodes_ended : (q : Question) (w : Walk) → nodes_written q ≡ ended w → Walked q w × (w.shape.due ≡ [])
nodes_ended q w = by_head q (ended w) (Walked q w × (w.shape.due ≡ []))
    (λ t f e. absurd (stopped_not_ended t w e))
    (λ t e. kept_onward (part_written q) w (Walked q) (Walked q w × (w.shape.due ≡ [])) (walked_on q)
    (λ u h x.
    let g : (u.shape.due ≡ []) × (w ≡ u) = ended_part q u w x in
    subst (λ (v : Walk). Walked q v × (v.shape.due ≡ [])) (sym g.1) (h, g.0))
    (most_nodes + 1) (first_walk q) (first t) e)

written_stopped : (q : Question) (r : Refusal) → written q ≡ stopped r → RefusedAt q r
unfolding written end_written
written_stopped q r e = go (nodes_written q) refl e
  where
    go : (p : Progress Walk Walk) → nodes_written q ≡ p → end_written q p ≡ stopped r → RefusedAt q r
    go (stopped t) x e = nodes_stopped q r (x ∙ e)
    go (going w) x e = absurd (never_walking q w x)
    go (ended w) x e =
        let h : Walked q w × (w.shape.due ≡ []) = nodes_ended q w x in
        at_rest w h.0 h.1 (stopped_failing (left_over_checks q w.shape) (ended (after_last w)) r (λ t y. ended_not_stopped (after_last w) t y) e)

stopped_written : (q : Question) (r : Refusal) → RefusedAt q r → written q ≡ stopped r
unfolding written end_written head_written part_written node_written
stopped_written q r (at_head f) =
    ap (λ (p : Progress Walk Walk). end_written q (onward (most_nodes + 1) (part_written q) p)) (failing_stops (head_held_checks q) (going (first_walk q)) r f)
    ∙ ap (end_written q) (onward_stopped (most_nodes + 1) (part_written q) r)
stopped_written q r (at_node w depth due h d f) =
    ap (end_written q)
    (walked_step h
    ∙ ap (onward (most_nodes - w.shape.nodes) (part_written q))
    (ap (λ (l : List ℕ). due_written q l w) d ∙ failing_stops (node_held_checks q depth w) (going (after_written q depth due w)) r f)
    ∙ onward_stopped (most_nodes - w.shape.nodes) (part_written q) r)
stopped_written q r (at_rest w h d f) =
    ap (end_written q)
    (walked_step h
    ∙ ap (onward (most_nodes - w.shape.nodes) (part_written q)) (part_ended q w d)
    ∙ onward_ended (most_nodes - w.shape.nodes) (part_written q) w)
    ∙ failing_stops (left_over_checks q w.shape) (ended (after_last w)) r f

pub written_stopped_iff : (q : Question) (r : Refusal) → (written q ≡ stopped r) ↔ RefusedAt q r
written_stopped_iff q r = (written_stopped q r, stopped_written q r)

-- writing is refused or done
pub never_half_written : (q : Question) (w : Walk) → written q ≡ going w → ⊥
unfolding written end_written
never_half_written q w e = go (nodes_written q) e
  where
    go : (p : Progress Walk Walk) → end_written q p ≡ going w → ⊥
    go (stopped t) e = going_not_stopped w t (sym e)
    go (going v) e = going_not_stopped w (refusal Rule.TooMany most_nodes) (sym e)
    go (ended v) e = going_not_ended w (after_last v) (sym (still_going (left_over_checks q v.shape) (ended (after_last v)) w e).1)
