-- Where reading stops: at a place that was reached by passing every record before it, with the first check there that fails; and nowhere else.
use Rattle.std.specs.Prelude.{◌≡◌, refl, ◌↔◌, ◌⊎◌, Bool, true, false, not, List, [], ◌∷◌, ℕ, suc, ◌+◌, ◌-◌, ◌<◌, T, leb, length, Err, Result, Ok}
use Rattle.std.proofs.Common.{sym, ap, ◌∙◌, inl, inr, arith}
use Rattle.std.proofs.Math.Dec.{nleb→lt}
use Rattle.scope.specs.declared.Question.{Question}
use Rattle.scope.specs.declared.Rule.{Rule}
use Rattle.scope.specs.declared.Refusal.{Refusal}
use Rattle.scope.specs.Refusals.{check, refusal, first_refusal, Progress, stopped, going, ended, or_stopped, onward}
use Rattle.scope.specs.Wire.{grown, Reading, Ended, head_read, node_read, end_read, due_read, record_read, read_from, whole_read, held_of, read_held, head_checks, after_head, node_checks, after_node, end_checks, after_end}
use Rattle.scope.specs.Sizes.{most_nodes}
use Rattle.theory.specs.Wire.Checks.{FirstFailing, failing_stops, stopped_failing, going_not_stopped, ended_not_stopped, onward_stopped, onward_going}
use Rattle.theory.specs.Wire.Lockstep.{stopped_onward, going_onward}
use Rattle.theory.specs.Wire.ReadingSteps.{HeadThere, head_going, going_head, NodeStep, record_going, going_record}
use Rattle.theory.specs.Wire.Wholes.{head_no_end}
use Rattle.theory.specs.Wire.Sound.{Sound, sound_head, sound_step}

-- ---- what is reached by passing records

pub data RecordReached (b : List ℕ) (at : ℕ) : Reading → Type 0 where
  first : HeadThere b at → RecordReached b at (after_head b at)
  later : {s r : Reading} → RecordReached b at s → NodeStep b s r → RecordReached b at r

pub reached_sound : {b : List ℕ} {at : ℕ} {s : Reading} → RecordReached b at s → Sound s.question s.shape
reached_sound {b} {at} (first h) = sound_head b at h
reached_sound {b} {at} (later {s = s} {r = r} h st) = sound_step b s r (reached_sound h) st

one_node : (b : List ℕ) (s r : Reading) → NodeStep b s r → r.shape.nodes ≡ s.shape.nodes + 1
unfolding grown
one_node b s r st = ap (λ (u : Reading). u.shape.nodes) st.after

-- from there on reading goes on, one step less for each node
pub reached_onward : {b : List ℕ} {at : ℕ} {s : Reading} → RecordReached b at s → read_from b at ≡ onward ((most_nodes + 1) - s.shape.nodes) (record_read b) (going s)
unfolding read_from
reached_onward {b} {at} (first h) = ap (onward (most_nodes + 1) (record_read b)) (head_going b at h)
reached_onward {b} {at} (later {s = s} {r = r} h st) =
    let fuel : (most_nodes + 1) - s.shape.nodes ≡ suc ((most_nodes + 1) - r.shape.nodes) = omega (arith, one_node b s r st, st.there.room) in
    reached_onward h
    ∙ ap (λ (f : ℕ). onward f (record_read b) (going s)) fuel
    ∙ onward_going ((most_nodes + 1) - r.shape.nodes) (record_read b) s
    ∙ ap (onward ((most_nodes + 1) - r.shape.nodes) (record_read b)) (record_going b s st.depth st.due st.first st.there ∙ ap going (sym st.after))

-- ---- where it stops

pub data StoppedAt (b : List ℕ) (at : ℕ) (r : Refusal) : Type 0 where
  at_head : FirstFailing (head_checks b at) r → StoppedAt b at r
  at_node : (s : Reading) (depth : ℕ) (due : List ℕ) → RecordReached b at s → s.shape.due ≡ depth ∷ due → FirstFailing (node_checks b depth s) r → StoppedAt b at r
  at_end : (s : Reading) → RecordReached b at s → s.shape.due ≡ [] → FirstFailing (end_checks b s.place) r → StoppedAt b at r

due_stopped : (b : List ℕ) (at : ℕ) (s : Reading) (r : Refusal) (l : List ℕ) → RecordReached b at s → s.shape.due ≡ l → due_read b l s ≡ stopped r → StoppedAt b at r
unfolding node_read end_read
due_stopped b at s r [] h d e = at_end s h d (stopped_failing (end_checks b s.place) (ended (after_end s)) r (λ t x. ended_not_stopped (after_end s) t x) e)
due_stopped b at s r (depth ∷ due) h d e =
    at_node s depth due h d (stopped_failing (node_checks b depth s) (going (after_node b depth due s)) r (λ t x. going_not_stopped (after_node b depth due s) t x) e)

record_stopped : (b : List ℕ) (at : ℕ) (s : Reading) (r : Refusal) → RecordReached b at s → record_read b s ≡ stopped r → StoppedAt b at r
unfolding record_read
record_stopped b at s r h e = due_stopped b at s r s.shape.due h refl e

head_stopped : (b : List ℕ) (at : ℕ) (r : Refusal) → head_read b at ≡ stopped r → FirstFailing (head_checks b at) r
unfolding head_read
head_stopped b at r e = stopped_failing (head_checks b at) (going (after_head b at)) r (λ t x. going_not_stopped (after_head b at) t x) e

reached_on : (b : List ℕ) (at : ℕ) (s r : Reading) → RecordReached b at s → record_read b s ≡ going r → RecordReached b at r
reached_on b at s r h e = later h (going_record b s r e)

stopped_at : (b : List ℕ) (at : ℕ) (r : Refusal) → read_from b at ≡ stopped r → StoppedAt b at r
unfolding read_from
stopped_at b at r e = go (head_read b at) refl e
  where
    go : (p : Progress Reading Ended) → head_read b at ≡ p → onward (most_nodes + 1) (record_read b) p ≡ stopped r → StoppedAt b at r
    go (stopped t) x e = at_head (head_stopped b at r (x ∙ sym (onward_stopped (most_nodes + 1) (record_read b) t) ∙ e))
    go (going s) x e =
        let g : HeadThere b at × (s ≡ after_head b at) = going_head b at s x in
        let h : (c : Reading) × RecordReached b at c × (record_read b c ≡ stopped r) =
        stopped_onward (record_read b) (RecordReached b at) (reached_on b at) (most_nodes + 1) (after_head b at) r (first g.0)
        (ap (λ (u : Reading). onward (most_nodes + 1) (record_read b) (going u)) (sym g.1) ∙ e) in
        record_stopped b at h.0 r h.1 h.2
    go (ended d) x e = absurd (head_no_end b at d x)

-- ---- and nowhere else

-- a record that is refused stops the reading
record_stops : {b : List ℕ} {at : ℕ} {s : Reading} (r : Refusal) → RecordReached b at s → record_read b s ≡ stopped r → read_from b at ≡ stopped r
record_stops {b} {at} {s} r h e =
    let fuel : (most_nodes + 1) - s.shape.nodes ≡ suc (most_nodes - s.shape.nodes) = omega (arith, (reached_sound h).formed.nodes) in
    reached_onward h
    ∙ ap (λ (f : ℕ). onward f (record_read b) (going s)) fuel
    ∙ onward_going (most_nodes - s.shape.nodes) (record_read b) s
    ∙ ap (onward (most_nodes - s.shape.nodes) (record_read b)) e
    ∙ onward_stopped (most_nodes - s.shape.nodes) (record_read b) r

pub at_stopped : (b : List ℕ) (at : ℕ) (r : Refusal) → StoppedAt b at r → read_from b at ≡ stopped r
unfolding read_from head_read record_read node_read end_read
at_stopped b at r (at_head f) = ap (onward (most_nodes + 1) (record_read b)) (failing_stops (head_checks b at) (going (after_head b at)) r f) ∙ onward_stopped (most_nodes + 1) (record_read b) r
at_stopped b at r (at_node s depth due h d f) =
    record_stops r h (ap (λ (l : List ℕ). due_read b l s) d ∙ failing_stops (node_checks b depth s) (going (after_node b depth due s)) r f)
at_stopped b at r (at_end s h d f) =
    record_stops r h (ap (λ (l : List ℕ). due_read b l s) d ∙ failing_stops (end_checks b s.place) (ended (after_end s)) r f)

pub stopped_iff : (b : List ℕ) (at : ℕ) (r : Refusal) → (read_from b at ≡ stopped r) ↔ StoppedAt b at r
stopped_iff b at r = (stopped_at b at r, at_stopped b at r)

-- ---- nothing is left going: a 65th node is refused

pub never_going : (b : List ℕ) (at : ℕ) (s : Reading) → read_from b at ≡ going s → ⊥
unfolding read_from
never_going b at s e = go (head_read b at) refl e
  where
    go : (p : Progress Reading Ended) → head_read b at ≡ p → onward (most_nodes + 1) (record_read b) p ≡ going s → ⊥
    go (stopped t) x e = going_not_stopped s t (sym e ∙ onward_stopped (most_nodes + 1) (record_read b) t)
    go (going u) x e =
        let g : HeadThere b at × (u ≡ after_head b at) = going_head b at u x in
        let h : RecordReached b at s × (s.shape.nodes ≡ 0 + (most_nodes + 1)) =
        going_onward (record_read b) (RecordReached b at) (reached_on b at) (λ (v : Reading). v.shape.nodes) (λ v w k y. one_node b v w (going_record b v w y))
        (most_nodes + 1) (after_head b at) s (first g.0) (ap (λ (v : Reading). onward (most_nodes + 1) (record_read b) (going v)) (sym g.1) ∙ e) in
        omega (arith, h.1, (reached_sound h.0).formed.nodes)
    go (ended d) x e = head_no_end b at d x

-- ---- every refusal of a question's bytes

-- the end was read, and bytes are left
pub record LeftBytes (b : List ℕ) (r : Refusal) : Type 0 where
  pub last : Ended
  pub read : read_from b 0 ≡ ended last
  pub left : last.next < length b
  pub told : r ≡ refusal Rule.LeftOver last.next

refused_one : (r t : Refusal) → ◌≡◌ {A = Result Question Refusal} (Err r) (Err t) → r ≡ t
refused_one r t e = cc

accepted_not_refused : (q : Question) (r : Refusal) → Ok q ≡ Err r → ⊥
accepted_not_refused q r e = let z : ◌≡◌ {A = ℕ} 0 1 = cc in omega arith

whole_stopped : (b : List ℕ) (r : Refusal) (p : Progress Reading Ended) → read_from b 0 ≡ p → held_of (whole_read b p) ≡ Err r → StoppedAt b 0 r ⊎ LeftBytes b r
unfolding whole_read first_refusal
whole_stopped b r (stopped t) x e = inl (stopped_at b 0 r (x ∙ ap stopped (refused_one t r e)))
whole_stopped b r (going s) x e = absurd (never_going b 0 s x)
whole_stopped b r (ended d) x e = go (leb (length b) d.next) (nleb→lt (length b) d.next) e
  where
    go : (t : Bool) → (T (not t) → d.next < length b)
        → held_of (or_stopped (first_refusal (check Rule.LeftOver d.next t ∷ [])) (ended d)) ≡ Err r → StoppedAt b 0 r ⊎ LeftBytes b r
    go true f e = absurd (accepted_not_refused d.question r e)
    go false f e = inr (record { last = d; read = x; left = f tt; told = sym (refused_one (refusal Rule.LeftOver d.next) r e) })

pub refused_at_lem : (b : List ℕ) (r : Refusal) → read_held b ≡ Err r → StoppedAt b 0 r ⊎ LeftBytes b r
unfolding read_held
refused_at_lem b r e = whole_stopped b r (read_from b 0) refl e
