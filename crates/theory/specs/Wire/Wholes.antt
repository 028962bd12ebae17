-- Reading and writing whole: a question accepted or written, as its head, its walk and its end.
use Rattle.std.specs.Prelude.{◌≡◌, refl, List, [], ◌++◌, ℕ, ◌≤◌, ◌+◌, T, length, Ok, IsOk}
use Rattle.std.proofs.Common.{sym, ap, ◌∙◌, subst, arith, leb→le, le→leb}
use Rattle.scope.specs.declared.Rule.{Rule}
use Rattle.scope.specs.declared.Question.{Question}
use Rattle.scope.specs.declared.Refusal.{Refusal}
use Rattle.scope.specs.Sizes.{variables_fit, most_nodes}
use Rattle.scope.specs.Refusals.{refusal, Progress, stopped, going, ended, onward}
use Rattle.scope.specs.Wire.{Reading, Ended, head_read, record_read, read_from, whole_read, held_of, read_held, end_kind, after_head, head_checks, whole_checks, question_held}
use Rattle.scope.specs.Writing.{record_bytes, Walk, head_written, part_written, left_over_checks, end_written, written, first_walk}
use Rattle.theory.specs.Wire.Checks.{Passed, still_ended, passed_on, ended_one, going_not_ended, stopped_not_ended, onward_stopped}
use Rattle.theory.specs.Wire.ReadingSteps.{HeadThere, head_going, going_head}
use Rattle.theory.specs.Wire.WritingSteps.{head_written_lem, written_head, head_not_ended}

-- ---- reading

pub record ReadWhole (b : List ℕ) (at : ℕ) (e : Ended) : Type 0 where
  pub head : HeadThere b at
  pub walk : onward (most_nodes + 1) (record_read b) (going (after_head b at)) ≡ ended e

pub head_no_end : (b : List ℕ) (at : ℕ) (e : Ended) → head_read b at ≡ ended e → ⊥
unfolding head_read
head_no_end b at e x = going_not_ended (after_head b at) e (still_ended (head_checks b at) (going (after_head b at)) e x).1

pub read_whole : (b : List ℕ) (at : ℕ) (e : Ended) → read_from b at ≡ ended e → ReadWhole b at e
unfolding read_from
read_whole b at e h = go (head_read b at) refl h
  where
    go : (p : Progress Reading Ended) → head_read b at ≡ p → onward (most_nodes + 1) (record_read b) p ≡ ended e → ReadWhole b at e
    go (stopped r) x h = absurd (stopped_not_ended r e (sym (onward_stopped (most_nodes + 1) (record_read b) r) ∙ h))
    go (going s) x h =
        let g : HeadThere b at × (s ≡ after_head b at) = going_head b at s x in
        record { head = g.0; walk = ap (λ (r : Reading). onward (most_nodes + 1) (record_read b) (going r)) (sym g.1) ∙ h }
    go (ended d) x h = absurd (head_no_end b at d x)

pub whole_read_lem : (b : List ℕ) (at : ℕ) (e : Ended) → ReadWhole b at e → read_from b at ≡ ended e
unfolding read_from
whole_read_lem b at e h = ap (onward (most_nodes + 1) (record_read b)) (head_going b at h.head) ∙ h.walk

pub record AcceptedWhole (b : List ℕ) : Type 0 where
  pub last : Ended
  pub whole : ReadWhole b 0 last
  pub all_read : length b ≤ last.next
  pub question : (question_held (read_held b)) ≡ last.question

refused_not_accepted : (r : Refusal) → IsOk (held_of (stopped r)) → ⊥
refused_not_accepted r e = let z : ◌≡◌ {A = ℕ} 0 1 = cc in omega arith

past_end : (b : List ℕ) (e : Ended) (p : Progress Reading Ended) → whole_read b p ≡ ended e → (p ≡ ended e) × (length b ≤ e.next)
unfolding whole_read
past_end b e (stopped r) x = absurd (stopped_not_ended r e x)
past_end b e (going s) x = absurd (going_not_ended s e x)
past_end b e (ended d) x =
    let g : Passed (whole_checks b d.next) × (◌≡◌ {A = Progress Reading Ended} (ended d) (ended e)) = still_ended (whole_checks b d.next) (ended d) e x in
    (g.1, subst (λ (f : Ended). length b ≤ f.next) (ended_one d e g.1) (leb→le (length b) d.next g.0.0))

pub accepted_whole : (b : List ℕ) → IsOk (read_held b) → AcceptedWhole b
unfolding read_held
accepted_whole b h = go (whole_read b (read_from b 0)) refl h
  where
    go : (p : Progress Reading Ended) → whole_read b (read_from b 0) ≡ p → IsOk (held_of p) → AcceptedWhole b
    go (stopped r) x h = absurd (refused_not_accepted r h)
    go (going s) x h = absurd (refused_not_accepted (refusal Rule.TooMany s.place) h)
    go (ended e) x h =
        let g : (read_from b 0 ≡ ended e) × (length b ≤ e.next) = past_end b e (read_from b 0) x in
        record { last = e; whole = read_whole b 0 e g.0; all_read = g.1; question = ap (λ (p : Progress Reading Ended). question_held (held_of p)) x }

pub whole_accepted : (b : List ℕ) (e : Ended) → ReadWhole b 0 e → length b ≤ e.next → read_held b ≡ Ok e.question
unfolding read_held whole_read
whole_accepted b e h l = ap (λ (p : Progress Reading Ended). held_of (whole_read b p)) (whole_read_lem b 0 e h)
    ∙ ap held_of (passed_on (whole_checks b e.next) (ended e) (le→leb (length b) e.next l, tt))

-- ---- writing

abbrev pub after_last : Walk → Walk
after_last w = record { shape = w.shape; bytes = w.bytes ++ record_bytes end_kind [] }

pub record WrittenWhole (q : Question) (w : Walk) : Type 0 where
  pub last : Walk
  pub variables : T (variables_fit q.n)
  pub walk : onward (most_nodes + 1) (part_written q) (going (first_walk q)) ≡ ended last
  pub left : Passed (left_over_checks q last.shape)
  pub whole : w ≡ after_last last

pub written_whole : (q : Question) (w : Walk) → written q ≡ ended w → WrittenWhole q w
unfolding written end_written
written_whole q w h = go (onward (most_nodes + 1) (part_written q) (head_written q)) refl h
  where
    head : (v : Walk) (p : Progress Walk Walk) → head_written q ≡ p → onward (most_nodes + 1) (part_written q) p ≡ ended v
        → T (variables_fit q.n) × (onward (most_nodes + 1) (part_written q) (going (first_walk q)) ≡ ended v)
    head v (stopped r) x h = absurd (stopped_not_ended r v (sym (onward_stopped (most_nodes + 1) (part_written q) r) ∙ h))
    head v (going u) x h =
        let g : T (variables_fit q.n) × (u ≡ first_walk q) = written_head q u x in
        (g.0, ap (λ (y : Walk). onward (most_nodes + 1) (part_written q) (going y)) (sym g.1) ∙ h)
    head v (ended u) x h = absurd (head_not_ended q u x)

    go : (p : Progress Walk Walk) → onward (most_nodes + 1) (part_written q) (head_written q) ≡ p → end_written q p ≡ ended w → WrittenWhole q w
    go (stopped r) x h = absurd (stopped_not_ended r w h)
    go (going v) x h = absurd (stopped_not_ended (refusal Rule.TooMany most_nodes) w h)
    go (ended v) x h =
        let g : Passed (left_over_checks q v.shape) × (◌≡◌ {A = Progress Walk Walk} (ended (after_last v)) (ended w)) = still_ended (left_over_checks q v.shape) (ended (after_last v)) w h in
        let f : T (variables_fit q.n) × (onward (most_nodes + 1) (part_written q) (going (first_walk q)) ≡ ended v) = head v (head_written q) refl x in
        record { last = v; variables = f.0; walk = f.1; left = g.0; whole = sym (ended_one (after_last v) w g.1) }

pub whole_written : (q : Question) (v : Walk) → T (variables_fit q.n) → onward (most_nodes + 1) (part_written q) (going (first_walk q)) ≡ ended v → Passed (left_over_checks q v.shape) → written q ≡ ended (after_last v)
unfolding written end_written
whole_written q v t e p = ap (λ (x : Progress Walk Walk). end_written q (onward (most_nodes + 1) (part_written q) x)) (head_written_lem q t)
    ∙ ap (end_written q) e
    ∙ passed_on (left_over_checks q v.shape) (ended (after_last v)) p
