-- The answer of reading, case by case; how long accepted bytes can be; and how many atoms a held question has.
use Rattle.std.specs.Prelude.{◌≡◌, refl, ◌↔◌, ◌⊎◌, Bool, true, false, cond, List, [], ◌∷◌, ℕ, suc, ◌+◌, ◌*◌, ◌≤◌, ◌<◌, T, leb, length, Ok, Err, IsOk}
use Rattle.std.proofs.Common.{sym, ap, ◌∙◌, subst, ⊎_elim, arith, leb→le}
use Rattle.scope.specs.declared.Rule.{Rule}
use Rattle.scope.specs.declared.Question.{Question}
use Rattle.scope.specs.declared.Refusal.{Refusal}
use Rattle.scope.specs.Question.{Kind, is_atom, empty_question, nodes_of, kinds_of, atoms_from, atoms_of, atom_count}
use Rattle.scope.specs.Refusals.{check, refusal, Progress, stopped, ended}
use Rattle.scope.specs.Wire.{grown, body_length, Reading, Ended, record_read, read_from, whole_read, held_of, read_held, node_at, after_head, whole_checks, question_held}
use Rattle.scope.specs.Sizes.{most_nodes, most_variables, most_bytes}
use Rattle.theory.specs.Wire.Checks.{failing_stops}
use Rattle.theory.specs.Wire.Lockstep.{kept_onward}
use Rattle.theory.specs.Wire.ReadingSteps.{NodeStep, EndStep, going_record, ended_record}
use Rattle.theory.specs.Wire.Sound.{Sound, variables_range, sound_head, sound_step}
use Rattle.theory.specs.Wire.Wholes.{ReadWhole, read_whole, whole_read_lem, whole_accepted, AcceptedWhole, accepted_whole}
use Rattle.theory.specs.Wire.Stopped.{StoppedAt, at_stopped, LeftBytes, refused_at_lem}

-- ---- the three cases

stopped_held : (b : List ℕ) (r : Refusal) → read_from b 0 ≡ stopped r → read_held b ≡ Err r
unfolding read_held whole_read
stopped_held b r e = ap (λ (p : Progress Reading Ended). held_of (whole_read b p)) e

pub ended_held : (b : List ℕ) (e : Ended) → read_from b 0 ≡ ended e → length b ≤ e.next → read_held b ≡ Ok e.question
ended_held b e x h = whole_accepted b e (read_whole b 0 e x) h

left_held : (b : List ℕ) (e : Ended) → read_from b 0 ≡ ended e → e.next < length b → read_held b ≡ Err (refusal Rule.LeftOver e.next)
unfolding read_held whole_read
left_held b e x h =
    ap (λ (p : Progress Reading Ended). held_of (whole_read b p)) x
    ∙ ap held_of
    (failing_stops (whole_checks b e.next) (ended e) (refusal Rule.LeftOver e.next)
    (record { before = []; failing = check Rule.LeftOver e.next (leb (length b) e.next); after = []; order = refl; earlier = tt; failed = fails (leb (length b) e.next) (leb→le (length b) e.next); told = refl }))
  where
    fails : (t : Bool) → (T t → length b ≤ e.next) → t ≡ false
    fails true f = absurd (omega (arith, f tt))
    fails false f = refl

pub refused_iff : (b : List ℕ) (r : Refusal) → (read_held b ≡ Err r) ↔ (StoppedAt b 0 r ⊎ LeftBytes b r)
refused_iff b r = (
  refused_at_lem b r,
  ⊎_elim
      (λ s. stopped_held b r (at_stopped b 0 r s))
      (λ l. left_held b l.last l.read l.left ∙ ap Err (sym l.told)),
)

-- refused bytes leave the empty question
pub refused_empty : (b : List ℕ) (r : Refusal) → read_held b ≡ Err r → question_held (read_held b) ≡ empty_question
refused_empty b r e = ap question_held e

-- ---- the length: a head, 64 nodes, the bodies of 8 atoms, an end

abbrev Short : ℕ → Reading → Type 0
Short at s = s.place ≤ at + (5 + (4 * s.shape.nodes + 28 * s.shape.atoms))

short_body : (t : Bool) (n : ℕ) → n ≤ most_variables → cond t (4 * (n + 1)) 0 ≤ 28 * cond t 1 0
short_body true n h = omega arith
short_body false n h = omega arith

short_step : (b : List ℕ) (at : ℕ) (s r : Reading) → Sound s.question s.shape → Short at s → NodeStep b s r → Short at r
unfolding grown
short_step b at s r h k st =
    let body : body_length s.question.n (node_at b s) ≤ 28 * cond (is_atom (node_at b s)) 1 0 = short_body (is_atom (node_at b s)) s.question.n (variables_range s.question.n h.variables).1 in
    subst (Short at) (sym st.after) (omega arith)

read_short : (b : List ℕ) (at : ℕ) (e : Ended) → read_from b at ≡ ended e → e.next ≤ at + most_bytes
read_short b at e x =
    let g : ReadWhole b at e = read_whole b at e x in
    kept_onward (record_read b) e (λ (s : Reading). Sound s.question s.shape × Short at s) (e.next ≤ at + most_bytes)
    (λ s r h y. (sound_step b s r h.0 (going_record b s r y), short_step b at s r h.0 h.1 (going_record b s r y)))
    (λ s h y.
    let st : EndStep b s e = ended_record b s e y in
    omega (arith, ap (λ (u : Ended). u.next) st.after, h.1, h.0.formed.nodes, h.0.formed.atoms))
    (most_nodes + 1) (after_head b at) (sound_head b at g.head, omega arith) g.walk

pub accepted_short : (b : List ℕ) → IsOk (read_held b) → length b ≤ most_bytes
accepted_short b x =
    let a : AcceptedWhole b = accepted_whole b x in
    omega (arith, read_short b 0 a.last (whole_read_lem b 0 a.last a.whole), a.all_read)

-- ---- the atoms

atoms_from_lem : (q : Question) (i : ℕ) (κs : List Kind) → length (atoms_from q i κs) ≡ length κs
unfolding atoms_from
atoms_from_lem q i [] = refl
atoms_from_lem q i (κ ∷ κs) = ap suc (atoms_from_lem q (suc i) κs)

pub atom_count_lem : (q : Question) → atom_count q ≡ length (kinds_of (nodes_of q))
unfolding atom_count atoms_of
atom_count_lem q = atoms_from_lem q 0 (kinds_of (nodes_of q))
