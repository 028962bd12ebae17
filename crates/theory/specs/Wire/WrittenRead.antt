-- Bytes that are accepted are written back: the question that was read is sized, sound and written, and its bytes are those that were read.
use Rattle.std.specs.Prelude.{◌≡◌, refl, Bool, true, false, cond, ℕ, ◌+◌, ◌*◌, ◌≤◌, ◌<◌, T, length, get_or, drop, ℤ, IsOk}
use Rattle.std.proofs.Math.Path.{sym, ap}
use Rattle.std.proofs.Common.{◌∙◌, subst, arith, le→leb, length-drop, take-add, take_all, get_or-drop}
use mathlib.Core.List.{List, [], ◌∷◌, ◌++◌}
use Rattle.std.proofs.Math.ListN.{take}
use Rattle.scope.specs.declared.Question.{Question}
use Rattle.scope.specs.Sizes.{variables_fit, most_nodes}
use Rattle.scope.specs.Question.{Node, node_of, is_atom, coefficients_of, constant_of}
use Rattle.scope.specs.Refusals.{going, ended, onward}
use Rattle.scope.specs.Wire.{byte_at, length_at, kind_at, number_at, numbers_at, body_there, head_kind, end_kind, kind_of, body_length, Shape, grown, Reading, Ended, record_read, read_held, node_at, coefficients_at, constant_at, after_head, question_held}
use Rattle.scope.specs.Writing.{record_bytes, atom_body, node_bytes, Walk, part_written, written, first_walk, node_held, after_written}
use Rattle.theory.specs.Wire.Lockstep.{known_onward, lockstep}
use Rattle.theory.specs.Wire.Octets.{Octets}
use Rattle.theory.specs.Wire.Records.{there_header, there_body, bytes_of_record, bytes_of_body, node_of_code, kind_of_node}
use Rattle.theory.specs.Wire.Held.{Sized, Agree, agree_self, agree_on}
use Rattle.theory.specs.Wire.Noting.{NotedAs}
use Rattle.theory.specs.Wire.ReadingSteps.{NodeStep, EndStep, going_record, ended_record}
use Rattle.theory.specs.Wire.WritingSteps.{part_going, part_ended, blank_left}
use Rattle.theory.specs.Wire.Sound.{Sound, sound_head, sound_step, step_as}
use Rattle.theory.specs.Wire.Meeting.{Meet, held_of_there, same_grown}
use Rattle.theory.specs.Wire.Wholes.{ReadWhole, AcceptedWhole, accepted_whole, after_last, whole_written}

-- ---- the bytes of a record that is there: one of this kind, with this body

pub there_bytes : (b : List ℕ) (at kind : ℕ) (body : List ℕ) → Octets b → T (body_there b at) → kind_at b at ≡ kind → take (length_at b at) (drop (at + 4) b) ≡ body
    → take (at + (4 + length_at b at)) b ≡ take at b ++ record_bytes kind body
there_bytes b at kind body o t k e =
    take-add at (4 + length_at b at) b
    ∙ ap (λ (l : List ℕ). take at b ++ l) (bytes_of_record b at o t ∙ (λ i. record_bytes (k i) (e i)))

-- the body, by whether the node is an atom
pub there_body_bytes : (t : Bool) (n : ℕ) (b : List ℕ) (at : ℕ) → Octets b → at + cond t (4 * (n + 1)) 0 ≤ length b
    → take (cond t (4 * (n + 1)) 0) (drop at b) ≡ cond t (atom_body (numbers_at n b at) (number_at b (at + 4 * n))) []
there_body_bytes true n b at o h = bytes_of_body n b at o h
there_body_bytes false n b at o h = refl

same_cond : (t : Bool) (cs ds : List ℤ) (k j : ℤ) → (T t → cs ≡ ds) → (T t → k ≡ j) → cond t (atom_body cs k) [] ≡ cond t (atom_body ds j) []
same_cond true cs ds k j e f = λ i. atom_body (e tt i) (f tt i)
same_cond false cs ds k j e f = refl

grown_more : (x : Node) (depth : ℕ) (due : List ℕ) (s : Shape) → (s.nodes ≤ (grown x depth due s).nodes) × (s.atoms ≤ (grown x depth due s).atoms) × (s.nodes < (grown x depth due s).nodes) × (T (is_atom x) → s.atoms < (grown x depth due s).atoms)
unfolding grown
grown_more x depth due s = (omega arith, omega arith, omega arith, λ t. newer (is_atom x) t)
  where
    newer : (t : Bool) → T t → s.atoms < s.atoms + cond t 1 0
    newer true t = omega arith
    newer false t = absurd t

-- a writing stands where the reading does, and has written what was read
record Beside (b : List ℕ) (s : Reading) (w : Walk) : Type 0 where
  shape : s.shape ≡ w.shape
  bytes : w.bytes ≡ take s.place b
  inside : s.place ≤ length b
  sound : Sound s.question s.shape

-- the question at the end has what was noted so far
abbrev Noted : Question → Reading → Type 0
Noted q s = Sound s.question s.shape → Agree s.question q s.shape.nodes s.shape.atoms

-- ---- a node

module _ (b : List ℕ) (o : Octets b) (q : Question) (s r : Reading) (w : Walk) (h : Beside b s w) (known : Noted q r) (st : NodeStep b s r) where
  after_shape : grown (node_at b s) st.depth st.due s.shape ≡ r.shape
  after_shape = ap (λ (u : Reading). u.shape) (sym st.after)

  agrees : Agree r.question q r.shape.nodes r.shape.atoms
  agrees = known (sound_step b s r h.sound st)

  noted_here : NotedAs s.question r.question s.shape.nodes s.shape.atoms (is_atom (node_at b s)) (node_at b s) (coefficients_at b s) (constant_at b s)
  noted_here = step_as b s r h.sound st

  node_before_lem : s.shape.nodes < r.shape.nodes
  node_before_lem = subst (λ (a : Shape). s.shape.nodes < a.nodes) after_shape (grown_more (node_at b s) st.depth st.due s.shape).2

  atom_before : T (is_atom (node_at b s)) → s.shape.atoms < r.shape.atoms
  atom_before t = subst (λ (a : Shape). s.shape.atoms < a.atoms) after_shape ((grown_more (node_at b s) st.depth st.due s.shape).3 t)

  node_same : node_at b s ≡ node_held q w
  node_same =
      sym (node_of_code (node_at b s))
      ∙ ap node_of (sym noted_here.code ∙ agrees.codes s.shape.nodes node_before_lem)
      ∙ ap (λ (a : Shape). node_of (get_or q.codes a.nodes 0)) h.shape

  there_atom : T (is_atom (node_held q w)) → T (is_atom (node_at b s))
  there_atom t = subst (λ (x : Node). T (is_atom x)) (sym node_same) t

  meet : Meet b q s w
  meet = record {
    shape = h.shape;
    n = noted_here.kept.n ∙ agrees.n;
    node = node_same;
    coefficients = λ t.
        sym (noted_here.row (there_atom t))
        ∙ agrees.rows s.shape.atoms (atom_before (there_atom t))
        ∙ ap (λ (a : Shape). coefficients_of q a.atoms) h.shape;
    constant = λ t.
        sym (noted_here.constant (there_atom t))
        ∙ agrees.constants s.shape.atoms (atom_before (there_atom t))
        ∙ ap (λ (a : Shape). constant_of q a.atoms) h.shape;
  }

  next : Walk
  next = after_written q st.depth st.due w

  body_inside : s.place + 4 + body_length s.question.n (node_at b s) ≤ length b
  body_inside = omega (arith, there_body b s.place st.there.body, st.there.exact)

  body_same : take (length_at b s.place) (drop (s.place + 4) b) ≡ cond (is_atom (node_held q w)) (atom_body (coefficients_of q w.shape.atoms) (constant_of q w.shape.atoms)) []
  body_same =
      ap (λ (m : ℕ). take m (drop (s.place + 4) b)) st.there.exact
      ∙ there_body_bytes (is_atom (node_at b s)) s.question.n b (s.place + 4) o body_inside
      ∙ ap (λ (x : Node). cond (is_atom x) (atom_body (coefficients_at b s) (constant_at b s)) []) node_same
      ∙ same_cond (is_atom (node_held q w)) (coefficients_at b s) (coefficients_of q w.shape.atoms) (constant_at b s) (constant_of q w.shape.atoms) meet.coefficients meet.constant

  kind_same : kind_at b s.place ≡ kind_of (node_held q w)
  kind_same = sym (kind_of_node (kind_at b s.place) st.there.used) ∙ ap kind_of node_same

  place_after : r.place ≡ s.place + (4 + length_at b s.place)
  place_after = ap (λ (u : Reading). u.place) st.after ∙ omega (arith, st.there.exact)

  next_bytes : next.bytes ≡ take r.place b
  unfolding next node_bytes
  next_bytes =
      ap (λ (l : List ℕ). l ++ node_bytes q (node_held q w) w.shape.atoms) h.bytes
      ∙ sym (there_bytes b s.place (kind_of (node_held q w)) (cond (is_atom (node_held q w)) (atom_body (coefficients_of q w.shape.atoms) (constant_of q w.shape.atoms)) []) o st.there.body kind_same body_same)
      ∙ ap (λ (m : ℕ). take m b) (sym place_after)

  next_beside : Beside b r next
  unfolding next
  next_beside = record {
    shape = sym after_shape ∙ same_grown b q s w meet st.depth st.due;
    bytes = next_bytes;
    inside = omega (arith, place_after, there_body b s.place st.there.body);
    sound = sound_step b s r h.sound st;
  }

  node_beside : (v : Walk) × (part_written q w ≡ going v) × Beside b r v
  unfolding next
  node_beside = (next, part_going q w st.depth st.due (ap (λ (a : Shape). a.due) (sym h.shape) ∙ st.first) (held_of_there b q s w meet st.depth st.there), next_beside)

-- ---- the whole

pub one_off : (l : List ℕ) → 1 ≤ length l → take 1 l ≡ byte_at l 0 ∷ []
one_off [] h = absurd (omega arith)
one_off (x ∷ l) h = refl

module _ (b : List ℕ) (o : Octets b) (e : Ended) (g : ReadWhole b 0 e) where
  noted_back : (s r : Reading) → record_read b s ≡ going r → Noted e.question r → Noted e.question s
  noted_back s r x known h =
      let st : NodeStep b s r = going_record b s r x in
      let more : (s.shape.nodes ≤ r.shape.nodes) × (s.shape.atoms ≤ r.shape.atoms) =
      subst (λ (u : Reading). (s.shape.nodes ≤ u.shape.nodes) × (s.shape.atoms ≤ u.shape.atoms)) (sym st.after)
      ((grown_more (node_at b s) st.depth st.due s.shape).0, (grown_more (node_at b s) st.depth st.due s.shape).1) in
      agree_on s.question r.question e.question s.shape.nodes s.shape.atoms r.shape.nodes r.shape.atoms more.0 more.1
      (step_as b s r h st).kept (known (sound_step b s r h st))

  noted_last : (s : Reading) → record_read b s ≡ ended e → Noted e.question s
  noted_last s x h = subst (λ (u : Ended). Agree s.question u.question s.shape.nodes s.shape.atoms) (sym (ended_record b s e x).after)
      (agree_self s.question s.shape.nodes s.shape.atoms)

  record Final (w : Walk) : Type 0 where
    bytes : w.bytes ++ record_bytes end_kind [] ≡ take e.next b
    sound : Sound e.question w.shape

  end_beside : (s : Reading) (w : Walk) → Beside b s w → record_read b s ≡ ended e → (v : Walk) × (part_written e.question w ≡ ended v) × Final v
  end_beside s w h x = (w, part_ended e.question w (ap (λ (a : Shape). a.due) (sym h.shape) ∙ st.none_due), record { bytes = bytes; sound = sound })
    where
      st : EndStep b s e
      st = ended_record b s e x

      there : T (body_there b s.place)
      there = le→leb (s.place + 4 + length_at b s.place) (length b) (omega (arith, there_header b s.place st.there.header, st.there.exact))

      bytes : w.bytes ++ record_bytes end_kind [] ≡ take e.next b
      bytes =
          ap (λ (l : List ℕ). l ++ record_bytes end_kind []) h.bytes
          ∙ sym (there_bytes b s.place end_kind [] o there st.there.kind (ap (λ (m : ℕ). take m (drop (s.place + 4) b)) st.there.exact))
          ∙ ap (λ (m : ℕ). take m b) (ap (λ (m : ℕ). s.place + (4 + m)) st.there.exact ∙ ap (λ (u : Ended). u.next) (sym st.after))

      sound : Sound e.question w.shape
      sound = subst (λ (u : Ended). Sound u.question w.shape) (sym st.after) (subst (λ (a : Shape). Sound s.question a) h.shape h.sound)

  head_inside : 5 ≤ length b
  head_inside = omega (arith, there_body b 0 g.head.body, g.head.exact)

  first_beside : byte_at b 4 ≡ e.question.n → Beside b (after_head b 0) (first_walk e.question)
  first_beside n = record {
    shape = refl;
    bytes = sym (ap (λ (m : ℕ). take (0 + (4 + m)) b) (sym g.head.exact) ∙ there_bytes b 0 head_kind (e.question.n ∷ []) o g.head.body g.head.kind body);
    inside = head_inside;
    sound = sound_head b 0 g.head;
  }
    where
      body : take (length_at b 0) (drop 4 b) ≡ e.question.n ∷ []
      body =
          let room : 1 ≤ length (drop 4 b) = rw (length-drop 4 b) (omega (arith, head_inside)) in
          ap (λ (m : ℕ). take m (drop 4 b)) g.head.exact ∙ one_off (drop 4 b) room ∙ ap {B = List ℕ} (λ (m : ℕ). m ∷ []) (get_or-drop 4 b 0 0 ∙ n)

  first_noted : Noted e.question (after_head b 0)
  first_noted = known_onward (record_read b) e (Noted e.question) noted_back noted_last (most_nodes + 1) (after_head b 0) g.walk

  n_held : byte_at b 4 ≡ e.question.n
  n_held = (first_noted (sound_head b 0 g.head)).n

  walk_back : (w : Walk) × (onward (most_nodes + 1) (part_written e.question) (going (first_walk e.question)) ≡ ended w) × Final w
  walk_back =
      lockstep (record_read b) e (Noted e.question) noted_back noted_last (part_written e.question) (Beside b) Final
      (λ s r w h known x. node_beside b o e.question s r w h known (going_record b s r x)) end_beside
      (most_nodes + 1) (after_head b 0) (first_walk e.question) (first_beside n_held) g.walk

  write_back : length b ≤ e.next → (w : Walk) × (written e.question ≡ ended w) × (w.bytes ≡ b) × Sound e.question w.shape
  write_back l =
      let v : Walk = walk_back.0 in
      let f : Final v = walk_back.2 in
      let variables : T (variables_fit e.question.n) = f.sound.variables in (
        after_last v,
        whole_written e.question v variables walk_back.1 (blank_left e.question v.shape f.sound.sized f.sound.formed.nodes f.sound.blank),
        f.bytes ∙ take_all e.next b l,
        f.sound,
      )

pub record WrittenBack (b : List ℕ) (q : Question) : Type 0 where
  pub walk : Walk
  pub written : written q ≡ ended walk
  pub bytes : walk.bytes ≡ b
  pub sized : Sized q
  pub sound : Sound q walk.shape

pub written_read : (b : List ℕ) → Octets b → IsOk (read_held b) → WrittenBack b (question_held (read_held b))
written_read b o e =
    let a : AcceptedWhole b = accepted_whole b e in
    let w : (w : Walk) × (written a.last.question ≡ ended w) × (w.bytes ≡ b) × Sound a.last.question w.shape = write_back b o a.last a.whole a.all_read in
    subst (WrittenBack b) (sym a.question) (record { walk = w.0; written = w.1; bytes = w.2; sized = w.3.sized; sound = w.3 })
