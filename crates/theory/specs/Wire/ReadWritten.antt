-- A question that was written is read back: the bytes are accepted, and the question read is the one that was written.
use Rattle.std.specs.Prelude.{◌≡◌, refl, Bool, true, false, cond, T, get_or, drop, ℤ, nat_abs, Ok, Result}
use Rattle.std.proofs.Math.Path.{sym, ap}
use Rattle.std.proofs.Common.{◌∙◌, subst, ⊎_elim, arith, leb→le, lit<, length-take, length-drop, SFits}
use mathlib.Core.List.{List, [], ◌∷◌, ◌++◌, map, append_assoc}
use Prim.Native.Nat.{ℕ, ◌+◌, ◌*◌, ◌≤◌, ◌<◌}
use Rattle.std.proofs.Math.ListN.{length, length-append}
use Rattle.std.proofs.Math.Seq.{drop_at}
use Rattle.std.specs.Int.{w32}
use Rattle.scope.specs.declared.Refusal.{Refusal}
use Rattle.scope.specs.declared.Question.{Question}
use Rattle.scope.specs.Whole.{joined}
use Rattle.std.specs.List.{list_all}
use Rattle.scope.specs.Sizes.{coefficient_fits, constant_fits, numbers_fit, most_atoms, most_nodes, most_variables}
use Rattle.scope.specs.Question.{Node, code_of, is_atom, coefficients_of, constant_of}
use Rattle.scope.specs.Refusals.{going, ended, onward}
use Rattle.scope.specs.Wire.{byte_at, length_at, kind_at, number_at, numbers_at, head_kind, end_kind, kind_of, node_of_kind, body_length, Shape, grown, Reading, Ended, record_read, read_held, node_at, coefficients_at, constant_at, after_head, after_node, after_end}
use Rattle.scope.specs.Writing.{two_bytes, record_bytes, atom_body, node_bytes, number_bytes, Walk, part_written, left_over_checks, written, first_walk, node_held}
use Rattle.theory.specs.Numbers.Magnitude.{fits_abs}
use Rattle.theory.specs.Wire.Checks.{Passed, and_first, and_second}
use Rattle.theory.specs.Wire.Lockstep.{kept_onward, known_onward, lockstep}
use Rattle.theory.specs.Wire.Octets.{Octets, octets_append, two_octets, run_octets, number_octets, Fit}
use Rattle.theory.specs.Wire.Records.{record_length, record_kind, record_body, header_there_lem, body_there_lem, body_length_lem, body_coefficients, body_constant, node_of_kind_lem, code_of_node, kind_small}
use Rattle.theory.specs.Wire.Held.{Sized, Blank, Agree, same_question}
use Rattle.theory.specs.Wire.Noting.{NotedAs}
use Rattle.theory.specs.Wire.ReadingSteps.{HeadThere, NodeStep, EndThere, record_going, record_ended}
use Rattle.theory.specs.Wire.WritingSteps.{HeldStep, going_part, ended_part, left_blank}
use Rattle.theory.specs.Wire.Sound.{Sound, variables_range, earlier_or_newest, sound_head, sound_step, step_as}
use Rattle.theory.specs.Wire.Meeting.{Meet, there_of_held, same_grown, same_row_length}
use Rattle.theory.specs.Wire.Wholes.{whole_accepted, WrittenWhole, written_whole}

-- ---- numbers within their limits fit in four bytes

run_fits : (cs : List ℤ) → T (list_all coefficient_fits cs) → Fit cs
run_fits [] t = tt
run_fits (a ∷ cs) t = (
  fits_abs w32 a (omega (arith, leb→le (nat_abs a) 4096 (and_first (coefficient_fits a) (list_all coefficient_fits cs) t))),
  run_fits cs (and_second (coefficient_fits a) (list_all coefficient_fits cs) t),
)

pub written_numbers_fit : (cs : List ℤ) (k : ℤ) → T (numbers_fit cs k) → Fit cs × SFits w32 k
unfolding numbers_fit
written_numbers_fit cs k t = (
  run_fits cs (and_first (list_all coefficient_fits cs) (constant_fits k) t),
  fits_abs w32 k (omega (arith, leb→le (nat_abs k) 1000000 (and_second (list_all coefficient_fits cs) (constant_fits k) t))),
)

-- ---- a row of a held question has n numbers

row_length : (q : Question) (i : ℕ) → Sized q → q.n ≤ most_variables → i < most_atoms → length (coefficients_of q i) ≡ q.n
unfolding coefficients_of
row_length q i z n h = rw (length-take, length-drop) (omega (arith, z.coefficients))

-- ---- what agrees so far still does with one node more

agree_noted : (p r q : Question) (nodes atoms : ℕ) (t : Bool) (x : Node) (cs : List ℤ) (k : ℤ) → Agree p q nodes atoms → NotedAs p r nodes atoms t x cs k
    → get_or q.codes nodes 0 ≡ code_of x → (T t → coefficients_of q atoms ≡ cs) → (T t → constant_of q atoms ≡ k) → Agree r q (nodes + 1) (atoms + cond t 1 0)
agree_noted p r q nodes atoms t x cs k f g code row constant = record {
  n = sym g.kept.n ∙ f.n;
  codes = λ i h. ⊎_elim
      (λ l. sym (g.kept.codes i l) ∙ f.codes i l)
      (λ e. rw e.1 (g.code ∙ sym code))
      (earlier_or_newest true nodes i h);
  rows = λ i h. ⊎_elim
      (λ l. sym (g.kept.rows i l) ∙ f.rows i l)
      (λ e. rw e.1 (g.row e.0 ∙ sym (row e.0)))
      (earlier_or_newest t atoms i h);
  constants = λ i h. ⊎_elim
      (λ l. sym (g.kept.constants i l) ∙ f.constants i l)
      (λ e. rw e.1 (g.constant e.0 ∙ sym (constant e.0)))
      (earlier_or_newest t atoms i h);
}

-- ---- the body of a node

held_body_lem : (t : Bool) (cs : List ℤ) (k : ℤ) (n : ℕ) → (T t → length cs ≡ n) → length (cond t (atom_body cs k) []) ≡ cond t (4 * (n + 1)) 0
held_body_lem true cs k n h = body_length_lem cs k ∙ ap (λ (m : ℕ). 4 * (m + 1)) (h tt)
held_body_lem false cs k n h = refl

small_body : (t : Bool) (n : ℕ) → n ≤ most_variables → cond t (4 * (n + 1)) 0 < 65536
small_body true n h = omega arith
small_body false n h = lit< tt

atom_body_lem : (t : Bool) (l : List ℕ) → T t → cond t l [] ≡ l
atom_body_lem true l t = refl
atom_body_lem false l t = absurd t

-- the numbers and the body of the node that is to be written
abbrev held_row : Question → Walk → List ℤ
held_row q w = coefficients_of q w.shape.atoms

abbrev held_constant : Question → Walk → ℤ
held_constant q w = constant_of q w.shape.atoms

abbrev held_body : Question → Walk → List ℕ
held_body q w = cond (is_atom (node_held q w)) (atom_body (held_row q w) (held_constant q w)) []

-- the bytes of a walk stand at the front of all the bytes
record Front (b : List ℕ) (w : Walk) : Type 0 where
  rest : List ℕ
  order : b ≡ w.bytes ++ rest

-- a reading of those bytes stands where the walk does, and has noted what the question has there
record Beside (q : Question) (w : Walk) (s : Reading) : Type 0 where
  shape : s.shape ≡ w.shape
  place : s.place ≡ length w.bytes
  agrees : Agree s.question q s.shape.nodes s.shape.atoms
  sound : Sound s.question s.shape

-- ---- a node

module _ (q : Question) (z : Sized q) (narrow : q.n ≤ most_variables) (b : List ℕ) (w v : Walk) (s : Reading) (h : Beside q w s) (f : Front b v) (st : HeldStep q w v) where
  stands : drop s.place b ≡ record_bytes (kind_of (node_held q w)) (held_body q w) ++ f.rest
  unfolding node_bytes
  stands =
      let bytes : List ℕ = node_bytes q (node_held q w) w.shape.atoms in
      ap (drop s.place) (f.order ∙ ap (λ (u : Walk). u.bytes ++ f.rest) st.after ∙ append_assoc w.bytes bytes f.rest)
      ∙ drop_at w.bytes (bytes ++ f.rest) s.place (sym h.place)

  row_long : T (is_atom (node_held q w)) → length (held_row q w) ≡ q.n
  row_long t = row_length q w.shape.atoms z narrow (st.there.few t)

  body_is : length (held_body q w) ≡ body_length q.n (node_held q w)
  body_is = held_body_lem (is_atom (node_held q w)) (held_row q w) (held_constant q w) q.n row_long

  body_small : length (held_body q w) < 65536
  body_small = rw body_is (small_body (is_atom (node_held q w)) q.n narrow)

  kind_seen : kind_at b s.place ≡ kind_of (node_held q w)
  kind_seen = record_kind b s.place (kind_of (node_held q w)) (held_body q w) f.rest stands (kind_small (node_held q w))

  length_seen : length_at b s.place ≡ body_length q.n (node_held q w)
  length_seen = record_length b s.place (kind_of (node_held q w)) (held_body q w) f.rest stands body_small ∙ body_is

  body_seen : T (is_atom (node_held q w)) → drop (s.place + 4) b ≡ atom_body (held_row q w) (held_constant q w) ++ f.rest
  body_seen t = record_body b s.place (kind_of (node_held q w)) (held_body q w) f.rest stands
      ∙ ap (λ (l : List ℕ). l ++ f.rest) (atom_body_lem (is_atom (node_held q w)) (atom_body (held_row q w) (held_constant q w)) t)

  n_seen : T (is_atom (node_held q w)) → s.question.n ≡ length (held_row q w)
  n_seen t = h.agrees.n ∙ sym (row_long t)

  meet : Meet b q s w
  meet = record {
    shape = h.shape;
    n = h.agrees.n;
    node = ap node_of_kind kind_seen ∙ node_of_kind_lem (node_held q w);
    coefficients = λ t. ap (λ (m : ℕ). numbers_at m b (s.place + 4)) (n_seen t)
        ∙ body_coefficients b (s.place + 4) (held_row q w) (held_constant q w) f.rest (body_seen t) (written_numbers_fit (held_row q w) (held_constant q w) (st.there.fit t)).0;
    constant = λ t. ap (λ (m : ℕ). number_at b (s.place + 4 + 4 * m)) (n_seen t)
        ∙ body_constant b (s.place + 4) (held_row q w) (held_constant q w) f.rest (body_seen t) (written_numbers_fit (held_row q w) (held_constant q w) (st.there.fit t)).1;
  }

  next : Reading
  next = after_node b st.depth st.due s

  node_seen : NodeStep b s next
  unfolding next
  node_seen = record {
    depth = st.depth;
    due = st.due;
    first = ap (λ (a : Shape). a.due) h.shape ∙ st.first;
    there = there_of_held b q s w meet st.depth st.there
        (header_there_lem b s.place (kind_of (node_held q w)) (held_body q w) f.rest stands)
        length_seen
        (body_there_lem b s.place (kind_of (node_held q w)) (held_body q w) f.rest stands body_small);
    after = refl;
  }

  next_place : next.place ≡ length v.bytes
  unfolding next node_bytes
  next_place =
      let bytes : List ℕ = node_bytes q (node_held q w) w.shape.atoms in
      let long : length (w.bytes ++ bytes) ≡ length w.bytes + length bytes = length-append w.bytes bytes in
      let same : body_length s.question.n (node_at b s) ≡ body_length q.n (node_held q w) = same_row_length b q s w meet st.depth in
      let sum : s.place + 4 + body_length s.question.n (node_at b s) ≡ length (w.bytes ++ bytes) = rw same (omega (arith, long, body_is, h.place)) in
      sum ∙ ap (λ (u : Walk). length u.bytes) (sym st.after)

  code_here : get_or q.codes s.shape.nodes 0 ≡ code_of (node_at b s)
  code_here =
      ap (λ (a : Shape). get_or q.codes a.nodes 0) h.shape
      ∙ sym (code_of_node (get_or q.codes w.shape.nodes 0) st.there.used)
      ∙ ap code_of (sym meet.node)

  held_here : T (is_atom (node_at b s)) → T (is_atom (node_held q w))
  held_here t = subst (λ (x : Node). T (is_atom x)) meet.node t

  next_agrees : Agree next.question q next.shape.nodes next.shape.atoms
  unfolding next grown
  next_agrees = agree_noted s.question next.question q s.shape.nodes s.shape.atoms (is_atom (node_at b s)) (node_at b s) (coefficients_at b s) (constant_at b s)
      h.agrees (step_as b s next h.sound node_seen) code_here
      (λ t. ap (λ (a : Shape). coefficients_of q a.atoms) h.shape ∙ sym (meet.coefficients (held_here t)))
      (λ t. ap (λ (a : Shape). constant_of q a.atoms) h.shape ∙ sym (meet.constant (held_here t)))

  next_beside : Beside q v next
  unfolding next
  next_beside = record {
    shape = same_grown b q s w meet st.depth st.due ∙ ap (λ (u : Walk). u.shape) (sym st.after);
    place = next_place;
    agrees = next_agrees;
    sound = sound_step b s next h.sound node_seen;
  }

  node_beside : (r : Reading) × (record_read b s ≡ going r) × Beside q v r
  unfolding next node_seen
  node_beside = (next, record_going b s st.depth st.due node_seen.first node_seen.there, next_beside)

-- ---- the whole

module _ (q : Question) (z : Sized q) (w : Walk) (h : WrittenWhole q w) where
  narrow : q.n ≤ most_variables
  narrow = (variables_range q.n h.variables).1

  whole : w.bytes ≡ h.last.bytes ++ record_bytes end_kind []
  whole = ap (λ (u : Walk). u.bytes) h.whole

  front_back : (u v : Walk) → part_written q u ≡ going v → Front w.bytes v → Front w.bytes u
  front_back u v e f =
      let st : HeldStep q u v = going_part q u v e in
      let bytes : List ℕ = node_bytes q (node_held q u) u.shape.atoms in
      record {
        rest = bytes ++ f.rest;
        order = f.order ∙ ap (λ (y : Walk). y.bytes ++ f.rest) st.after ∙ append_assoc u.bytes bytes f.rest;
      }

  front_last : (u : Walk) → part_written q u ≡ ended h.last → Front w.bytes u
  front_last u e = record { rest = record_bytes end_kind []; order = whole ∙ ap (λ (y : Walk). y.bytes ++ record_bytes end_kind []) (ended_part q u h.last e).1 }

  record Final (e : Ended) : Type 0 where
    same : e.question ≡ q
    all_read : length w.bytes ≤ e.next

  end_beside : (u : Walk) (s : Reading) → Beside q u s → part_written q u ≡ ended h.last → (e : Ended) × (record_read w.bytes s ≡ ended e) × Final e
  end_beside u s g e = (after_end s, record_ended w.bytes s (ap (λ (a : Shape). a.due) g.shape ∙ at_last.0) there, record { same = same; all_read = room })
    where
      at_last : (u.shape.due ≡ []) × (h.last ≡ u)
      at_last = ended_part q u h.last e

      order : w.bytes ≡ u.bytes ++ record_bytes end_kind []
      order = whole ∙ ap (λ (y : Walk). y.bytes ++ record_bytes end_kind []) at_last.1

      stands : drop s.place w.bytes ≡ record_bytes end_kind [] ++ []
      stands = ap (drop s.place) order ∙ drop_at u.bytes (record_bytes end_kind []) s.place (sym g.place)

      there : EndThere w.bytes s.place
      there = record {
        header = header_there_lem w.bytes s.place end_kind [] [] stands;
        kind = record_kind w.bytes s.place end_kind [] [] stands (lit< tt);
        exact = record_length w.bytes s.place end_kind [] [] stands (lit< tt);
      }

      room : length w.bytes ≤ s.place + 4
      room = omega (arith, ap length order ∙ length-append u.bytes (record_bytes end_kind []), g.place)

      shapes : h.last.shape ≡ s.shape
      shapes = ap (λ (y : Walk). y.shape) at_last.1 ∙ sym g.shape

      blank : Blank q s.shape.nodes s.shape.atoms
      blank = left_blank q s.shape z g.sound.formed.nodes (subst (λ (a : Shape). Passed (left_over_checks q a)) shapes h.left)

      same : s.question ≡ q
      same = same_question s.question q s.shape.nodes s.shape.atoms g.sound.sized z g.sound.blank blank g.agrees

  module _ (f : Front w.bytes (first_walk q)) where
    n_seen_first : byte_at w.bytes 4 ≡ q.n
    n_seen_first = ap (λ (l : List ℕ). byte_at l 4) f.order

    head_seen : HeadThere w.bytes 0
    head_seen = record {
      header = header_there_lem w.bytes 0 head_kind (q.n ∷ []) f.rest f.order;
      kind = record_kind w.bytes 0 head_kind (q.n ∷ []) f.rest f.order (lit< tt);
      exact = record_length w.bytes 0 head_kind (q.n ∷ []) f.rest f.order (lit< tt);
      body = body_there_lem w.bytes 0 head_kind (q.n ∷ []) f.rest f.order (lit< tt);
      variables = rw n_seen_first h.variables;
    }

    first_beside : Beside q (first_walk q) (after_head w.bytes 0)
    first_beside = record {
      shape = refl;
      place = refl;
      agrees = record { n = n_seen_first; codes = λ i l. absurd (omega arith); rows = λ i l. absurd (omega arith); constants = λ i l. absurd (omega arith) };
      sound = sound_head w.bytes 0 head_seen;
    }

    read_back : read_held w.bytes ≡ Ok q
    read_back =
        let g : (e : Ended) × (onward (most_nodes + 1) (record_read w.bytes) (going (after_head w.bytes 0)) ≡ ended e) × Final e =
        lockstep (part_written q) h.last (Front w.bytes) front_back front_last (record_read w.bytes) (Beside q) Final
        (λ u v s k fr e. node_beside q z narrow w.bytes u v s k fr (going_part q u v e)) end_beside
        (most_nodes + 1) (first_walk q) (after_head w.bytes 0) first_beside h.walk in
        whole_accepted w.bytes g.0 (record { head = head_seen; walk = g.1 }) g.2.all_read
        ∙ ap (λ (p : Question). accepted p) g.2.same
      where
        accepted : Question → Result Question Refusal
        accepted p = Ok p

pub read_written : (q : Question) (w : Walk) → Sized q → written q ≡ ended w → read_held w.bytes ≡ Ok q
read_written q w z e =
    let h : WrittenWhole q w = written_whole q w e in
    read_back q z w h (known_onward (part_written q) h.last (Front w.bytes) (front_back q z w h) (front_last q z w h) (most_nodes + 1) (first_walk q) h.walk)

-- ---- written bytes are bytes

pub record_octets : (kind : ℕ) (body : List ℕ) → Octets body → Octets (record_bytes kind body)
record_octets kind body o = octets_append (two_bytes (length body)) (two_bytes kind ++ body) (two_octets (length body)) (octets_append (two_bytes kind) body (two_octets kind) o)

pub body_octets : (t : Bool) (cs : List ℤ) (k : ℤ) → Octets (cond t (atom_body cs k) [])
unfolding atom_body
body_octets true cs k = octets_append (joined (map number_bytes cs)) (number_bytes k) (run_octets cs) (number_octets k)
body_octets false cs k = tt

walk_octets : (q : Question) (w v : Walk) → Octets w.bytes → part_written q w ≡ going v → Octets v.bytes
unfolding node_bytes
walk_octets q w v o e =
    let st : HeldStep q w v = going_part q w v e in
    subst (λ (u : Walk). Octets u.bytes) (sym st.after)
    (octets_append w.bytes (node_bytes q (node_held q w) w.shape.atoms) o
    (record_octets (kind_of (node_held q w)) (held_body q w) (body_octets (is_atom (node_held q w)) (held_row q w) (held_constant q w))))

pub written_octets : (q : Question) (w : Walk) → written q ≡ ended w → Octets w.bytes
written_octets q w e =
    let h : WrittenWhole q w = written_whole q w e in
    let small : q.n < 256 = omega (arith, (variables_range q.n h.variables).1) in
    let last : Octets h.last.bytes =
    kept_onward (part_written q) h.last (λ (u : Walk). Octets u.bytes) (Octets h.last.bytes) (walk_octets q)
    (λ u o x. subst (λ (y : Walk). Octets y.bytes) (sym (ended_part q u h.last x).1) o)
    (most_nodes + 1) (first_walk q) (record_octets head_kind (q.n ∷ []) (small, tt)) h.walk in
    subst (λ (u : Walk). Octets u.bytes) (sym h.whole) (octets_append h.last.bytes (record_bytes end_kind []) last (record_octets end_kind [] tt))
