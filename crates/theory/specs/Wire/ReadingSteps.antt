-- One step of reading, by what its checks say: the head, a node, the end.
use Rattle.std.specs.Prelude.{◌≡◌, refl, not, List, [], ◌∷◌, ℕ, ◌+◌, ◌≤◌, ◌<◌, T, ltb, eqb, length}
use Rattle.std.proofs.Common.{sym, ap, ◌∙◌, subst, leb→le, le→leb, ltb→lt, lt→ltb, eqb→eq, arith}
use Rattle.std.proofs.Math.Dec.{eqb_refl}
use Rattle.scope.specs.Sizes.{variables_fit, numbers_fit, most_atoms, most_depth, most_nodes}
use Rattle.scope.specs.Question.{is_unused, is_atom}
use Rattle.scope.specs.Refusals.{Progress, going, ended}
use Rattle.scope.specs.Wire.{byte_at, length_at, kind_at, header_there, body_there, head_kind, end_kind, body_length, Reading, Ended, head_read, node_read, end_read, due_read, record_read, head_checks, after_head, node_at, coefficients_at, constant_at, node_checks, after_node, end_checks, after_end}
use Rattle.theory.specs.Wire.Checks.{Passed, if_asked, was_asked, still_going, still_ended, passed_on, going_one, ended_one, going_not_ended}
use Rattle.theory.specs.Wire.Fields.{passed_atom, atom_passed}

pub eq→eqb : (a b : ℕ) → a ≡ b → T (eqb a b)
eq→eqb a b e = subst (λ (c : ℕ). T (eqb a c)) e (eqb_refl a)

-- ---- the head

pub record HeadThere (b : List ℕ) (at : ℕ) : Type 0 where
  pub header : T (header_there b at)
  pub kind : kind_at b at ≡ head_kind
  pub exact : length_at b at ≡ 1
  pub body : T (body_there b at)
  pub variables : T (variables_fit (byte_at b (at + 4)))

pub head_going : (b : List ℕ) (at : ℕ) → HeadThere b at → head_read b at ≡ going (after_head b at)
unfolding head_read
head_going b at h = passed_on (head_checks b at) (going (after_head b at))
    (h.header, (eq→eqb (kind_at b at) head_kind h.kind, (eq→eqb (length_at b at) 1 h.exact, (h.body, (h.variables, tt)))))

head_facts : (b : List ℕ) (at : ℕ) → Passed (head_checks b at) → HeadThere b at
head_facts b at p = record {
  header = p.0;
  kind = eqb→eq (kind_at b at) head_kind p.1.0;
  exact = eqb→eq (length_at b at) 1 p.1.1.0;
  body = p.1.1.1.0;
  variables = p.1.1.1.1.0;
}

pub going_head : (b : List ℕ) (at : ℕ) (s : Reading) → head_read b at ≡ going s → HeadThere b at × (s ≡ after_head b at)
unfolding head_read
going_head b at s e =
    let h : Passed (head_checks b at) × (◌≡◌ {A = Progress Reading Ended} (going (after_head b at)) (going s)) = still_going (head_checks b at) (going (after_head b at)) s e in
    (head_facts b at h.0, sym (going_one (after_head b at) s h.1))

-- ---- a node

pub record NodeThere (b : List ℕ) (depth : ℕ) (s : Reading) : Type 0 where
  pub header : T (header_there b s.place)
  pub used : T (not (is_unused (node_at b s)))
  pub exact : length_at b s.place ≡ body_length s.question.n (node_at b s)
  pub body : T (body_there b s.place)
  pub room : s.shape.nodes < most_nodes
  pub few : T (is_atom (node_at b s)) → s.shape.atoms < most_atoms
  pub shallow : depth ≤ most_depth
  pub fit : T (is_atom (node_at b s)) → T (numbers_fit (coefficients_at b s) (constant_at b s))

node_checks_lem : (b : List ℕ) (depth : ℕ) (s : Reading) → NodeThere b depth s → Passed (node_checks b depth s)
node_checks_lem b depth s h = (
  h.header,
  (
    h.used,
    (
      eq→eqb (length_at b s.place) (body_length s.question.n (node_at b s)) h.exact,
      (
        h.body,
        (
          lt→ltb s.shape.nodes most_nodes h.room,
          (
            if_asked (is_atom (node_at b s)) (ltb s.shape.atoms most_atoms) (λ t. lt→ltb s.shape.atoms most_atoms (h.few t)),
            (
              le→leb depth most_depth h.shallow,
              atom_passed (is_atom (node_at b s)) (s.place + 4) 4 (coefficients_at b s) (constant_at b s) h.fit,
            ),
          ),
        ),
      ),
    ),
  ),
)

node_facts : (b : List ℕ) (depth : ℕ) (s : Reading) → Passed (node_checks b depth s) → NodeThere b depth s
node_facts b depth s p = record {
  header = p.0;
  used = p.1.0;
  exact = eqb→eq (length_at b s.place) (body_length s.question.n (node_at b s)) p.1.1.0;
  body = p.1.1.1.0;
  room = ltb→lt s.shape.nodes most_nodes p.1.1.1.1.0;
  few = λ t. ltb→lt s.shape.atoms most_atoms (was_asked (is_atom (node_at b s)) (ltb s.shape.atoms most_atoms) p.1.1.1.1.1.0 t);
  shallow = leb→le depth most_depth p.1.1.1.1.1.1.0;
  fit = passed_atom (is_atom (node_at b s)) (s.place + 4) 4 (coefficients_at b s) (constant_at b s) p.1.1.1.1.1.1.1;
}

-- ---- the end

pub record EndThere (b : List ℕ) (at : ℕ) : Type 0 where
  pub header : T (header_there b at)
  pub kind : kind_at b at ≡ end_kind
  pub exact : length_at b at ≡ 0

-- the end's body is empty, so it is there
end_body : (b : List ℕ) (at : ℕ) → EndThere b at → T (body_there b at)
end_body b at h = le→leb (at + 4 + length_at b at) (length b) (omega (arith, h.exact, leb→le (at + 4) (length b) h.header))

-- ---- a record, by what is due

pub record NodeStep (b : List ℕ) (s r : Reading) : Type 0 where
  pub depth : ℕ
  pub due : List ℕ
  pub first : s.shape.due ≡ depth ∷ due
  pub there : NodeThere b depth s
  pub after : r ≡ after_node b depth due s

pub record EndStep (b : List ℕ) (s : Reading) (e : Ended) : Type 0 where
  pub none_due : s.shape.due ≡ []
  pub there : EndThere b s.place
  pub after : e ≡ after_end s

pub record_going : (b : List ℕ) (s : Reading) (depth : ℕ) (due : List ℕ) → s.shape.due ≡ depth ∷ due → NodeThere b depth s
    → record_read b s ≡ going (after_node b depth due s)
unfolding record_read node_read
record_going b s depth due e h = ap (λ (l : List ℕ). due_read b l s) e ∙ passed_on (node_checks b depth s) (going (after_node b depth due s)) (node_checks_lem b depth s h)

pub record_ended : (b : List ℕ) (s : Reading) → s.shape.due ≡ [] → EndThere b s.place → record_read b s ≡ ended (after_end s)
unfolding record_read end_read
record_ended b s e h = ap (λ (l : List ℕ). due_read b l s) e
    ∙ passed_on (end_checks b s.place) (ended (after_end s))
    (h.header, (eq→eqb (kind_at b s.place) end_kind h.kind, (eq→eqb (length_at b s.place) 0 h.exact, (end_body b s.place h, tt))))

due_going : (b : List ℕ) (s r : Reading) (l : List ℕ) → s.shape.due ≡ l → due_read b l s ≡ going r → NodeStep b s r
unfolding node_read end_read
due_going b s r [] d e = absurd (going_not_ended r (after_end s) (sym (still_going (end_checks b s.place) (ended (after_end s)) r e).1))
due_going b s r (depth ∷ due) d e =
    let h : Passed (node_checks b depth s) × (◌≡◌ {A = Progress Reading Ended} (going (after_node b depth due s)) (going r)) = still_going (node_checks b depth s) (going (after_node b depth due s)) r e in
    record { depth = depth; due = due; first = d; there = node_facts b depth s h.0; after = sym (going_one (after_node b depth due s) r h.1) }

due_ended : (b : List ℕ) (s : Reading) (x : Ended) (l : List ℕ) → s.shape.due ≡ l → due_read b l s ≡ ended x → EndStep b s x
unfolding node_read end_read
due_ended b s x [] d e =
    let h : Passed (end_checks b s.place) × (◌≡◌ {A = Progress Reading Ended} (ended (after_end s)) (ended x)) = still_ended (end_checks b s.place) (ended (after_end s)) x e in
    record {
      none_due = d;
      there = record { header = h.0.0; kind = eqb→eq (kind_at b s.place) end_kind h.0.1.0; exact = eqb→eq (length_at b s.place) 0 h.0.1.1.0 };
      after = sym (ended_one (after_end s) x h.1);
    }
due_ended b s x (depth ∷ due) d e = absurd (going_not_ended (after_node b depth due s) x (still_ended (node_checks b depth s) (going (after_node b depth due s)) x e).1)

pub going_record : (b : List ℕ) (s r : Reading) → record_read b s ≡ going r → NodeStep b s r
unfolding record_read
going_record b s r e = due_going b s r s.shape.due refl e

pub ended_record : (b : List ℕ) (s : Reading) (x : Ended) → record_read b s ≡ ended x → EndStep b s x
unfolding record_read
ended_record b s x e = due_ended b s x s.shape.due refl e
