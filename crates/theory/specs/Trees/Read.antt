-- The bytes of every tree within the limits are accepted, and read as its held value.
use Rattle.std.specs.Prelude.{◌≡◌, Bool, true, false, not, T, Ok}
use Rattle.std.proofs.Math.Path.{refl, sym, ap}
use Rattle.std.proofs.Common.{◌∙◌, subst, true≢false, arith, length-drop, drop-drop}
use Rattle.std.proofs.Math.Bool.{cond}
use mathlib.Core.List.{List, [], ◌∷◌, ◌++◌, append_assoc, append-nil}
use Prim.Native.Nat.{ℕ, suc, ◌+◌, ◌*◌, ◌-◌, ◌≤◌, ◌<◌}
use Rattle.std.proofs.Math.ListN.{length, drop, replicate, length-append}
use Rattle.std.proofs.Math.Seq.{drop_at}
use Rattle.std.proofs.Math.IntN.{ℤ}
use Rattle.scope.specs.declared.Question.{Question}
use Rattle.scope.specs.Whole.{joined, at_front}
use Rattle.scope.specs.Sizes.{numbers_fit, most_atoms, most_depth, most_nodes, most_variables}
use Rattle.scope.specs.Question.{Node, Atom, is_unused, is_atom, parts}
use Rattle.scope.specs.Refusals.{onward, going, ended}
use Rattle.scope.specs.Wire.{Shape, Reading, grown, noted, kind_of, node_of_kind, body_length, head_kind, end_kind, numbers_at, number_at, record_read, read_from, read_held, node_at, coefficients_at, constant_at, after_head, after_node, after_end}
use Rattle.scope.specs.Writing.{record_bytes, atom_body}
use Rattle.scope.specs.Tree.{Tree, nodes_in, atoms_in, within_limits, tree_bytes, question_bytes, held_by, held_as}
use Rattle.theory.specs.Wire.Checks.{onward_going, onward_ended}
use Rattle.theory.specs.Numbers.Joined.{each_append}
use Rattle.theory.specs.Wire.Octets.{numbers_length}
use Rattle.theory.specs.Wire.Records.{record_length, record_kind, record_body, header_there_lem, body_there_lem, body_length_lem, body_coefficients, body_constant, node_of_kind_lem, kind_small}
use Rattle.theory.specs.Wire.ReadingSteps.{HeadThere, NodeThere, EndThere, record_ended}
use Rattle.theory.specs.Wire.Sound.{variables_range}
use Rattle.theory.specs.Wire.ReadWritten.{written_numbers_fit}
use Rattle.theory.specs.Wire.Stopped.{RecordReached, first, later, reached_onward, reached_sound}
use Rattle.theory.specs.Wire.Answers.{ended_held}
use Rattle.theory.specs.Trees.Limits.{TreeLimits, tree_limits, Fits, tree_fits, fits_depth, some_node, leaf_of, Narrow, held_more}

-- ---- what was noted so far is held by nodes and atoms

pub record HeldBy (s : Reading) (xs : List Node) (ats : List Atom) : Type 0 where
  pub question : s.question ≡ held_by s.question.n xs ats
  pub nodes : s.shape.nodes ≡ length xs
  pub atoms : s.shape.atoms ≡ length ats
  pub narrow : Narrow ats

-- ---- one node

pub noted_n : (t : Bool) (x : Node) (cs : List ℤ) (k : ℤ) (s : Shape) (q : Question) → (noted t x cs k s q).n ≡ q.n
unfolding noted
noted_n true x cs k s q = refl
noted_n false x cs k s q = refl

-- a record was passed: the node x with these numbers
record Moved (b : List ℕ) (s : Reading) (x : Node) (cs : List ℤ) (k : ℤ) (depth : ℕ) (due rest : List ℕ) : Type 0 where
  to : Reading
  reached : (at : ℕ) → RecordReached b at s → RecordReached b at to
  question : to.question ≡ noted (is_atom x) x cs k s.shape s.question
  due_is : to.shape.due ≡ replicate (parts x) (depth + 1) ++ due
  nodes : to.shape.nodes ≡ s.shape.nodes + 1
  atoms : to.shape.atoms ≡ s.shape.atoms + cond (is_atom x) 1 0
  stands : drop to.place b ≡ rest

module _ (b : List ℕ) (s : Reading) (x : Node) (body rest : List ℕ) (e : drop s.place b ≡ record_bytes (kind_of x) body ++ rest)
    (used : T (not (is_unused x))) (long : length body ≡ body_length s.question.n x) (small : length body < 65536) where
  seen : node_at b s ≡ x
  seen = ap node_of_kind (record_kind b s.place (kind_of x) body rest e (kind_small x)) ∙ node_of_kind_lem x

  module _ (depth : ℕ) (due : List ℕ) (d : s.shape.due ≡ depth ∷ due) (room : s.shape.nodes < most_nodes) (few : T (is_atom x) → s.shape.atoms < most_atoms) (deep : depth ≤ most_depth)
      (fit : T (is_atom x) → T (numbers_fit (coefficients_at b s) (constant_at b s))) where
    there : NodeThere b depth s
    there = record {
      header = header_there_lem b s.place (kind_of x) body rest e;
      used = subst (λ (y : Node). T (not (is_unused y))) (sym seen) used;
      exact = record_length b s.place (kind_of x) body rest e small ∙ long ∙ ap (body_length s.question.n) (sym seen);
      body = body_there_lem b s.place (kind_of x) body rest e small;
      room = room;
      few = λ t. few (subst (λ (y : Node). T (is_atom y)) seen t);
      shallow = deep;
      fit = λ t. fit (subst (λ (y : Node). T (is_atom y)) seen t);
    }

    moved : Moved b s x (coefficients_at b s) (constant_at b s) depth due rest
    unfolding grown
    moved = record {
      to = after_node b depth due s;
      reached = λ at h. later h (record { depth = depth; due = due; first = d; there = there; after = refl });
      question = ap (λ (y : Node). noted (is_atom y) y (coefficients_at b s) (constant_at b s) s.shape s.question) seen;
      due_is = ap (λ (y : Node). replicate (parts y) (depth + 1) ++ due) seen;
      nodes = refl;
      atoms = ap (λ (y : Node). s.shape.atoms + cond (is_atom y) 1 0) seen;
      stands = ap (λ (y : Node). drop (s.place + 4 + body_length s.question.n y) b) seen
          ∙ ap (λ (k : ℕ). drop (s.place + 4 + k) b) (sym long)
          ∙ sym (drop-drop (length body) (s.place + 4) b)
          ∙ ap (drop (length body)) (record_body b s.place (kind_of x) body rest e)
          ∙ drop_at body rest (length body) refl;
    }

-- ---- a tree

record Through (b : List ℕ) (s : Reading) (t : Tree) (due rest : List ℕ) : Type 0 where
  to : Reading
  reached : (at : ℕ) → RecordReached b at s → RecordReached b at to
  n : to.question.n ≡ s.question.n
  held : (xs : List Node) (ats : List Atom) → HeldBy s xs ats → HeldBy to (xs ++ nodes_in t) (ats ++ atoms_in t)
  due_is : to.shape.due ≡ due
  nodes : to.shape.nodes ≡ s.shape.nodes + length (nodes_in t)
  atoms : to.shape.atoms ≡ s.shape.atoms + length (atoms_in t)
  stands : drop to.place b ≡ rest

module _ {b : List ℕ} {s : Reading} {x : Node} {cs : List ℤ} {k : ℤ} {depth : ℕ} {due rest : List ℕ} (m : Moved b s x cs k depth due rest) where
  moved_n : m.to.question.n ≡ s.question.n
  moved_n = ap (λ (q : Question). q.n) m.question ∙ noted_n (is_atom x) x cs k s.shape s.question

  moved_held : length cs ≤ most_variables → s.shape.nodes < most_nodes → (T (is_atom x) → s.shape.atoms < most_atoms)
      → (xs : List Node) (ats : List Atom) → HeldBy s xs ats → HeldBy m.to (xs ++ (x ∷ [])) (ats ++ leaf_of x cs k)
  moved_held short room few xs ats h =
      let n : ℕ = s.question.n in
      let more : noted (is_atom x) x cs k s.shape s.question ≡ held_by n (xs ++ (x ∷ [])) (ats ++ leaf_of x cs k) =
      ap (noted (is_atom x) x cs k s.shape) h.question ∙ held_more n xs ats h.narrow s.shape h.nodes h.atoms (omega (arith, h.nodes)) x cs k short (λ t. omega (arith, few t, h.atoms)) in
      record {
        question = m.question ∙ more ∙ ap (λ (j : ℕ). held_by j (xs ++ (x ∷ [])) (ats ++ leaf_of x cs k)) (sym moved_n);
        nodes = m.nodes ∙ omega (arith, h.nodes, length-append xs (x ∷ []));
        atoms = m.atoms ∙ omega (arith, h.atoms, length-append ats (leaf_of x cs k), leaf_count x);
        narrow = each_append (λ (a : Atom). length a.coefficients ≤ most_variables) ats (leaf_of x cs k) h.narrow (leaf_narrow x);
      }
    where
      leaf_count : (x : Node) → cond (is_atom x) 1 0 ≡ length (leaf_of x cs k)
      leaf_count Node.unused = refl
      leaf_count (Node.atom κ) = refl
      leaf_count Node.not = refl
      leaf_count Node.and = refl
      leaf_count Node.or = refl

      leaf_narrow : (x : Node) → Narrow (leaf_of x cs k)
      leaf_narrow Node.unused = tt
      leaf_narrow (Node.atom κ) = (short, tt)
      leaf_narrow Node.not = tt
      leaf_narrow Node.and = tt
      leaf_narrow Node.or = tt

held_as_lem : {s : Reading} {xs ys : List Node} {ats bts : List Atom} → xs ≡ ys → ats ≡ bts → HeldBy s xs ats → HeldBy s ys bts
held_as_lem {s} {xs} {ys} {ats} {bts} e f h = subst (λ (l : List Atom). HeldBy s ys l) f (subst (λ (l : List Node). HeldBy s l ats) e h)

-- a connective was passed
record Opened (b : List ℕ) (s : Reading) (x : Node) (depth : ℕ) (due rest : List ℕ) : Type 0 where
  to : Reading
  reached : (at : ℕ) → RecordReached b at s → RecordReached b at to
  n : to.question.n ≡ s.question.n
  held : (xs : List Node) (ats : List Atom) → HeldBy s xs ats → HeldBy to (xs ++ (x ∷ [])) ats
  due_is : to.shape.due ≡ replicate (parts x) (depth + 1) ++ due
  nodes : to.shape.nodes ≡ s.shape.nodes + 1
  atoms : to.shape.atoms ≡ s.shape.atoms
  stands : drop to.place b ≡ rest

module _ (b : List ℕ) (x : Node) (used : T (not (is_unused x))) (c : is_atom x ≡ false) (s : Reading) (depth : ℕ) (due rest : List ℕ) where
  opened : s.shape.due ≡ depth ∷ due → drop s.place b ≡ record_bytes (kind_of x) [] ++ rest → s.question.n ≤ most_variables → depth ≤ most_depth → s.shape.nodes < most_nodes → Opened b s x depth due rest
  opened d e six deep room =
      let none : T (is_atom x) → ⊥ = λ t. subst T c t in
      let m = moved b s x [] rest e used (sym (ap (λ (t : Bool). cond t (4 * (s.question.n + 1)) 0) c)) (omega arith) depth due d room (λ t. absurd (none t)) deep (λ t. absurd (none t)) in
      let cs = coefficients_at b s in
      let k = constant_at b s in
      record {
        to = m.to;
        reached = m.reached;
        n = moved_n m;
        held = λ xs ats h. held_as_lem refl (ap (λ (l : List Atom). ats ++ l) (no_leaf x cs k c) ∙ append-nil ats) (moved_held m (omega (arith, numbers_length s.question.n b (s.place + 4))) room (λ t. absurd (none t)) xs ats h);
        due_is = m.due_is;
        nodes = m.nodes;
        atoms = m.atoms ∙ ap (λ (t : Bool). s.shape.atoms + cond t 1 0) c ∙ omega arith;
        stands = m.stands;
      }
    where
      no_leaf : (x : Node) (cs : List ℤ) (k : ℤ) → is_atom x ≡ false → leaf_of x cs k ≡ []
      no_leaf Node.unused cs k e = refl
      no_leaf (Node.atom κ) cs k e = absurd (true≢false e)
      no_leaf Node.not cs k e = refl
      no_leaf Node.and cs k e = refl
      no_leaf Node.or cs k e = refl

-- a connective's bytes before those of its two parts
joined_bytes : {l : List ℕ} (kind : ℕ) (t u : Tree) (rest : List ℕ) → l ≡ (record_bytes kind [] ++ (tree_bytes t ++ tree_bytes u)) ++ rest → l ≡ record_bytes kind [] ++ (tree_bytes t ++ (tree_bytes u ++ rest))
joined_bytes kind t u rest e =
    e ∙ append_assoc (record_bytes kind []) (tree_bytes t ++ tree_bytes u) rest ∙ ap (λ (l : List ℕ). record_bytes kind [] ++ l) (append_assoc (tree_bytes t) (tree_bytes u) rest)

-- a connective and its one part, or its two
module _ {b : List ℕ} {s : Reading} {x : Node} {depth : ℕ} {due rest after : List ℕ} (o : Opened b s x depth due after) where
  one_part : (t v : Tree) → nodes_in v ≡ x ∷ nodes_in t → atoms_in v ≡ atoms_in t → Through b o.to t due rest → Through b s v due rest
  one_part t v e f r = record {
    to = r.to;
    reached = λ at h. r.reached at (o.reached at h);
    n = r.n ∙ o.n;
    held = λ xs ats h.
        held_as_lem (append_assoc xs (x ∷ []) (nodes_in t) ∙ ap (λ (l : List Node). xs ++ l) (sym e)) (ap (λ (l : List Atom). ats ++ l) (sym f)) (r.held (xs ++ (x ∷ [])) ats (o.held xs ats h));
    due_is = r.due_is;
    nodes = omega (arith, r.nodes, o.nodes, ap length e);
    atoms = omega (arith, r.atoms, o.atoms, ap length f);
    stands = r.stands;
  }

  two_parts : (t u v : Tree) {between later : List ℕ} → nodes_in v ≡ x ∷ (nodes_in t ++ nodes_in u) → atoms_in v ≡ atoms_in t ++ atoms_in u
      → (l : Through b o.to t later between) → Through b l.to u due rest → Through b s v due rest
  two_parts t u v e f l r = record {
    to = r.to;
    reached = λ at h. r.reached at (l.reached at (o.reached at h));
    n = r.n ∙ l.n ∙ o.n;
    held = λ xs ats h.
        held_as_lem
        (append_assoc (xs ++ (x ∷ [])) (nodes_in t) (nodes_in u) ∙ append_assoc xs (x ∷ []) (nodes_in t ++ nodes_in u) ∙ ap (λ (k : List Node). xs ++ k) (sym e))
        (append_assoc ats (atoms_in t) (atoms_in u) ∙ ap (λ (k : List Atom). ats ++ k) (sym f))
        (r.held ((xs ++ (x ∷ [])) ++ nodes_in t) (ats ++ atoms_in t) (l.held (xs ++ (x ∷ [])) ats (o.held xs ats h)));
    due_is = r.due_is;
    nodes = omega (arith, r.nodes, l.nodes, o.nodes, ap length e, length-append (nodes_in t) (nodes_in u));
    atoms = omega (arith, r.atoms, l.atoms, o.atoms, ap length f, length-append (atoms_in t) (atoms_in u));
    stands = r.stands;
  }

module _ (b : List ℕ) where
  atom_through : (a : Atom) (s : Reading) (depth : ℕ) (due rest : List ℕ) → s.shape.due ≡ depth ∷ due → drop s.place b ≡ tree_bytes (Tree.atom a) ++ rest → s.question.n ≤ most_variables
      → Fits s.question.n depth (Tree.atom a) → s.shape.nodes + 1 ≤ most_nodes → s.shape.atoms + 1 ≤ most_atoms → Through b s (Tree.atom a) due rest
  unfolding tree_bytes nodes_in atoms_in
  atom_through a s depth due rest d e six (deep, count, fit) few atoms =
      let x : Node = Node.atom a.kind in
      let cs : List ℤ = a.coefficients in
      let k : ℤ = a.constant in
      let n : ℕ = s.question.n in
      let long : length (atom_body cs k) ≡ body_length n x = body_length_lem cs k ∙ ap (λ (n : ℕ). 4 * (n + 1)) count in
      let small : length (atom_body cs k) < 65536 = omega (arith, body_length_lem cs k, count) in
      let at_body = record_body b s.place (kind_of x) (atom_body cs k) rest e in
      let within = written_numbers_fit cs k fit in
      let same_row : coefficients_at b s ≡ cs = ap (λ (n : ℕ). numbers_at n b (s.place + 4)) (sym count) ∙ body_coefficients b (s.place + 4) cs k rest at_body within.0 in
      let same_constant : constant_at b s ≡ k = ap (λ (n : ℕ). number_at b (s.place + 4 + 4 * n)) (sym count) ∙ body_constant b (s.place + 4) cs k rest at_body within.1 in
      let m : Moved b s x (coefficients_at b s) (constant_at b s) depth due rest =
      moved b s x (atom_body cs k) rest e tt long small depth due d (omega arith) (λ t. omega arith) deep (λ t. rw (same_row, same_constant) fit) in
      record {
        to = m.to;
        reached = m.reached;
        n = moved_n m;
        held = λ xs ats h.
            held_as_lem refl (λ i. ats ++ (record { kind = a.kind; coefficients = same_row i; constant = same_constant i } ∷ []))
            (moved_held m (omega (arith, ap length same_row, count)) (omega arith) (λ t. omega arith) xs ats h);
        due_is = m.due_is;
        nodes = m.nodes;
        atoms = m.atoms;
        stands = m.stands;
      }

  through : (t : Tree) (s : Reading) (depth : ℕ) (due rest : List ℕ) → s.shape.due ≡ depth ∷ due → drop s.place b ≡ tree_bytes t ++ rest → s.question.n ≤ most_variables
      → Fits s.question.n depth t → s.shape.nodes + length (nodes_in t) ≤ most_nodes → s.shape.atoms + length (atoms_in t) ≤ most_atoms → Through b s t due rest
  unfolding tree_bytes nodes_in atoms_in
  through (Tree.atom a) s depth due rest d e six f few atoms = atom_through a s depth due rest d e six f few atoms
  through (Tree.not t) s depth due rest d e six f few atoms =
      let o = opened b Node.not tt refl s depth due (tree_bytes t ++ rest) d (e ∙ append_assoc (record_bytes 0x0020 []) (tree_bytes t) rest) six (omega (arith, fits_depth s.question.n (depth + 1) t f)) (omega (arith, some_node t)) in
      let r = through t o.to (depth + 1) due rest o.due_is o.stands (omega (arith, o.n)) (subst (λ (n : ℕ). Fits n (depth + 1) t) (sym o.n) f) (omega (arith, o.nodes)) (omega (arith, o.atoms)) in
      one_part o t (Tree.not t) refl refl r
  through (Tree.and t u) s depth due rest d e six f few atoms =
      let o = opened b Node.and tt refl s depth due (tree_bytes t ++ (tree_bytes u ++ rest)) d (joined_bytes (kind_of Node.and) t u rest e) six (omega (arith, fits_depth s.question.n (depth + 1) t f.0)) (omega (arith, some_node t)) in
      let l = through t o.to (depth + 1) ((depth + 1) ∷ due) (tree_bytes u ++ rest) o.due_is o.stands (omega (arith, o.n)) (subst (λ (n : ℕ). Fits n (depth + 1) t) (sym o.n) f.0) (omega (arith, o.nodes, length-append (nodes_in t) (nodes_in u))) (omega (arith, o.atoms, length-append (atoms_in t) (atoms_in u))) in
      let r = through u l.to (depth + 1) due rest l.due_is l.stands (omega (arith, l.n, o.n)) (subst (λ (n : ℕ). Fits n (depth + 1) u) (sym (l.n ∙ o.n)) f.1) (omega (arith, l.nodes, o.nodes, length-append (nodes_in t) (nodes_in u))) (omega (arith, l.atoms, o.atoms, length-append (atoms_in t) (atoms_in u))) in
      two_parts o t u (Tree.and t u) refl refl l r
  through (Tree.or t u) s depth due rest d e six f few atoms =
      let o = opened b Node.or tt refl s depth due (tree_bytes t ++ (tree_bytes u ++ rest)) d (joined_bytes (kind_of Node.or) t u rest e) six (omega (arith, fits_depth s.question.n (depth + 1) t f.0)) (omega (arith, some_node t)) in
      let l = through t o.to (depth + 1) ((depth + 1) ∷ due) (tree_bytes u ++ rest) o.due_is o.stands (omega (arith, o.n)) (subst (λ (n : ℕ). Fits n (depth + 1) t) (sym o.n) f.0) (omega (arith, o.nodes, length-append (nodes_in t) (nodes_in u))) (omega (arith, o.atoms, length-append (atoms_in t) (atoms_in u))) in
      let r = through u l.to (depth + 1) due rest l.due_is l.stands (omega (arith, l.n, o.n)) (subst (λ (n : ℕ). Fits n (depth + 1) u) (sym (l.n ∙ o.n)) f.1) (omega (arith, l.nodes, o.nodes, length-append (nodes_in t) (nodes_in u))) (omega (arith, l.atoms, o.atoms, length-append (atoms_in t) (atoms_in u))) in
      two_parts o t u (Tree.or t u) refl refl l r

-- ---- the whole

module _ (n : ℕ) (t : Tree) (within : T (within_limits n t)) where
  limits : TreeLimits n t
  limits = (tree_limits n t).0 within

  abbrev b : List ℕ
  b = question_bytes n t

  head : HeadThere b 0
  unfolding question_bytes
  head = record {
    header = header_there_lem b 0 head_kind (n ∷ []) (tree_bytes t ++ record_bytes end_kind []) refl;
    kind = refl;
    exact = refl;
    body = body_there_lem b 0 head_kind (n ∷ []) (tree_bytes t ++ record_bytes end_kind []) refl (omega arith);
    variables = limits.variables;
  }

  formula : Through b (after_head b 0) t [] (record_bytes end_kind [])
  unfolding question_bytes
  formula = through b t (after_head b 0) 1 [] (record_bytes end_kind []) refl refl (variables_range n limits.variables).1
      (tree_fits n 1 t (omega (arith, limits.depth)) limits.numbers) (omega (arith, limits.nodes)) (omega (arith, limits.atoms))

  nothing_held : HeldBy (after_head b 0) [] []
  unfolding question_bytes at_front joined
  nothing_held = record { question = refl; nodes = refl; atoms = refl; narrow = tt }

  -- so every tree within the limits is accepted, as its held value
  pub tree_read : read_held b ≡ Ok (held_as n t)
  unfolding question_bytes
  tree_read =
      let p = formula in
      let r = p.reached 0 (first head) in
      let s = p.to in
      let st : drop s.place b ≡ record_bytes end_kind [] ++ [] = p.stands in
      let there : EndThere b s.place = record {
        header = header_there_lem b s.place end_kind [] [] st;
        kind = record_kind b s.place end_kind [] [] st (omega arith);
        exact = record_length b s.place end_kind [] [] st (omega arith);
      } in
      let fuel : (most_nodes + 1) - s.shape.nodes ≡ suc (most_nodes - s.shape.nodes) = omega (arith, (reached_sound r).formed.nodes) in
      let read : read_from b 0 ≡ ended (after_end s) =
      reached_onward r
      ∙ ap (λ (f : ℕ). onward f (record_read b) (going s)) fuel
      ∙ onward_going (most_nodes - s.shape.nodes) (record_read b) s
      ∙ ap (onward (most_nodes - s.shape.nodes) (record_read b)) (record_ended b s p.due_is there)
      ∙ onward_ended (most_nodes - s.shape.nodes) (record_read b) (after_end s) in
      let len = sym (length-drop s.place b) ∙ ap length p.stands in
      let h = p.held [] [] nothing_held in
      ended_held b (after_end s) read (omega (arith, len))
      ∙ ap (λ (q : Question). Ok q) (h.question ∙ ap (λ (m : ℕ). held_by m (nodes_in t) (atoms_in t)) p.n)
