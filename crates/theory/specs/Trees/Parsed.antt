-- Bytes that are accepted are the bytes of a tree within the limits; so they are accepted exactly if they are.
use Rattle.std.specs.Prelude.{◌≡◌, refl, ◌↔◌, not, ℕ, ◌+◌, ◌≤◌, T, drop, ℤ, Ok, IsOk, is_ok}
use Rattle.std.proofs.Math.Path.{sym, ap, subst}
use Rattle.std.proofs.Common.{◌∙◌, arith, le→leb, length-append, length-drop, take_all, get_or-drop}
use Rattle.std.proofs.Math.Bool.{cond}
use mathlib.Core.List.{List, [], ◌∷◌, ◌++◌, append_assoc, append-nil}
use Rattle.std.proofs.Math.ListN.{length, take, replicate}
use Rattle.scope.specs.Sizes.{numbers_fit, most_depth, most_nodes}
use Rattle.scope.specs.Question.{Node, unused, atom, is_unused, is_atom, parts}
use Rattle.scope.specs.Wire.{Reading, Ended, grown, kind_of, kind_at, length_at, byte_at, body_length, head_kind, end_kind, record_read, read_held, node_at, coefficients_at, constant_at, after_head}
use Rattle.scope.specs.Writing.{record_bytes, atom_body}
use Rattle.scope.specs.Tree.{Tree, nodes_in, atoms_in, tree_bytes, question_bytes, held_as, IsQuestion}
use Rattle.theory.specs.Wire.Octets.{Octets, numbers_length}
use Rattle.theory.specs.Wire.Records.{there_body, there_header, kind_of_node}
use Rattle.theory.specs.Wire.WrittenRead.{there_bytes, there_body_bytes, one_off}
use Rattle.theory.specs.Wire.Lockstep.{kept_onward}
use Rattle.theory.specs.Wire.ReadingSteps.{HeadThere, NodeStep, EndStep, going_record, ended_record}
use Rattle.theory.specs.Wire.Sound.{Sound, sound_head, sound_step}
use Rattle.theory.specs.Wire.Wholes.{ReadWhole, AcceptedWhole, accepted_whole}
use Rattle.theory.specs.Trees.Limits.{tree_limits, Fits, fits_tree}
use Rattle.theory.specs.Trees.Read.{noted_n, tree_read}

-- ---- trees for the parts that are due

abbrev Forest : ℕ → List ℕ → List Tree → Type 0
Forest n [] [] = Unit {0}
Forest n [] (t ∷ ts) = ⊥
Forest n (d ∷ due) [] = ⊥
Forest n (d ∷ due) (t ∷ ts) = Fits n d t × Forest n due ts

abbrev bytes_all : List Tree → List ℕ
bytes_all [] = []
bytes_all (t ∷ ts) = tree_bytes t ++ bytes_all ts

abbrev size_all : List Tree → ℕ
size_all [] = 0
size_all (t ∷ ts) = length (nodes_in t) + size_all ts

abbrev atoms_all : List Tree → ℕ
atoms_all [] = 0
atoms_all (t ∷ ts) = length (atoms_in t) + atoms_all ts

-- with these trees behind what was read, the whole is one tree
record Complete (b : List ℕ) (s : Reading) (ts : List Tree) : Type 0 where
  tree : Tree
  fits : Fits s.question.n 1 tree
  bytes : take s.place b ++ bytes_all ts ≡ record_bytes head_kind (s.question.n ∷ []) ++ tree_bytes tree
  nodes : length (nodes_in tree) ≡ s.shape.nodes + size_all ts
  atoms : length (atoms_in tree) ≡ s.shape.atoms + atoms_all ts

abbrev Opens : List ℕ → Reading → Type 0
Opens b s = (ts : List Tree) → Forest s.question.n s.shape.due ts → Complete b s ts

-- ---- a node before its own parts is a tree

record Grafted (n depth : ℕ) (due : List ℕ) (x : Node) (body : List ℕ) (ts : List Tree) : Type 0 where
  trees : List Tree
  forest : Forest n (depth ∷ due) trees
  bytes : bytes_all trees ≡ record_bytes (kind_of x) body ++ bytes_all ts
  nodes : size_all trees ≡ 1 + size_all ts
  atoms : atoms_all trees ≡ cond (is_atom x) 1 0 + atoms_all ts

graft : (n depth : ℕ) (due : List ℕ) (x : Node) (cs : List ℤ) (k : ℤ) (ts : List Tree) → T (not (is_unused x)) → depth ≤ most_depth → length cs ≡ n → (T (is_atom x) → T (numbers_fit cs k))
    → Forest n (replicate (parts x) (depth + 1) ++ due) ts → Grafted n depth due x (cond (is_atom x) (atom_body cs k) []) ts
unfolding tree_bytes nodes_in atoms_in
graft n depth due unused cs k ts u d l f h = absurd u
graft n depth due (atom κ) cs k ts u d l f h = record { trees = Tree.atom (record { kind = κ; coefficients = cs; constant = k }) ∷ ts; forest = ((d, l, f tt), h); bytes = refl; nodes = refl; atoms = refl }
graft n depth due Node.not cs k [] u d l f h = absurd h
graft n depth due Node.not cs k (t ∷ ts) u d l f h = record {
  trees = Tree.not t ∷ ts;
  forest = (h.0, h.1);
  bytes = append_assoc (record_bytes 0x0020 []) (tree_bytes t) (bytes_all ts);
  nodes = omega arith;
  atoms = omega arith;
}
graft n depth due Node.and cs k [] u d l f h = absurd h
graft n depth due Node.and cs k (t ∷ []) u d l f h = absurd h.1
graft n depth due Node.and cs k (t ∷ v ∷ ts) u d l f h = record {
  trees = Tree.and t v ∷ ts;
  forest = ((h.0, h.1.0), h.1.1);
  bytes = append_assoc (record_bytes 0x0021 []) (tree_bytes t ++ tree_bytes v) (bytes_all ts) ∙ ap (λ (l : List ℕ). record_bytes 0x0021 [] ++ l) (append_assoc (tree_bytes t) (tree_bytes v) (bytes_all ts));
  nodes = omega (arith, length-append (nodes_in t) (nodes_in v));
  atoms = omega (arith, length-append (atoms_in t) (atoms_in v));
}
graft n depth due Node.or cs k [] u d l f h = absurd h
graft n depth due Node.or cs k (t ∷ []) u d l f h = absurd h.1
graft n depth due Node.or cs k (t ∷ v ∷ ts) u d l f h = record {
  trees = Tree.or t v ∷ ts;
  forest = ((h.0, h.1.0), h.1.1);
  bytes = append_assoc (record_bytes 0x0022 []) (tree_bytes t ++ tree_bytes v) (bytes_all ts) ∙ ap (λ (l : List ℕ). record_bytes 0x0022 [] ++ l) (append_assoc (tree_bytes t) (tree_bytes v) (bytes_all ts));
  nodes = omega (arith, length-append (nodes_in t) (nodes_in v));
  atoms = omega (arith, length-append (atoms_in t) (atoms_in v));
}

module _ (b : List ℕ) (o : Octets b) (s r : Reading) (st : NodeStep b s r) where
  abbrev x : Node
  x = node_at b s

  same_n : r.question.n ≡ s.question.n
  same_n = ap (λ (u : Reading). u.question.n) st.after ∙ noted_n (is_atom x) x (coefficients_at b s) (constant_at b s) s.shape s.question

  record_there : take r.place b ≡ take s.place b ++ record_bytes (kind_of x) (cond (is_atom x) (atom_body (coefficients_at b s) (constant_at b s)) [])
  record_there =
      let place : r.place ≡ s.place + (4 + length_at b s.place) = ap (λ (u : Reading). u.place) st.after ∙ omega (arith, st.there.exact) in
      let inside : s.place + 4 + body_length s.question.n x ≤ length b = omega (arith, there_body b s.place st.there.body, st.there.exact) in
      let body = ap (λ (m : ℕ). take m (drop (s.place + 4) b)) st.there.exact ∙ there_body_bytes (is_atom x) s.question.n b (s.place + 4) o inside in
      ap (λ (m : ℕ). take m b) place
      ∙ there_bytes b s.place (kind_of x) (cond (is_atom x) (atom_body (coefficients_at b s) (constant_at b s)) []) o st.there.body (sym (kind_of_node (kind_at b s.place) st.there.used)) body

  opens_step : Opens b s → Opens b r
  unfolding grown
  opens_step before ts f =
      let due : r.shape.due ≡ replicate (parts x) (st.depth + 1) ++ st.due = ap (λ (u : Reading). u.shape.due) st.after in
      let g : Forest s.question.n (replicate (parts x) (st.depth + 1) ++ st.due) ts = subst (λ (l : List ℕ). Forest s.question.n l ts) due (subst (λ (n : ℕ). Forest n r.shape.due ts) same_n f) in
      let j = graft s.question.n st.depth st.due x (coefficients_at b s) (constant_at b s) ts st.there.used st.there.shallow (numbers_length s.question.n b (s.place + 4)) st.there.fit g in
      let w = before j.trees (subst (λ (l : List ℕ). Forest s.question.n l j.trees) (sym st.first) j.forest) in
      let nodes : r.shape.nodes ≡ s.shape.nodes + 1 = ap (λ (u : Reading). u.shape.nodes) st.after in
      let atoms : r.shape.atoms ≡ s.shape.atoms + cond (is_atom x) 1 0 = ap (λ (u : Reading). u.shape.atoms) st.after in
      record {
        tree = w.tree;
        fits = subst (λ (n : ℕ). Fits n 1 w.tree) (sym same_n) w.fits;
        bytes =
            ap (λ (l : List ℕ). l ++ bytes_all ts) record_there
            ∙ append_assoc (take s.place b) (record_bytes (kind_of x) (cond (is_atom x) (atom_body (coefficients_at b s) (constant_at b s)) [])) (bytes_all ts)
            ∙ ap (λ (l : List ℕ). take s.place b ++ l) (sym j.bytes)
            ∙ w.bytes
            ∙ ap (λ (n : ℕ). record_bytes head_kind (n ∷ []) ++ tree_bytes w.tree) (sym same_n);
        nodes = omega (arith, w.nodes, j.nodes, nodes);
        atoms = omega (arith, w.atoms, j.atoms, atoms);
      }

-- ---- the head, and the end

pub question_read : (b : List ℕ) (q : IsQuestion b) → read_held b ≡ Ok (held_as q.n q.tree)
question_read b q = ap read_held q.bytes_are ∙ tree_read q.n q.tree q.within

module _ (b : List ℕ) (o : Octets b) where
  head_bytes : HeadThere b 0 → take 5 b ≡ record_bytes head_kind (byte_at b 4 ∷ [])
  head_bytes h =
      let long : 1 ≤ length (drop 4 b) = rw (length-drop 4 b) (omega (arith, there_body b 0 h.body, h.exact)) in
      let len : 0 + (4 + length_at b 0) ≡ 5 = omega (arith, h.exact) in
      let body : take (length_at b 0) (drop 4 b) ≡ byte_at b 4 ∷ [] =
      ap (λ (m : ℕ). take m (drop 4 b)) h.exact ∙ one_off (drop 4 b) long ∙ ap {B = List ℕ} (λ (m : ℕ). m ∷ []) (get_or-drop 4 b 0 0) in
      ap (λ (m : ℕ). take m b) (sym len) ∙ there_bytes b 0 head_kind (byte_at b 4 ∷ []) o h.body h.kind body

  opens_head : HeadThere b 0 → Opens b (after_head b 0)
  opens_head h [] f = absurd f
  opens_head h (t ∷ []) f = record {
    tree = t;
    fits = f.0;
    bytes = λ i. head_bytes h i ++ append-nil (tree_bytes t) i;
    nodes = omega arith;
    atoms = omega arith;
  }
  opens_head h (t ∷ u ∷ ts) f = absurd f.1

  pub accepted_tree : IsOk (read_held b) → IsQuestion b
  unfolding question_bytes
  accepted_tree e =
      let a : AcceptedWhole b = accepted_whole b e in
      let g : ReadWhole b 0 a.last = a.whole in
      kept_onward (record_read b) a.last (λ (s : Reading). Sound s.question s.shape × Opens b s) (IsQuestion b)
      (λ s r h y. (sound_step b s r h.0 (going_record b s r y), opens_step b o s r (going_record b s r y) h.1))
      (λ s h y. at_end a s h (ended_record b s a.last y))
      (most_nodes + 1) (after_head b 0) (sound_head b 0 g.head, opens_head g.head) g.walk
    where
      at_end : (a : AcceptedWhole b) (s : Reading) → Sound s.question s.shape × Opens b s → EndStep b s a.last → IsQuestion b
      at_end a s h st =
          let w = h.1 [] (subst (λ (l : List ℕ). Forest s.question.n l []) (sym st.none_due) tt) in
          let next : a.last.next ≡ s.place + 4 = ap (λ (u : Ended). u.next) st.after in
          let inside : s.place + 4 + length_at b s.place ≤ length b = omega (arith, there_header b s.place st.there.header, st.there.exact) in
          let len : s.place + (4 + length_at b s.place) ≡ s.place + 4 = omega (arith, st.there.exact) in
          let all : take (s.place + 4) b ≡ take s.place b ++ record_bytes end_kind [] =
          ap (λ (m : ℕ). take m b) (sym len)
          ∙ there_bytes b s.place end_kind [] o (le→leb (s.place + 4 + length_at b s.place) (length b) inside) st.there.kind (ap (λ (m : ℕ). take m (drop (s.place + 4) b)) st.there.exact) in
          record {
            n = s.question.n;
            tree = w.tree;
            within = (tree_limits s.question.n w.tree).1
                (record {
                  variables = h.0.variables;
                  nodes = omega (arith, w.nodes, h.0.formed.nodes);
                  atoms = omega (arith, w.atoms, h.0.formed.atoms);
                  depth = omega (arith, (fits_tree s.question.n 1 w.tree w.fits).0);
                  numbers = (fits_tree s.question.n 1 w.tree w.fits).1;
                });
            bytes_are =
                sym (take_all (s.place + 4) b (omega (arith, a.all_read, next)))
                ∙ all
                ∙ ap (λ (l : List ℕ). l ++ record_bytes end_kind []) (sym (append-nil (take s.place b)) ∙ w.bytes)
                ∙ append_assoc (record_bytes head_kind (s.question.n ∷ [])) (tree_bytes w.tree) (record_bytes end_kind []);
          }

  -- bytes are accepted exactly if they are a question's
  pub accepted_iff_question : (IsOk (read_held b)) ↔ IsQuestion b
  accepted_iff_question = (accepted_tree, λ q. ap is_ok (question_read b q))
