-- A node's record put into a buffer, the nodes that are still to be put, and the whole at the buffer's front.
use mathlib.Core.Path.{◌≡◌, refl, sym, ap, ◌∙◌}
use mathlib.Core.Bool.{true, false, cond}
use mathlib.Core.List.{List, [], ◌++◌, append_assoc, append-nil}
use Prim.Native.Nat.{ℕ, zero, suc, ◌+◌, ◌-◌, ◌*◌, ◌<◌, ◌≤◌}
use native.Mathlib.Omega.{arith}
use native.Mathlib.Numerals.{add-one}
use lib.ListN.{length, length-append}
use lib.Seq.{sets}
use Rattle.scope.specs.declared.Question.{Question}
use Rattle.scope.specs.Sizes.{most_variables, most_atoms}
use Rattle.scope.specs.Question.{Node, is_atom, coefficients_of, constant_of}
use Rattle.scope.specs.Wire.{end_kind, kind_of, body_length}
use Rattle.scope.specs.Writing.{two_bytes, record_bytes, atom_body, node_bytes}
use Rattle.theory.specs.Wire.Records.{body_length_lem}
use Rattle.writing.specs.Writes.{code_node, atoms_to, bytes_to}
use Rattle.writing.proofs.Lengths.{row_length, bytes_head, bytes_next, atoms_first, atoms_next}
use Rattle.fields.proofs.Stores.{sets_append}

-- ---- a node's record

module _ (q : Question) (x : Node) (a at : ℕ) (buf one : List ℕ) (kind len : ℕ) (k : kind ≡ kind_of x) (f : one ≡ sets buf at (two_bytes len ++ two_bytes kind)) where
  pub put_plain : is_atom x ≡ false → len ≡ 0 → one ≡ sets buf at (node_bytes q x a)
  unfolding node_bytes
  put_plain e l = f ∙ rw (e, l, k)

  pub put_with_body : is_atom x ≡ true → len ≡ length (atom_body (coefficients_of q a) (constant_of q a)) → (two : List ℕ)
      → two ≡ sets one (at + 4) (atom_body (coefficients_of q a) (constant_of q a)) → two ≡ sets buf at (node_bytes q x a)
  unfolding node_bytes
  put_with_body e l two g =
      let body = atom_body (coefficients_of q a) (constant_of q a) in
      g ∙ ap (λ (o : List ℕ). sets o (at + 4) body) f ∙ sym (sets_append buf at (two_bytes len ++ two_bytes kind) body)
      ∙ (λ i. sets buf at (two_bytes (l i) ++ (two_bytes (k i) ++ body)))
      ∙ rw e

-- of an atom, the length is that of the body
pub body_is : (q : Question) (x : Node) (a len : ℕ) → length q.coefficients ≡ most_variables * most_atoms → q.n ≤ most_variables → a < most_atoms → is_atom x ≡ true → len ≡ body_length q.n x
    → len ≡ length (atom_body (coefficients_of q a) (constant_of q a))
body_is q x a len full few h e l =
    let m : body_length q.n x ≡ 4 * (q.n + 1) = rw e in
    omega (arith, body_length_lem (coefficients_of q a) (constant_of q a), row_length q full few a h)

-- ---- the nodes from i on

unfoldable pub nodes_from : Question → ℕ → ℕ → List ℕ
nodes_from q i zero = []
nodes_from q i (suc m) = node_bytes q (code_node q i) (atoms_to q i) ++ nodes_from q (suc i) m

from_on : (q : Question) (i m : ℕ) → bytes_to q i ++ nodes_from q i m ≡ bytes_to q (i + m)
unfolding nodes_from
from_on q i zero = let e : i + 0 ≡ i = omega arith in append-nil (bytes_to q i) ∙ ap (bytes_to q) (sym e)
from_on q i (suc m) =
    let e : suc i + m ≡ i + suc m = omega arith in
    sym (append_assoc (bytes_to q i) (node_bytes q (code_node q i) (atoms_to q i)) (nodes_from q (suc i) m))
    ∙ ap (λ (l : List ℕ). l ++ nodes_from q (suc i) m) (sym (bytes_next q i) ∙ ap (bytes_to q) (add-one i))
    ∙ from_on q (suc i) m
    ∙ ap (bytes_to q) e

atoms_more : (q : Question) (i m : ℕ) → atoms_to q i ≤ atoms_to q (i + m)
atoms_more q i zero = let e : i + 0 ≡ i = omega arith in rw e (omega arith)
atoms_more q i (suc m) = let e : suc i + m ≡ i + suc m = omega arith in omega (arith, atoms_next q i, ap (atoms_to q) (add-one i), atoms_more q (suc i) m, ap (atoms_to q) e)

module _ (q : Question) (i nodes : ℕ) (h : i < nodes) where
  pub length_below : length (bytes_to q i) + length (node_bytes q (code_node q i) (atoms_to q i)) ≤ length (bytes_to q nodes)
  length_below =
      let e : i + 1 + (nodes - (i + 1)) ≡ nodes = omega arith in
      omega (
        arith,
        length-append (bytes_to q (i + 1)) (nodes_from q (i + 1) (nodes - (i + 1))),
        ap length (from_on q (i + 1) (nodes - (i + 1)) ∙ ap (bytes_to q) e),
        length-append (bytes_to q i) (node_bytes q (code_node q i) (atoms_to q i)),
        ap length (bytes_next q i),
      )

  pub atoms_below : is_atom (code_node q i) ≡ true → atoms_to q nodes ≤ most_atoms → atoms_to q i < most_atoms
  atoms_below a f =
      let e : i + 1 + (nodes - (i + 1)) ≡ nodes = omega arith in
      let s : atoms_to q (i + 1) ≡ atoms_to q i + 1 = atoms_next q i ∙ rw a in
      omega (arith, atoms_more q (i + 1) (nodes - (i + 1)), ap (atoms_to q) e)

pub bytes_least : (q : Question) (nodes : ℕ) → 5 ≤ length (bytes_to q nodes)
bytes_least q nodes =
    let e : 0 + nodes ≡ nodes = omega arith in
    omega (arith, bytes_head q, length-append (bytes_to q 0) (nodes_from q 0 nodes), ap length (from_on q 0 nodes ∙ ap (bytes_to q) e))

pub atoms_most : (q : Question) (i nodes : ℕ) → i ≤ nodes → atoms_to q i ≤ atoms_to q nodes
atoms_most q i nodes h = let e : i + (nodes - i) ≡ nodes = omega arith in omega (arith, atoms_more q i (nodes - i), ap (atoms_to q) e)

abbrev end_bytes : List ℕ
end_bytes = record_bytes end_kind []

pub record NodesLeft (q : Question) (nodes : ℕ) (buf₀ buf : List ℕ) (at atoms i : ℕ) : Type 0 where
  pub within : i ≤ nodes
  pub same : length buf ≡ length buf₀
  pub at_is : at ≡ length (bytes_to q i)
  pub atoms_is : atoms ≡ atoms_to q i
  pub rest : sets buf at (nodes_from q i (nodes - i) ++ end_bytes) ≡ sets buf₀ 5 (nodes_from q 0 nodes ++ end_bytes)

pub nodes_start : (q : Question) (nodes : ℕ) (buf : List ℕ) → NodesLeft q nodes buf buf 5 0 0
nodes_start q nodes buf =
    let e : nodes - 0 ≡ nodes = omega arith in
    record { within = omega arith; same = refl; at_is = sym (bytes_head q); atoms_is = sym (atoms_first q); rest = rw e }

module _ {q : Question} {nodes : ℕ} {buf₀ buf : List ℕ} {at atoms i : ℕ} (inv : NodesLeft q nodes buf₀ buf at atoms i) where
  pub nodes_again : (h : i < nodes) (after : List ℕ) (len atoms' : ℕ) → length after ≡ length buf → after ≡ sets buf at (node_bytes q (code_node q i) atoms)
      → length (node_bytes q (code_node q i) atoms) ≡ 4 + len → atoms' ≡ atoms + cond (is_atom (code_node q i)) 1 0
      → NodesLeft q nodes buf₀ after (at + (4 + len)) atoms' (i + 1)
  unfolding nodes_from
  nodes_again h after len atoms' s f l a =
      let x = node_bytes q (code_node q i) (atoms_to q i) in
      let m = nodes - (i + 1) in
      let z : nodes - i ≡ suc m = omega arith in
      let y : at + (4 + len) ≡ at + length (node_bytes q (code_node q i) atoms) = omega (arith, l) in
      let e : nodes_from q i (nodes - i) ≡ x ++ nodes_from q (i + 1) m = rw (z, add-one i) in
      let v : node_bytes q (code_node q i) atoms ≡ x = ap (node_bytes q (code_node q i)) inv.atoms_is in
      record {
        within = omega arith;
        same = s ∙ inv.same;
        at_is = omega (arith, inv.at_is, ap length (bytes_next q i), length-append (bytes_to q i) x, l, ap length v);
        atoms_is = a ∙ ap (λ (k : ℕ). k + cond (is_atom (code_node q i)) 1 0) inv.atoms_is ∙ sym (atoms_next q i);
        rest = ap (λ (p : ℕ). sets after p (nodes_from q (i + 1) m ++ end_bytes)) y
            ∙ ap (λ (o : List ℕ). sets o (at + length (node_bytes q (code_node q i) atoms)) (nodes_from q (i + 1) m ++ end_bytes)) f
            ∙ sym (sets_append buf at (node_bytes q (code_node q i) atoms) (nodes_from q (i + 1) m ++ end_bytes))
            ∙ ap (sets buf at) (sym (append_assoc (node_bytes q (code_node q i) atoms) (nodes_from q (i + 1) m) end_bytes)
            ∙ ap (λ (k : List ℕ). (k ++ nodes_from q (i + 1) m) ++ end_bytes) v
            ∙ ap (λ (k : List ℕ). k ++ end_bytes) (sym e))
            ∙ inv.rest;
      }

  pub nodes_whole : nodes ≤ i → (front after : List ℕ) → buf₀ ≡ sets front 0 (bytes_to q 0) → after ≡ sets buf at end_bytes → after ≡ sets front 0 (bytes_to q nodes ++ end_bytes)
  unfolding nodes_from
  nodes_whole h front after g f =
      let z : nodes - i ≡ 0 = omega arith in
      let e : 0 + nodes ≡ nodes = omega arith in
      let y : 5 ≡ 0 + length (bytes_to q 0) = omega (arith, bytes_head q) in
      f
      ∙ (rw z at inv.rest)
      ∙ ap (λ (o : List ℕ). sets o 5 (nodes_from q 0 nodes ++ end_bytes)) g
      ∙ ap (λ (p : ℕ). sets (sets front 0 (bytes_to q 0)) p (nodes_from q 0 nodes ++ end_bytes)) y
      ∙ sym (sets_append front 0 (bytes_to q 0) (nodes_from q 0 nodes ++ end_bytes))
      ∙ ap (sets front 0) (sym (append_assoc (bytes_to q 0) (nodes_from q 0 nodes) end_bytes) ∙ ap (λ (k : List ℕ). k ++ end_bytes) (from_on q 0 nodes ∙ ap (bytes_to q) e))
