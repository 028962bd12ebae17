-- The lengths of a question's bytes.
use mathlib.Core.Path.{◌≡◌, refl, ap, ◌∙◌}
use mathlib.Core.Bool.{Bool, true, false, cond}
use mathlib.Core.List.{List, [], ◌∷◌, ◌++◌}
use Prim.Native.Nat.{ℕ, ◌+◌, ◌*◌, ◌<◌, ◌≤◌}
use native.Mathlib.Omega.{arith}
use native.Mathlib.Numerals.{add-one}
use lib.ListN.{length, drop, length-drop}
use lib.Seq.{length-take-le}
use Rattle.scope.specs.declared.Question.{Question}
use Rattle.scope.specs.Sizes.{most_variables, most_atoms}
use Rattle.scope.specs.Question.{Node, is_atom, coefficients_of, constant_of}
use Rattle.scope.specs.Wire.{head_kind, kind_of, body_length}
use Rattle.scope.specs.Writing.{record_bytes, atom_body, node_bytes}
use Rattle.theory.specs.Wire.Records.{body_length_lem}
use Rattle.writing.specs.Writes.{code_node, atoms_to, bytes_to}

record_length : (kind : ℕ) (body : List ℕ) → length (record_bytes kind body) ≡ 4 + length body
record_length kind body = omega arith

-- of a question that holds the coefficients of all atoms and names no more variables than there can be
module _ (q : Question) (full : length q.coefficients ≡ most_variables * most_atoms) (few : q.n ≤ most_variables) where
  pub row_length : (a : ℕ) → a < most_atoms → length (coefficients_of q a) ≡ q.n
  unfolding coefficients_of
  row_length a h = length-take-le q.n (drop (most_variables * a) q.coefficients) (rw length-drop (omega arith))

  pub node_length : (x : Node) (a : ℕ) → (is_atom x ≡ true → a < most_atoms) → length (node_bytes q x a) ≡ 4 + body_length q.n x
  unfolding node_bytes
  node_length x a h = by (is_atom x) refl
    where
      by : (t : Bool) → is_atom x ≡ t → length (node_bytes q x a) ≡ 4 + body_length q.n x
      by true e = rw e (record_length (kind_of x) (atom_body (coefficients_of q a) (constant_of q a)) ∙ omega (arith, body_length_lem (coefficients_of q a) (constant_of q a), row_length a (h e)))
      by false e = rw e (record_length (kind_of x) [])

-- an atom's body is no longer than that of six variables; no other node has one
pub body_share : (n : ℕ) (x : Node) → n ≤ most_variables → body_length n x ≤ 4 * (most_variables + 1) * cond (is_atom x) 1 0
body_share n x h = by (is_atom x) refl
  where
    by : (t : Bool) → is_atom x ≡ t → body_length n x ≤ 4 * (most_variables + 1) * cond (is_atom x) 1 0
    by true e = rw e (omega arith)
    by false e = rw e (omega arith)

pub body_small : (n : ℕ) (x : Node) → n ≤ most_variables → body_length n x ≤ 4 * (most_variables + 1)
body_small n x h = by (is_atom x) refl
  where
    by : (t : Bool) → is_atom x ≡ t → body_length n x ≤ 4 * (most_variables + 1)
    by true e = rw e (omega arith)
    by false e = rw e (omega arith)

-- ---- the bytes and atoms of the first nodes

pub bytes_first : (q : Question) → bytes_to q 0 ≡ record_bytes head_kind (q.n ∷ [])
unfolding bytes_to
bytes_first q = refl

pub bytes_head : (q : Question) → length (bytes_to q 0) ≡ 5
bytes_head q = ap length (bytes_first q)

pub bytes_next : (q : Question) (i : ℕ) → bytes_to q (i + 1) ≡ bytes_to q i ++ node_bytes q (code_node q i) (atoms_to q i)
unfolding bytes_to
bytes_next q i = rw add-one

pub atoms_first : (q : Question) → atoms_to q 0 ≡ 0
unfolding atoms_to
atoms_first q = refl

pub atoms_next : (q : Question) (i : ℕ) → atoms_to q (i + 1) ≡ atoms_to q i + cond (is_atom (code_node q i)) 1 0
unfolding atoms_to
atoms_next q i = rw add-one
