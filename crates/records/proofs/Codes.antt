-- Node codes and the nodes that they stand for.
use mathlib.Core.Path.{◌≡◌, refl, ap, ◌∙◌}
use mathlib.Core.Bool.{true, false, not}
use Prim.Native.Nat.{ℕ, zero, suc, ◌≤◌}
use native.Mathlib.Omega.{arith}
use lib.Dec.{T}
use Rattle.scope.specs.Question.{Node, unused, atom, equation, at_most, node_of, code_of, is_unused, is_atom, parts}
use Rattle.theory.specs.Wire.Records.{node_of_code}

-- the codes of atoms
pub atom_code : (c : ℕ) → 1 ≤ c → c ≤ 2 → (is_atom (node_of c) ≡ true) × (parts (node_of c) ≡ 0)
atom_code zero h k = absurd (omega arith)
atom_code (suc zero) h k = (refl, refl)
atom_code (suc (suc zero)) h k = (refl, refl)
atom_code (suc (suc (suc c))) h k = absurd (omega arith)

-- the codes of nodes with two parts
pub two_code : (c : ℕ) → 4 ≤ c → c ≤ 5 → (is_atom (node_of c) ≡ false) × (parts (node_of c) ≡ 2)
two_code zero h k = absurd (omega arith)
two_code (suc zero) h k = absurd (omega arith)
two_code (suc (suc zero)) h k = absurd (omega arith)
two_code (suc (suc (suc zero))) h k = absurd (omega arith)
two_code (suc (suc (suc (suc zero)))) h k = (refl, refl)
two_code (suc (suc (suc (suc (suc zero))))) h k = (refl, refl)
two_code (suc (suc (suc (suc (suc (suc c)))))) h k = absurd (omega arith)

-- the code of a node that is used
pub record Coded (x : Node) (code : ℕ) : Type 0 where
  pub node : node_of code ≡ x
  pub used : 1 ≤ code
  pub small : code ≤ 5

code_range : (x : Node) → T (not (is_unused x)) → (1 ≤ code_of x) × (code_of x ≤ 5)
code_range unused t = absurd t
code_range (atom equation) t = (omega arith, omega arith)
code_range (atom at_most) t = (omega arith, omega arith)
code_range Node.not t = (omega arith, omega arith)
code_range Node.and t = (omega arith, omega arith)
code_range Node.or t = (omega arith, omega arith)

pub coded : (x : Node) (code : ℕ) → T (not (is_unused x)) → code ≡ code_of x → Coded x code
coded x code t e = let r = code_range x t in record { node = ap node_of e ∙ node_of_code x; used = rw e r.0; small = rw e r.1 }
