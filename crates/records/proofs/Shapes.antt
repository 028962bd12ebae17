-- A shape grown by a node: an atom, a node with one part, a node with two.
use mathlib.Core.Path.{◌≡◌, sym, ap, ◌∙◌}
use mathlib.Core.List.{List, ◌∷◌}
use Prim.Native.Nat.{ℕ, suc, ◌+◌, ◌-◌, ◌<◌, ◌≤◌}
use native.Mathlib.Omega.{arith}
use native.Mathlib.Nat.{add-zero}
use native.Mathlib.Numerals.{add-one}
use lib.ListN.{length, set, drop, take, length-set}
use lib.Seq.{set_split, drop_at, length-take-le}
use Rattle.scope.specs.Wire as wire
use Rattle.records.specs.declared.shape.Shape.{Shape}
use Rattle.records.specs.Formula.{Open, Grown, due_depth}
use Rattle.records.proofs.Codes.{atom_code, two_code}

-- a store at i is what stands first from i on
drop_set : (l : List ℕ) (i v : ℕ) → i < length l → drop i (set l i v) ≡ v ∷ drop (i + 1) l
drop_set l i v h = rw (add-one, set_split l i v) (drop_at (take i l) (v ∷ drop (suc i) l) i (length-take-le i l (omega arith)))

two_due : (l : List ℕ) (i v : ℕ) → 1 ≤ i → i < length l → drop (i - 1) (set (set l i v) (i - 1) v) ≡ v ∷ (v ∷ drop (i + 1) l)
two_due l i v g h =
    let e : i - 1 + 1 ≡ i = omega arith in
    drop_set (set l i v) (i - 1) v (rw length-set (omega arith)) ∙ rw e (ap {B = List ℕ} (λ r. v ∷ r) (drop_set l i v h))

same_shape : (n a b : ℕ) (d e : List ℕ) → a ≡ b → d ≡ e → ◌≡◌ {A = wire.Shape} (record { nodes = n; atoms = a; due = d }) (record { nodes = n; atoms = b; due = e })
same_shape n a b d e p q = λ i. record { nodes = n; atoms = p i; due = q i }

module _ (s : Shape) (code : ℕ) (h : Open s code) where
  pub grown_atom : code ≤ 2 → Grown s code (record { nodes = s.nodes + 1; atoms = s.atoms + 1; top = s.top + 1; due = s.due })
  unfolding wire.grown
  grown_atom k = let e = atom_code code h.node k in record {
    sound = record { full = h.sound.full; within = omega arith; few = omega arith; bounded = omega arith; sparse = omega arith };
    shape = rw (e.0, e.1);
  }

  pub grown_one : code ≡ 3 → Grown s code (record { nodes = s.nodes + 1; atoms = s.atoms; top = s.top; due = set s.due s.top (due_depth s + 1) })
  unfolding wire.grown
  grown_one k = record {
    sound = record { full = rw length-set h.sound.full; within = omega arith; few = omega arith; bounded = omega arith; sparse = omega arith };
    shape = rw k (same_shape _ _ _ _ _ (sym (add-zero s.atoms)) (drop_set s.due s.top (due_depth s + 1) (omega (arith, h.sound.full))));
  }

  pub grown_two : 4 ≤ code → Grown s code (record { nodes = s.nodes + 1; atoms = s.atoms; top = s.top - 1; due = set (set s.due s.top (due_depth s + 1)) (s.top - 1) (due_depth s + 1) })
  unfolding wire.grown
  grown_two k = let e = two_code code k h.known in record {
    sound = record { full = rw (length-set, length-set) h.sound.full; within = omega arith; few = omega arith; bounded = omega arith; sparse = omega arith };
    shape = rw (e.0, e.1) (same_shape _ _ _ _ _ (sym (add-zero s.atoms)) (two_due s.due s.top (due_depth s + 1) (omega arith) (omega (arith, h.sound.full))));
  }
