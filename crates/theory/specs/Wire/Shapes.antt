-- The shape of a formula as far as it is known: within its limits at every node, and its parts that are due are few and not too deep.
use Rattle.std.specs.Prelude.{◌≡◌, Bool, true, false, not, cond, List, [], ◌∷◌, ◌++◌, ℕ, ◌+◌, ◌≤◌, ◌<◌, T, length, replicate}
use Rattle.std.proofs.Common.{subst, arith}
use Rattle.scope.specs.Question.{Node, unused, atom, is_unused, is_atom, parts}
use Rattle.scope.specs.Wire.{Shape, unread, grown}
use Rattle.scope.specs.Sizes.{most_atoms, most_depth, most_nodes}

-- behind each part that is due fewer others are due than it is deep
abbrev pub Stacked : List ℕ → Type 0
Stacked [] = Unit {0}
Stacked (depth ∷ due) = (length due < depth) × (depth ≤ 17) × Stacked due

pub record Formed (s : Shape) : Type 0 where
  pub nodes : s.nodes ≤ most_nodes
  pub atoms : s.atoms ≤ most_atoms
  pub begun : 1 ≤ s.atoms + length s.due
  pub stacked : Stacked s.due

pub unread_formed : Formed unread
unread_formed = record { nodes = omega arith; atoms = omega arith; begun = omega arith; stacked = (omega arith, omega arith, tt) }

one_more : (t : Bool) (a : ℕ) → a ≤ most_atoms → (T t → a < most_atoms) → a + cond t 1 0 ≤ most_atoms
one_more true a h f = omega (arith, f tt)
one_more false a h f = omega arith

still_begun : (x : Node) (a depth : ℕ) (due : List ℕ) → T (not (is_unused x)) → 1 ≤ (a + cond (is_atom x) 1 0) + length (replicate (parts x) (depth + 1) ++ due)
still_begun unused a depth due u = absurd u
still_begun (atom κ) a depth due u = omega arith
still_begun Node.not a depth due u = omega arith
still_begun Node.and a depth due u = omega arith
still_begun Node.or a depth due u = omega arith

still_stacked : (x : Node) (depth : ℕ) (due : List ℕ) → depth ≤ most_depth → length due < depth → Stacked due → Stacked (replicate (parts x) (depth + 1) ++ due)
still_stacked unused depth due h l s = s
still_stacked (atom κ) depth due h l s = s
still_stacked Node.not depth due h l s = (omega arith, omega arith, s)
still_stacked Node.and depth due h l s = (omega arith, omega arith, (omega arith, omega arith, s))
still_stacked Node.or depth due h l s = (omega arith, omega arith, (omega arith, omega arith, s))

pub formed_grown : (x : Node) (depth : ℕ) (due : List ℕ) (s : Shape) → Formed s → s.due ≡ depth ∷ due → s.nodes < most_nodes → T (not (is_unused x))
    → (T (is_atom x) → s.atoms < most_atoms) → depth ≤ most_depth → Formed (grown x depth due s)
unfolding grown
formed_grown x depth due s h d room used few shallow =
    let st : Stacked (depth ∷ due) = subst Stacked d h.stacked in
    record {
      nodes = omega arith;
      atoms = one_more (is_atom x) s.atoms h.atoms few;
      begun = still_begun x s.atoms depth due used;
      stacked = still_stacked x depth due shallow st.0 st.2;
    }
