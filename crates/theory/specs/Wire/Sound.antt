-- What a reading has noted so far is sound: its sizes and limits hold, what is unused is zero, and the atoms are those that were counted.
use Rattle.std.specs.Prelude.{◌≡◌, refl, ◌⊎◌, Bool, true, false, not, ℕ, ◌+◌, ◌≤◌, ◌<◌, T, leb, ℤ, pos}
use Rattle.std.proofs.Common.{sym, ◌∙◌, subst, inl, inr, ⊎_elim, arith, leb→le}
use Rattle.std.proofs.Math.Path.{ap}
use Rattle.std.proofs.Math.Logic.{by_cases}
use Rattle.std.proofs.Math.Bool.{cond}
use mathlib.Core.List.{List, ◌∷◌, map}
use Rattle.std.proofs.Math.Decide.{dec_lt}
use Rattle.std.proofs.Math.ListN.{length}
use Rattle.scope.specs.declared.Question.{Question}
use Rattle.scope.specs.Sizes.{variables_fit, numbers_fit, most_atoms, most_coefficients, most_depth, most_nodes, most_variables}
use Rattle.scope.specs.Question.{Node, node_of, is_unused, is_atom, nodes_of, kinds_of, coefficients_of, constant_of}
use Rattle.scope.specs.Wire.{Shape, unread, grown, Reading, noted, after_head, node_at, coefficients_at, constant_at}
use Rattle.theory.specs.Wire.Checks.{and_first, and_second}
use Rattle.theory.specs.Wire.Octets.{numbers_length}
use Rattle.theory.specs.Wire.Shapes.{Formed, unread_formed, formed_grown}
use Rattle.theory.specs.Wire.Held.{get_d_same, Sized, Blank}
use Rattle.theory.specs.Wire.Noting.{NotedAs, noted_as, kinds_set}
use Rattle.theory.specs.Wire.ReadingSteps.{HeadThere, NodeStep}

pub variables_range : (n : ℕ) → T (variables_fit n) → (1 ≤ n) × (n ≤ most_variables)
variables_range n t = (leb→le 1 n (and_first (leb 1 n) (leb n most_variables) t), leb→le n most_variables (and_second (leb 1 n) (leb n most_variables) t))

pub record Sound (p : Question) (s : Shape) : Type 0 where
  pub sized : Sized p
  pub blank : Blank p s.nodes s.atoms
  pub variables : T (variables_fit p.n)
  pub formed : Formed s
  pub kinds : length (kinds_of (nodes_of p)) ≡ s.atoms
  pub fits : (i : ℕ) → i < s.atoms → T (numbers_fit (coefficients_of p i) (constant_of p i))

pub sound_head : (b : List ℕ) (at : ℕ) → HeadThere b at → Sound (after_head b at).question unread
unfolding nodes_of kinds_of
sound_head b at h = record {
  sized = record { codes = refl; coefficients = refl; constants = refl };
  blank = record {
    codes = λ i k. get_d_same most_nodes i 0;
    right = λ c k. get_d_same most_coefficients c (pos 0);
    below = λ c k. get_d_same most_coefficients c (pos 0);
    constants = λ i k. get_d_same most_atoms i (pos 0);
  };
  variables = h.variables;
  formed = unread_formed;
  kinds = refl;
  fits = λ i k. absurd (omega arith);
}

-- an atom among one more is the newest or an earlier one
pub earlier_or_newest : (t : Bool) (a i : ℕ) → i < a + cond t 1 0 → (i < a) ⊎ (T t × (i ≡ a))
earlier_or_newest true a i h = by_cases (dec_lt i a) (λ l. inl l) (λ l. inr (tt, omega arith))
earlier_or_newest false a i h = inl (omega arith)

-- a node noted: its numbers are the given ones, where it is an atom
module _ (x : Node) (cs : List ℤ) (k : ℤ) (depth : ℕ) (due : List ℕ) (s : Shape) (p : Question) (h : Sound p s)
    (room : s.nodes < most_nodes) (few : T (is_atom x) → s.atoms < most_atoms) (long : length cs ≡ p.n) where
  sound_as : NotedAs p (noted (is_atom x) x cs k s p) s.nodes s.atoms (is_atom x) x cs k
  sound_as = noted_as (is_atom x) x cs k s p h.sized room few (variables_range p.n h.variables).1 long

  noted_kinds : length (kinds_of (nodes_of (noted (is_atom x) x cs k s p))) ≡ s.atoms + cond (is_atom x) 1 0
  unfolding nodes_of
  noted_kinds =
      ap (λ (l : List ℕ). length (kinds_of (map node_of l))) sound_as.codes
      ∙ kinds_set p.codes s.nodes x (omega (arith, h.sized.codes)) (h.blank.codes s.nodes (omega arith))
      ∙ ap (λ (m : ℕ). m + cond (is_atom x) 1 0) h.kinds

  noted_fits : (T (is_atom x) → T (numbers_fit cs k)) → (i : ℕ) → i < s.atoms + cond (is_atom x) 1 0
      → T (numbers_fit (coefficients_of (noted (is_atom x) x cs k s p) i) (constant_of (noted (is_atom x) x cs k s p) i))
  noted_fits f i l = ⊎_elim
      (λ e. rw (← sound_as.kept.rows i e, ← sound_as.kept.constants i e) (h.fits i e))
      (λ e. rw (e.1, sound_as.row e.0, sound_as.constant e.0) (f e.0))
      (earlier_or_newest (is_atom x) s.atoms i l)

  sound_noted : s.due ≡ depth ∷ due → T (not (is_unused x)) → depth ≤ most_depth → (T (is_atom x) → T (numbers_fit cs k)) → Sound (noted (is_atom x) x cs k s p) (grown x depth due s)
  unfolding grown
  sound_noted first used shallow fit = record {
    sized = sound_as.sized;
    blank = sound_as.blank h.blank;
    variables = rw (← sound_as.kept.n) h.variables;
    formed = formed_grown x depth due s h.formed first room used few shallow;
    kinds = noted_kinds;
    fits = noted_fits fit;
  }

-- a node read
module _ (b : List ℕ) (s r : Reading) (h : Sound s.question s.shape) (t : NodeStep b s r) where
  pub step_as : NotedAs s.question r.question s.shape.nodes s.shape.atoms (is_atom (node_at b s)) (node_at b s) (coefficients_at b s) (constant_at b s)
  step_as =
      subst (λ (q : Reading). NotedAs s.question q.question s.shape.nodes s.shape.atoms (is_atom (node_at b s)) (node_at b s) (coefficients_at b s) (constant_at b s))
      (sym t.after)
      (sound_as (node_at b s) (coefficients_at b s) (constant_at b s) t.depth t.due s.shape s.question h t.there.room t.there.few
      (numbers_length s.question.n b (s.place + 4)))

  pub sound_step : Sound r.question r.shape
  sound_step =
      subst (λ (q : Reading). Sound q.question q.shape)
      (sym t.after)
      (sound_noted (node_at b s) (coefficients_at b s) (constant_at b s) t.depth t.due s.shape s.question h t.there.room t.there.few
      (numbers_length s.question.n b (s.place + 4)) t.first t.there.used t.there.shallow t.there.fit)
