-- One node by its checks: refused at the first that fails, or laid. Assumes nothing.
use mathlib.Core.Path.{◌≡◌, refl, subst, sym, ◌∙◌}
use mathlib.Core.Logic.{by_cases}
use mathlib.Core.Bool.{Bool, true, false, not, ◌&&◌, ◌||◌, and-eq-true_iff, true≢false}
use mathlib.Core.List.{List, [], ◌∷◌}
use Prim.Native.Nat.{ℕ, ◌+◌, ◌≤◌, ◌<◌}
use native.Mathlib.Decide.{ℕ_discrete}
use native.Mathlib.Omega.{arith}
use borrow.Author.Tests.{ltb-true, leb-true}
use lib.Dec.{leb, ltb}
use lib.IntN.{ℤ, neg_ℤ, pos}
use lib.ListN.{get_or, drop}
use Rattle.std.proofs.Common.{Result, Ok, Err}
use Rattle.scope.specs.declared.Rule.{Rule}
use Rattle.scope.specs.declared.Refusal.{Refusal}
use Rattle.std.specs.List.{list_all}
use Rattle.scope.specs.Sizes.{most_nodes, most_atoms, most_depth, coefficient_fits, constant_fits}
use Rattle.scope.specs.Question.{node_of, code_of, is_atom}
use Rattle.scope.specs.Refusals.{refusal, first_refusal}
use Rattle.scope.specs.Wire.{noted}
use Rattle.smtlib.specs.Formulas.{lowered}
use Rattle.smtlib.specs.Imported.{PlacedNode, connective}
use Rattle.laying.specs.declared.Laying.{Laying}
use Rattle.laying.specs.Laid.{node_room, Layable, LaysMore, Refuses}
use Rattle.laying.specs.Noted.{at_depth, with_code, with_numbers, relation_of, comparison_code, comparison_laid}
use Rattle.laying.specs.Deeper.{Deepened, DeepenedOr, DeepenedIfOr}
use Rattle.laying.specs.More.{one_refused, one_more, more_onward, more_at_depth, refused_behind, refused_at_depth}

-- ---- what room says

pub record LaidRoom (isAn : Bool) (nodes atoms depth : ℕ) : Type 0 where
  pub few_nodes : nodes < most_nodes
  pub few_atoms : isAn ≡ true → atoms < most_atoms
  pub low : depth ≤ most_depth

pub room_for_lem : (isAn : Bool) (nodes atoms depth : ℕ) → node_room isAn nodes atoms depth ≡ true → LaidRoom isAn nodes atoms depth
room_for_lem isAn nodes atoms depth e =
    let h = (and-eq-true_iff (ltb nodes most_nodes) ((not isAn || ltb atoms most_atoms) && leb depth most_depth)).0 e in
    let k = (and-eq-true_iff (not isAn || ltb atoms most_atoms) (leb depth most_depth)).0 h.1 in
    record { few_nodes = ltb-true nodes most_nodes h.0; few_atoms = λ t. ltb-true atoms most_atoms (rw t at k.0); low = leb-true depth most_depth k.1 }

-- ---- connectives

record ConnectiveCode (code : ℕ) : Type 0 where
  no_atom : is_atom (node_of code) ≡ false
  same_code : code_of (node_of code) ≡ code

connective_code : (code : ℕ) → 3 ≤ code → code ≤ 5 → ConnectiveCode code
connective_code code h k = by_cases (ℕ_discrete code 3) (λ e. rw e (record { no_atom = refl; same_code = refl }))
    (λ f. by_cases (ℕ_discrete code 4) (λ e. rw e (record { no_atom = refl; same_code = refl }))
    (λ g. let e : code ≡ 5 = omega arith in rw e (record { no_atom = refl; same_code = refl })))

module _ (a : Laying) (code place : ℕ) (h : 3 ≤ code) (k : code ≤ 5) where
  pub connective_refused : node_room false a.nodes a.atoms a.depth ≡ false → Refuses (connective place a.depth (node_of code) ∷ []) a (refusal Rule.TooMany place)
  unfolding first_refusal
  connective_refused e = one_refused a (connective place a.depth (node_of code)) _ (rw ((connective_code code h k).no_atom, e) refl)

  pub connective_laid : Layable a → node_room false a.nodes a.atoms a.depth ≡ true → LaysMore (connective place a.depth (node_of code) ∷ []) a (with_code a code)
  unfolding first_refusal noted
  connective_laid ready room =
      let known = connective_code code h k in
      one_more a (connective place a.depth (node_of code)) (with_code a code) ready.few (rw (known.no_atom, room) refl)
      (record { question = rw (known.no_atom, known.same_code) refl; nodes = refl; atoms = rw known.no_atom (omega arith); depth = refl })

-- and then one level deeper
pub one_deeper : (a b : Laying) (x : PlacedNode) → Layable a → LaysMore (x ∷ []) a b → Deepened x a (at_depth b (a.depth + 1))
one_deeper a b x ready m = record {
  ready = record { few = omega (arith, m.n_kept, ready.few) };
  deeper = omega arith;
  onward = λ xs later k. subst (λ (d : ℕ). LaysMore (x ∷ xs) a (at_depth later d)) m.depth_kept (more_onward a b (x ∷ []) m (at_depth later b.depth) xs (more_at_depth b later (a.depth + 1) xs k));
  refused = λ xs r k. refused_behind a b (x ∷ []) m xs r (refused_at_depth b (a.depth + 1) xs r k);
}

pub asked_deeper : (asked : Bool) (x : PlacedNode) (before : Laying) (r : Result Laying Refusal) → asked ≡ true → DeepenedOr x before r → DeepenedIfOr asked x before r
asked_deeper asked x before (Ok after) e d = record { asked_for = λ f. d; as_before = λ f. absurd (true≢false (sym e ∙ f)) }
asked_deeper asked x before (Err r) e d = (e, d)

-- ---- comparisons

module _ (a : Laying) (head place : ℕ) (numbers : List ℤ) where
  abbrev atom : PlacedNode
  atom = comparison_laid a.depth head place numbers

  pub no_room_lem : node_room true a.nodes a.atoms a.depth ≡ false → Refuses (atom ∷ []) a (refusal Rule.TooMany place)
  unfolding first_refusal
  no_room_lem e = one_refused a atom _ (rw e refl)

  module _ (room : node_room true a.nodes a.atoms a.depth ≡ true) where
    pub coefficient_beyond : list_all coefficient_fits (drop 1 numbers) ≡ false → Refuses (atom ∷ []) a (refusal Rule.CoefficientBeyond place)
    unfolding first_refusal
    coefficient_beyond e = one_refused a atom _ (rw (room, e) refl)

    module _ (few : list_all coefficient_fits (drop 1 numbers) ≡ true) (k : ℤ) (is : k ≡ lowered (relation_of head) (neg_ℤ (get_or numbers 0 (pos 0)))) where
      pub constant_beyond : constant_fits k ≡ false → Refuses (atom ∷ []) a (refusal Rule.ConstantBeyond place)
      unfolding first_refusal
      constant_beyond f = one_refused a atom _ (rw (room, few, rw is at f) refl)

      pub comparison_laid_lem : Layable a → constant_fits k ≡ true → LaysMore (atom ∷ []) a (with_code (with_numbers a (drop 1 numbers) k) (comparison_code head))
      unfolding first_refusal noted
      comparison_laid_lem ready f =
          one_more a atom _ ready.few (rw (room, few, rw is at f) refl)
          (record { question = rw is refl; nodes = refl; atoms = refl; depth = refl })
