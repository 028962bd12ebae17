-- A formula's nodes are those of its tree; so what is laid of it is the tree's held value.
use Rattle.std.specs.Prelude.{ℕ, suc, ◌≤◌, ◌≡◌, refl, List, [], ◌∷◌, ◌++◌, Ok, Err, Result}
use Rattle.std.proofs.Common.{sym, ◌∙◌}
use Rattle.std.proofs.Math.Path.{ap}
use Rattle.std.proofs.Math.Option.{Option, some}
use Rattle.std.proofs.lemmas.List.{map-append}
use Rattle.scope.specs.declared.Question.{Question}
use Rattle.scope.specs.declared.Refusal.{Refusal}
use Rattle.scope.specs.Whole.{joined, at_front}
use Rattle.scope.specs.Sizes.{most_variables}
use Rattle.scope.specs.Question.{Node}
use Rattle.scope.specs.Tree.{nodes_in, atoms_in, held_by, held_as}
use Rattle.scope.specs.Refusals.{first_refusal, unless_refused}
use Rattle.smtlib.specs.Formulas.{Formula}
use Rattle.smtlib.specs.Imported.{PlacedNode, placed_from, placed_checks, tree_of, laid_out}
use Rattle.laying.specs.declared.Laying.{Laying}
use Rattle.laying.specs.Laid.{nodes_laid, atoms_laid, laid_question, Layable, Lays, LaysMore, Refuses}
use Rattle.laying.specs.Noted.{empty_laying}
use Rattle.laying.specs.Appended.{atoms_append}

-- ---- its nodes and its atoms

abbrev node_in : PlacedNode → Node
node_in x = x.node

pub tree_nodes : (n depth : ℕ) (f : Formula) → nodes_laid (placed_from depth f) ≡ nodes_in (tree_of n f)
unfolding placed_from nodes_in tree_of
tree_nodes n depth (Formula.atom at κ row k) = refl
tree_nodes n depth (Formula.not at f) = ap (λ (l : List Node). Node.not ∷ l) (tree_nodes n (suc depth) f)
tree_nodes n depth (Formula.and at f g) = ap (λ (l : List Node). Node.and ∷ l) (map-append node_in (placed_from (suc depth) f) (placed_from (suc depth) g) ∙ (λ i. tree_nodes n (suc depth) f i ++ tree_nodes n (suc depth) g i))
tree_nodes n depth (Formula.or at f g) = ap (λ (l : List Node). Node.or ∷ l) (map-append node_in (placed_from (suc depth) f) (placed_from (suc depth) g) ∙ (λ i. tree_nodes n (suc depth) f i ++ tree_nodes n (suc depth) g i))

pub tree_atoms : (n depth : ℕ) (f : Formula) → atoms_laid n (placed_from depth f) ≡ atoms_in (tree_of n f)
unfolding placed_from atoms_laid atoms_in tree_of
tree_atoms n depth (Formula.atom at κ row k) = refl
tree_atoms n depth (Formula.not at f) = tree_atoms n (suc depth) f
tree_atoms n depth (Formula.and at f g) = atoms_append n (placed_from (suc depth) f) (placed_from (suc depth) g) ∙ (λ i. tree_atoms n (suc depth) f i ++ tree_atoms n (suc depth) g i)
tree_atoms n depth (Formula.or at f g) = atoms_append n (placed_from (suc depth) f) (placed_from (suc depth) g) ∙ (λ i. tree_atoms n (suc depth) f i ++ tree_atoms n (suc depth) g i)

-- ---- from nothing to the whole

pub empty_lays : (n : ℕ) → Lays [] (empty_laying n)
unfolding placed_checks first_refusal atoms_laid joined at_front
empty_lays n = record { none_refused = refl; held_in = record { question_is = refl; nodes_are = refl; atoms_are = refl } }

pub empty_layable : (n : ℕ) → n ≤ most_variables → Layable (empty_laying n)
empty_layable n h = record { few = h }

-- what is laid or refused behind nothing is all of it
pub laid_all : (a b : Laying) (xs : List PlacedNode) → Lays [] a → LaysMore xs a b → Lays xs b
laid_all a b xs h m = m.laid_more [] h

pub refused_all : (a : Laying) (xs : List PlacedNode) (r : Refusal) → Lays [] a → Refuses xs a r → first_refusal (placed_checks 0 0 xs) ≡ some r
refused_all a xs r h k = k.refused_first [] h

-- the question that is laid, where nothing was refused
module _ (f : Formula) (l : Laying) (h : Lays (placed_from 1 f) l) where
  pub laid_question_lem : laid_question l ≡ held_as l.n (tree_of l.n f)
  laid_question_lem = h.held_in.question_is ∙ (λ i. held_by l.n (tree_nodes l.n 1 f i) (tree_atoms l.n 1 f i))

  pub laid_accepted : Ok (laid_question l) ≡ laid_out l.n f
  unfolding laid_out
  laid_accepted = ap {B = Result Question Refusal} (λ q. Ok q) laid_question_lem ∙ ap (λ (o : Option Refusal). unless_refused o (held_as l.n (tree_of l.n f))) (sym h.none_refused)

pub laid_refused : (n : ℕ) (f : Formula) (r : Refusal) → first_refusal (placed_checks 0 0 (placed_from 1 f)) ≡ some r → Err r ≡ laid_out n f
unfolding laid_out
laid_refused n f r e = ap (λ (o : Option Refusal). unless_refused o (held_as n (tree_of n f))) (sym e)
