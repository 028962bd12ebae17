-- Document 02, E2: the question of a text, its limits node by node, and the import whole.
use Rattle.std.specs.Prelude.{ℕ, suc, ◌+◌, not, cond, ◌&&◌, ◌||◌, List, [], ◌∷◌, ◌++◌, length, take, get_or, leb, ltb, ℤ, pos, Err, Result}
use Rattle.std.proofs.Math.Option.{Option, none, some}
use Rattle.scope.specs.declared.Question.{Question}
use Rattle.scope.specs.declared.Rule.{Rule}
use Rattle.scope.specs.declared.Refusal.{Refusal}
use Rattle.std.specs.List.{list_all}
use Rattle.scope.specs.Sizes.{most_atoms, most_nodes, most_depth, coefficient_fits, constant_fits}
use Rattle.scope.specs.Question.{Node, is_atom}
use Rattle.scope.specs.Tree.{Tree, held_as}
use Rattle.scope.specs.Refusals.{Check, check, refusal, first_refusal, unless_refused}
use Rattle.smtlib.specs.Lexicon.{is, broken_at}
use Rattle.smtlib.specs.Forms.{forms_of}
use Rattle.smtlib.specs.Formulas.{Formula, Clause, outside_clause, joined_at}
use Rattle.smtlib.specs.Script.{Declaration, Script, script_of, fault_of}

-- the assertions in order, joined by and
abbrev pub conjoined : List Clause → Formula
conjoined [] = (outside_clause 0).formula
conjoined (c ∷ cs) = joined_at Formula.and c.place c cs

-- ---- its nodes in the question's order, each with its place and its depth, and an atom's with its numbers

pub record PlacedNode : Type 0 where
  pub place : ℕ
  pub depth : ℕ
  pub node : Node
  pub coefficients : List ℤ
  pub constant : ℤ

abbrev pub connective : ℕ → ℕ → Node → PlacedNode
connective at depth x = record { place = at; depth = depth; node = x; coefficients = []; constant = pos 0 }

unfoldable pub placed_from : ℕ → Formula → List PlacedNode
placed_from depth (Formula.atom at κ row k) = record { place = at; depth = depth; node = Node.atom κ; coefficients = row; constant = k } ∷ []
placed_from depth (Formula.not at f) = connective at depth Node.not ∷ placed_from (suc depth) f
placed_from depth (Formula.and at f g) = connective at depth Node.and ∷ (placed_from (suc depth) f ++ placed_from (suc depth) g)
placed_from depth (Formula.or at f g) = connective at depth Node.or ∷ (placed_from (suc depth) f ++ placed_from (suc depth) g)

-- 5, 12 and 13, node by node, with so many nodes and atoms before
unfoldable pub placed_checks : ℕ → ℕ → List PlacedNode → List Check
placed_checks nodes atoms [] = []
placed_checks nodes atoms (x ∷ xs) =
    check Rule.TooMany x.place (ltb nodes most_nodes && ((not (is_atom x.node) || ltb atoms most_atoms) && leb x.depth most_depth)) ∷
    check Rule.CoefficientBeyond x.place (list_all coefficient_fits x.coefficients) ∷
    check Rule.ConstantBeyond x.place (constant_fits x.constant) ∷
    placed_checks (suc nodes) (atoms + cond (is_atom x.node) 1 0) xs

-- ---- the question of n names

unfoldable pub tree_of : ℕ → Formula → Tree
tree_of n (Formula.atom at κ row k) = Tree.atom (record { kind = κ; coefficients = take n row; constant = k })
tree_of n (Formula.not at f) = Tree.not (tree_of n f)
tree_of n (Formula.and at f g) = Tree.and (tree_of n f) (tree_of n g)
tree_of n (Formula.or at f g) = Tree.or (tree_of n f) (tree_of n g)

-- ---- the import: 14, then 15 and 4, then 5, 12 and 13

unfoldable pub laid_out : ℕ → Formula → Result Question Refusal
laid_out n f = unless_refused (first_refusal (placed_checks 0 0 (placed_from 1 f))) (held_as n (tree_of n f))

abbrev pub laid_unless : Option Refusal → Script → Result Question Refusal
laid_unless none s = laid_out (length s.declarations) (conjoined s.asserted)
laid_unless (some r) s = Err r

abbrev pub imported_if : Option ℕ → List ℕ → Result Question Refusal
imported_if none text = let s = script_of (forms_of text) in laid_unless (fault_of (length text) s) s
imported_if (some at) text = Err (refusal Rule.NotWellFormed at)

unfoldable pub imported : List ℕ → Result Question Refusal
imported text = imported_if (broken_at text) text

-- ---- the names of an accepted text, by the places of their first byte and behind their last, as they are spelt: without bars

abbrev pub spelt_from : List ℕ → ℕ → ℕ
spelt_from text at = cond (is "|" (get_or text at 0)) (suc at) at

unfoldable pub bounds_of : List ℕ → List Declaration → List ℕ
bounds_of text [] = []
bounds_of text (d ∷ ds) = let from = spelt_from text d.name_place in from ∷ (from + length d.name) ∷ bounds_of text ds
