-- A question as far as its nodes are laid, and the first refusal among them.
use Rattle.std.specs.Prelude.{ℕ, ◌≤◌, ◌≡◌, ⊤, Bool, not, ◌&&◌, ◌||◌, List, [], ◌∷◌, ◌++◌, map, length, take, leb, ltb, Result, Ok, Err}
use Rattle.std.proofs.Math.Option.{none, some}
use Rattle.scope.specs.declared.Rule.{Rule}
use Rattle.scope.specs.declared.Question.{Question}
use Rattle.scope.specs.declared.Refusal.{Refusal}
use Rattle.std.specs.List.{list_all}
use Rattle.scope.specs.Sizes.{most_variables, most_atoms, most_nodes, most_depth, coefficient_fits, constant_fits}
use Rattle.scope.specs.Question.{Node, unused, atom, is_atom, Atom}
use Rattle.scope.specs.Tree.{held_by}
use Rattle.scope.specs.Refusals.{Check, check, first_refusal}
use Rattle.smtlib.specs.Imported.{PlacedNode, placed_checks}
use Rattle.laying.specs.declared.Laying.{Laying}

-- ---- the nodes and the atoms of n names among nodes with their places

abbrev pub nodes_laid : List PlacedNode → List Node
nodes_laid xs = map (λ (x : PlacedNode). x.node) xs

abbrev pub atom_laid : ℕ → PlacedNode → Node → List Atom
atom_laid n x unused = []
atom_laid n x (atom κ) = record { kind = κ; coefficients = take n x.coefficients; constant = x.constant } ∷ []
atom_laid n x Node.not = []
atom_laid n x Node.and = []
atom_laid n x Node.or = []

unfoldable pub atoms_laid : ℕ → List PlacedNode → List Atom
atoms_laid n [] = []
atoms_laid n (x ∷ xs) = atom_laid n x x.node ++ atoms_laid n xs

-- room for a node, which may be an atom, behind so many nodes and atoms and at this depth
abbrev pub node_room : Bool → ℕ → ℕ → ℕ → Bool
node_room isAn nodes atoms depth = ltb nodes most_nodes && ((not isAn || ltb atoms most_atoms) && leb depth most_depth)

-- the checks of one node
abbrev pub placed_here : ℕ → ℕ → PlacedNode → List Check
placed_here nodes atoms x =
    check Rule.TooMany x.place (node_room (is_atom x.node) nodes atoms x.depth) ∷
    check Rule.CoefficientBeyond x.place (list_all coefficient_fits x.coefficients) ∷
    check Rule.ConstantBeyond x.place (constant_fits x.constant) ∷
    []

-- ---- what is laid

-- what is laid, as a held question
abbrev pub laid_question : Laying → Question
laid_question l = record { n = l.n; codes = l.codes; coefficients = l.coefficients; constants = l.constants }

pub record HeldIn (xs : List PlacedNode) (l : Laying) : Type 0 where
  pub question_is : laid_question l ≡ held_by l.n (nodes_laid xs) (atoms_laid l.n xs)
  pub nodes_are : l.nodes ≡ length xs
  pub atoms_are : l.atoms ≡ length (atoms_laid l.n xs)

-- none of them is refused
pub record Lays (xs : List PlacedNode) (l : Laying) : Type 0 where
  pub none_refused : first_refusal (placed_checks 0 0 xs) ≡ none
  pub held_in : HeldIn xs l

pub record Layable (l : Laying) : Type 0 where
  pub few : l.n ≤ most_variables

-- more nodes are laid than before: n and the depth are as they were
pub record LaysMore (xs : List PlacedNode) (before after : Laying) : Type 0 where
  pub n_kept : after.n ≡ before.n
  pub depth_kept : after.depth ≡ before.depth
  pub laid_more : (ys : List PlacedNode) → Lays ys before → Lays (ys ++ xs) after

-- more nodes are refused behind those laid
pub record Refuses (xs : List PlacedNode) (before : Laying) (r : Refusal) : Type 0 where
  pub refused_first : (ys : List PlacedNode) → Lays ys before → first_refusal (placed_checks 0 0 (ys ++ xs)) ≡ some r

abbrev pub LaysOr : List PlacedNode → Laying → Result Laying Refusal → Type 0
LaysOr xs before (Ok after) = LaysMore xs before after
LaysOr xs before (Err r) = Refuses xs before r

-- what a call leaves in the laying that it is lent, as its answer
abbrev pub left_as : Laying → Result ⊤ Refusal → Result Laying Refusal
left_as l (Ok done) = Ok l
left_as l (Err r) = Err r
