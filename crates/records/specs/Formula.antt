-- The code's shape of a formula, and document 01's: what is due is what stands from top on.
use Rattle.std.specs.Prelude.{ℕ, ◌+◌, ◌≤◌, ◌<◌, ◌≡◌, Bool, true, false, not, ◌&&◌, ◌||◌, List, [], leb, ltb, length, get_or, drop, Option, Some, None}
use Rattle.scope.specs.Sizes.{most_atoms, most_nodes, most_depth}
use Rattle.scope.specs.Question.{node_of}
use Rattle.scope.specs.Wire as wire
use Rattle.records.specs.declared.shape.Shape.{Shape}

-- ---- what a node's size is held to

-- no ninth atom, and no depth 17
abbrev pub size_fits : Bool → ℕ → ℕ → Bool
size_fits atom atoms depth = (not atom || ltb atoms most_atoms) && leb depth most_depth

-- the shape by its counts alone: a node's checks look at no part that is due
abbrev pub counts : ℕ → ℕ → wire.Shape
counts nodes atoms = record { nodes = nodes; atoms = atoms; due = [] }

-- ---- the shape

abbrev pub due_of : Shape → List ℕ
due_of s = drop s.top s.due

abbrev pub shape_of : Shape → wire.Shape
shape_of s = record { nodes = s.nodes; atoms = s.atoms; due = due_of s }

-- no more parts are due than there are nodes, and one
pub record ShapeSound (s : Shape) : Type 0 where
  pub full : length s.due ≡ most_nodes + 2
  pub within : s.top ≤ most_nodes + 2
  pub few : most_nodes + 1 ≤ s.top + s.nodes
  pub bounded : s.nodes ≤ most_nodes
  pub sparse : s.atoms ≤ s.nodes

pub record Unread (s : Shape) : Type 0 where
  pub sound : ShapeSound s
  pub shape : shape_of s ≡ wire.unread

-- the depth of the part that is due first, and the parts due after it
abbrev pub due_depth : Shape → ℕ
due_depth s = get_or s.due s.top 0

abbrev pub later_of : Shape → List ℕ
later_of s = drop (s.top + 1) s.due

-- the depth of the part that is due first, where one is due
abbrev pub depth_or : Bool → ℕ → Option ℕ
depth_or true depth = Some depth
depth_or false depth = None

abbrev pub first_due : Shape → Option ℕ
first_due s = depth_or (ltb s.top (most_nodes + 2)) (due_depth s)

-- a node can take the place of the part that is due first
pub record Open (s : Shape) (code : ℕ) : Type 0 where
  pub sound : ShapeSound s
  pub due : s.top < most_nodes + 2
  pub room : s.nodes < most_nodes
  pub shallow : due_depth s ≤ most_depth
  pub node : 1 ≤ code
  pub known : code ≤ 5

pub record Grown (s : Shape) (code : ℕ) (r : Shape) : Type 0 where
  pub sound : ShapeSound r
  pub shape : shape_of r ≡ wire.grown (node_of code) (due_depth s) (later_of s) (shape_of s)
