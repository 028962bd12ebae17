-- A part of the formula that is settled, by places: what is left of the nodes and of the worths starts at the node and the atom after it.
use Rattle.std.specs.Prelude.{ℕ, ◌+◌, ◌≤◌, ◌<◌, ◌≡◌, Bool, List, ◌∷◌, map, length, get_or, drop}
use Rattle.std.proofs.Common.{add-one, arith, sym, ◌∙◌, drop-cons}
use Rattle.std.proofs.lemmas.List.{length-map}
use Rattle.std.proofs.Math.ListN.{get_or-map}
use Rattle.scope.specs.Question.{unused, node_of}
use Rattle.scope.specs.States.{Settled, settled}
use Rattle.scope.specs.Sizes.{most_atoms, most_nodes}
use Rattle.formula.specs.declared.Part.{Part}
use Rattle.formula.specs.Truths.{truth_at}

-- all codes, and a node and an atom among 64 and 8 or at their ends
pub record Placed (codes : List ℕ) (node atom : ℕ) : Type 0 where
  pub codes_whole : length codes ≡ most_nodes
  pub node_within : node ≤ most_nodes
  pub atom_within : atom ≤ most_atoms

-- the definition's part, of which the code has the places
abbrev pub meant : List ℕ → List Bool → Part → Settled
meant codes worths p = record { truth = truth_at p.truths worths; nodes = drop p.node (map node_of codes); worths = drop p.atom worths }

-- the part that starts at a node and an atom, at most depth deep, is p, whatever the atoms are worth
pub record Settles (codes : List ℕ) (node atom depth : ℕ) (p : Part) : Type 0 where
  pub four : length p.truths ≡ 4
  pub part : (worths : List Bool) → length worths ≡ most_atoms → settled depth (drop node (map node_of codes)) (drop atom worths) ≡ meant codes worths p
  pub node_after : p.node ≤ most_nodes
  pub atom_after : p.atom ≤ most_atoms

-- the nodes from a place on
pub node_first : (codes : List ℕ) (node : ℕ) → node < length codes → drop node (map node_of codes) ≡ node_of (get_or codes node 0) ∷ drop (node + 1) (map node_of codes)
node_first codes node l =
    let h : node < length (map node_of codes) = omega (arith, length-map codes node_of) in
    drop-cons (map node_of codes) node unused h ∙ (λ i. get_or-map node_of codes node 0 i ∷ drop (sym (add-one node) i) (map node_of codes))
