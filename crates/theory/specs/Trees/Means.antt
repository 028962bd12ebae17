-- What a tree's held value says of naturals is the tree's truth, by not, and, or over whole-number comparisons.
use Rattle.std.specs.Prelude.{◌≡◌, refl, Bool, not, ◌&&◌, ◌||◌, List, [], ◌∷◌, ◌++◌, map, ℕ, zero, suc, ◌-◌, ◌≤◌, T, length, replicate}
use Rattle.std.proofs.Common.{sym, ap, ◌∙◌, append_assoc, append-nil, arith}
use Rattle.std.proofs.lemmas.List.{map-append}
use Rattle.scope.specs.Question.{Node, unused, Atom, atoms_of}
use Rattle.scope.specs.States.{Settled, settled, formula_worth, holds, satisfied}
use Rattle.scope.specs.Tree.{Tree, nodes_in, atoms_in, depth_of, within_limits, held_as, true_for}
use Rattle.scope.specs.Sizes.{most_depth, most_nodes}
use Rattle.theory.specs.Wire.Sound.{variables_range}
use Rattle.theory.specs.Trees.Limits.{TreeLimits, tree_limits, tree_fits, fits_wide, some_depth, held_nodes, held_atoms}

-- settling a tree's nodes gives its truth, and uses up exactly its nodes and its atoms' worths
settled_tree : (d : ℕ) (t : Tree) (xs : List ℕ) (ys : List Node) (ws : List Bool) → depth_of t ≤ d
    → settled d (nodes_in t ++ ys) (map (λ (a : Atom). holds a xs) (atoms_in t) ++ ws) ≡ record { truth = true_for t xs; nodes = ys; worths = ws }
unfolding settled nodes_in atoms_in depth_of true_for
settled_tree zero t xs ys ws h = absurd (omega (arith, some_depth t))
settled_tree (suc d) (Tree.atom a) xs ys ws h = refl
settled_tree (suc d) (Tree.not t) xs ys ws h = ap (λ (p : Settled). record { truth = not p.truth; nodes = p.nodes; worths = p.worths }) (settled_tree d t xs ys ws (omega arith))
settled_tree (suc d) (Tree.and t u) xs ys ws h =
    let w : Atom → Bool = λ (a : Atom). holds a xs in
    (λ i. settled (suc d) (Node.and ∷ append_assoc (nodes_in t) (nodes_in u) ys i)
    ((ap (λ (l : List Bool). l ++ ws) (map-append w (atoms_in t) (atoms_in u)) ∙ append_assoc (map w (atoms_in t)) (map w (atoms_in u)) ws) i))
    ∙ ap (λ (p : Settled). let r = settled d p.nodes p.worths in record { truth = p.truth && r.truth; nodes = r.nodes; worths = r.worths })
    (settled_tree d t xs (nodes_in u ++ ys) (map w (atoms_in u) ++ ws) (omega arith))
    ∙ ap (λ (r : Settled). record { truth = true_for t xs && r.truth; nodes = r.nodes; worths = r.worths }) (settled_tree d u xs ys ws (omega arith))
settled_tree (suc d) (Tree.or t u) xs ys ws h =
    let w : Atom → Bool = λ (a : Atom). holds a xs in
    (λ i. settled (suc d) (Node.or ∷ append_assoc (nodes_in t) (nodes_in u) ys i)
    ((ap (λ (l : List Bool). l ++ ws) (map-append w (atoms_in t) (atoms_in u)) ∙ append_assoc (map w (atoms_in t)) (map w (atoms_in u)) ws) i))
    ∙ ap (λ (p : Settled). let r = settled d p.nodes p.worths in record { truth = p.truth || r.truth; nodes = r.nodes; worths = r.worths })
    (settled_tree d t xs (nodes_in u ++ ys) (map w (atoms_in u) ++ ws) (omega arith))
    ∙ ap (λ (r : Settled). record { truth = true_for t xs || r.truth; nodes = r.nodes; worths = r.worths }) (settled_tree d u xs ys ws (omega arith))

pub tree_means : (n : ℕ) (t : Tree) → T (within_limits n t) → (xs : List ℕ) → satisfied (held_as n t) xs ≡ true_for t xs
unfolding satisfied formula_worth
tree_means n t within xs =
    let l : TreeLimits n t = (tree_limits n t).0 within in
    let w : Atom → Bool = λ (a : Atom). holds a xs in
    let fits = tree_fits n 1 t (omega (arith, l.depth)) l.numbers in
    let atoms : atoms_of (held_as n t) ≡ atoms_in t = held_atoms n t (variables_range n l.variables).1 (fits_wide n 1 t fits) in
    (λ i. (settled most_depth (held_nodes n (nodes_in t) (atoms_in t) i) ((ap (map w) atoms ∙ sym (append-nil (map w (atoms_in t)))) i)).truth)
    ∙ ap (λ (p : Settled). p.truth) (settled_tree most_depth t xs (replicate (most_nodes - length (nodes_in t)) unused) [] l.depth)
