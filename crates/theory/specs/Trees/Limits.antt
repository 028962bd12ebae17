-- Questions as trees: the limits of a tree, part by part; and its held value, which grows by a node at a time and holds the tree's nodes and atoms.
use Rattle.std.specs.Prelude.{◌≡◌, refl, ◌↔◌, Bool, true, false, ◌&&◌, ℕ, zero, suc, ◌+◌, ◌*◌, ◌-◌, ◌≤◌, ◌<◌, T, leb, eqb, get_or, take, drop, replicate, pos}
use Rattle.std.proofs.Math.Path.{sym, ap}
use Rattle.std.proofs.Common.{◌∙◌, add-zero, add-one, arith, leb→le, le→leb, eqb→eq, length-append, drop-drop, get_or-drop, take_at, drop_at}
use mathlib.Core.List.{List, [], ◌∷◌, ◌++◌, map, map-append, append_assoc, append-nil}
use Rattle.std.proofs.Math.ListN.{length, set, length-map, length-replicate}
use Rattle.std.proofs.Math.Seq.{sets}
use Rattle.std.proofs.Math.IntN.{ℤ}
use Rattle.scope.specs.declared.Question.{Question}
use Rattle.scope.specs.Whole.{joined, at_front}
use Rattle.std.specs.List.{list_all}
use Rattle.scope.specs.Sizes.{variables_fit, numbers_fit, most_atoms, most_coefficients, most_depth, most_nodes, most_variables}
use Rattle.scope.specs.Question.{Kind, equation, Node, unused, node_of, code_of, is_atom, nodes_of, kinds_of, Atom, atoms_from, atoms_of, coefficients_of, constant_of}
use Rattle.scope.specs.Wire.{Shape, noted}
use Rattle.scope.specs.Tree.{Tree, nodes_in, atoms_in, depth_of, atom_fits, within_limits, row_of, held_by, held_as}
use Rattle.theory.specs.Wire.Checks.{and_first, and_second, and_both}
use Rattle.theory.specs.Wire.Records.{node_of_code}
use Rattle.theory.specs.Wire.Noting.{kinds_append}
use Rattle.theory.specs.Wire.ReadingSteps.{eq→eqb}
use Rattle.theory.specs.Numbers.Joined.{joined_length, joined_append, at_front_length, at_front_set, at_front_sets, at_front_same, Each, each_append, each_at}

-- ---- the limits, one by one

pub record TreeLimits (n : ℕ) (t : Tree) : Type 0 where
  pub variables : T (variables_fit n)
  pub nodes : length (nodes_in t) ≤ most_nodes
  pub atoms : length (atoms_in t) ≤ most_atoms
  pub depth : depth_of t ≤ most_depth
  pub numbers : T (list_all (atom_fits n) (atoms_in t))

pub tree_limits : (n : ℕ) (t : Tree) → T (within_limits n t) ↔ TreeLimits n t
unfolding within_limits
tree_limits n t = (facts, tests)
  where
    nodes : Bool
    nodes = leb (length (nodes_in t)) most_nodes

    atoms : Bool
    atoms = leb (length (atoms_in t)) most_atoms

    depth : Bool
    depth = leb (depth_of t) most_depth

    numbers : Bool
    numbers = list_all (atom_fits n) (atoms_in t)

    facts : T (variables_fit n && (nodes && (atoms && (depth && numbers)))) → TreeLimits n t
    facts h =
        let h₁ = and_second (variables_fit n) (nodes && (atoms && (depth && numbers))) h in
        let h₂ = and_second nodes (atoms && (depth && numbers)) h₁ in
        let h₃ = and_second atoms (depth && numbers) h₂ in
        record {
          variables = and_first (variables_fit n) (nodes && (atoms && (depth && numbers))) h;
          nodes = leb→le (length (nodes_in t)) most_nodes (and_first nodes (atoms && (depth && numbers)) h₁);
          atoms = leb→le (length (atoms_in t)) most_atoms (and_first atoms (depth && numbers) h₂);
          depth = leb→le (depth_of t) most_depth (and_first depth numbers h₃);
          numbers = and_second depth numbers h₃;
        }

    tests : TreeLimits n t → T (variables_fit n && (nodes && (atoms && (depth && numbers))))
    tests l =
        and_both (variables_fit n) (nodes && (atoms && (depth && numbers))) l.variables
        (and_both nodes (atoms && (depth && numbers)) (le→leb (length (nodes_in t)) most_nodes l.nodes)
        (and_both atoms (depth && numbers) (le→leb (length (atoms_in t)) most_atoms l.atoms)
        (and_both depth numbers (le→leb (depth_of t) most_depth l.depth) l.numbers)))

-- ---- of a part whose root is at a depth: no atom deeper than 16, n coefficients in each, numbers within their limits

abbrev pub Fits : ℕ → ℕ → Tree → Type 0
Fits n depth (Tree.atom a) = (depth ≤ most_depth) × (length a.coefficients ≡ n) × T (numbers_fit a.coefficients a.constant)
Fits n depth (Tree.not t) = Fits n (depth + 1) t
Fits n depth (Tree.and t u) = Fits n (depth + 1) t × Fits n (depth + 1) u
Fits n depth (Tree.or t u) = Fits n (depth + 1) t × Fits n (depth + 1) u

pub some_depth : (t : Tree) → 1 ≤ depth_of t
unfolding depth_of
some_depth (Tree.atom a) = omega arith
some_depth (Tree.not t) = omega arith
some_depth (Tree.and t u) = omega arith
some_depth (Tree.or t u) = omega arith

all_append : {A : Type 0} (f : A → Bool) (l k : List A) → T (list_all f (l ++ k)) ↔ (T (list_all f l) × T (list_all f k))
all_append f [] k = (λ h. (tt, h), λ h. h.1)
all_append f (x ∷ l) k = (
  λ h. let r = (all_append f l k).0 (and_second (f x) (list_all f (l ++ k)) h) in (and_both (f x) (list_all f l) (and_first (f x) (list_all f (l ++ k)) h) r.0, r.1),
  λ h. and_both (f x) (list_all f (l ++ k)) (and_first (f x) (list_all f l) h.0) ((all_append f l k).1 (and_second (f x) (list_all f l) h.0, h.1)),
)

pub tree_fits : (n depth : ℕ) (t : Tree) → (depth + depth_of t ≤ 17) → T (list_all (atom_fits n) (atoms_in t)) → Fits n depth t
unfolding depth_of atoms_in atom_fits
tree_fits n depth (Tree.atom a) d h =
    let f = and_first (atom_fits n a) true h in
    let count = eqb (length a.coefficients) n in
    let numbers = numbers_fit a.coefficients a.constant in
    (omega arith, eqb→eq (length a.coefficients) n (and_first count numbers f), and_second count numbers f)
tree_fits n depth (Tree.not t) d h = tree_fits n (depth + 1) t (omega arith) h
tree_fits n depth (Tree.and t u) d h = let r = (all_append (atom_fits n) (atoms_in t) (atoms_in u)).0 h in (tree_fits n (depth + 1) t (omega arith) r.0, tree_fits n (depth + 1) u (omega arith) r.1)
tree_fits n depth (Tree.or t u) d h = let r = (all_append (atom_fits n) (atoms_in t) (atoms_in u)).0 h in (tree_fits n (depth + 1) t (omega arith) r.0, tree_fits n (depth + 1) u (omega arith) r.1)

pub fits_tree : (n depth : ℕ) (t : Tree) → Fits n depth t → (depth + depth_of t ≤ 17) × T (list_all (atom_fits n) (atoms_in t))
unfolding depth_of atoms_in atom_fits
fits_tree n depth (Tree.atom a) f =
    let count = eqb (length a.coefficients) n in
    let numbers = numbers_fit a.coefficients a.constant in
    (omega (arith, f.0), and_both (atom_fits n a) true (and_both count numbers (eq→eqb (length a.coefficients) n f.1) f.2) tt)
fits_tree n depth (Tree.not t) f = let r = fits_tree n (depth + 1) t f in (omega (arith, r.0), r.1)
fits_tree n depth (Tree.and t u) f =
    let r = fits_tree n (depth + 1) t f.0 in
    let s = fits_tree n (depth + 1) u f.1 in
    (omega (arith, r.0, s.0), (all_append (atom_fits n) (atoms_in t) (atoms_in u)).1 (r.1, s.1))
fits_tree n depth (Tree.or t u) f =
    let r = fits_tree n (depth + 1) t f.0 in
    let s = fits_tree n (depth + 1) u f.1 in
    (omega (arith, r.0, s.0), (all_append (atom_fits n) (atoms_in t) (atoms_in u)).1 (r.1, s.1))

pub fits_depth : (n depth : ℕ) (t : Tree) → Fits n depth t → depth ≤ most_depth
fits_depth n depth t f = omega (arith, (fits_tree n depth t f).0, some_depth t)

pub some_node : (t : Tree) → 1 ≤ length (nodes_in t)
unfolding nodes_in
some_node (Tree.atom a) = omega arith
some_node (Tree.not t) = omega arith
some_node (Tree.and t u) = omega arith
some_node (Tree.or t u) = omega arith

-- ---- the held value grows by a node at a time

module _ {A : Type 0} where
  drop_same : (k m : ℕ) (z : A) → drop k (replicate m z) ≡ replicate (m - k) z
  drop_same zero m z = let e : m ≡ m - 0 = omega arith in ap (λ (j : ℕ). replicate j z) e
  drop_same (suc k) zero z = let e : 0 ≡ 0 - suc k = omega arith in ap (λ (j : ℕ). replicate j z) e
  drop_same (suc k) (suc m) z = let e : m - k ≡ suc m - suc k = omega arith in drop_same k m z ∙ ap (λ (j : ℕ). replicate j z) e

  take_same : (k m : ℕ) (z : A) → k ≤ m → take k (replicate m z) ≡ replicate k z
  take_same zero m z h = refl
  take_same (suc k) zero z h = absurd (omega arith)
  take_same (suc k) (suc m) z h = ap (λ (r : List A). z ∷ r) (take_same k m z (omega arith))

-- the atom of a node that is one
abbrev pub leaf_of : Node → List ℤ → ℤ → List Atom
leaf_of unused cs k = []
leaf_of (Node.atom κ) cs k = record { kind = κ; coefficients = cs; constant = k } ∷ []
leaf_of Node.not cs k = []
leaf_of Node.and cs k = []
leaf_of Node.or cs k = []

-- the rows of six, one after the other
row_length : (a : Atom) → length a.coefficients ≤ most_variables → length (row_of a) ≡ most_variables
unfolding row_of
row_length a h = at_front_length a.coefficients (replicate most_variables (pos 0)) h

-- each atom has at most six coefficients
abbrev pub Narrow : List Atom → Type 0
Narrow ats = Each (λ (a : Atom). length a.coefficients ≤ most_variables) ats

rows_length : (ats : List Atom) → Narrow ats → length (joined (map row_of ats)) ≡ most_variables * length ats
rows_length ats narrow =
    let none : Atom = record { kind = equation; coefficients = []; constant = pos 0 } in
    joined_length row_of most_variables none ats (λ t h. row_length (get_or ats t none) (each_at (λ (a : Atom). length a.coefficients ≤ most_variables) ats none narrow t h)) ∙ omega arith

-- an atom's coefficients put over zeros are its row
row_put : (ats : List Atom) (a : Atom) → Narrow ats → length a.coefficients ≤ most_variables → length ats < most_atoms
    → sets (at_front (joined (map row_of ats)) (replicate most_coefficients (pos 0))) (most_variables * length ats) a.coefficients ≡ at_front (joined (map row_of (ats ++ (a ∷ [])))) (replicate most_coefficients (pos 0))
unfolding row_of at_front joined
row_put ats a narrow short few =
    let rows : List ℤ = joined (map row_of ats) in
    let cs : List ℤ = a.coefficients in
    let zeros : List ℤ = replicate most_coefficients (pos 0) in
    let long : length rows ≡ most_variables * length ats = rows_length ats narrow in
    let long₁ : length (rows ++ cs) ≡ length rows + length cs = length-append rows cs in
    let room : most_variables - length cs ≤ most_coefficients - length (rows ++ cs) = omega (arith, long, long₁) in
    let blank : drop (length cs) (replicate most_variables (pos 0)) ≡ take (most_variables - length cs) (drop (length (rows ++ cs)) zeros) =
    drop_same (length cs) most_variables (pos 0) ∙ sym (ap (take (most_variables - length cs)) (drop_same (length (rows ++ cs)) most_coefficients (pos 0)) ∙ take_same (most_variables - length cs) (most_coefficients - length (rows ++ cs)) (pos 0) room) in
    let all_rows : joined (map row_of (ats ++ (a ∷ []))) ≡ (rows ++ cs) ++ drop (length cs) (replicate most_variables (pos 0)) =
    ap joined (map-append row_of ats (a ∷ [])) ∙ joined_append (map row_of ats) (row_of a ∷ []) ∙ ap (λ (r : List ℤ). rows ++ r) (append-nil (row_of a)) ∙ sym (append_assoc rows cs (drop (length cs) (replicate most_variables (pos 0)))) in
    ap (λ (k : ℕ). sets (at_front rows zeros) k cs) (sym long)
    ∙ at_front_sets rows zeros cs (omega (arith, long, length-replicate {A = ℤ} most_coefficients (pos 0)))
    ∙ sym (at_front_same (rows ++ cs) zeros (most_variables - length cs))
    ∙ ap (λ (r : List ℤ). at_front ((rows ++ cs) ++ r) zeros) (sym blank)
    ∙ ap (λ (r : List ℤ). at_front r zeros) (sym all_rows)

module _ (n : ℕ) (xs : List Node) (ats : List Atom) (narrow : Narrow ats) (s : Shape) (nodes : s.nodes ≡ length xs) (atoms : s.atoms ≡ length ats) (room : length xs < most_nodes) where
  code_put : (x : Node) → set (at_front (map code_of xs) (replicate most_nodes 0)) s.nodes (code_of x) ≡ at_front (map code_of (xs ++ (x ∷ []))) (replicate most_nodes 0)
  code_put x =
      let long : length (map code_of xs) ≡ length xs = length-map xs code_of in
      ap (λ (k : ℕ). set (at_front (map code_of xs) (replicate most_nodes 0)) k (code_of x)) (nodes ∙ sym long)
      ∙ at_front_set (map code_of xs) (replicate most_nodes 0) (code_of x) (omega (arith, long, length-replicate {A = ℕ} most_nodes 0))
      ∙ ap (λ (l : List ℕ). at_front l (replicate most_nodes 0)) (sym (map-append code_of xs (x ∷ [])))

  connective_put : (x : Node) (cs : List ℤ) (k : ℤ) → noted false x cs k s (held_by n xs ats) ≡ held_by n (xs ++ (x ∷ [])) (ats ++ [])
  unfolding noted
  connective_put x cs k =
      (λ i. record { n = n; codes = code_put x i; coefficients = (held_by n xs ats).coefficients; constants = (held_by n xs ats).constants })
      ∙ ap (held_by n (xs ++ (x ∷ []))) (sym (append-nil ats))

  atom_put : (κ : Kind) (cs : List ℤ) (k : ℤ) → length cs ≤ most_variables → length ats < most_atoms
      → noted true (Node.atom κ) cs k s (held_by n xs ats) ≡ held_by n (xs ++ (Node.atom κ ∷ [])) (ats ++ (record { kind = κ; coefficients = cs; constant = k } ∷ []))
  unfolding noted
  atom_put κ cs k short few =
      let a : Atom = record { kind = κ; coefficients = cs; constant = k } in
      let of : Atom → ℤ = λ (a : Atom). a.constant in
      let long : length (map of ats) ≡ length ats = length-map ats of in
      let row : sets (at_front (joined (map row_of ats)) (replicate most_coefficients (pos 0))) (most_variables * s.atoms) cs ≡ at_front (joined (map row_of (ats ++ (a ∷ [])))) (replicate most_coefficients (pos 0)) =
      ap (λ (j : ℕ). sets (at_front (joined (map row_of ats)) (replicate most_coefficients (pos 0))) (most_variables * j) cs) atoms ∙ row_put ats a narrow short few in
      let constant : set (at_front (map of ats) (replicate most_atoms (pos 0))) s.atoms k ≡ at_front (map of (ats ++ (a ∷ []))) (replicate most_atoms (pos 0)) =
      ap (λ (j : ℕ). set (at_front (map of ats) (replicate most_atoms (pos 0))) j k) (atoms ∙ sym long)
      ∙ at_front_set (map of ats) (replicate most_atoms (pos 0)) k (omega (arith, long, length-replicate {A = ℤ} most_atoms (pos 0)))
      ∙ ap (λ (l : List ℤ). at_front l (replicate most_atoms (pos 0))) (sym (map-append of ats (a ∷ []))) in
      λ i. record { n = n; codes = code_put (Node.atom κ) i; coefficients = row i; constants = constant i }

  -- a node noted in a held value
  pub held_more : (x : Node) (cs : List ℤ) (k : ℤ) → length cs ≤ most_variables → (T (is_atom x) → length ats < most_atoms)
      → noted (is_atom x) x cs k s (held_by n xs ats) ≡ held_by n (xs ++ (x ∷ [])) (ats ++ leaf_of x cs k)
  held_more unused cs k short few = connective_put unused cs k
  held_more (Node.atom κ) cs k short few = atom_put κ cs k short (few tt)
  held_more Node.not cs k short few = connective_put Node.not cs k
  held_more Node.and cs k short few = connective_put Node.and cs k
  held_more Node.or cs k short few = connective_put Node.or cs k

-- ---- the nodes and the atoms that a held value holds

all_unused : (k : ℕ) → map node_of (replicate k 0) ≡ replicate k unused
all_unused zero = refl
all_unused (suc k) = ap (λ (l : List Node). unused ∷ l) (all_unused k)

back_to_nodes : (xs : List Node) → map node_of (map code_of xs) ≡ xs
back_to_nodes [] = refl
back_to_nodes (x ∷ xs) = λ i. node_of_code x i ∷ back_to_nodes xs i

pub held_nodes : (n : ℕ) (xs : List Node) (ats : List Atom) → nodes_of (held_by n xs ats) ≡ xs ++ replicate (most_nodes - length xs) unused
unfolding nodes_of at_front
held_nodes n xs ats =
    map-append node_of (map code_of xs) (drop (length (map code_of xs)) (replicate most_nodes 0))
    ∙ (λ i. back_to_nodes xs i ++ map node_of (drop_same (length-map xs code_of i) most_nodes 0 i))
    ∙ ap (λ (l : List Node). xs ++ l) (all_unused (most_nodes - length xs))

no_kinds : (k : ℕ) → kinds_of (replicate k unused) ≡ []
unfolding kinds_of
no_kinds zero = refl
no_kinds (suc k) = no_kinds k

abbrev kind_in : Atom → Kind
kind_in a = a.kind

tree_kinds : (t : Tree) → kinds_of (nodes_in t) ≡ map kind_in (atoms_in t)
unfolding kinds_of nodes_in atoms_in
tree_kinds (Tree.atom a) = refl
tree_kinds (Tree.not t) = tree_kinds t
tree_kinds (Tree.and t u) = kinds_append (nodes_in t) (nodes_in u) ∙ (λ i. tree_kinds t i ++ tree_kinds u i) ∙ sym (map-append kind_in (atoms_in t) (atoms_in u))
tree_kinds (Tree.or t u) = kinds_append (nodes_in t) (nodes_in u) ∙ (λ i. tree_kinds t i ++ tree_kinds u i) ∙ sym (map-append kind_in (atoms_in t) (atoms_in u))

-- each atom has n coefficients
abbrev pub Wide : ℕ → List Atom → Type 0
Wide n ats = Each (λ (a : Atom). length a.coefficients ≡ n) ats

pub fits_wide : (n depth : ℕ) (t : Tree) → Fits n depth t → Wide n (atoms_in t)
unfolding atoms_in
fits_wide n depth (Tree.atom a) f = (f.1, tt)
fits_wide n depth (Tree.not t) f = fits_wide n (depth + 1) t f
fits_wide n depth (Tree.and t u) f = each_append (λ (a : Atom). length a.coefficients ≡ n) (atoms_in t) (atoms_in u) (fits_wide n (depth + 1) t f.0) (fits_wide n (depth + 1) u f.1)
fits_wide n depth (Tree.or t u) f = each_append (λ (a : Atom). length a.coefficients ≡ n) (atoms_in t) (atoms_in u) (fits_wide n (depth + 1) t f.0) (fits_wide n (depth + 1) u f.1)

abbrev constant_in : Atom → ℤ
constant_in a = a.constant

-- by what stands from row i and from constant i on
atoms_from_lem : (q : Question) (i : ℕ) (ats : List Atom) (cells constants : List ℤ) → q.n ≤ most_variables → Wide q.n ats
    → drop (most_variables * i) q.coefficients ≡ joined (map row_of ats) ++ cells → drop i q.constants ≡ map constant_in ats ++ constants → atoms_from q i (map kind_in ats) ≡ ats
unfolding atoms_from coefficients_of constant_of row_of at_front joined
atoms_from_lem q i [] cells constants six wide e f = refl
atoms_from_lem q i (a ∷ ats) cells constants six wide e f =
    let cs : List ℤ = a.coefficients in
    let zeros : List ℤ = drop (length cs) (replicate most_variables (pos 0)) in
    let rows : List ℤ = joined (map row_of ats) in
    let start : drop (most_variables * i) q.coefficients ≡ (row_of a) ++ (rows ++ cells) = e ∙ append_assoc (row_of a) rows cells in
    let long : length (row_of a) ≡ most_variables = row_length a (omega (arith, wide.0)) in
    let row : take q.n (drop (most_variables * i) q.coefficients) ≡ cs =
    ap (take q.n) (start ∙ append_assoc cs zeros (rows ++ cells)) ∙ take_at cs (zeros ++ (rows ++ cells)) q.n wide.0 in
    let constant : get_or q.constants i (pos 0) ≡ a.constant =
    sym (get_or-drop i q.constants 0 (pos 0) ∙ ap (λ (j : ℕ). get_or q.constants j (pos 0)) (add-zero i)) ∙ ap (λ (l : List ℤ). get_or l 0 (pos 0)) f in
    let six_more : most_variables * suc i ≡ most_variables * i + most_variables = omega arith in
    let later : drop (most_variables * suc i) q.coefficients ≡ rows ++ cells =
    ap (λ (k : ℕ). drop k q.coefficients) six_more ∙ sym (drop-drop most_variables (most_variables * i) q.coefficients) ∙ ap (drop most_variables) start ∙ drop_at (row_of a) (rows ++ cells) most_variables long in
    let later₁ : drop (suc i) q.constants ≡ map constant_in ats ++ constants =
    ap (λ (k : ℕ). drop k q.constants) (sym (add-one i)) ∙ sym (drop-drop 1 i q.constants) ∙ ap (drop 1) f in
    λ j. record { kind = a.kind; coefficients = row j; constant = constant j } ∷ atoms_from_lem q (suc i) ats cells constants six wide.1 later later₁ j

by_front : (n : ℕ) (xs : List Node) (ats : List Atom) → n ≤ most_variables → Wide n ats → atoms_from (held_by n xs ats) 0 (map kind_in ats) ≡ ats
unfolding at_front
by_front n xs ats six wide =
    atoms_from_lem (held_by n xs ats) 0 ats (drop (length (joined (map row_of ats))) (replicate most_coefficients (pos 0))) (drop (length (map constant_in ats)) (replicate most_atoms (pos 0))) six wide refl refl

pub held_atoms : (n : ℕ) (t : Tree) → n ≤ most_variables → Wide n (atoms_in t) → atoms_of (held_as n t) ≡ atoms_in t
unfolding atoms_of
held_atoms n t six wide =
    ap (λ (xs : List Node). atoms_from (held_as n t) 0 (kinds_of xs)) (held_nodes n (nodes_in t) (atoms_in t))
    ∙ ap (atoms_from (held_as n t) 0)
    (kinds_append (nodes_in t) (replicate (most_nodes - length (nodes_in t)) unused) ∙ (λ i. tree_kinds t i ++ no_kinds (most_nodes - length (nodes_in t)) i) ∙ append-nil (map kind_in (atoms_in t)))
    ∙ by_front n (nodes_in t) (atoms_in t) six wide
