-- A formula whose nodes pass their checks, with six coefficients in every atom, is a tree within the limits of a question.
use Rattle.std.specs.Prelude.{◌≡◌, Bool, true, false, not, cond, ◌&&◌, ◌||◌, List, [], ◌∷◌, ◌++◌, leb, ltb, length, take, ℤ}
use Rattle.std.proofs.Math.Path.{refl, ap}
use Rattle.std.proofs.Common.{sym, subst, arith, add-one, leb→le, le→leb, ltb→lt, length-append}
use Prim.Native.Nat.{ℕ, zero, suc, ◌+◌, ◌≤◌, ◌<◌}
use Rattle.std.proofs.Math.Dec.{T}
use Rattle.std.proofs.Math.Seq.{length-take-le}
use Rattle.std.specs.List.{list_all}
use Rattle.scope.specs.Sizes.{most_variables, most_atoms, most_nodes, most_depth, coefficient_fits, constant_fits, numbers_fit}
use Rattle.scope.specs.Question.{Node, is_atom, Atom}
use Rattle.scope.specs.Tree.{nodes_in, atoms_in, within_limits}
use Rattle.theory.specs.Numbers.Joined.{Each}
use Rattle.theory.specs.Wire.Checks.{Passed, and_first, and_second, and_both, was_asked}
use Rattle.theory.specs.Trees.Limits.{Fits, fits_tree, tree_limits}
use Rattle.smtlib.specs.Formulas.{Formula}
use Rattle.smtlib.specs.Imported.{PlacedNode, placed_from, placed_checks, tree_of}
use Rattle.smtlib.specs.Rows.{RowsOfSix}

-- ---- the limits, node by node

record NodeFits (x : PlacedNode) : Type 0 where
  depth : x.depth ≤ most_depth
  coefficients : T (list_all coefficient_fits x.coefficients)
  constant : T (constant_fits x.constant)

abbrev atom_count_in : List PlacedNode → ℕ
atom_count_in [] = 0
atom_count_in (x ∷ xs) = cond (is_atom x.node) 1 0 + atom_count_in xs

record Passing (nodes atoms : ℕ) (xs : List PlacedNode) : Type 0 where
  each : Each NodeFits xs
  nodes_fit : nodes ≤ most_nodes → nodes + length xs ≤ most_nodes
  atoms_fit : atoms ≤ most_atoms → atoms + atom_count_in xs ≤ most_atoms

passed_fits : (nodes atoms : ℕ) (xs : List PlacedNode) → Passed (placed_checks nodes atoms xs) → Passing nodes atoms xs
unfolding placed_checks
passed_fits nodes atoms [] p = record { each = tt; nodes_fit = λ h. omega arith; atoms_fit = λ h. omega arith }
passed_fits nodes atoms (x ∷ xs) p =
    let room : Bool = not (is_atom x.node) || ltb atoms most_atoms in
    let shallow : Bool = leb x.depth most_depth in
    let few : T (ltb nodes most_nodes) = and_first (ltb nodes most_nodes) (room && shallow) p.0 in
    let later : T (room && shallow) = and_second (ltb nodes most_nodes) (room && shallow) p.0 in
    let rest : Passing (suc nodes) (atoms + cond (is_atom x.node) 1 0) xs = passed_fits (suc nodes) (atoms + cond (is_atom x.node) 1 0) xs p.1.1.1 in
    record {
      each = (record { depth = leb→le x.depth most_depth (and_second room shallow later); coefficients = p.1.0; constant = p.1.1.0 }, rest.each);
      nodes_fit = λ h. omega (arith, rest.nodes_fit (ltb→lt nodes most_nodes few));
      atoms_fit = λ h. counted (is_atom x.node) (was_asked (is_atom x.node) (ltb atoms most_atoms) (and_first room shallow later)) rest.atoms_fit h;
    }
  where
    counted : (b : Bool) → (T b → T (ltb atoms most_atoms)) → (atoms + cond b 1 0 ≤ most_atoms → atoms + cond b 1 0 + atom_count_in xs ≤ most_atoms) → atoms ≤ most_atoms
        → atoms + (cond b 1 0 + atom_count_in xs) ≤ most_atoms
    counted true f g h = let k : atoms < most_atoms = ltb→lt atoms most_atoms (f tt) in omega (arith, g (omega (arith, k)))
    counted false f g h = omega (arith, g (omega (arith, h)))

-- ---- and its tree

each_parts : {A : Type 0} (P : A → Type 0) (k l : List A) → Each P (k ++ l) → Each P k × Each P l
each_parts P [] l h = (tt, h)
each_parts P (a ∷ k) l h = let r = each_parts P k l h.1 in ((h.0, r.0), r.1)

all_take : (f : ℤ → Bool) (n : ℕ) (l : List ℤ) → T (list_all f l) → T (list_all f (take n l))
all_take f zero l h = tt
all_take f (suc n) [] h = tt
all_take f (suc n) (a ∷ l) h = and_both (f a) (list_all f (take n l)) (and_first (f a) (list_all f l) h) (all_take f n l (and_second (f a) (list_all f l) h))

atoms_append : (k l : List PlacedNode) → atom_count_in (k ++ l) ≡ atom_count_in k + atom_count_in l
atoms_append [] l = omega arith
atoms_append (x ∷ k) l = omega (arith, atoms_append k l)

nodes_both : (k l : List PlacedNode) (m o : List Node) → length k ≡ length m → length l ≡ length o → length (k ++ l) ≡ length (m ++ o)
nodes_both k l m o e f = omega (arith, e, f, length-append k l, length-append m o)

-- a connective is no atom
atoms_both : (k l : List PlacedNode) (m o : List Atom) → atom_count_in k ≡ length m → atom_count_in l ≡ length o → 0 + atom_count_in (k ++ l) ≡ length (m ++ o)
atoms_both k l m o e f = omega (arith, e, f, atoms_append k l, length-append m o)

module _ (n : ℕ) where
  placed_nodes : (depth : ℕ) (f : Formula) → length (placed_from depth f) ≡ length (nodes_in (tree_of n f))
  unfolding placed_from tree_of nodes_in
  placed_nodes depth (Formula.atom at κ row k) = refl
  placed_nodes depth (Formula.not at f) = ap suc (placed_nodes (suc depth) f)
  placed_nodes depth (Formula.and at f g) =
      ap suc (nodes_both (placed_from (suc depth) f) (placed_from (suc depth) g) (nodes_in (tree_of n f)) (nodes_in (tree_of n g)) (placed_nodes (suc depth) f) (placed_nodes (suc depth) g))
  placed_nodes depth (Formula.or at f g) =
      ap suc (nodes_both (placed_from (suc depth) f) (placed_from (suc depth) g) (nodes_in (tree_of n f)) (nodes_in (tree_of n g)) (placed_nodes (suc depth) f) (placed_nodes (suc depth) g))

  placed_atoms : (depth : ℕ) (f : Formula) → atom_count_in (placed_from depth f) ≡ length (atoms_in (tree_of n f))
  unfolding placed_from tree_of atoms_in
  placed_atoms depth (Formula.atom at κ row k) = refl
  placed_atoms depth (Formula.not at f) = omega (arith, placed_atoms (suc depth) f)
  placed_atoms depth (Formula.and at f g) =
      atoms_both (placed_from (suc depth) f) (placed_from (suc depth) g) (atoms_in (tree_of n f)) (atoms_in (tree_of n g)) (placed_atoms (suc depth) f) (placed_atoms (suc depth) g)
  placed_atoms depth (Formula.or at f g) =
      atoms_both (placed_from (suc depth) f) (placed_from (suc depth) g) (atoms_in (tree_of n f)) (atoms_in (tree_of n g)) (placed_atoms (suc depth) f) (placed_atoms (suc depth) g)

  -- a part of it
  fits_next : (depth : ℕ) (f : Formula) → Fits n (suc depth) (tree_of n f) → Fits n (depth + 1) (tree_of n f)
  fits_next depth f h = subst (λ (d : ℕ). Fits n d (tree_of n f)) (sym (add-one depth)) h

  placed_fits : (depth : ℕ) (f : Formula) → n ≤ most_variables → RowsOfSix f → Each NodeFits (placed_from depth f) → Fits n depth (tree_of n f)
  unfolding placed_from tree_of numbers_fit
  placed_fits depth (Formula.atom at κ row k) few six h =
      let small : T (list_all coefficient_fits (take n row)) = all_take coefficient_fits n row h.0.coefficients in
      (h.0.depth, length-take-le n row (omega (arith, six)), and_both (list_all coefficient_fits (take n row)) (constant_fits k) small h.0.constant)
  placed_fits depth (Formula.not at f) few six h = fits_next depth f (placed_fits (suc depth) f few six h.1)
  placed_fits depth (Formula.and at f g) few six h =
      let r = each_parts NodeFits (placed_from (suc depth) f) (placed_from (suc depth) g) h.1 in
      (fits_next depth f (placed_fits (suc depth) f few six.0 r.0), fits_next depth g (placed_fits (suc depth) g few six.1 r.1))
  placed_fits depth (Formula.or at f g) few six h =
      let r = each_parts NodeFits (placed_from (suc depth) f) (placed_from (suc depth) g) h.1 in
      (fits_next depth f (placed_fits (suc depth) f few six.0 r.0), fits_next depth g (placed_fits (suc depth) g few six.1 r.1))

  pub passed_within : (f : Formula) → 1 ≤ n → n ≤ most_variables → RowsOfSix f → Passed (placed_checks 0 0 (placed_from 1 f)) → T (within_limits n (tree_of n f))
  passed_within f some few six p =
      let k : Passing 0 0 (placed_from 1 f) = passed_fits 0 0 (placed_from 1 f) p in
      let t = fits_tree n 1 (tree_of n f) (placed_fits 1 f few six k.each) in
      (tree_limits n (tree_of n f)).1 (record {
        variables = and_both (leb 1 n) (leb n most_variables) (le→leb 1 n some) (le→leb n most_variables few);
        nodes = omega (arith, k.nodes_fit (omega arith), placed_nodes 1 f);
        atoms = omega (arith, k.atoms_fit (omega arith), placed_atoms 1 f);
        depth = omega (arith, t.0);
        numbers = t.1;
      })
