-- More nodes laid, one after the other: where nothing was refused they go on, and a refusal stays; and one node laid.
use Rattle.std.specs.Prelude.{ℕ, ◌+◌, ◌≤◌, ◌<◌, ◌≡◌, refl, Bool, true, false, not, cond, ◌&&◌, ◌||◌, List, [], ◌∷◌, ◌++◌, take, T, leb, ltb, ℤ}
use Rattle.std.proofs.Common.{arith, sym, ◌∙◌, subst, append_assoc, append-nil, length-append, length-take, ltb→lt}
use Rattle.std.proofs.Math.Path.{ap}
use Rattle.std.proofs.Math.Option.{none, some}
use Rattle.std.proofs.lemmas.List.{map-append, length-map}
use Rattle.std.proofs.Math.ListN.{length}
use Rattle.scope.specs.declared.Question.{Question}
use Rattle.scope.specs.declared.Refusal.{Refusal}
use Rattle.scope.specs.Sizes.{most_variables, most_atoms, most_nodes, most_depth}
use Rattle.scope.specs.Question.{Node, unused, is_atom, Atom}
use Rattle.scope.specs.Tree.{held_by}
use Rattle.scope.specs.Wire.{Shape, noted}
use Rattle.scope.specs.Refusals.{Check, first_refusal}
use Rattle.theory.specs.Wire.Checks.{and_first, and_second, was_asked, none_passed, passed_append}
use Rattle.theory.specs.Trees.Limits.{leaf_of, Narrow, held_more}
use Rattle.theory.specs.Numbers.Joined.{each_append}
use Rattle.smtlib.specs.Imported.{PlacedNode, placed_checks}
use Rattle.laying.specs.declared.Laying.{Laying}
use Rattle.laying.specs.Laid.{nodes_laid, atom_laid, atoms_laid, placed_here, laid_question, HeldIn, Lays, LaysMore, Refuses}
use Rattle.laying.specs.Noted.{at_depth}
use Rattle.laying.specs.Appended.{leaf_counts, atoms_append, checks_append, refusal_stays}

-- ---- one after the other

module _ (a b : Laying) (xs : List PlacedNode) (m : LaysMore xs a b) where
  pub more_onward : (c : Laying) (ys : List PlacedNode) → LaysMore ys b c → LaysMore (xs ++ ys) a c
  more_onward c ys k = record {
    n_kept = k.n_kept ∙ m.n_kept;
    depth_kept = k.depth_kept ∙ m.depth_kept;
    laid_more = λ zs h. subst (λ (l : List PlacedNode). Lays l c) (append_assoc zs xs ys) (k.laid_more (zs ++ xs) (m.laid_more zs h));
  }

  pub refused_behind : (ys : List PlacedNode) (r : Refusal) → Refuses ys b r → Refuses (xs ++ ys) a r
  refused_behind ys r k = record { refused_first = λ zs h. ap (λ (l : List PlacedNode). first_refusal (placed_checks 0 0 l)) (sym (append_assoc zs xs ys)) ∙ k.refused_first (zs ++ xs) (m.laid_more zs h) }

-- where a node was refused, what would follow does not count
pub refused_before : (a : Laying) (xs : List PlacedNode) (r : Refusal) → Refuses xs a r → (ys : List PlacedNode) → Refuses (xs ++ ys) a r
refused_before a xs r k ys = record { refused_first = still }
  where
    still : (zs : List PlacedNode) → Lays zs a → first_refusal (placed_checks 0 0 (zs ++ (xs ++ ys))) ≡ some r
    still zs h =
        let cs : List Check = placed_checks 0 0 (zs ++ xs) in
        let ds : List Check = placed_checks (0 + length (zs ++ xs)) (0 + length (atoms_laid 0 (zs ++ xs))) ys in
        ap (λ (l : List PlacedNode). first_refusal (placed_checks 0 0 l)) (sym (append_assoc zs xs ys))
        ∙ ap first_refusal (checks_append 0 0 0 (zs ++ xs) ys) ∙ refusal_stays cs ds r (k.refused_first zs h)

-- ---- the depth

at_depth_lem : (xs : List PlacedNode) (l : Laying) (depth : ℕ) → Lays xs l → Lays xs (at_depth l depth)
at_depth_lem xs l depth h = let k = h.held_in in record { none_refused = h.none_refused; held_in = record { question_is = k.question_is; nodes_are = k.nodes_are; atoms_are = k.atoms_are } }

-- nodes laid at another depth, and then the depth put back
pub more_at_depth : (a b : Laying) (depth : ℕ) (xs : List PlacedNode) → LaysMore xs (at_depth a depth) b → LaysMore xs a (at_depth b a.depth)
more_at_depth a b depth xs m = record { n_kept = m.n_kept; depth_kept = refl; laid_more = λ zs h. at_depth_lem (zs ++ xs) b a.depth (m.laid_more zs (at_depth_lem zs a depth h)) }

pub more_depth_back : (a b : Laying) (xs : List PlacedNode) → LaysMore xs a b → LaysMore xs a (at_depth b a.depth)
more_depth_back a b xs m = record { n_kept = m.n_kept; depth_kept = refl; laid_more = λ zs h. at_depth_lem (zs ++ xs) b a.depth (m.laid_more zs h) }

pub refused_at_depth : (a : Laying) (depth : ℕ) (xs : List PlacedNode) (r : Refusal) → Refuses xs (at_depth a depth) r → Refuses xs a r
refused_at_depth a depth xs r k = record { refused_first = λ zs h. k.refused_first zs (at_depth_lem zs a depth h) }

-- ---- one node

few_left : (n : ℕ) (cs : List ℤ) → n ≤ most_variables → length (take n cs) ≤ most_variables
few_left n cs h = omega (arith, length-take n cs)

narrow_atom : (n : ℕ) (x : PlacedNode) (k : Node) → n ≤ most_variables → Narrow (atom_laid n x k)
narrow_atom n x unused h = tt
narrow_atom n x (Node.atom κ) h = (few_left n x.coefficients h, tt)
narrow_atom n x Node.not h = tt
narrow_atom n x Node.and h = tt
narrow_atom n x Node.or h = tt

narrow_atoms : (n : ℕ) (xs : List PlacedNode) → n ≤ most_variables → Narrow (atoms_laid n xs)
unfolding atoms_laid
narrow_atoms n [] h = tt
narrow_atoms n (x ∷ xs) h = each_append (λ (a : Atom). length a.coefficients ≤ most_variables) (atom_laid n x x.node) (atoms_laid n xs) (narrow_atom n x x.node h) (narrow_atoms n xs h)

leaf_laid : (n : ℕ) (x : PlacedNode) (k : Node) → leaf_of k (take n x.coefficients) x.constant ≡ atom_laid n x k
leaf_laid n x unused = refl
leaf_laid n x (Node.atom κ) = refl
leaf_laid n x Node.not = refl
leaf_laid n x Node.and = refl
leaf_laid n x Node.or = refl

snoc_atoms : (n : ℕ) (zs : List PlacedNode) (x : PlacedNode) → atoms_laid n (zs ++ (x ∷ [])) ≡ atoms_laid n zs ++ atom_laid n x x.node
unfolding atoms_laid
snoc_atoms n zs x = atoms_append n zs (x ∷ []) ∙ ap (λ (l : List Atom). atoms_laid n zs ++ l) (append-nil (atom_laid n x x.node))

noted_n : (t : Bool) (x : Node) (cs : List ℤ) (k : ℤ) (s : Shape) (q : Question) → (noted t x cs k s q).n ≡ q.n
unfolding noted
noted_n true x cs k s q = refl
noted_n false x cs k s q = refl

abbrev pub laid_counts : Laying → Shape
laid_counts l = record { nodes = l.nodes; atoms = l.atoms; due = [] }

-- a node noted
pub record LaidOne (x : PlacedNode) (before after : Laying) : Type 0 where
  pub question : laid_question after ≡ noted (is_atom x.node) x.node (take before.n x.coefficients) x.constant (laid_counts before) (laid_question before)
  pub nodes : after.nodes ≡ before.nodes + 1
  pub atoms : after.atoms ≡ before.atoms + cond (is_atom x.node) 1 0
  pub depth : after.depth ≡ before.depth

module _ (a : Laying) (x : PlacedNode) where
  one_checked : (zs : List PlacedNode) → Lays zs a → first_refusal (placed_checks 0 0 (zs ++ (x ∷ []))) ≡ first_refusal (placed_here a.nodes a.atoms x)
  unfolding placed_checks
  one_checked zs h =
      let held : HeldIn zs a = h.held_in in
      let k : 0 + length zs ≡ a.nodes = omega (arith, held.nodes_are) in
      let m : 0 + length (atoms_laid a.n zs) ≡ a.atoms = omega (arith, held.atoms_are) in
      ap first_refusal (checks_append a.n 0 0 zs (x ∷ []))
      ∙ passed_append (placed_checks 0 0 zs) (placed_here (0 + length zs) (0 + length (atoms_laid a.n zs)) x) (none_passed (placed_checks 0 0 zs) h.none_refused)
      ∙ (λ i. first_refusal (placed_here (k i) (m i) x))

  pub one_refused : (r : Refusal) → first_refusal (placed_here a.nodes a.atoms x) ≡ some r → Refuses (x ∷ []) a r
  one_refused r e = record { refused_first = λ zs h. one_checked zs h ∙ e }

  pub one_more : (b : Laying) → a.n ≤ most_variables → first_refusal (placed_here a.nodes a.atoms x) ≡ none → LaidOne x a b → LaysMore (x ∷ []) a b
  one_more b six e o = record {
    n_kept = n_same;
    depth_kept = o.depth;
    laid_more = λ zs h. record { none_refused = one_checked zs h ∙ e; held_in = held zs h.held_in };
  }
    where
      n_same : b.n ≡ a.n
      n_same = ap (λ (q : Question). q.n) o.question ∙ noted_n (is_atom x.node) x.node (take a.n x.coefficients) x.constant (laid_counts a) (laid_question a)

      room : (a.nodes < most_nodes) × (T (is_atom x.node) → a.atoms < most_atoms)
      room =
          let p : T (ltb a.nodes most_nodes && ((not (is_atom x.node) || ltb a.atoms most_atoms) && leb x.depth most_depth)) = (none_passed (placed_here a.nodes a.atoms x) e).0 in
          let q = and_first (not (is_atom x.node) || ltb a.atoms most_atoms) (leb x.depth most_depth) (and_second (ltb a.nodes most_nodes) ((not (is_atom x.node) || ltb a.atoms most_atoms) && leb x.depth most_depth) p) in
          (ltb→lt a.nodes most_nodes (and_first (ltb a.nodes most_nodes) ((not (is_atom x.node) || ltb a.atoms most_atoms) && leb x.depth most_depth) p), λ t. ltb→lt a.atoms most_atoms (was_asked (is_atom x.node) (ltb a.atoms most_atoms) q t))

      held : (zs : List PlacedNode) → HeldIn zs a → HeldIn (zs ++ (x ∷ [])) b
      held zs h =
          let n : ℕ = a.n in
          let cs : List ℤ = take n x.coefficients in
          let same : atoms_laid n zs ++ leaf_of x.node cs x.constant ≡ atoms_laid n (zs ++ (x ∷ [])) =
          ap (λ (l : List Atom). atoms_laid n zs ++ l) (leaf_laid n x x.node) ∙ sym (snoc_atoms n zs x) in
          let q : laid_question b ≡ held_by n (nodes_laid (zs ++ (x ∷ []))) (atoms_laid n (zs ++ (x ∷ []))) =
          o.question
          ∙ ap (noted (is_atom x.node) x.node cs x.constant (laid_counts a)) h.question_is
          ∙ held_more n (nodes_laid zs) (atoms_laid n zs) (narrow_atoms n zs six) (laid_counts a) (h.nodes_are ∙ sym (length-map zs (λ (y : PlacedNode). y.node))) h.atoms_are (omega (arith, room.0, h.nodes_are, length-map zs (λ (y : PlacedNode). y.node))) x.node cs x.constant (few_left n x.coefficients six) (λ t. omega (arith, room.1 t, h.atoms_are))
          ∙ (λ i. held_by n (sym (map-append (λ (y : PlacedNode). y.node) zs (x ∷ [])) i) (same i)) in
          record {
            question_is = q ∙ ap (λ (k : ℕ). held_by k (nodes_laid (zs ++ (x ∷ []))) (atoms_laid k (zs ++ (x ∷ [])))) (sym n_same);
            nodes_are = omega (arith, o.nodes, h.nodes_are, length-append zs (x ∷ []));
            atoms_are = rw n_same (omega (arith, o.atoms, h.atoms_are, ap (λ (l : List Atom). length l) (snoc_atoms n zs x), length-append (atoms_laid n zs) (atom_laid n x x.node), leaf_counts n x x.node));
          }
