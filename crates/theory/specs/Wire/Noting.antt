-- A node noted in a held question: its own entries are what was read, earlier entries and the sizes stay, and what is still unused is zero.
use Rattle.std.specs.Prelude.{◌≡◌, ◌≢◌, Bool, true, false, cond, List, [], ◌∷◌, ◌++◌, map, ℕ, zero, suc, ◌+◌, ◌*◌, ◌≤◌, ◌<◌, T, length, get_or, set, ℤ, pos}
use Rattle.std.proofs.Math.Path.{refl, sym}
use Rattle.std.proofs.Common.{ap, ◌∙◌, arith}
use Rattle.std.proofs.Math.ListN.{length-set}
use Rattle.std.proofs.lemmas.List.Edits.{sets}
use Rattle.std.proofs.Math.Seq.{length-sets, get_or-set_same, get_or-set_other}
use Rattle.scope.specs.declared.Question.{Question}
use Rattle.scope.specs.Question.{Kind, Node, unused, atom, node_of, code_of, is_atom, kinds_of, coefficients_of, constant_of}
use Rattle.scope.specs.Wire.{Shape, noted}
use Rattle.scope.specs.Sizes.{most_atoms, most_nodes, most_variables}
use Rattle.theory.specs.Wire.Records.{node_of_code}
use Rattle.theory.specs.Wire.Held.{stretch_sets, stretch_same, get_d_sets_out, Sized, Blank, Agree}

-- p, with node x at its place and its numbers where it is an atom, is r
pub record NotedAs (p r : Question) (nodes atoms : ℕ) (isAn : Bool) (x : Node) (cs : List ℤ) (k : ℤ) : Type 0 where
  pub kept : Agree p r nodes atoms
  pub code : get_or r.codes nodes 0 ≡ code_of x
  pub row : T isAn → coefficients_of r atoms ≡ cs
  pub constant : T isAn → constant_of r atoms ≡ k
  pub sized : Sized r
  pub blank : Blank p nodes atoms → Blank r (nodes + 1) (atoms + cond isAn 1 0)
  pub codes : r.codes ≡ set p.codes nodes (code_of x)

module _ (x : Node) (cs : List ℤ) (k : ℤ) (s : Shape) (p : Question) (z : Sized p) (room : s.nodes < most_nodes) where
  code_kept : (i : ℕ) → i < s.nodes → get_or p.codes i 0 ≡ get_or (set p.codes s.nodes (code_of x)) i 0
  code_kept i h = sym (get_or-set_other p.codes s.nodes i (code_of x) 0 (λ e. omega arith))

  code_new : get_or (set p.codes s.nodes (code_of x)) s.nodes 0 ≡ code_of x
  code_new = get_or-set_same p.codes s.nodes (code_of x) 0 (omega (arith, z.codes))

  code_blank : ((i : ℕ) → s.nodes ≤ i → get_or p.codes i 0 ≡ 0) → (i : ℕ) → s.nodes + 1 ≤ i → get_or (set p.codes s.nodes (code_of x)) i 0 ≡ 0
  code_blank b i h = get_or-set_other p.codes s.nodes i (code_of x) 0 (λ e. omega arith) ∙ b i (omega arith)

  code_length : length (set p.codes s.nodes (code_of x)) ≡ most_nodes
  code_length = length-set p.codes s.nodes (code_of x) ∙ z.codes

  -- a connective
  noted_connective : NotedAs p (noted false x cs k s p) s.nodes s.atoms false x cs k
  unfolding noted coefficients_of constant_of
  noted_connective = record {
    kept = record { n = refl; codes = code_kept; rows = λ i h. refl; constants = λ i h. refl };
    code = code_new;
    row = λ t. absurd t;
    constant = λ t. absurd t;
    sized = record { codes = code_length; coefficients = z.coefficients; constants = z.constants };
    blank = λ b. record {
      codes = code_blank b.codes;
      right = b.right;
      below = λ c h. b.below c (omega arith);
      constants = λ i h. b.constants i (omega arith);
    };
    codes = refl;
  }

  module _ (few : s.atoms < most_atoms) (narrow : p.n ≤ most_variables) (long : length cs ≡ p.n) where
    cell_out : (c : ℕ) → ((j : ℕ) → j < p.n → c ≢ most_variables * s.atoms + j) → get_or (sets p.coefficients (most_variables * s.atoms) cs) c (pos 0) ≡ get_or p.coefficients c (pos 0)
    cell_out c f = get_d_sets_out cs p.coefficients (most_variables * s.atoms) c (pos 0) (λ j h. f j (omega arith))

    noted_atom : NotedAs p (noted true x cs k s p) s.nodes s.atoms true x cs k
    unfolding noted coefficients_of constant_of
    noted_atom = record {
      kept = record {
        n = refl;
        codes = code_kept;
        rows = λ i h. sym (stretch_sets cs p.coefficients (most_variables * i) p.n (most_variables * s.atoms) (omega arith));
        constants = λ i h. sym (get_or-set_other p.constants s.atoms i k (pos 0) (λ e. omega arith));
      };
      code = code_new;
      row = λ t. stretch_same cs p.coefficients p.n (most_variables * s.atoms) long (omega (arith, z.coefficients));
      constant = λ t. get_or-set_same p.constants s.atoms k (pos 0) (omega (arith, z.constants));
      sized = record {
        codes = code_length;
        coefficients = length-sets p.coefficients (most_variables * s.atoms) cs ∙ z.coefficients;
        constants = length-set p.constants s.atoms k ∙ z.constants;
      };
      blank = λ b. record {
        codes = code_blank b.codes;
        right = λ c h. cell_out c (λ j l e. omega arith) ∙ b.right c h;
        below = λ c h. cell_out c (λ j l e. omega arith) ∙ b.below c (omega arith);
        constants = λ i h. get_or-set_other p.constants s.atoms i k (pos 0) (λ e. omega arith) ∙ b.constants i (omega arith);
      };
      codes = refl;
    }

-- by whether it is an atom
pub noted_as : (t : Bool) (x : Node) (cs : List ℤ) (k : ℤ) (s : Shape) (p : Question) → Sized p → s.nodes < most_nodes
    → (T t → s.atoms < most_atoms) → p.n ≤ most_variables → length cs ≡ p.n → NotedAs p (noted t x cs k s p) s.nodes s.atoms t x cs k
noted_as true x cs k s p z room few narrow long = noted_atom x cs k s p z room (few tt) narrow long
noted_as false x cs k s p z room few narrow long = noted_connective x cs k s p z room

-- ---- the number of atoms

kinds_cons : (x : Node) (xs : List Node) → length (kinds_of (x ∷ xs)) ≡ cond (is_atom x) 1 0 + length (kinds_of xs)
unfolding kinds_of
kinds_cons unused xs = omega arith
kinds_cons (atom κ) xs = omega arith
kinds_cons Node.not xs = omega arith
kinds_cons Node.and xs = omega arith
kinds_cons Node.or xs = omega arith

pub kinds_append : (xs ys : List Node) → kinds_of (xs ++ ys) ≡ kinds_of xs ++ kinds_of ys
unfolding kinds_of
kinds_append [] ys = refl
kinds_append (unused ∷ xs) ys = kinds_append xs ys
kinds_append (atom κ ∷ xs) ys = ap (λ (l : List Kind). κ ∷ l) (kinds_append xs ys)
kinds_append (Node.not ∷ xs) ys = kinds_append xs ys
kinds_append (Node.and ∷ xs) ys = kinds_append xs ys
kinds_append (Node.or ∷ xs) ys = kinds_append xs ys

-- one node more, where there was none
pub kinds_set : (l : List ℕ) (i : ℕ) (x : Node) → i < length l → get_or l i 0 ≡ 0
    → length (kinds_of (map node_of (set l i (code_of x)))) ≡ length (kinds_of (map node_of l)) + cond (is_atom x) 1 0
kinds_set [] i x h e = absurd (omega arith)
kinds_set (c ∷ l) zero x h e =
    kinds_cons (node_of (code_of x)) (map node_of l)
    ∙ ap (λ (y : Node). cond (is_atom y) 1 0 + length (kinds_of (map node_of l))) (node_of_code x)
    ∙ omega (arith, kinds_cons (node_of c) (map node_of l), ap {B = ℕ} (λ (d : ℕ). cond (is_atom (node_of d)) 1 0) e)
kinds_set (c ∷ l) (suc i) x h e =
    omega (arith, kinds_cons (node_of c) (map node_of (set l i (code_of x))), kinds_cons (node_of c) (map node_of l), kinds_set l i x (omega arith) e)
