-- The worths of a question's atoms, noted one by one: what holds after some atoms, and after all of them.
use Prim.Native.Nat.{ℕ, ◌+◌, ◌*◌, ◌≤◌, ◌<◌}
use native.Mathlib.Numerals.{add-one}
use native.Mathlib.Decide.{dec_lt}
use native.Mathlib.Omega.{arith}
use mathlib.Core.Path.{◌≡◌, refl, sym, ap, ◌∙◌}
use mathlib.Core.Logic.{by_cases}
use mathlib.Core.Bool.{Bool, true, false}
use mathlib.Core.List.{List, [], ◌∷◌, ◌++◌, map, append-nil}
use lib.ListN.{length, get_or, set, take, drop, replicate, length-set, length-take, length-map, get_or-replicate, drop_of_length-le, get_or-eq_default}
use lib.Seq.{take-suc-set, append_snoc, get_or-set_other, get_or-take, get_or-drop}
use lib.IntN.{ℤ, pos}
use Rattle.scope.specs.declared.Question.{Question}
use Rattle.scope.specs.Sizes.{most_coefficient}
use Rattle.scope.specs.Question.{Kind, equation, Node, node_of, is_atom, nodes_of, kinds_of, Atom, coefficients_of, constant_of, atoms_from, atoms_of}
use Rattle.scope.specs.States.{dot, compares, holds, formula_worth, satisfied}
use Rattle.theory.specs.Wire.Records.{kind_of_code}
use Rattle.theory.specs.Numbers.Sums.{small_get_d}
use Rattle.theory.specs.Entries.KeyCells.{numbers_fit_lem}
use Rattle.formula.specs.Alike.{worth_alike}
use Rattle.judge.specs.Sums.{coefficients_from, Summable}
use Rattle.judge.specs.Atoms.{Judgeable, Worths}
use Rattle.judge.proofs.AtomKinds.{kinds_skip, kinds_atom}

-- the kinds from a node on
abbrev kinds_from : Question → ℕ → List Kind
kinds_from q at = kinds_of (drop at (map node_of q.codes))

-- what the atoms from a number on are worth to the values
abbrev worths_from : Question → List ℕ → ℕ → List Kind → List Bool
worths_from q values atom κs = map (λ (a : Atom). holds a values) (atoms_from q atom κs)

-- the atoms before a number, which stand before a node, are noted
pub record WorthsNoted (q : Question) (values : List ℕ) (worths : List Bool) (atom at : ℕ) : Type 0 where
  pub whole : length worths ≡ 8
  pub count : atom + length (kinds_from q at) ≡ length (kinds_from q 0)
  pub done : take atom worths ++ worths_from q values atom (kinds_from q at) ≡ worths_from q values 0 (kinds_from q 0)
  pub clear : (i : ℕ) → atom ≤ i → get_or worths i false ≡ false

clear_start : (i : ℕ) → get_or (replicate 8 false) i false ≡ false
clear_start i =
    by_cases (dec_lt i 8)
    (λ h. get_or-replicate 8 i false false h)
    (λ h. get_or-eq_default (replicate 8 false) false {n = i} (omega arith))

module _ {q : Question} {values : List ℕ} (j : Judgeable q values) where
  pub noted_start : WorthsNoted q values (replicate 8 false) 0 0
  noted_start = record { whole = refl; count = omega arith; done = refl; clear = λ i h. clear_start i }

  -- a node that is no atom's
  pub noted_skip : {worths : List Bool} {atom at : ℕ} → WorthsNoted q values worths atom at → at < 64 → is_atom (node_of (get_or q.codes at 0)) ≡ false → WorthsNoted q values worths atom (at + 1)
  noted_skip {worths} {atom} {at} g l e =
      let k : kinds_from q at ≡ kinds_from q (at + 1) = kinds_skip q.codes at (omega (arith, j.limits.sized.codes)) e in
      record {
        whole = g.whole;
        count = omega (arith, g.count, ap length k);
        done = ap (λ (κs : List Kind). take atom worths ++ worths_from q values atom κs) (sym k) ∙ g.done;
        clear = g.clear;
      }

  module _ {worths : List Bool} {atom at : ℕ} (g : WorthsNoted q values worths atom at) (l : at < 64) (starts : is_atom (node_of (get_or q.codes at 0)) ≡ true) where
    kinds_are : kinds_from q at ≡ kind_of_code (get_or q.codes at 0) ∷ kinds_from q (at + 1)
    kinds_are = kinds_atom q.codes at (omega (arith, j.limits.sized.codes)) starts

    -- there is an atom left
    left_over : atom + 1 + length (kinds_from q (at + 1)) ≡ length (kinds_from q 0)
    left_over = omega (arith, g.count, ap length kinds_are)

    pub atom_numbered : atom < length (kinds_from q 0)
    atom_numbered = omega (arith, left_over)

    pub atom_within : atom < 8
    unfolding nodes_of
    atom_within = omega (arith, atom_numbered, j.limits.atoms)

    -- its numbers are within their limits
    pub atom_summable : Summable q.coefficients (6 * atom) values
    unfolding nodes_of coefficients_of
    atom_summable =
        let row : List ℤ = take q.n (drop (6 * atom) q.coefficients) in
        let few : length row ≤ 6 = simp length-take (omega (arith, j.limits.variables)) in
        let fit = numbers_fit_lem (record { kind = equation; coefficients = row; constant = constant_of q atom }) few (j.limits.numbers atom atom_numbered) in
        record {
          few = omega (arith, j.count, j.limits.variables);
          within = omega (arith, j.count, j.limits.variables, atom_within);
          whole = j.limits.sized.coefficients;
          coefficient = λ i h.
              let n : i < q.n = omega (arith, j.count) in
              rw (get_or-take q.n (drop (6 * atom) q.coefficients) i (pos 0), get_or-drop (6 * atom) q.coefficients i (pos 0)) at (small_get_d most_coefficient i row fit.small);
          value = j.small;
        }

    module _ (b : Bool)
        (e : b ≡ compares (kind_of_code (get_or q.codes at 0)) (dot (coefficients_from q.coefficients (6 * atom) values) values) (get_or q.constants atom (pos 0))) where
      -- what is noted is what the atom is worth
      worth_is : worths_from q values atom (kinds_from q at) ≡ b ∷ worths_from q values (atom + 1) (kinds_from q (at + 1))
      unfolding atoms_from holds coefficients_of constant_of
      worth_is =
          ap (worths_from q values atom) kinds_are ∙
          (λ i. (sym (e ∙ ap (λ (n : ℕ). compares (kind_of_code (get_or q.codes at 0)) (dot (take n (drop (6 * atom) q.coefficients)) values) (get_or q.constants atom (pos 0))) j.count)) i ∷ worths_from q values (sym (add-one atom) i) (kinds_from q (at + 1)))

      pub noted_more : WorthsNoted q values (set worths atom b) (atom + 1) (at + 1)
      noted_more = record {
        whole = length-set worths atom b ∙ g.whole;
        count = left_over;
        done =
            let n : atom < length worths = omega (arith, atom_within, g.whole) in
            let t : take (atom + 1) (set worths atom b) ≡ take atom worths ++ (b ∷ []) = rw (add-one atom) (take-suc-set worths atom b n) in
            ap (λ (ws : List Bool). ws ++ worths_from q values (atom + 1) (kinds_from q (at + 1))) t ∙
            append_snoc (take atom worths) b (worths_from q values (atom + 1) (kinds_from q (at + 1))) ∙
            ap (λ (ws : List Bool). take atom worths ++ ws) (sym worth_is) ∙
            g.done;
        clear = λ i h. get_or-set_other worths atom i b false (λ z. omega arith) ∙ g.clear i (omega arith);
      }

  -- after the last node all atoms are noted
  pub noted_all : {worths : List Bool} {atom at : ℕ} → WorthsNoted q values worths atom at → 64 ≤ at → Worths q values worths
  unfolding atoms_of nodes_of kinds_of atoms_from
  noted_all {worths} {atom} {at} g h =
      let none : drop at (map node_of q.codes) ≡ [] = drop_of_length-le (map node_of q.codes) {i = at} (omega (arith, length-map q.codes node_of, j.limits.sized.codes)) in
      let all : take atom worths ≡ worths_from q values 0 (kinds_from q 0) = sym (append-nil (take atom worths)) ∙ ap (λ (xs : List Node). take atom worths ++ worths_from q values atom (kinds_of xs)) (sym none) ∙ g.done in
      record {
        whole = g.whole;
        alike = λ i.
            by_cases (dec_lt i atom)
            (λ l. sym (get_or-take atom worths i false l) ∙ ap (λ (ws : List Bool). get_or ws i false) all)
            (λ l. g.clear i (omega arith) ∙ sym (get_or-eq_default (take atom worths) false {n = i} (simp length-take (omega arith))) ∙ ap (λ (ws : List Bool). get_or ws i false) all);
      }

pub worths_satisfy : (q : Question) (values : List ℕ) (worths : List Bool) → Worths q values worths → formula_worth (map node_of q.codes) worths ≡ satisfied q values
unfolding satisfied nodes_of
worths_satisfy q values worths w = worth_alike (map node_of q.codes) worths (map (λ (a : Atom). holds a values) (atoms_of q)) (λ i h. w.alike i)
