-- Held questions: their sizes, what is unused and zero, where two agree, and that a node noted changes only its own entries.
use Rattle.std.specs.Prelude.{◌≡◌, refl, ◌≢◌, List, [], ◌∷◌, ◌++◌, ℕ, zero, suc, ◌+◌, ◌*◌, ◌-◌, ◌/◌, ◌%◌, ◌≤◌, ◌<◌, length, get_or, take, drop, set, replicate, ℤ, pos}
use Rattle.std.proofs.Math.Path.{sym}
use Rattle.std.proofs.Common.{ap, ◌∙◌, append_assoc, arith, take_at, drop_at, length-take-le, get_or-set_other, get_or-take, get_or-drop}
use Rattle.std.proofs.Math.Logic.{by_cases}
use Rattle.std.proofs.Math.Decide.{dec_lt}
use Rattle.std.proofs.lemmas.List.Edits.{sets, sets-eq}
use Rattle.std.proofs.lemmas.List.{take-set-le, drop-set-add}
use Rattle.std.proofs.Math.Seq.{ext_get_or}
use Rattle.scope.specs.declared.Question.{Question}
use Rattle.scope.specs.Question.{coefficients_of, constant_of}
use Rattle.scope.specs.Sizes.{most_atoms, most_coefficients, most_nodes, most_variables}

-- ---- lists

pub get_d_same : {A : Type 0} (n i : ℕ) (a : A) → get_or (replicate n a) i a ≡ a
get_d_same zero i a = refl
get_d_same (suc n) zero a = refl
get_d_same (suc n) (suc i) a = get_d_same n i a

module _ {A : Type 0} where
  -- a stretch before the element that is set
  stretch_set : (l : List A) (m n i : ℕ) (a : A) → m + n ≤ i → take n (drop m (set l i a)) ≡ take n (drop m l)
  stretch_set l m n i a h =
      let e : i ≡ m + (i - m) = omega arith in
      ap (λ (j : ℕ). take n (drop m (set l j a))) e ∙ ap (take n) (drop-set-add m l (i - m) a) ∙ take-set-le n (drop m l) (i - m) a (omega arith)

  pub stretch_sets : (vs l : List A) (m n i : ℕ) → m + n ≤ i → take n (drop m (sets l i vs)) ≡ take n (drop m l)
  stretch_sets [] l m n i h = refl
  stretch_sets (a ∷ vs) l m n i h = stretch_sets vs (set l i a) m n (suc i) (omega arith) ∙ stretch_set l m n i a h

  -- the stretch that is set
  pub stretch_same : (vs l : List A) (n i : ℕ) → length vs ≡ n → i + n ≤ length l → take n (drop i (sets l i vs)) ≡ vs
  stretch_same vs l n i e h =
      let later : List A = drop (i + length vs) l in
      ap (λ (k : List A). take n (drop i k)) (sets-eq vs l i (omega arith) ∙ append_assoc (take i l) vs later)
      ∙ ap (take n) (drop_at (take i l) (vs ++ later) i (length-take-le i l (omega arith)))
      ∙ take_at vs later n e

  pub get_d_sets_out : (vs l : List A) (i c : ℕ) (d : A) → ((j : ℕ) → j < length vs → c ≢ i + j) → get_or (sets l i vs) c d ≡ get_or l c d
  get_d_sets_out [] l i c d out = refl
  get_d_sets_out (a ∷ vs) l i c d out =
      get_d_sets_out vs (set l i a) (suc i) c d (λ j h e. out (suc j) (omega arith) (omega arith))
      ∙ get_or-set_other l i c a d (λ e. out 0 (omega arith) (omega arith))

-- ---- the sizes

pub record Sized (q : Question) : Type 0 where
  pub codes : length q.codes ≡ most_nodes
  pub coefficients : length q.coefficients ≡ most_coefficients
  pub constants : length q.constants ≡ most_atoms

-- ---- what is unused is zero: codes from nodes on, cells to the right of the n-th, rows and constants from atoms on

pub record Blank (q : Question) (nodes atoms : ℕ) : Type 0 where
  pub codes : (i : ℕ) → nodes ≤ i → get_or q.codes i 0 ≡ 0
  pub right : (c : ℕ) → q.n ≤ c % most_variables → get_or q.coefficients c (pos 0) ≡ pos 0
  pub below : (c : ℕ) → atoms ≤ c / most_variables → get_or q.coefficients c (pos 0) ≡ pos 0
  pub constants : (i : ℕ) → atoms ≤ i → get_or q.constants i (pos 0) ≡ pos 0

-- ---- two questions agree on n, the first nodes and the numbers of the first atoms

pub record Agree (p q : Question) (nodes atoms : ℕ) : Type 0 where
  pub n : p.n ≡ q.n
  pub codes : (i : ℕ) → i < nodes → get_or p.codes i 0 ≡ get_or q.codes i 0
  pub rows : (i : ℕ) → i < atoms → coefficients_of p i ≡ coefficients_of q i
  pub constants : (i : ℕ) → i < atoms → constant_of p i ≡ constant_of q i

pub agree_self : (q : Question) (nodes atoms : ℕ) → Agree q q nodes atoms
agree_self q nodes atoms = record { n = refl; codes = λ i h. refl; rows = λ i h. refl; constants = λ i h. refl }

pub agree_on : (p q r : Question) (nodes atoms nodes' atoms' : ℕ) → nodes ≤ nodes' → atoms ≤ atoms' → Agree p q nodes atoms → Agree q r nodes' atoms' → Agree p r nodes atoms
agree_on p q r nodes atoms nodes' atoms' hn ha f g = record {
  n = f.n ∙ g.n;
  codes = λ i h. f.codes i h ∙ g.codes i (omega arith);
  rows = λ i h. f.rows i h ∙ g.rows i (omega arith);
  constants = λ i h. f.constants i h ∙ g.constants i (omega arith);
}

-- a cell in its row
cell_in_row : (q : Question) (c : ℕ) → c % most_variables < q.n → get_or (coefficients_of q (c / most_variables)) (c % most_variables) (pos 0) ≡ get_or q.coefficients c (pos 0)
unfolding coefficients_of
cell_in_row q c h =
    get_or-take q.n (drop (most_variables * (c / most_variables)) q.coefficients) (c % most_variables) (pos 0) h
    ∙ get_or-drop (most_variables * (c / most_variables)) q.coefficients (c % most_variables) (pos 0)
    ∙ ap (λ (k : ℕ). get_or q.coefficients k (pos 0)) (omega arith)

module _ (p q : Question) (nodes atoms : ℕ) (zp : Sized p) (zq : Sized q) (bp : Blank p nodes atoms) (bq : Blank q nodes atoms) (f : Agree p q nodes atoms) where
  same_codes : p.codes ≡ q.codes
  same_codes = ext_get_or 0 p.codes q.codes (zp.codes ∙ sym zq.codes)
      (λ i h. by_cases (dec_lt i nodes) (λ l. f.codes i l) (λ l. bp.codes i (omega arith) ∙ sym (bq.codes i (omega arith))))

  same_cell : (c : ℕ) → get_or p.coefficients c (pos 0) ≡ get_or q.coefficients c (pos 0)
  same_cell c =
      by_cases (dec_lt (c % most_variables) p.n)
      (λ l. by_cases (dec_lt (c / most_variables) atoms)
      (λ k. sym (cell_in_row p c l) ∙ ap (λ (r : List ℤ). get_or r (c % most_variables) (pos 0)) (f.rows (c / most_variables) k) ∙ cell_in_row q c (rw f.n at l))
      (λ k. bp.below c (omega arith) ∙ sym (bq.below c (omega arith))))
      (λ l. let pn : p.n ≤ c % most_variables = omega arith in bp.right c pn ∙ sym (bq.right c (rw f.n at pn)))

  same_coefficients : p.coefficients ≡ q.coefficients
  same_coefficients = ext_get_or (pos 0) p.coefficients q.coefficients (zp.coefficients ∙ sym zq.coefficients) (λ c h. same_cell c)

  same_constants : p.constants ≡ q.constants
  unfolding constant_of
  same_constants = ext_get_or (pos 0) p.constants q.constants (zp.constants ∙ sym zq.constants)
      (λ i h. by_cases (dec_lt i atoms) (λ l. f.constants i l) (λ l. bp.constants i (omega arith) ∙ sym (bq.constants i (omega arith))))

  pub same_question : p ≡ q
  same_question i = record { n = f.n i; codes = same_codes i; coefficients = same_coefficients i; constants = same_constants i }
