-- The code's key rows are the automaton's: where a row has the cells of a state, its target has those of the state's step, and the worths are
-- the atoms'. The start's cells are the constants.
use Rattle.std.specs.Prelude.{◌≡◌, refl, ◌≢◌, Bool, true, List, [], ◌∷◌, ℕ, zero, suc, ◌+◌, ◌*◌, ◌^◌, ◌≤◌, ◌<◌, T, length, get_or, take, ℤ, pos, nat_abs, ◌-ℤ◌}
use Rattle.std.proofs.Math.Path.{sym, ap}
use Rattle.std.proofs.Common.{◌∙◌, inl, inr, arith, length-take, ext_get_or}
use Rattle.std.proofs.Math.Logic.{by_cases}
use Rattle.std.proofs.Math.Bool.{false}
use Rattle.std.proofs.Math.Decide.{dec_lt}
use Rattle.std.proofs.lemmas.List.{length-map}
use Rattle.std.proofs.Math.ListN.{get_or-map}
use Rattle.std.proofs.Math.Seq.{get_or-take}
use Rattle.scope.specs.declared.Question.{Question}
use Rattle.scope.specs.Whole.{eq_z}
use Rattle.scope.specs.Question.{Kind, equation, at_most, Atom, atoms_of, atom_count}
use Rattle.scope.specs.States.{Entry, dead, live, State, dead_cell, cell_of, cells_of, sum_at, start_entry, start_of, halved, step_entry, step_of, worth, worths_of}
use Rattle.scope.specs.Sizes.{most_atoms}
use Rattle.theory.specs.Wire.Records.{kind_of_code}
use Rattle.theory.specs.Numbers.Integers.{eqZ→eq}
use Rattle.theory.specs.Entries.Range.{EntryIn, in_dead, in_live, StateIn, length_in, entry_in}
use Rattle.theory.specs.Wire.Accepted.{WithinLimits}
use Rattle.theory.specs.Entries.KeyCells.{AtomFits, fits_at_lem, sum_size, live_size, live_not_dead, most_sum}
use Rattle.step.specs.Eight.{length_listed, get_d_listed, listed_is, padded, get_d_padded}
use Rattle.step.specs.Cells.{kind_codes, step_cell, worth_cell, step_at, step_cells, worth_at, worth_cells, CellFits, Sums}
use Rattle.step.specs.Atoms.{no_atom, atom_at, atom_coefficients, atom_constant, atom_kind, few_atoms, limits_fit}

-- ---- one cell

pub dead_step : (κ : Kind) (cell sum : ℤ) → cell ≡ dead_cell → step_cell κ cell sum ≡ dead_cell
unfolding step_cell
dead_step κ cell sum e = rw e

pub live_step : (κ : Kind) (cell sum : ℤ) → cell ≢ dead_cell → step_cell κ cell sum ≡ cell_of (halved κ (cell -ℤ sum))
unfolding step_cell
live_step κ cell sum f = rw (test_no (eq_z cell dead_cell) (λ t. f (eqZ→eq cell dead_cell t)))
  where
    test_no : (b : Bool) → (T b → ⊥) → b ≡ false
    test_no true f = absurd (f tt)
    test_no false f = refl

pub cell_step : {a : Atom} {e : Entry} → AtomFits a → EntryIn a e → (letter : ℕ)
    → step_cell a.kind (cell_of e) (sum_at a.coefficients letter) ≡ cell_of (step_entry a e letter)
unfolding cell_of step_entry
cell_step {a} f (in_dead h) letter = dead_step a.kind dead_cell (sum_at a.coefficients letter) refl
cell_step {a} f (in_live {k} l h) letter = live_step a.kind k (sum_at a.coefficients letter) (live_not_dead f (in_live l h))

pub cell_fits_lem : {a : Atom} {e : Entry} → AtomFits a → EntryIn a e → CellFits (cell_of e)
unfolding cell_of
cell_fits_lem f (in_dead h) = inl refl
cell_fits_lem f (in_live l h) = inr (live_size f (in_live l h))

pub cell_worth : (a : Atom) (e : Entry) → worth_cell a.kind (cell_of e) ≡ worth a e
unfolding cell_of worth
cell_worth a (live k) = refl
cell_worth a dead = low a.kind
  where
    low : (κ : Kind) → worth_cell κ dead_cell ≡ false
    low equation = refl
    low at_most = refl

pub zero_step : (κ : Kind) → step_cell κ (pos 0) (pos 0) ≡ pos 0
unfolding step_cell cell_of
zero_step equation = refl
zero_step at_most = refl

-- ---- a row

module _ (kinds : List ℕ) (sums : List ℤ) (letter : ℕ) (row : List ℤ) where
  pub step_length : (width : ℕ) → length (step_cells kinds width sums letter row) ≡ width
  unfolding step_cells
  step_length width = length_listed (step_at kinds sums letter row) width

  pub step_cell_lem : (width i : ℕ) → i < width → get_or (step_cells kinds width sums letter row) i (pos 0) ≡ step_at kinds sums letter row i
  unfolding step_cells
  step_cell_lem width i h = get_d_listed (step_at kinds sums letter row) width i (pos 0) h

  -- the cells of fewer, of a row that has the same
  pub step_front : (width : ℕ) → width ≤ most_atoms → take width (step_cells kinds most_atoms sums letter row) ≡ step_cells kinds width sums letter (take width row)
  unfolding step_cells
  step_front width few =
      sym (listed_is (pos 0) (step_at kinds sums letter (take width row)) width (take width (step_cells kinds most_atoms sums letter row))
      (simp (length-take, step_length most_atoms) (omega arith))
      (λ i h. rw (get_or-take width row i (pos 0) h, get_or-take width (step_cells kinds most_atoms sums letter row) i (pos 0) h, step_cell_lem most_atoms i (omega arith))))

-- letters with the same sums lead to the same
pub step_alike : (kinds : List ℕ) (width : ℕ) (sums : List ℤ) (a b : ℕ) (row : List ℤ)
    → ((i : ℕ) → i < width → get_or sums (most_atoms * a + i) (pos 0) ≡ get_or sums (most_atoms * b + i) (pos 0)) → step_cells kinds width sums a row ≡ step_cells kinds width sums b row
unfolding step_cells
step_alike kinds width sums a b row same =
    listed_is (pos 0) (step_at kinds sums a row) width (step_cells kinds width sums b row) (step_length kinds sums b row width)
    (λ i h. rw (same i h, step_cell_lem kinds sums b row width i h))

-- ---- by index

-- where there is none
abbrev pub no_entry : Entry
no_entry = live (pos 0)

cells_at : (es : State) (i : ℕ) → get_or (cells_of es) i (pos 0) ≡ cell_of (get_or es i no_entry)
unfolding cells_of cell_of
cells_at es i = get_or-map cell_of es i no_entry

length_cells : (es : State) → length (cells_of es) ≡ length es
unfolding cells_of
length_cells es = length-map es cell_of

length_step : (ats : List Atom) (es : State) (letter : ℕ) → length es ≡ length ats → length (step_of ats es letter) ≡ length ats
unfolding step_of
length_step [] es letter h = refl
length_step (a ∷ ats) [] letter h = h
length_step (a ∷ ats) (e ∷ es) letter h = ap suc (length_step ats es letter (omega arith))

step_at_lem : (ats : List Atom) (es : State) (letter i : ℕ) → length es ≡ length ats → i < length ats
    → get_or (step_of ats es letter) i no_entry ≡ step_entry (get_or ats i no_atom) (get_or es i no_entry) letter
unfolding step_of
step_at_lem [] es letter i h l = absurd (omega arith)
step_at_lem (a ∷ ats) [] letter i h l = absurd (omega arith)
step_at_lem (a ∷ ats) (e ∷ es) letter zero h l = refl
step_at_lem (a ∷ ats) (e ∷ es) letter (suc i) h l = step_at_lem ats es letter i (omega arith) (omega arith)

length_worths : (ats : List Atom) (es : State) → length es ≡ length ats → length (worths_of ats es) ≡ length ats
unfolding worths_of
length_worths [] es h = refl
length_worths (a ∷ ats) [] h = h
length_worths (a ∷ ats) (e ∷ es) h = ap suc (length_worths ats es (omega arith))

worth_at_lem : (ats : List Atom) (es : State) (i : ℕ) → length es ≡ length ats → i < length ats
    → get_or (worths_of ats es) i false ≡ worth (get_or ats i no_atom) (get_or es i no_entry)
unfolding worths_of
worth_at_lem [] es i h l = absurd (omega arith)
worth_at_lem (a ∷ ats) [] i h l = absurd (omega arith)
worth_at_lem (a ∷ ats) (e ∷ es) zero h l = refl
worth_at_lem (a ∷ ats) (e ∷ es) (suc i) h l = worth_at_lem ats es i (omega arith) (omega arith)

-- ---- a question's tables and a row of its keys

-- what the code works once for a question
pub record Tables (q : Question) (kinds : List ℕ) (m : ℕ) (sums : List ℤ) : Type 0 where
  pub limits : WithinLimits q
  pub kinds_are : kinds ≡ padded 0 (kind_codes q.codes)
  pub count : m ≡ atom_count q
  pub sums_are : Sums q.n m q.coefficients sums

-- the row's first cells are those of a state in range
pub record Holds (q : Question) (width : ℕ) (row : List ℤ) (es : State) : Type 0 where
  pub inside : StateIn (atoms_of q) es
  pub cells : take width row ≡ cells_of es

module _ {q : Question} {kinds : List ℕ} {m : ℕ} {sums : List ℤ} (t : Tables q kinds m sums) where
  module _ (i : ℕ) (h : i < m) where
    counted : i < atom_count q
    counted = rw t.count at h

    kind_at_lem : kind_of_code (get_or kinds i 0) ≡ (atom_at q i).kind
    kind_at_lem = rw (t.kinds_are, get_d_padded) (sym (atom_kind q i counted))

    fits : AtomFits (atom_at q i)
    unfolding atom_count
    fits = fits_at_lem (limits_fit t.limits) i no_atom counted

    sum_at_lem : (letter : ℕ) → letter < 2 ^ q.n → get_or sums (most_atoms * letter + i) (pos 0) ≡ sum_at (atom_at q i).coefficients letter
    sum_at_lem letter l = t.sums_are.sum_is letter i l h ∙ ap (λ (cs : List ℤ). sum_at cs letter) (sym (atom_coefficients q i counted))

  pub sums_small : (letter i : ℕ) → letter < 2 ^ q.n → i < most_atoms → nat_abs (get_or sums (most_atoms * letter + i) (pos 0)) ≤ most_sum
  sums_small letter i l p =
      by_cases (dec_lt i m)
      (λ h. rw (sum_at_lem i h letter l) (sum_size (fits i h) letter))
      (λ h. rw (t.sums_are.blank letter i l (omega arith) p) (omega arith))

  module _ {row : List ℤ} {es : State} (r : Holds q m row es) where
    long : length es ≡ length (atoms_of q)
    long = length_in r.inside

    counts : length (atoms_of q) ≡ m
    unfolding atom_count
    counts = sym t.count

    key_at : (i : ℕ) → i < m → get_or row i (pos 0) ≡ cell_of (get_or es i no_entry)
    key_at i h = sym (get_or-take m row i (pos 0) h) ∙ ap (λ (l : List ℤ). get_or l i (pos 0)) r.cells ∙ cells_at es i

    in_at : (i : ℕ) → i < m → EntryIn (atom_at q i) (get_or es i no_entry)
    in_at i h = entry_in r.inside i no_atom no_entry (rw counts h)

    pub cells_fit : (i : ℕ) → i < m → CellFits (get_or row i (pos 0))
    cells_fit i h = rw (key_at i h) (cell_fits_lem (fits i h) (in_at i h))

    -- its target
    pub row_steps : (letter : ℕ) → letter < 2 ^ q.n → step_cells kinds m sums letter row ≡ cells_of (step_of (atoms_of q) es letter)
    unfolding step_cells
    row_steps letter l =
        let next = step_of (atoms_of q) es letter in
        listed_is (pos 0) (step_at kinds sums letter row) m (cells_of next)
        (length_cells next ∙ length_step (atoms_of q) es letter long ∙ counts)
        (λ i h.
        rw (kind_at_lem i h, key_at i h, sum_at_lem i h letter l)
        (cell_step (fits i h) (in_at i h) letter ∙ sym (cells_at next i ∙ ap cell_of (step_at_lem (atoms_of q) es letter i long (rw counts h)))))

    -- what the atoms are worth at it
    pub worths : (i : ℕ) → i < m → get_or (worth_cells kinds row) i false ≡ get_or (worths_of (atoms_of q) es) i false
    unfolding worth_cells
    worths i h =
        let few : i < most_atoms = omega (arith, t.count, few_atoms t.limits) in
        rw (get_d_listed (worth_at kinds row) most_atoms i false few, kind_at_lem i h, key_at i h)
        (cell_worth (atom_at q i) (get_or es i no_entry) ∙ sym (worth_at_lem (atoms_of q) es i long (rw counts h)))

-- ---- the start

pub start_cells : {q : Question} → WithinLimits q → take (atom_count q) q.constants ≡ cells_of (start_of (atoms_of q))
unfolding cells_of start_of cell_of start_entry atom_count
start_cells {q} w =
    let ats = atoms_of q in
    let cs = q.constants in
    let whole : length (take (atom_count q) cs) ≡ atom_count q = simp length-take (omega (arith, few_atoms w, w.sized.constants)) in
    let n : length (cells_of (start_of ats)) ≡ length ats = length-map (start_of ats) cell_of ∙ length-map ats start_entry in
    ext_get_or (pos 0) (take (atom_count q) cs) (cells_of (start_of ats)) (whole ∙ sym n)
    (λ i h.
    let b : i < atom_count q = rw whole at h in
    get_or-take (atom_count q) cs i (pos 0) b
    ∙ sym (atom_constant q i b)
    ∙ sym (get_or-map cell_of (start_of ats) i no_entry ∙ ap cell_of (get_or-map start_entry ats i no_atom)))
