-- The machine that the code explores: its states are key rows, as wide as its plan says. Every row keeps its cells dead or of the size of an entry.
use Rattle.std.specs.Prelude.{ℕ, ◌+◌, ◌*◌, ◌^◌, ◌≤◌, ◌<◌, ◌≡◌, Bool, true, false, cond, ◌&&◌, List, [], ◌∷◌, length, get_or, take, ℤ, pos, neg_ℤ, nat_abs, ◌-ℤ◌}
use Rattle.std.proofs.Math.Path.{refl}
use Rattle.std.proofs.Common.{sym, ap₂, ◌∙◌, inl, inr, ⊎_elim, true≢false, arith}
use Rattle.std.specs.Float.Ieee.Bits.{is_true}
use Rattle.scope.specs.Whole.{eq_z, even, half}
use Rattle.scope.specs.Question.{Kind, equation, at_most}
use Rattle.scope.specs.States.{dead, live, dead_cell, cell_of, halved}
use Rattle.scope.specs.Numbering.{Machine}
use Rattle.scope.specs.Sizes.{most_atoms, most_constant, most_letters}
use Rattle.theory.specs.Entries.KeyCells.{most_sum}
use Rattle.theory.specs.Wire.Records.{kind_of_code}
use Rattle.theory.specs.Numbers.Integers.{eqZ→eq, eq→eq_z}
use Rattle.theory.specs.Numbers.Magnitude.{abs_le, le_abs}
use Rattle.theory.specs.Numbers.Half.{half_low, half_high}
use Rattle.theory.specs.Numbers.Bridge.{linear}
use Rattle.theory.specs.Machine.Lawful.{Lawful}
use Rattle.theory.specs.Machine.Exploring.{partial}
use Rattle.theory.specs.Machine.Simulation.{Simulates, AllGood, partial_good}
use Rattle.formula.specs.Truths.{bit_at, truth_at}
use Rattle.step.specs.Cells.{step_cell, step_cells, worth_cells, CellFits}
use Rattle.step.specs.Laws.{step_length, step_cell_lem}
use Rattle.plan.specs.declared.Plan.{Plan}

-- ---- whether two rows have the same cells

unfoldable pub same_cells : List ℤ → List ℤ → Bool
same_cells [] [] = true
same_cells [] (b ∷ bs) = false
same_cells (a ∷ as') [] = false
same_cells (a ∷ as') (b ∷ bs) = eq_z a b && same_cells as' bs

and-true : (a b : Bool) → a && b ≡ true → (a ≡ true) × (b ≡ true)
and-true true b e = (refl, e)
and-true false b e = absurd (true≢false (sym e))

pub same_cells_sound : (a b : List ℤ) → same_cells a b ≡ true → a ≡ b
unfolding same_cells
same_cells_sound [] [] e = refl
same_cells_sound [] (y ∷ b) e = absurd (true≢false (sym e))
same_cells_sound (x ∷ a) [] e = absurd (true≢false (sym e))
same_cells_sound (x ∷ a) (y ∷ b) e =
    let p = and-true (eq_z x y) (same_cells a b) e in
    ap₂ ◌∷◌ (eqZ→eq x y (rw p.0 tt)) (same_cells_sound a b p.1)

pub same_cells_refl : (a : List ℤ) → same_cells a a ≡ true
unfolding same_cells
same_cells_refl [] = refl
same_cells_refl (x ∷ a) = rw (is_true (eq_z x x) (eq→eq_z x x refl), same_cells_refl a)

-- ---- the machine, of what the code is handed

unfoldable pub cell_machine : List ℕ → List ℕ → ℕ → ℕ → List ℤ → List ℤ → Machine (List ℤ)
cell_machine truths kinds width letters sums start = record {
  letters = letters;
  start = start;
  step = λ cells letter. step_cells kinds width sums letter cells;
  accepts = λ cells. truth_at truths (worth_cells kinds cells);
  same = same_cells;
}

-- with the key area's first row as its start
abbrev pub machine : Plan → List ℤ → List ℤ → Machine (List ℤ)
machine plan sums keys = cell_machine plan.truths plan.kinds plan.width plan.letters sums (take plan.width keys)

-- ---- key rows: so many cells that a step is defined on

pub record KeyRow (width : ℕ) (cells : List ℤ) : Type 0 where
  pub size : length cells ≡ width
  pub fits : (i : ℕ) → i < width → CellFits (get_or cells i (pos 0))

half_fits : (cell sum : ℤ) → nat_abs cell ≤ most_constant → nat_abs sum ≤ most_sum → nat_abs (half (cell -ℤ sum)) ≤ most_constant
half_fits cell sum f g =
    let c = le_abs cell most_constant f in
    let s = le_abs sum most_sum g in
    abs_le (half (cell -ℤ sum)) most_constant
    (half_low cell sum (pos most_sum) (neg_ℤ (pos most_constant)) (simp linear (omega arith)) c.0 s.1)
    (half_high cell sum (pos most_sum) (pos most_constant) (simp linear (omega arith)) c.1 s.0)

halved_fits : (κ : Kind) (d : ℤ) → nat_abs (half d) ≤ most_constant → CellFits (cell_of (halved κ d))
unfolding cell_of
halved_fits equation d h = go (even d)
  where
    go : (t : Bool) → CellFits (cell_of (cond t (live (half d)) dead))
    go true = inr h
    go false = inl refl
halved_fits at_most d h = inr h

pub step_fits : (κ : Kind) (cell sum : ℤ) → CellFits cell → nat_abs sum ≤ most_sum → CellFits (step_cell κ cell sum)
unfolding step_cell
step_fits κ cell sum f g = go (eq_z cell dead_cell) refl
  where
    small : (b : Bool) → eq_z cell dead_cell ≡ b → b ≡ false → nat_abs cell ≤ most_constant
    small b e z = ⊎_elim (λ d. absurd (true≢false (sym (is_true (eq_z cell dead_cell) (eq→eq_z cell dead_cell d)) ∙ (e ∙ z)))) (λ s. s) f

    go : (b : Bool) → eq_z cell dead_cell ≡ b → CellFits (cond b dead_cell (cell_of (halved κ (cell -ℤ sum))))
    go true e = inl refl
    go false e = halved_fits κ (cell -ℤ sum) (half_fits cell sum (small false e refl) g)

-- ---- what the code is handed of a question

-- the letters' sums are those of a question
abbrev pub SumsFit : List ℤ → ℕ → Type 0
SumsFit sums letters = (letter i : ℕ) → letter < letters → i < most_atoms → nat_abs (get_or sums (most_atoms * letter + i) (pos 0)) ≤ most_sum

-- an earlier letter has the same sums
pub record Repeats (sums : List ℤ) (letter : ℕ) : Type 0 where
  pub lead : ℕ
  pub earlier : lead < letter
  pub same : (i : ℕ) → i < most_atoms → get_or sums (most_atoms * letter + i) (pos 0) ≡ get_or sums (most_atoms * lead + i) (pos 0)

-- a bit for each letter: one whose bit is 0 repeats an earlier one
pub record FreshBits (sums : List ℤ) (letters fresh : ℕ) : Type 0 where
  pub below : fresh < 2 ^ letters
  pub repeats : (letter : ℕ) → letter < letters → bit_at fresh letter ≡ false → Repeats sums letter

pub record Task (plan : Plan) (sums : List ℤ) : Type 0 where
  pub narrow : plan.width ≤ most_atoms
  pub some_letters : 0 < plan.letters
  pub few_letters : plan.letters ≤ most_letters
  pub sums_fit : SumsFit sums plan.letters
  pub blank : (letter i : ℕ) → letter < plan.letters → plan.width ≤ i → i < most_atoms → get_or sums (most_atoms * letter + i) (pos 0) ≡ pos 0
  pub bits : FreshBits sums plan.letters plan.fresh

-- ---- what is known of the machine

module _ {plan : Plan} {sums : List ℤ} (task : Task plan sums) where
  step_row : (cells : List ℤ) → KeyRow plan.width cells → (letter : ℕ) → letter < plan.letters → KeyRow plan.width (step_cells plan.kinds plan.width sums letter cells)
  step_row cells k letter h = record {
    size = step_length plan.kinds sums letter cells plan.width;
    fits = λ i p.
        rw (step_cell_lem plan.kinds sums letter cells plan.width i p)
        (step_fits (kind_of_code (get_or plan.kinds i 0)) (get_or cells i (pos 0)) (get_or sums (most_atoms * letter + i) (pos 0)) (k.fits i p)
        (task.sums_fit letter i h (omega (arith, task.narrow))));
  }

  -- the machine does what it does
  itself : (start : List ℤ) → KeyRow plan.width start
      → let M = cell_machine plan.truths plan.kinds plan.width plan.letters sums start in Simulates M M (λ s. s) (KeyRow plan.width)
  unfolding cell_machine
  itself start k = record {
    letters = refl;
    start = refl;
    good_start = k;
    good_step = λ s g a p. step_row s g a p;
    step = λ s g a p. refl;
    accepts = λ s g. refl;
    same = λ s t g f. refl;
  }

-- M is the machine of a plan
pub record Runs (plan : Plan) (sums start : List ℤ) (M : Machine (List ℤ)) : Type 0 where
  pub lawful : Lawful M
  pub letters_are : M.letters ≡ plan.letters
  pub start_is : M.start ≡ start
  pub steps : (cells : List ℤ) (letter : ℕ) → M.step cells letter ≡ step_cells plan.kinds plan.width sums letter cells
  pub accepts_are : (cells : List ℤ) → M.accepts cells ≡ truth_at plan.truths (worth_cells plan.kinds cells)
  pub rows_good : Task plan sums → KeyRow plan.width M.start → (i a : ℕ) → a ≤ plan.letters → AllGood (KeyRow plan.width) (partial M i a)

module _ (plan : Plan) (sums start : List ℤ) where
  cell_letters : (cell_machine plan.truths plan.kinds plan.width plan.letters sums start).letters ≡ plan.letters
  unfolding cell_machine
  cell_letters = refl

  cell_start : (cell_machine plan.truths plan.kinds plan.width plan.letters sums start).start ≡ start
  unfolding cell_machine
  cell_start = refl

  runs : Runs plan sums start (cell_machine plan.truths plan.kinds plan.width plan.letters sums start)
  unfolding cell_machine
  runs = record {
    lawful = record { same_sound = same_cells_sound; same_refl = same_cells_refl };
    letters_are = refl;
    start_is = refl;
    steps = λ cells letter. refl;
    accepts_are = λ cells. refl;
    rows_good = λ task k i a p. partial_good (itself task start (rw cell_start at k)) i a (rw cell_letters p);
  }

-- the start is the key area's first row
pub machine_runs : (plan : Plan) (sums keys : List ℤ) → Runs plan sums (take plan.width keys) (machine plan sums keys)
machine_runs plan sums keys = runs plan sums (take plan.width keys)
