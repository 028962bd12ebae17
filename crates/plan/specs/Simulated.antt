-- The machine of key rows does what a question's machine does: a key row that has the cells of a state accepts, steps and is told apart
-- from others as the state is.
use Rattle.std.specs.Prelude.{◌≡◌, refl, Bool, true, false, List, ℕ, ◌^◌, ◌<◌, ◌*◌, get_or, take, ℤ, pos}
use Rattle.std.proofs.Math.Path.{sym}
use Rattle.std.proofs.Common.{◌∙◌, arith, pow_mono, pow_pos}
use Rattle.std.proofs.Math.ListN.{length, length-map}
use Rattle.std.proofs.Math.Seq.{take_all}
use Rattle.scope.specs.declared.Question.{Question}
use Rattle.scope.specs.Question.{Atom, nodes_of, kinds_of, atoms_of, atom_count}
use Rattle.scope.specs.States.{State, cell_of, cells_of, start_of, same_state, accepting}
use Rattle.scope.specs.Numbering.{machine_of}
use Rattle.scope.specs.Sizes.{most_atoms, most_letters}
use Rattle.theory.specs.Machine.Lawful.{same_state_sound, same_state_refl}
use Rattle.theory.specs.Entries.Range.{StateIn, length_in, start_of_in, step_of_in}
use Rattle.theory.specs.Entries.KeyCells.{AtomsFit, cells_of_injective}
use Rattle.theory.specs.Wire.Answers.{atom_count_lem}
use Rattle.theory.specs.Wire.Accepted.{WithinLimits}
use Rattle.theory.specs.Machine.Simulation.{Simulates}
use Rattle.formula.specs.Truths.{truth_at, TruthsOf}
use Rattle.formula.specs.Alike.{worth_alike}
use Rattle.step.specs.declared.Kinds.{Kinds}
use Rattle.step.specs.Eight.{padded, length_listed}
use Rattle.step.specs.Cells.{kind_codes, CellFits, worth_at, worth_cells, Sums}
use Rattle.step.specs.Atoms.{few_atoms, limits_fit}
use Rattle.step.specs.Laws.{Tables, Holds, sums_small, cells_fit, row_steps, worths}
use Rattle.plan.specs.declared.Plan.{Plan}
use Rattle.plan.specs.Machine.{same_cells, same_cells_sound, same_cells_refl, cell_machine, FreshBits, Task}

-- two tests that agree where either passes are one
same_test : (a b : Bool) → (a ≡ true → b ≡ true) → (b ≡ true → a ≡ true) → a ≡ b
same_test true b f g = sym (f refl)
same_test false true f g = g refl
same_test false false f g = refl

same_cells_lem : {ats : List Atom} → AtomsFit ats → (s t : State) → StateIn ats s → StateIn ats t → same_cells (cells_of s) (cells_of t) ≡ same_state s t
same_cells_lem f s t i j =
    same_test (same_cells (cells_of s) (cells_of t)) (same_state s t)
    (λ e. let d : s ≡ t = cells_of_injective f i j (same_cells_sound (cells_of s) (cells_of t) e) in rw d (same_state_refl t))
    (λ e. rw (same_state_sound s t e) (same_cells_refl (cells_of t)))

-- what the code works of a question
pub record Planned (q : Question) (plan : Plan) (sums : List ℤ) : Type 0 where
  pub tables : Tables q plan.kinds plan.width sums
  pub letters_are : plan.letters ≡ 2 ^ q.n
  pub truths_are : TruthsOf (nodes_of q) plan.truths
  pub bits : FreshBits sums plan.letters plan.fresh

-- what making a plan asks, and what it gives
pub record PlanAsked (q : Question) (atoms : Kinds) (sums : List ℤ) : Type 0 where
  pub limits : WithinLimits q
  pub kinds_are : atoms.kinds ≡ padded 0 (kind_codes q.codes)
  pub count : atoms.m ≡ atom_count q
  pub sums_are : Sums q.n atoms.m q.coefficients sums
  pub whole : length sums ≡ (most_atoms * most_letters)

pub record PlanMade (q : Question) (sums : List ℤ) (rows : ℕ) (noting testing : Bool) (plan : Plan) : Type 0 where
  pub planned : Planned q plan sums
  pub rows_are : plan.rows ≡ rows
  pub notes : plan.noting ≡ noting
  pub tests : plan.testing ≡ testing

module _ {q : Question} {plan : Plan} {sums : List ℤ} (p : Planned q plan sums) where
  t : Tables q plan.kinds plan.width sums
  t = p.tables

  -- the cells of a state by themselves
  cells_hold : {es : State} → StateIn (atoms_of q) es → Holds q plan.width (cells_of es) es
  unfolding t cells_of atom_count
  cells_hold {es} i =
      let n : length (cells_of es) ≡ plan.width = length-map es cell_of ∙ length_in i ∙ sym t.count in
      record { inside = i; cells = take_all plan.width (cells_of es) (omega arith) }

  pub row_accepts : {row : List ℤ} {es : State} → Holds q plan.width row es → truth_at plan.truths (worth_cells plan.kinds row) ≡ (machine_of q).accepts es
  unfolding t machine_of accepting worth_cells
  row_accepts {row} r =
      let atoms : length (kinds_of (nodes_of q)) ≡ plan.width = sym (t.count ∙ atom_count_lem q) in
      p.truths_are.says (worth_cells plan.kinds row) (length_listed (worth_at plan.kinds row) most_atoms)
      ∙ worth_alike (nodes_of q) (worth_cells plan.kinds row) _ (λ i h. worths t r i (rw atoms at h))

  pub simulates : {start : List ℤ} → start ≡ cells_of (start_of (atoms_of q))
      → Simulates (machine_of q) (cell_machine plan.truths plan.kinds plan.width plan.letters sums start) cells_of (StateIn (atoms_of q))
  unfolding t machine_of cell_machine
  simulates e = record {
    letters = p.letters_are;
    start = e;
    good_start = start_of_in (atoms_of q);
    good_step = λ s g a h. step_of_in a g;
    step = λ s g a h. row_steps t (cells_hold g) a h;
    accepts = λ s g. row_accepts (cells_hold g);
    same = λ s u g h. same_cells_lem (limits_fit t.limits) s u g h;
  }

  -- ---- what number_rows asks of a question's arrays and of its start

  pub question_task : Task plan sums
  unfolding t
  question_task = record {
    narrow = rw t.count (few_atoms t.limits);
    some_letters = rw p.letters_are (pow_pos q.n);
    few_letters = rw p.letters_are (pow_mono t.limits.variables);
    sums_fit = λ letter i h l. sums_small t letter i (rw p.letters_are at h) l;
    blank = λ letter i h l few. t.sums_are.blank letter i (rw p.letters_are at h) l few;
    bits = p.bits;
  }

  pub start_fits : (row : List ℤ) → take plan.width row ≡ cells_of (start_of (atoms_of q)) → (i : ℕ) → i < plan.width → CellFits (get_or row i (pos 0))
  unfolding t
  start_fits row e i h = cells_fit t (record { inside = start_of_in (atoms_of q); cells = e }) i h
