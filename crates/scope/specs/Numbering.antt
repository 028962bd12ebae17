-- Document 01, "States and steps", of the numbering: reachable states by the first word that reaches each, the start being 0.
-- Over any machine: row by row, each letter in order, a state that has no row yet gets the next one.
use Rattle.std.specs.Prelude.{ℕ, zero, suc, Bool, true, false, ◌||◌, List, [], ◌∷◌, ◌++◌, length, get_or, leb}
use Rattle.std.proofs.Math.Option.{Option, none, some}
use Rattle.scope.specs.declared.Question.{Question}
use Rattle.scope.specs.Question.{nodes_of, atoms_of}
use Rattle.scope.specs.Words.{Word, letters, ◌▹◌}
use Rattle.scope.specs.States.{State, start_of, step_of, same_state, accepting}

-- over the letters below `letters`; `same` tests whether two states are equal
pub record Machine (S : Type 0) : Type 0 where
  pub letters : ℕ
  pub start : S
  pub step : S → ℕ → S
  pub accepts : S → Bool
  pub same : S → S → Bool

unfoldable pub machine_of : Question → Machine State
machine_of q =
    let ats = atoms_of q in
    let xs = nodes_of q in
    record {
      letters = letters q.n;
      start = start_of ats;
      step = step_of ats;
      accepts = accepting xs ats;
      same = same_state;
    }

-- a numbered state, with the number of the state and the letter from which it was numbered
pub record Row (S : Type 0) : Type 0 where
  pub state : S
  pub from : ℕ
  pub letter : ℕ

abbrev pub Rows : Type 0 → Type 0
Rows S = List (Row S)

-- the place of the first row that passes, from whether this row does and the place in the rows after it
unfoldable pub first_if : Bool → Option ℕ → Option ℕ
first_if true later = some 0
first_if false none = none
first_if false (some t) = some (suc t)

unfoldable pub number_if : Bool → ℕ → ℕ
number_if true later = 0
number_if false later = suc later

module _ {S : Type 0} (m : Machine S) where
  -- the state that a word leads to from s
  unfoldable pub after : S → Word → S
  after s [] = s
  after s (a ∷ w) = after (m.step s a) w

  unfoldable pub start_row : Row S
  start_row = record { state = m.start; from = 0; letter = 0 }

  -- row t; what lies past the end is the start's
  abbrev pub row : Rows S → ℕ → Row S
  row l t = get_or l t start_row

  -- whether a state has a row
  unfoldable pub has : Rows S → S → Bool
  has [] s = false
  has (r ∷ l) s = m.same r.state s || has l s

  -- the rows with one more at the end, unless its state has a row: the test's outcome comes first
  unfoldable pub added_if : Bool → Rows S → Row S → Rows S
  added_if true l r = l
  added_if false l r = l ++ (r ∷ [])

  -- the rows once letter a is tried at row i
  unfoldable pub tried : Rows S → ℕ → ℕ → Rows S
  tried l i a =
      let r : Row S = record { state = m.step (row l i).state a; from = i; letter = a } in
      added_if (has l r.state) l r

  -- the rows once the n letters from a on are tried at row i
  unfoldable pub tried_all : Rows S → ℕ → ℕ → ℕ → Rows S
  tried_all l i a zero = l
  tried_all l i a (suc n) = tried_all (tried l i a) i (suc a) n

  -- the rows once row i is expanded, if there is a row i: whether there is none comes first
  unfoldable pub expanded_if : Bool → Rows S → ℕ → Rows S
  expanded_if true l i = l
  expanded_if false l i = tried_all l i 0 m.letters

  -- the rows once the rows 0, 1, .. f - 1 are expanded, or as many as there are
  unfoldable pub numbered : ℕ → Rows S
  numbered zero = start_row ∷ []
  numbered (suc f) = let l = numbered f in expanded_if (leb (length l) f) l f

  -- the word by which row t was numbered, of at most n letters
  unfoldable pub word_within : Rows S → ℕ → ℕ → Word
  word_within l zero t = []
  word_within l (suc n) zero = []
  word_within l (suc n) (suc t) = word_within l n (row l (suc t)).from ▹ (row l (suc t)).letter

  -- the word by which row t was numbered
  unfoldable pub word_of : Rows S → ℕ → Word
  word_of l t = word_within l t t

  -- the smallest row that accepts
  unfoldable pub first_accepting : Rows S → Option ℕ
  first_accepting [] = none
  first_accepting (r ∷ l) = first_if (m.accepts r.state) (first_accepting l)

  -- the first row that has a state; the rows' number where none has it
  unfoldable pub number_of : Rows S → S → ℕ
  number_of [] s = 0
  number_of (r ∷ l) s = number_if (m.same r.state s) (number_of l s)
