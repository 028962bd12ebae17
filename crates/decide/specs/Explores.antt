-- What numbering a question's rows from its start leaves; that a row found in it can be read off the path area, and that the answer made of it
-- is that of document 01's definitions.
use Rattle.std.specs.Prelude.{◌≡◌, refl, false, get_or, ℤ, Ok, Result}
use Rattle.std.proofs.Math.Path.{sym, ap}
use Rattle.std.proofs.Common.{◌∙◌, true≢false, mul-le-mul_right, one-mul, get_or-take}
use Rattle.std.proofs.Math.Bool.{true}
use mathlib.Core.List.{List, [], ◌∷◌, append-nil}
use Prim.Native.Nat.{ℕ, zero, suc, ◌+◌, ◌*◌, ◌≤◌, ◌<◌}
use native.Mathlib.Omega.{arith}
use borrow.Author.Tests.{le-leb}
use Rattle.std.proofs.Math.ListN.{length, take, length-take}
use Rattle.std.proofs.Math.Seq.{length-take-le}
use Rattle.std.proofs.Math.Pow.{pow_mono}
use Rattle.scope.specs.declared.Refusal.{Refusal}
use Rattle.scope.specs.declared.Decision.{Decision}
use Rattle.scope.specs.declared.Question.{Question}
use Rattle.scope.specs.Whole.{joined, at_front}
use Rattle.scope.specs.Words.{Word, ◌▹◌}
use Rattle.scope.specs.Question.{atoms_of, atom_count}
use Rattle.scope.specs.States.{State, cells_of, start_of}
use Rattle.scope.specs.Numbering.{Row, Rows, machine_of, start_row, row}
use Rattle.scope.specs.Deciding.{Verdict, found, never, no_room, counted, decide_room, key_cells, path_cells, decide_answer, word_after, decided_question}
use Rattle.scope.specs.Sizes.{most_letters}
use Rattle.theory.specs.Machine.Lawful.{machine_lawful}
use Rattle.theory.specs.Machine.Table.{Rooted, Stepped, numbered_rooted}
use Rattle.theory.specs.Machine.Firsts.{word_start, word_row}
use Rattle.theory.specs.Machine.Exploring.{start_found, start_counted, no_rows}
use Rattle.theory.specs.Machine.Verdicts.{Found, found_iff}
use Rattle.theory.specs.Numbers.Joined.{joined_at_lem, at_front_before, at_front_length}
use Rattle.theory.specs.Calls.Lengths.{path_length, keys_length, counted_are}
use Rattle.theory.specs.Calls.Deciding.{rows_of, row_word, verdict_of, counted_rows}
use Rattle.step.specs.declared.Kinds.{Kinds}
use Rattle.step.specs.Laws.{start_cells}
use Rattle.plan.specs.declared.Plan.{Plan}
use Rattle.plan.specs.declared.Explored.{Explored}
use Rattle.plan.specs.Simulated.{PlanMade}
use Rattle.explore.specs.Areas.{path_rows, front_twice}
use Rattle.explore.specs.Outcome.{explored_as}
use Rattle.explore.specs.Question.{NumberedQuestion}
use Rattle.path.specs.Path.{from_at, letter_at, rows_linked, rows_word, no_letters}
use Rattle.decide.specs.Start.{StartPut}
use Rattle.decide.specs.Lends.{DecideLends, keys_long}
use Rattle.path.specs.Answering.{word_found, explored_answer, word_by, Answers, Spelt, SpeltIf}
use Rattle.decide.specs.Decides.{Decides}

-- the start does not accept, and so many rows are lent
pub record Explores (q : Question) (rows : ℕ) (keys₀ : List ℤ) (path₀ : List ℕ) (keys₁ : List ℤ) (path₁ : List ℕ) (explored : Explored) : Type 0 where
  pub refused : (machine_of q).accepts (machine_of q).start ≡ false
  pub answer : explored ≡ explored_as (machine_of q) (verdict_of q rows) rows (rows_of q rows)
  pub keys : keys₁ ≡ at_front (key_cells (counted_rows q rows)) keys₀
  pub path : path₁ ≡ at_front (path_cells (counted_rows q rows)) path₀

-- ---- where the start accepts

module _ {q : Question} {atoms : Kinds} {rows : ℕ} {keys₀ : List ℤ} {path₀ : List ℕ} (ask : DecideLends q atoms rows keys₀ path₀)
    {keys₁ : List ℤ} {path₁ : List ℕ} (put : StartPut q.constants (atom_count q) keys₀ keys₁ path₀ path₁) where
  start_row_cells : key_cells (start_row (machine_of q) ∷ []) ≡ take (atom_count q) q.constants
  unfolding key_cells joined start_row machine_of
  start_row_cells = append-nil (cells_of (start_of (atoms_of q))) ∙ sym (start_cells ask.limits)

  pub decides_start : (machine_of q).accepts (machine_of q).start ≡ true → {word : List ℕ}
      → Decides (decided_question q keys₀ path₀ word) (Ok (Decision.Found 1 0)) keys₁ path₁ word
  unfolding decided_question path_cells joined start_row
  decides_start accepts {word} =
      let v : verdict_of q rows ≡ found 0 = start_found (machine_of q) rows ask.some_rows accepts in
      let c = start_counted (machine_of q) rows in
      let w = word_start (machine_of q) (rows_of q rows) in
      rw (← ask.rows_are, v, c, start_row_cells, w, le-leb 0 (length word) (omega arith)) record {
        answer = refl;
        keys = put.keys_are;
        path = put.path_is;
        word = sym (no_letters word);
      }

  -- ---- and where it does not

  some_counted : (v : Verdict) (l : Rows State) → 0 < length l → 0 < length (counted v rows l)
  some_counted (found w) l h = omega (arith, length-take (suc w) l)
  some_counted never l h = h
  some_counted no_room l h = omega (arith, length-take rows l, ask.some_rows)

  counted_some : 0 < length (counted_rows q rows)
  counted_some = some_counted (verdict_of q rows) (rows_of q rows) (numbered_rooted (machine_of q) (machine_lawful q) rows).not_empty

  keys_longer : atom_count q ≤ length (key_cells (counted_rows q rows))
  keys_longer =
      let c = counted_are q rows (verdict_of q rows) refl in
      let e : length (key_cells (counted_rows q rows)) ≡ length (counted_rows q rows) * atom_count q = rw c.are (keys_length q rows c.k) in
      rw e (rw one-mul at (mul-le-mul_right (atom_count q) counted_some))

  pub explores_on : {plan : Plan} {sums : List ℤ} → PlanMade q sums rows true true plan → (machine_of q).accepts (machine_of q).start ≡ false
      → {keys : List ℤ} {path : List ℕ} {r : Explored} → NumberedQuestion q plan keys₁ path₁ keys path r → Explores q rows keys₀ path₀ keys path r
  unfolding path_rows path_cells
  explores_on made refused n = record {
    refused = refused;
    answer = rw (made.rows_are, made.tests) at n.answer;
    keys =
        (rw (made.rows_are, made.tests) at n.keys_after) ∙ rw put.keys_are
        (front_twice (take (atom_count q) q.constants) (key_cells (counted_rows q rows)) keys₀ (omega (arith, length-take (atom_count q) q.constants, keys_longer)) (omega (arith, length-take (atom_count q) q.constants, keys_long ask)));
    path =
        (rw (made.rows_are, made.tests, made.notes) at n.path_after) ∙ rw put.path_is
        (front_twice (0 ∷ 0 ∷ []) (path_cells (counted_rows q rows)) path₀ (omega (arith, path_length (counted_rows q rows), counted_some)) (omega (arith, ask.path_room, ask.some_rows)));
  }

-- ---- the answer

module _ {q : Question} {atoms : Kinds} {rows : ℕ} {keys₀ : List ℤ} {path₀ : List ℕ} (ask : DecideLends q atoms rows keys₀ path₀)
    {keys₁ : List ℤ} {path₁ : List ℕ} {explored : Explored} (e : Explores q rows keys₀ path₀ keys₁ path₁ explored) where
  few_letters : (machine_of q).letters ≤ most_letters
  unfolding machine_of
  few_letters = pow_mono ask.limits.variables

  rooted : Rooted (machine_of q) (rows_of q rows)
  rooted = numbered_rooted (machine_of q) (machine_lawful q) rows

  module _ (w : ℕ) (is_found : verdict_of q rows ≡ found w) where
    at : Found (machine_of q) rows w
    at = (found_iff (machine_of q) (machine_lawful q) rows w).0 is_found

    -- it is not the start's row
    some : 0 < w
    unfolding start_row
    some = go w at.accepts
      where
        go : (t : ℕ) → (machine_of q).accepts (row (machine_of q) (rows_of q rows) t).state ≡ true → 0 < t
        go zero y = absurd (true≢false (sym (rw rooted.start_row at y) ∙ e.refused))
        go (suc t) y = omega arith

    abbrev its : Row State
    its = row (machine_of q) (rows_of q rows) w

    stepped : Stepped (machine_of q) (rows_of q rows) w its
    stepped = rooted.stepped w some at.inside

    path_is : path₁ ≡ at_front (path_cells (take (suc w) (rows_of q rows))) path₀
    path_is = rw is_found at e.path

    cell : (t i : ℕ) → t ≤ w → i < 2 → get_or path₁ (t * 2 + i) 0 ≡ get_or ((row (machine_of q) (rows_of q rows) t).from ∷ (row (machine_of q) (rows_of q rows) t).letter ∷ []) i 0
    unfolding path_cells
    cell t i h g =
        let l = take (suc w) (rows_of q rows) in
        let n : length l ≡ suc w = length-take-le (suc w) (rows_of q rows) at.inside in
        let p : t < suc w = omega arith in
        rw path_is
        (at_front_before (path_cells l) path₀ (t * 2 + i) 0 (omega (arith, path_length l))
        ∙ joined_at_lem (λ (x : Row State). x.from ∷ x.letter ∷ []) 2 (start_row (machine_of q)) l (λ t h. refl) t i 0 (omega arith) g
        ∙ rw (get_or-take (suc w) (rows_of q rows) t (start_row (machine_of q)) p))

    froms : (t : ℕ) → t ≤ its.from → from_at path₁ t ≡ (row (machine_of q) (rows_of q rows) t).from
    froms t h = let d : 2 * t ≡ t * 2 + 0 = omega arith in rw d (cell t 0 (omega (arith, stepped.back)) (omega arith))

    letters_are : (t : ℕ) → t ≤ its.from → letter_at path₁ t ≡ (row (machine_of q) (rows_of q rows) t).letter
    letters_are t h = let d : 2 * t + 1 ≡ t * 2 + 1 = omega arith in rw d (cell t 1 (omega (arith, stepped.back)) (omega arith))

    inside : its.from < length (rows_of q rows)
    inside = omega (arith, stepped.back, at.inside)

    found_spelt : Spelt path₁ its.from its.letter
    found_spelt =
        let l = take (suc w) (rows_of q rows) in
        let n : length l ≡ suc w = length-take-le (suc w) (rows_of q rows) at.inside in
        let fits : length (path_cells l) ≤ length path₀ = omega (arith, path_length l, at.room, ask.path_room) in
        let size : 2 * its.from + 1 < length path₁ =
        omega (arith, ap length path_is, at_front_length (path_cells l) path₀ fits, at.room, stepped.back, ask.path_room) in
        record {
          linked = rows_linked (machine_of q) rooted path₁ its.from inside froms letters_are few_letters size;
          letter_ok = omega (arith, stepped.letter_ok, few_letters);
        }

    found_word_is : word_found path₁ its.from its.letter ≡ row_word q rows w
    found_word_is =
        ap (λ (v : Word). v ▹ its.letter) (rows_word (machine_of q) rooted path₁ its.from inside froms letters_are)
        ∙ sym (word_row (machine_of q) rooted w some at.inside)

  pub word_spelt : SpeltIf explored path₁
  word_spelt = rw e.answer (go (verdict_of q rows) refl)
    where
      go : (v : Verdict) → verdict_of q rows ≡ v → SpeltIf (explored_as (machine_of q) v rows (rows_of q rows)) path₁
      go (found w) x = found_spelt w x
      go never x = tt
      go no_room x = tt

  module _ {word₀ word₁ : List ℕ} {answer₁ : Result Decision Refusal} (a : Answers explored path₁ word₀ word₁ answer₁) where
    answer_is : (v : Verdict) → verdict_of q rows ≡ v
        → explored_answer (explored_as (machine_of q) v rows (rows_of q rows)) path₁ word₀ ≡ decide_answer v rows (rows_of q rows) (machine_of q) word₀
    answer_is (found w) x = rw (found_word_is w x)
    answer_is never x = refl
    answer_is no_room x = refl

    word_is : (v : Verdict) → verdict_of q rows ≡ v
        → word_by (explored_as (machine_of q) v rows (rows_of q rows)) path₁ word₀ ≡ word_after v (rows_of q rows) (machine_of q) word₀
    word_is (found w) x = rw (found_word_is w x)
    word_is never x = refl
    word_is no_room x = refl

    pub question_decided : Decides (decided_question q keys₀ path₀ word₀) answer₁ keys₁ path₁ word₁
    unfolding decided_question
    question_decided = rw (← ask.rows_are) record {
      answer = a.answer ∙ ap (λ (x : Explored). explored_answer x path₁ word₀) e.answer ∙ answer_is (verdict_of q rows) refl;
      keys = e.keys;
      path = e.path;
      word = a.word ∙ ap (λ (x : Explored). word_by x path₁ word₀) e.answer ∙ word_is (verdict_of q rows) refl;
    }

-- where no row is lent, nothing changes
pub decides_nothing : (q : Question) (keys : List ℤ) (path word : List ℕ) {rows : ℕ} → rows ≡ 0 → rows ≡ decide_room q keys path
    → Decides (decided_question q keys path word) (Ok (Decision.NoRoom 0)) keys path word
unfolding decided_question key_cells path_cells joined at_front
decides_nothing q keys path word z r =
    rw (← r, z, no_rows (machine_of q)) record { answer = refl; keys = refl; path = refl; word = refl }
