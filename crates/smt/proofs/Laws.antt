-- A question's bytes in a buffer, and what is said of a text, case by case.
use Prim.Native.Nat.{ℕ, ◌≤◌, ◌<◌}
use native.Mathlib.Omega.{arith}
use mathlib.Core.Path.{◌≡◌, refl, sym, ap, ◌∙◌}
use mathlib.Core.Bool.{Bool, true, false, true≢false}
use mathlib.Core.List.{List}
use lib.ListN.{length, take, drop, length-append, length-drop, length-take, length-replicate, length-map, replicate}
use lib.Dec.{leb}
use borrow.Author.Tests.{le-leb, lt-leb}
use Rattle.std.specs.Prelude.{Ok, Err, Result, IsOk, is_ok}
use Rattle.scope.specs.declared.Decision.{Decision}
use Rattle.scope.specs.declared.Question.{Question}
use Rattle.scope.specs.declared.Refusal.{Refusal}
use Rattle.scope.specs.Whole.{at_front}
use Rattle.scope.specs.Sizes.{most_bytes}
use Rattle.scope.specs.Wire.{question_held}
use Rattle.scope.specs.Tree.{held_as, question_bytes, IsQuestion, IsHeld}
use Rattle.scope.specs.Refusals.{Progress, stopped, going, ended}
use Rattle.scope.specs.Writing.{Walk, written, fitted, wrote_of, wrote}
use Rattle.writing.specs.Writes.{Writes}
use Rattle.theory.specs.Wire.Held.{Sized}
use Rattle.theory.specs.Wire.Accepted as wire
use Rattle.theory.specs.Wire.Buffers.{written_short}
use Rattle.theory.specs.Numbers.Joined.{at_front_cells}
use Rattle.theory.specs.Trees.Parsed.{question_read}
use Rattle.theory.specs.Trees.Written.{held_written}
use Rattle.smtlib.specs.Script.{Declaration}
use Rattle.smtlib.specs.Imported.{bounds_of, imported}
use Rattle.smtlib.specs.Cases.{script_in}
use Rattle.smtlib.proofs.Accepted.{accepted_few, accepted_question, accepted_within, variables_names}
use Rattle.told.specs.Text.{ascii}
use Rattle.told.specs.Writers.{Put}
use Rattle.said.specs.Said.{error_line, said_of, BoundsStand}
use Rattle.importing.specs.declared.answer.Import.{Import}
use Rattle.importing.specs.Given.{names_given, given_by, import_given, question_given, given_is}
use Rattle.smt.specs.Solved.{most_text, names_count, text_tree, text_bytes, solved_for, said_in, solved, HeldSaid, Solved}

-- ---- a question's bytes

not_refused : {r : Refusal} {count : ℕ} → ◌≡◌ {A = Result ℕ Refusal} (Err r) (Ok count) → ⊥
not_refused e = let z : ◌≡◌ {A = ℕ} 0 1 = cc in omega arith

count_is : {k count : ℕ} → ◌≡◌ {A = Result ℕ Refusal} (Ok k) (Ok count) → k ≡ count
count_is e = cc

same_walk : {v w : Walk} → ◌≡◌ {A = Progress Walk Walk} (ended v) (ended w) → v ≡ w
same_walk e = cc

front_there : (bytes before : List ℕ) → length bytes ≤ length (at_front bytes before)
unfolding at_front
front_there bytes before = omega (arith, length-append bytes (drop (length bytes) before))

-- a question's bytes at the front of a buffer that has room for them
record QuestionPut (q : Question) (before : List ℕ) (r : ℕ) (after : List ℕ) : Type 0 where
  within : r ≤ length after
  front : (w : Walk) → written q ≡ ended w → length w.bytes ≤ length before → take r after ≡ w.bytes

module _ (q : Question) (before : List ℕ) where
  question_put : (count : ℕ) → (wrote q before).answer ≡ Ok count → QuestionPut q before count (wrote q before).buffer
  unfolding wrote
  question_put count e = go (written q) refl e
    where
      fit : (w : Walk) (t : Bool) → written q ≡ ended w → (fitted t w.bytes before).answer ≡ Ok count → QuestionPut q before count (fitted t w.bytes before).buffer
      fit w false x e = absurd (not_refused e)
      fit w true x e =
          let n : length w.bytes ≡ count = count_is e in
          record {
            within = rw (sym n) (front_there w.bytes before);
            front = λ v y h. at_front_cells w.bytes before count n ∙ ap (λ (u : Walk). u.bytes) (same_walk (sym x ∙ y));
          }

      go : (p : Progress Walk Walk) → written q ≡ p → (wrote_of p before).answer ≡ Ok count → QuestionPut q before count (wrote_of p before).buffer
      go (stopped r) x e = absurd (not_refused e)
      go (going w) x e = absurd (not_refused e)
      go (ended w) x e = fit w (leb (length w.bytes) (length before)) x e

  pub count_inside : (r : Result ℕ Refusal) (after : List ℕ) → Writes q before r after → (count : ℕ) → r ≡ Ok count → count ≤ length after
  count_inside r after w count e = rw w.buffer (question_put count (sym w.answer ∙ e)).within

module _ (q : Question) (h : IsHeld q) (before : List ℕ) (room : most_bytes ≤ length before) where
  -- it is written, and its bytes have room
  held_written_lem : (w : Walk) × (written q ≡ ended w) × (w.bytes ≡ question_bytes h.n h.tree) × (length w.bytes ≤ length before)
  held_written_lem =
      let (w, e, b) = held_written h.n h.tree h.within in
      let bytes : List ℕ = question_bytes h.n h.tree in
      let its : IsQuestion bytes = record { n = h.n; tree = h.tree; within = h.within; bytes_are = refl } in
      let read = question_read bytes its in
      let sized : Sized (held_as h.n h.tree) = rw read at (wire.accepted_within bytes (ap is_ok read)).sized in
      (w, ap written h.held_is ∙ e, b, omega (arith, written_short (held_as h.n h.tree) w sized e, room))

  pub held_bytes : (count : ℕ) → (wrote q before).answer ≡ Ok count → take count (wrote q before).buffer ≡ question_bytes h.n h.tree
  held_bytes count e = let (w, x, b, l) = held_written_lem in (question_put q before count e).front w x l ∙ b

  pub held_accepted : (r : Refusal) → (wrote q before).answer ≡ Err r → ⊥
  unfolding wrote
  held_accepted r e =
      let (w, x, b, l) = held_written_lem in
      let y : (wrote_of (written q) before).answer ≡ Ok (length w.bytes) = rw (x, le-leb (length w.bytes) (length before) l) in
      not_refused (sym e ∙ y)

-- ---- what is said of an answer that is known

pub said_as : (text names : List ℕ) (n : ℕ) {a b : Result Decision Refusal} {v w : List ℕ} → a ≡ b → v ≡ w → said_of text names n a v ≡ said_of text names n b w
said_as text names n e f = rw (e, f)

-- ---- a text, case by case

pub solved_put : {text said before after : List ℕ} {r : ℕ} → said ≡ solved text → Put said 0 before r after → Solved text r after
solved_put {text} {said} {before} {after} {r} e p =
    let n : r ≡ length said = omega (arith, p.ends) in
    record {
      ends = n ∙ ap length e;
      printed = p.front ∙ e;
      inside = omega (arith, n, ap length p.front, length-take r after);
    }

pub solved_long : (text : List ℕ) → most_text < length text → ascii "unknown\n" ≡ solved text
unfolding solved
solved_long text h = rw (lt-leb (length text) most_text h)

-- ---- what the import gives, case by case

module _ (text : List ℕ) (few : length text ≤ most_text) where
  pub given_refused : (r : Refusal) → Err r ≡ import_given text → error_line r ≡ solved text
  unfolding import_given solved
  given_refused r e = rw (le-leb (length text) most_text few, sym (given_is (imported text) text) ∙ ap question_given (sym e))

  module _ (g : Import) (e : Ok g ≡ import_given text) where
    is_imported : imported text ≡ Ok g.question
    unfolding import_given
    is_imported = sym (given_is (imported text) text) ∙ ap question_given (sym e)

    names_are : g.names ≡ names_given text
    unfolding import_given
    names_are = go (imported text) e
      where
        go : (a : Result Question Refusal) → Ok g ≡ given_by a text → g.names ≡ names_given text
        go (Ok q) f = let same : g ≡ record { question = q; names = names_given text } = cc in ap (λ (i : Import). i.names) same
        go (Err r) f = absurd (true≢false (ap is_ok f))

    accepted : IsOk (imported text)
    accepted = ap is_ok is_imported

    unfoldable question_is_held : IsHeld g.question
    question_is_held = record {
      n = names_count text;
      tree = text_tree text;
      within = accepted_within text accepted;
      held_is = ap question_held (sym is_imported) ∙ accepted_question text accepted;
    }

    solved_accepted : said_in text g.names g.question.n (text_bytes text) ≡ solved text
    unfolding solved said_in solved_for
    solved_accepted = rw (names_are, le-leb (length text) most_text few, is_imported)

    pub given_bounds : BoundsStand g.names g.question.n
    unfolding at_front
    given_bounds =
        let bounds : List ℕ = bounds_of text (script_in text).declarations in
        let few_names : g.question.n ≤ 6 = omega (arith, ap (λ (h : Result Question Refusal). (question_held h).n) is_imported, variables_names text accepted, length-map (script_in text).declarations (λ (d : Declaration). d.name), accepted_few text accepted) in
        rw names_are (record {
          at_most_six = few_names;
          room = omega (arith, few_names, length-append {A = ℕ} bounds (drop (length bounds) (replicate 12 0)), length-drop {A = ℕ} (length bounds) (replicate 12 0), length-replicate {A = ℕ} 12 0);
        })

    pub given_solved : {before after : List ℕ} {r : ℕ} → HeldSaid text g.names g.question before r after → Solved text r after
    unfolding text_bytes question_is_held
    given_solved {before} {after} {r} said = solved_put solved_accepted (said question_is_held)
