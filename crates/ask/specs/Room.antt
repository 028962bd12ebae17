-- What the room of the asking program means: R is 1,024 for any m, a found word has room, and its values are told by document 01's test.
use Rattle.std.specs.Prelude.{ℕ, ◌*◌, ◌/◌, ◌≤◌, ◌<◌, ◌≡◌, refl, ◌≢◌, true, List, length, take, ltb, ℤ, pos, Ok, Err, Result, IsOk, is_ok}
use Rattle.std.proofs.Common.{true≢false, le-div_iff_mul-le, arith, sym, ap, ◌∙◌, le-leb, lt-ltb}
use Rattle.std.proofs.lemmas.List.{length-replicate}
use Rattle.std.proofs.Math.Seq.{length-take-le}
use Rattle.scope.specs.declared.Decision.{Decision}
use Rattle.scope.specs.declared.Question.{Question}
use Rattle.scope.specs.declared.Refusal.{Refusal}
use Rattle.std.specs.List.{list_all}
use Rattle.scope.specs.Sizes.{variables_fit}
use Rattle.scope.specs.Question.{atom_count}
use Rattle.scope.specs.Wire.{read_held, question_held}
use Rattle.scope.specs.Words.{Word, Over, over-[], over-∷, letters_fit, spelled}
use Rattle.scope.specs.Deciding.{Decided, decide_room, decided}
use Rattle.theory.specs.Wire.Accepted.{WithinLimits, accepted_within}
use Rattle.theory.specs.Wire.Answers.{atom_count_lem}
use Rattle.theory.specs.Calls.Decided.{letters_fewer, decide_refused_unchanged, says_found, says_short, held_found_hands_over}
use Rattle.theory.specs.Calls.Lengths.{decided_word_length}
use Rattle.told.specs.Text.{ascii, numbers, values_said}
use Rattle.told.specs.Told.{values_spelled, values_long}
use Rattle.ask.specs.Asked.{variables, key_area, path_area, word_area, decided_for}

-- ---- areas of 8,192 and 2,048 cells hold 1,024 states

room_is : (q : Question) (keys : List ℤ) (path : List ℕ) → WithinLimits q → length keys ≡ 8192 → length path ≡ 2048 → decide_room q keys path ≡ 1024
unfolding decide_room
room_is q keys path w e f =
    let c = atom_count_lem q in
    let a : 1024 * atom_count q ≤ 8192 = omega (arith, w.atoms) in
    let p : 0 < atom_count q = omega (arith, w.some_atom) in
    let h : 1024 ≤ 8192 / atom_count q = (le-div_iff_mul-le p).1 a in
    rw (e, f) (omega arith)

-- ---- whatever is read

is_held : (a : Result Question Refusal) → IsOk a → a ≡ Ok (question_held a)
is_held (Ok q) e = refl
is_held (Err r) e = absurd (true≢false (sym e))

no_short : {states k : ℕ} {r : Refusal} → ◌≡◌ {A = Result Decision Refusal} (Err r) (Ok (Decision.Short states k)) → ⊥
no_short e = let z : ◌≡◌ {A = ℕ} 0 1 = cc in omega arith

-- R is 1,024, however many atoms the question has
pub room : (bytes : List ℕ) → IsOk (read_held bytes) → decide_room (question_held (read_held bytes)) key_area path_area ≡ 1024
room bytes accepted =
    room_is (question_held (read_held bytes)) key_area path_area (accepted_within bytes accepted) (length-replicate 8192 (pos 0)) (length-replicate {A = ℕ} 2048 0)

-- a found word always has room
pub never_short : (bytes : List ℕ) (states k : ℕ) → (decided_for bytes).answer ≢ Ok (Decision.Short states k)
unfolding decided_for
never_short bytes states k e = go (read_held bytes) refl
  where
    go : (a : Result Question Refusal) → read_held bytes ≡ a → ⊥
    go (Ok q) h =
        let s = (says_short bytes key_area path_area word_area (question_held (read_held bytes)) (is_held (read_held bytes) (ap is_ok h)) states k).0 e in
        omega (arith, s.1, s.0.states_are, s.0.found_at.room, letters_fewer s.0, room bytes (ap is_ok h), length-replicate {A = ℕ} 1024 0)
    go (Err r) h =
        no_short (sym (ap (λ (d : Decided). d.answer) (decide_refused_unchanged bytes key_area path_area word_area r h)) ∙ e)

-- ---- the values of a found word: up to 64 letters they are told, above them they are long

over_fits : {k : ℕ} {w : Word} → Over k w → list_all (λ (letter : ℕ). ltb letter k) w ≡ true
over_fits over-[] = refl
over_fits {k} (over-∷ {a} h o) = rw (lt-ltb a k h) (over_fits o)

module _ (bytes : List ℕ) (states k : ℕ) (accepted : IsOk (read_held bytes)) (found : (decided_for bytes).answer ≡ Ok (Decision.Found states k)) where
  letters_fit_lem : letters_fit (variables bytes) (take k (decided_for bytes).word) ≡ true
  unfolding decided_for variables
  letters_fit_lem =
      over_fits (held_found_hands_over bytes key_area path_area word_area (question_held (read_held bytes)) (is_held (read_held bytes) accepted) states k found).first.over

  variables_fit_lem : variables_fit (variables bytes) ≡ true
  unfolding variables
  variables_fit_lem =
      let w = accepted_within bytes accepted in
      rw (le-leb 1 (question_held (read_held bytes)).n w.some_variable) (le-leb (question_held (read_held bytes)).n 6 w.variables)

  word_letters : length (take k (decided_for bytes).word) ≡ k
  unfolding decided_for
  word_letters =
      let f = (says_found bytes key_area path_area word_area (question_held (read_held bytes)) (is_held (read_held bytes) accepted) states k).0 found in
      let l = decided_word_length bytes key_area path_area word_area in
      length-take-le k (decided bytes key_area path_area word_area).word (omega (arith, l, f.1))

  pub values_told : k ≤ 64 → values_said (variables bytes) (take k (decided_for bytes).word) ≡ numbers (spelled (variables bytes) (take k (decided_for bytes).word))
  values_told h = values_spelled (variables bytes) (take k (decided_for bytes).word) variables_fit_lem letters_fit_lem (omega (arith, word_letters))

  pub values_not_told : 64 < k → values_said (variables bytes) (take k (decided_for bytes).word) ≡ ascii " long"
  values_not_told h = values_long (variables bytes) (take k (decided_for bytes).word) variables_fit_lem letters_fit_lem (omega (arith, word_letters))
