-- The answer from how exploring ended and the path area that it left, and the word buffer afterwards.
use Rattle.std.specs.Prelude.{◌≡◌, true, false, List, ℕ, ◌+◌, ◌≤◌, ◌<◌, length, set, leb, Ok, Result}
use Rattle.std.proofs.Common.{◌∙◌, arith, length-append, le-leb}
use Rattle.std.proofs.lemmas.Bool.{lt-leb}
use Rattle.scope.specs.declared.Refusal.{Refusal}
use Rattle.scope.specs.declared.Decision.{Decision}
use Rattle.scope.specs.Whole.{at_front}
use Rattle.scope.specs.Words.{Word, ◌▹◌}
use Rattle.scope.specs.Deciding.{found_answer, found_word}
use Rattle.scope.specs.Sizes.{most_letters}
use Rattle.plan.specs.declared.Explored.{Explored}
use Rattle.path.specs.Path.{path_word, PathLinked, last_stored}

-- where a letter of a row leads to the state found
abbrev pub word_found : List ℕ → ℕ → ℕ → Word
word_found path row letter = path_word path row ▹ letter

abbrev pub explored_answer : Explored → List ℕ → List ℕ → Result Decision Refusal
explored_answer (Explored.Found states row letter) path word = let w = word_found path row letter in found_answer (leb (length w) (length word)) states w
explored_answer (Explored.All states) path word = Ok (Decision.Never states)
explored_answer (Explored.NoRoom states) path word = Ok (Decision.NoRoom states)

abbrev pub word_by : Explored → List ℕ → List ℕ → List ℕ
word_by (Explored.Found states row letter) path word = let w = word_found path row letter in found_word (leb (length w) (length word)) w word
word_by (Explored.All states) path word = word
word_by (Explored.NoRoom states) path word = word

pub record Answers (explored : Explored) (path word₀ word₁ : List ℕ) (answer₁ : Result Decision Refusal) : Type 0 where
  pub answer : answer₁ ≡ explored_answer explored path word₀
  pub word : word₁ ≡ word_by explored path word₀

-- the found state's word can be read off the path area, but for its last letter
pub record Spelt (path : List ℕ) (row letter : ℕ) : Type 0 where
  pub linked : PathLinked path row
  pub letter_ok : letter < most_letters

abbrev pub SpeltIf : Explored → List ℕ → Type 0
SpeltIf (Explored.Found states row letter) path = Spelt path row letter
SpeltIf (Explored.All states) path = Unit
SpeltIf (Explored.NoRoom states) path = Unit

module _ (path word : List ℕ) (states row letter before : ℕ) (counts : before ≡ length (path_word path row)) where
  letters_are : length (word_found path row letter) ≡ before + 1
  letters_are = simp length-append (omega arith)

  pub answers_short : length word < before + 1 → Answers (Explored.Found states row letter) path word word (Ok (Decision.Short states (before + 1)))
  answers_short h =
      let b : leb (length (word_found path row letter)) (length word) ≡ false = lt-leb (length (word_found path row letter)) (length word) (rw letters_are h) in
      record { answer = rw (b, letters_are); word = rw b }

  pub answers_found : before + 1 ≤ length word → (word₁ : List ℕ) → word₁ ≡ at_front (path_word path row) (set word before letter)
      → Answers (Explored.Found states row letter) path word word₁ (Ok (Decision.Found states (before + 1)))
  answers_found h word₁ e =
      let b : leb (length (word_found path row letter)) (length word) ≡ true = le-leb (length (word_found path row letter)) (length word) (rw letters_are h) in
      record { answer = rw (b, letters_are); word = rw b (e ∙ rw counts (last_stored (path_word path row) letter word (omega (arith, counts)))) }
