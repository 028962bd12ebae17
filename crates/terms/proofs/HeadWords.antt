-- Words that are no head: of two or three bytes by their first one, and longer ones. Assumes nothing.
use Prim.Native.Nat.{ℕ, ◌≤◌}
use native.Mathlib.Omega.{arith}
use mathlib.Core.Path.{◌≡◌, refl}
use mathlib.Core.Bool.{false, and-false}
use mathlib.Core.List.{List, [], ◌∷◌}
use lib.Dec.{eqb}
use borrow.Author.Tests.{ne_eqb}
use lib.ListN.{length, get_or}
use Rattle.smtlib.specs.Spelling.{same, spelling}
use Rattle.smtlib.specs.Terms.{other_head, head_named}

unlike : (w v : List ℕ) → (length w ≡ length v → ⊥) → same w v ≡ false
unfolding same
unlike [] [] n = absurd (n refl)
unlike [] (b ∷ v) n = refl
unlike (a ∷ w) [] n = refl
unlike (a ∷ w) (b ∷ v) n = rw (unlike w v (λ e. n (omega arith))) (and-false (eqb a b))

unlike_first : (w : List ℕ) (b : ℕ) (v : List ℕ) → (get_or w 0 0 ≡ b → ⊥) → same w (b ∷ v) ≡ false
unfolding same
unlike_first [] b v n = refl
unlike_first (a ∷ w) b v n = rw (ne_eqb a b n)

module _ (w : List ℕ) where
  pub other_of_two : length w ≡ 2 → (get_or w 0 0 ≡ 60 → ⊥) → (get_or w 0 0 ≡ 62 → ⊥) → (get_or w 0 0 ≡ 111 → ⊥) → head_named w ≡ other_head
  unfolding head_named
  other_of_two e x y z =
      rw (
        unlike w (spelling "+") (λ d. omega arith),
        unlike w (spelling "-") (λ d. omega arith),
        unlike w (spelling "*") (λ d. omega arith),
        unlike w (spelling "=") (λ d. omega arith),
        unlike_first w 60 _ x,
        unlike w (spelling "<") (λ d. omega arith),
        unlike_first w 62 _ y,
        unlike w (spelling ">") (λ d. omega arith),
        unlike w (spelling "not") (λ d. omega arith),
        unlike w (spelling "and") (λ d. omega arith),
        unlike_first w 111 _ z,
      )

  pub other_of_three : length w ≡ 3 → (get_or w 0 0 ≡ 110 → ⊥) → (get_or w 0 0 ≡ 97 → ⊥) → head_named w ≡ other_head
  unfolding head_named
  other_of_three e x y =
      rw (
        unlike w (spelling "+") (λ d. omega arith),
        unlike w (spelling "-") (λ d. omega arith),
        unlike w (spelling "*") (λ d. omega arith),
        unlike w (spelling "=") (λ d. omega arith),
        unlike w (spelling "<=") (λ d. omega arith),
        unlike w (spelling "<") (λ d. omega arith),
        unlike w (spelling ">=") (λ d. omega arith),
        unlike w (spelling ">") (λ d. omega arith),
        unlike_first w 110 _ x,
        unlike_first w 97 _ y,
        unlike w (spelling "or") (λ d. omega arith),
      )

  pub other_of_more : 4 ≤ length w → head_named w ≡ other_head
  unfolding head_named
  other_of_more h =
      rw (
        unlike w (spelling "+") (λ d. omega arith),
        unlike w (spelling "-") (λ d. omega arith),
        unlike w (spelling "*") (λ d. omega arith),
        unlike w (spelling "=") (λ d. omega arith),
        unlike w (spelling "<=") (λ d. omega arith),
        unlike w (spelling "<") (λ d. omega arith),
        unlike w (spelling ">=") (λ d. omega arith),
        unlike w (spelling ">") (λ d. omega arith),
        unlike w (spelling "not") (λ d. omega arith),
        unlike w (spelling "and") (λ d. omega arith),
        unlike w (spelling "or") (λ d. omega arith),
      )
