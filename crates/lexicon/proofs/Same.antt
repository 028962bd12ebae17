-- Two spellings are the same as `==` has it, and none of another length is.
use Prim.Native.Nat.{ℕ, suc}
use mathlib.Core.Path.{◌≡◌, refl, ap}
use mathlib.Core.Bool.{false, ◌&&◌, ◌||◌, and-false}
use mathlib.Core.List.{List, [], ◌∷◌}
use lib.ListN.{length}
use Rattle.std.specs.List.{list_any}
use lib.Dec.{eqb}
use lib.Pointwise.{pointwise}
use Rattle.smtlib.specs.Spelling.{same, is_in}

pub same_lem : (l m : List ℕ) → pointwise eqb l m ≡ same l m
unfolding same
same_lem [] [] = refl
same_lem [] (b ∷ m) = refl
same_lem (a ∷ l) [] = refl
same_lem (a ∷ l) (b ∷ m) = ap (λ t. eqb a b && t) (same_lem l m)

pub one_of_lem : (w : List ℕ) (vs : List (List ℕ)) → list_any (λ (v : List ℕ). pointwise eqb w v) vs ≡ is_in w vs
unfolding is_in
one_of_lem w [] = refl
one_of_lem w (v ∷ vs) = λ i. same_lem w v i || one_of_lem w vs i

pub unlike_lengths : (l m : List ℕ) → (length l ≡ length m → ⊥) → same l m ≡ false
unfolding same
unlike_lengths [] [] h = absurd (h refl)
unlike_lengths [] (b ∷ m) h = refl
unlike_lengths (a ∷ l) [] h = refl
unlike_lengths (a ∷ l) (b ∷ m) h = rw (unlike_lengths l m (λ e. h (ap suc e))) (and-false (eqb a b))
