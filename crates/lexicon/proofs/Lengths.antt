-- Words by their length.
use Prim.Native.Nat.{ℕ}
use mathlib.Core.Path.{◌≡◌, refl, sym, ap, ◌∙◌}
use mathlib.Core.Bool.{Bool, true, false, true≢false, cond, ◌||◌, and-eq-true_iff}
use mathlib.Core.List.{List, [], ◌∷◌}
use lib.ListN.{length}
use lib.Dec.{eqb}
use lib.Pointwise.{pointwise}
use borrow.Author.Tests.{eqb-false}
use Rattle.std.specs.List.{list_all}
use Rattle.smtlib.specs.Lexicon.{among}
use Rattle.smtlib.specs.Spelling.{same, is_in}
use Rattle.std.specs.List.{list_any}
use Rattle.lexicon.proofs.Same.{one_of_lem, unlike_lengths}

abbrev of_length : ℕ → List (List ℕ) → List (List ℕ)
of_length n [] = []
of_length n (v ∷ vs) = cond (eqb n (length v)) (v ∷ of_length n vs) (of_length n vs)

-- a word of another length is not the same
in_of_length : (w : List ℕ) (vs : List (List ℕ)) → is_in w vs ≡ is_in w (of_length (length w) vs)
unfolding is_in
in_of_length w [] = refl
in_of_length w (v ∷ vs) = go (eqb (length w) (length v)) refl (in_of_length w vs)
  where
    go : (t : Bool) → eqb (length w) (length v) ≡ t → is_in w vs ≡ is_in w (of_length (length w) vs) → same w v || is_in w vs ≡ is_in w (cond t (v ∷ of_length (length w) vs) (of_length (length w) vs))
    go true e ih = ap (λ (t : Bool). same w v || t) ih
    go false e ih = rw (unlike_lengths w v (eqb-false (length w) (length v) e)) ih

-- one of the words of its length
pub listed : (w : List ℕ) (vs : List (List ℕ)) (n : ℕ) → length w ≡ n → list_any (λ (v : List ℕ). pointwise eqb w v) (of_length n vs) ≡ is_in w vs
listed w vs n e = one_of_lem w (of_length n vs) ∙ sym (in_of_length w vs ∙ ap (λ (k : ℕ). is_in w (of_length k vs)) e)

-- ---- a length that no word has

pub unlisted : (ns : List ℕ) (w : List ℕ) (vs : List (List ℕ)) → list_all (λ (v : List ℕ). among ns (length v)) vs ≡ true → among ns (length w) ≡ false → is_in w vs ≡ false
unfolding is_in
unlisted ns w [] a h = refl
unlisted ns w (v ∷ vs) a h =
    let both = (and-eq-true_iff (among ns (length v)) (list_all (λ (u : List ℕ). among ns (length u)) vs)).0 a in
    rw (unlike_lengths w v (λ e. true≢false (sym both.0 ∙ ap (among ns) (sym e) ∙ h))) (unlisted ns w vs both.1 h)
