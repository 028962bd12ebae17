-- Names and their values: what it is that a valuation gives naturals to names in their order, and one that does, where no name stands twice.
use Rattle.std.specs.Prelude.{◌≡◌, refl, Bool, true, false, cond, ◌||◌, List, [], ◌∷◌, ◌++◌, ℕ, suc, ◌+◌, ◌*◌, ◌<◌, ◌≤◌, eqb, length, get_or, ℤ, pos}
use Rattle.std.proofs.Common.{sym, ap, ◌∙◌, true≢false, arith, eqb-true, eq-eqb}
use Rattle.std.proofs.Math.Bool.{and-eq-true_iff, or-true}
use Rattle.std.proofs.Math.Option.{some, some-injective, none-ne-some}
use Rattle.scope.specs.Sizes.{most_variables}
use Rattle.smtlib.specs.Spelling.{same, is_in}
use Rattle.smtlib.specs.Terms.{index_from}
use Rattle.smtlib.specs.Values.{dot_one, Named}

-- ---- spellings

pub same→eq : (k l : List ℕ) → same k l ≡ true → k ≡ l
unfolding same
same→eq [] [] e = refl
same→eq [] (b ∷ l) e = absurd (true≢false (sym e))
same→eq (a ∷ k) [] e = absurd (true≢false (sym e))
same→eq (a ∷ k) (b ∷ l) e = let f = (and-eq-true_iff (eqb a b) (same k l)).0 e in λ i. eqb-true a b f.0 i ∷ same→eq k l f.1 i

pub same_self : (l : List ℕ) → same l l ≡ true
unfolding same
same_self [] = refl
same_self (a ∷ l) = rw (eq-eqb a a refl, same_self l)

-- ---- the number of a name

-- among more names it is the same
index_more : (i : ℕ) (w : List ℕ) (k l : List (List ℕ)) (j : ℕ) → index_from i w k ≡ some j → index_from i w (k ++ l) ≡ some j
unfolding index_from
index_more i w [] l j e = absurd (none-ne-some j e)
index_more i w (u ∷ k) l j e = go (same w u) e (index_more (suc i) w k l j)
  where
    go : (t : Bool) → cond t (some i) (index_from (suc i) w k) ≡ some j → (index_from (suc i) w k ≡ some j → index_from (suc i) w (k ++ l) ≡ some j)
        → cond t (some i) (index_from (suc i) w (k ++ l)) ≡ some j
    go true e later = e
    go false e later = later e

pub named_fewer : (v : List ℕ → ℤ) (xs : List ℕ) (k l : List (List ℕ)) → Named xs v (k ++ l) → Named xs v k
named_fewer v xs k l n w i e = n w i (index_more 0 w k l i e)

-- a name that is there has one
pub index_there : (i : ℕ) (w : List ℕ) (k : List (List ℕ)) → is_in w k ≡ true → (j : ℕ) × (index_from i w k ≡ some j)
unfolding index_from is_in
index_there i w [] e = absurd (true≢false (sym e))
index_there i w (u ∷ k) e = go (same w u) e (index_there (suc i) w k)
  where
    go : (t : Bool) → t || is_in w k ≡ true → (is_in w k ≡ true → (j : ℕ) × (index_from (suc i) w k ≡ some j)) → (j : ℕ) × (cond t (some i) (index_from (suc i) w k) ≡ some j)
    go true e later = (i, refl)
    go false e later = later e

-- ---- the names have these values, in their order

abbrev pub GivesNames : (List ℕ → ℤ) → List (List ℕ) → List ℕ → Type 0
GivesNames v [] [] = Unit {0}
GivesNames v [] (x ∷ xs) = ⊥
GivesNames v (w ∷ names) [] = ⊥
GivesNames v (w ∷ names) (x ∷ xs) = (v w ≡ pos x) × GivesNames v names xs

pub gives_length : (v : List ℕ → ℤ) (names : List (List ℕ)) (xs : List ℕ) → GivesNames v names xs → length xs ≡ length names
gives_length v [] [] g = refl
gives_length v [] (x ∷ xs) g = absurd g
gives_length v (w ∷ names) [] g = absurd g
gives_length v (w ∷ names) (x ∷ xs) g = ap suc (gives_length v names xs g.1)

gives_at : (v : List ℕ → ℤ) (names : List (List ℕ)) (xs : List ℕ) → GivesNames v names xs → (i : ℕ) (w : List ℕ) (j : ℕ) → index_from i w names ≡ some j
    → (d : ℕ) × (j ≡ i + d) × (d < length names) × (v w ≡ pos (get_or xs d 0))
unfolding index_from
gives_at v [] xs g i w j e = absurd (none-ne-some j e)
gives_at v (u ∷ names) [] g i w j e = absurd g
gives_at v (u ∷ names) (x ∷ xs) g i w j e = go (same w u) refl e (gives_at v names xs g.1 (suc i) w j)
  where
    go : (t : Bool) → same w u ≡ t → cond t (some i) (index_from (suc i) w names) ≡ some j
        → (index_from (suc i) w names ≡ some j → (d : ℕ) × (j ≡ suc i + d) × (d < length names) × (v w ≡ pos (get_or xs d 0)))
        → (d : ℕ) × (j ≡ i + d) × (d < suc (length names)) × (v w ≡ pos (get_or (x ∷ xs) d 0))
    go true s e later = let k : i ≡ j = some-injective i j e in (0, omega (arith, k), omega arith, ap v (same→eq w u s) ∙ g.0)
    go false s e later = let f = later e in (suc f.0, omega (arith, f.1), omega (arith, f.2), f.3)

pub gives_named : (v : List ℕ → ℤ) (names : List (List ℕ)) (xs : List ℕ) → GivesNames v names xs → length names ≤ most_variables → Named xs v names
gives_named v names xs g six w i e =
    let f : (d : ℕ) × (i ≡ 0 + d) × (d < length names) × (v w ≡ pos (get_or xs d 0)) = gives_at v names xs g 0 w i e in
    let k : f.0 ≡ i = omega (arith, f.1) in
    let h : i < length names = omega (arith, f.1, f.2) in
    let one : 1 * get_or xs i 0 ≡ get_or xs i 0 = omega arith in (
      get_or xs i 0,
      f.3 ∙ ap (λ (d : ℕ). pos (get_or xs d 0)) k,
      dot_one (suc most_variables) (suc i) (pos 1) (1 ∷ xs) (omega arith) (omega (arith, gives_length v names xs g)) ∙ ap pos one,
    )

-- ---- no name twice: then there is such a valuation

abbrev pub Distinct : List (List ℕ) → Type 0
Distinct [] = Unit {0}
Distinct (w ∷ names) = (is_in w names ≡ false) × Distinct names

unfoldable pub valued : List (List ℕ) → List ℕ → List ℕ → ℤ
valued [] xs w = pos 0
valued (u ∷ names) [] w = pos 0
valued (u ∷ names) (x ∷ xs) w = cond (same w u) (pos x) (valued names xs w)

gives_alike : (u v : List ℕ → ℤ) (names : List (List ℕ)) (xs : List ℕ) → ((w : List ℕ) → is_in w names ≡ true → v w ≡ u w) → GivesNames u names xs → GivesNames v names xs
unfolding is_in
gives_alike u v [] [] h g = tt
gives_alike u v [] (x ∷ xs) h g = g
gives_alike u v (w ∷ names) [] h g = g
gives_alike u v (w ∷ names) (x ∷ xs) h g = (h w first ∙ g.0, gives_alike u v names xs (λ y e. h y (rw e (or-true (same y w)))) g.1)
  where
    first : is_in w (w ∷ names) ≡ true
    first = rw (same_self w)

pub valued_gives : (names : List (List ℕ)) (xs : List ℕ) → length xs ≡ length names → Distinct names → GivesNames (valued names xs) names xs
unfolding valued
valued_gives [] [] l d = tt
valued_gives [] (x ∷ xs) l d = absurd (omega (arith, l))
valued_gives (w ∷ names) [] l d = absurd (omega (arith, l))
valued_gives (w ∷ names) (x ∷ xs) l d =
    (rw (same_self w), gives_alike (valued names xs) (valued (w ∷ names) (x ∷ xs)) names xs agree (valued_gives names xs (omega (arith, l)) d.1))
  where
    agree : (u : List ℕ) → is_in u names ≡ true → cond (same u w) (pos x) (valued names xs u) ≡ valued names xs u
    agree u e = go (same u w) refl
      where
        go : (t : Bool) → same u w ≡ t → cond t (pos x) (valued names xs u) ≡ valued names xs u
        go true s = absurd (true≢false (sym e ∙ ap (λ (y : List ℕ). is_in y names) (same→eq u w s) ∙ d.0))
        go false s = refl

-- ---- a name that is not there, behind the others

neither : (a b : Bool) → a || b ≡ false → (a ≡ false) × (b ≡ false)
neither true b e = absurd (true≢false e)
neither false b e = (refl, e)

same_turned : (k l : List ℕ) → same k l ≡ false → same l k ≡ false
same_turned k l e = go (same l k) refl
  where
    go : (t : Bool) → same l k ≡ t → t ≡ false
    go true s = absurd (true≢false (sym (same_self k) ∙ ap (same k) (sym (same→eq l k s)) ∙ e))
    go false s = refl

not_in_more : (u : List ℕ) (names : List (List ℕ)) (w : List ℕ) → is_in u names ≡ false → same u w ≡ false → is_in u (names ++ (w ∷ [])) ≡ false
unfolding is_in
not_in_more u [] w e f = rw f
not_in_more u (y ∷ names) w e f = let h = neither (same u y) (is_in u names) e in rw h.0 (not_in_more u names w h.1 f)

pub distinct_more : (names : List (List ℕ)) (w : List ℕ) → Distinct names → is_in w names ≡ false → Distinct (names ++ (w ∷ []))
unfolding is_in
distinct_more [] w d e = (refl, tt)
distinct_more (u ∷ names) w d e =
    let h = neither (same w u) (is_in w names) e in
    (not_in_more u names w d.0 (same_turned w u h.0), distinct_more names w d.1 h.1)
