-- A sign assertion is of a declared name, and says that its value is not negative.
use Rattle.std.specs.Prelude.{◌≡◌, refl, Bool, true, false, cond, ◌&&◌, ℕ, ℤ, pos}
use Rattle.std.proofs.Common.{sym, ap, ◌∙◌, true≢false, eqb-true}
use Rattle.std.proofs.Math.Bool.{and-eq-true_iff, and-true}
use Rattle.std.proofs.Math.Option.{none, some, some-injective, none-ne-some}
use mathlib.Core.List.{List, [], ◌∷◌, nil≢cons, cons≢nil, head-eq_of_cons-eq, tail-eq_of_cons-eq}
use Rattle.std.specs.Int.Signed.{le_z}
use Rattle.smtlib.specs.Spelling.{same, is_in, spelling}
use Rattle.smtlib.specs.Forms.{Bare, numeral, symbol, reserved, other_word, Forms, nothing, word, list}
use Rattle.smtlib.specs.Terms.{head_of, head_named}
use Rattle.smtlib.specs.Script.{Part, parts_of, says_word, says_one, name_in, is_nought, signs_name, signs}
use Rattle.smtlib.specs.Meaning.{word_value, values_of, truths_of, truth_by, chained, every}
use Rattle.smtlib.specs.Names.{same→eq}

-- ---- the forms of a list, from its parts

none_left : (forms : Forms) → parts_of forms ≡ [] → forms ≡ nothing
unfolding parts_of
none_left nothing e = refl
none_left (word at w rest) e = absurd (cons≢nil e)
none_left (list at inner rest) e = absurd (cons≢nil e)

-- a part that is no list is a word
first_word : (forms : Forms) (p : Part) (ps : List Part) → parts_of forms ≡ p ∷ ps → (p.word ≡ other_word → ⊥)
    → (rest : Forms) × (forms ≡ word p.place p.word rest) × (parts_of rest ≡ ps)
unfolding parts_of
first_word nothing p ps e f = absurd (nil≢cons e)
first_word (word at w rest) p ps e f =
    (rest, ap (λ (q : Part). word q.place q.word rest) (head-eq_of_cons-eq e), tail-eq_of_cons-eq e)
first_word (list at inner rest) p ps e f = absurd (f (ap (λ (q : Part). q.word) (sym (head-eq_of_cons-eq e))))

-- ---- >= name 0

record Signing (names : List (List ℕ)) (h n z : Bare) (w : List ℕ) : Type 0 where
  least : says_word h (spelling ">=") ≡ true
  known : says_one n names ≡ true
  nought : is_nought z ≡ true
  name : name_in n ≡ w

signing_if : (names : List (List ℕ)) (h n z : Bare) (w : List ℕ) (t : Bool) → says_word h (spelling ">=") && (says_one n names && is_nought z) ≡ t
    → cond t (some (name_in n)) none ≡ some w → Signing names h n z w
signing_if names h n z w true t e =
    let f = (and-eq-true_iff (says_word h (spelling ">=")) (says_one n names && is_nought z)).0 t in
    let g = (and-eq-true_iff (says_one n names) (is_nought z)).0 f.1 in
    record { least = f.0; known = g.0; nought = g.1; name = some-injective (name_in n) w e }
signing_if names h n z w false t e = absurd (none-ne-some w e)

signing_parts : (names : List (List ℕ)) (ps : List Part) (w : List ℕ) → signs_name names ps ≡ some w
    → (h : Part) × (n : Part) × (z : Part) × (ps ≡ h ∷ n ∷ z ∷ []) × Signing names h.word n.word z.word w
unfolding signs_name
signing_parts names [] w e = absurd (none-ne-some w e)
signing_parts names (h ∷ []) w e = absurd (none-ne-some w e)
signing_parts names (h ∷ n ∷ []) w e = absurd (none-ne-some w e)
signing_parts names (h ∷ n ∷ z ∷ []) w e =
    (h, n, z, refl, signing_if names h.word n.word z.word w (says_word h.word (spelling ">=") && (says_one n.word names && is_nought z.word)) refl e)
signing_parts names (h ∷ n ∷ z ∷ o ∷ ps) w e = absurd (none-ne-some w e)

-- the three words, and the forms that they are
signing_forms : (names : List (List ℕ)) (inner : Forms) (w : List ℕ) → signs_name names (parts_of inner) ≡ some w
    → (h : Part) × (n : Part) × (z : Part) × (inner ≡ word h.place h.word (word n.place n.word (word z.place z.word nothing)))
    × Signing names h.word n.word z.word w
signing_forms names inner w e =
    let (h, n, z, p, s) = signing_parts names (parts_of inner) w e in
    let (r₁, e₁, p₁) = first_word inner h (n ∷ z ∷ []) p (λ f. true≢false (sym s.least ∙ ap (λ (b : Bare). says_word b (spelling ">=")) f)) in
    let (r₂, e₂, p₂) = first_word r₁ n (z ∷ []) p₁ (λ f. true≢false (sym s.known ∙ ap (λ (b : Bare). says_one b names) f)) in
    let (r₃, e₃, p₃) = first_word r₂ z [] p₂ (λ f. true≢false (sym s.nought ∙ ap is_nought f)) in
    let whole = e₁ ∙ ap (word h.place h.word) (e₂ ∙ ap (word n.place n.word) (e₃ ∙ ap (word z.place z.word) (none_left r₃ p₃))) in
    (h, n, z, whole, s)

signing_says : (v : List ℕ → ℤ) (names : List (List ℕ)) (h n z : Bare) (w : List ℕ) → Signing names h n z w
    → (is_in w names ≡ true) × (truth_by (head_of h) (word_value v n ∷ word_value v z ∷ []) (false ∷ false ∷ []) ≡ le_z (pos 0) (v w))
unfolding chained head_named same
signing_says v names (numeral k) n z w s = absurd (true≢false (sym s.least))
signing_says v names (reserved y) n z w s = absurd (true≢false (sym s.least))
signing_says v names other_word n z w s = absurd (true≢false (sym s.least))
signing_says v names (symbol y) (numeral k) z w s = absurd (true≢false (sym s.known))
signing_says v names (symbol y) (reserved u) z w s = absurd (true≢false (sym s.known))
signing_says v names (symbol y) other_word z w s = absurd (true≢false (sym s.known))
signing_says v names (symbol y) (symbol u) (symbol k) w s = absurd (true≢false (sym s.nought))
signing_says v names (symbol y) (symbol u) (reserved k) w s = absurd (true≢false (sym s.nought))
signing_says v names (symbol y) (symbol u) other_word w s = absurd (true≢false (sym s.nought))
signing_says v names (symbol y) (symbol u) (numeral k) w s = (
  ap (λ (x : List ℕ). is_in x names) (sym s.name) ∙ s.known,
  ap (λ (x : List ℕ). truth_by (head_named x) (v u ∷ pos k ∷ []) (false ∷ false ∷ [])) (same→eq y (spelling ">=") s.least)
      ∙ ap (λ (x : ℕ). le_z (pos x) (v u) && true) (eqb-true k 0 s.nought) ∙ and-true (le_z (pos 0) (v u)) ∙ ap (λ (x : List ℕ). le_z (pos 0) (v x)) s.name,
)

pub sign_says : (v : List ℕ → ℤ) (names : List (List ℕ)) (parts : Forms) (w : List ℕ) → signs names parts ≡ some w
    → (is_in w names ≡ true) × (every (truths_of v parts) ≡ le_z (pos 0) (v w))
unfolding truths_of values_of every
sign_says v names nothing w e = absurd (none-ne-some w e)
sign_says v names (word at b rest) w e = absurd (none-ne-some w e)
sign_says v names (list at inner (word next b rest)) w e = absurd (none-ne-some w e)
sign_says v names (list at inner (list next more rest)) w e = absurd (none-ne-some w e)
sign_says v names (list at inner nothing) w e =
    let (h, n, z, f, s) = signing_forms names inner w e in
    let g = signing_says v names h.word n.word z.word w s in
    let truth : Bool = truth_by (head_of h.word) (word_value v n.word ∷ word_value v z.word ∷ []) (false ∷ false ∷ []) in
    (g.0, ap (λ (i : Forms). every (truths_of v (list at i nothing))) f ∙ and-true truth ∙ g.1)
