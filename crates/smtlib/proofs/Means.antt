-- What a text says is what its question says, for the naturals that its names have; and every model over the integers is of naturals.
use Rattle.std.specs.Prelude.{◌≡◌, refl, Bool, true, false, ◌&&◌, List, [], ◌∷◌, ℕ, ◌<◌, length, ℤ, pos, negsuc, IsOk}
use Rattle.std.proofs.Common.{sym, ap, ◌∙◌, true≢false, arith}
use Rattle.std.proofs.Math.Bool.{and-true}
use Rattle.std.proofs.lemmas.List.{length-map}
use Rattle.std.specs.Int.Signed.{le_z}
use Rattle.scope.specs.declared.Question.{Question}
use Rattle.scope.specs.States.{satisfied}
use Rattle.scope.specs.Tree.{true_for}
use Rattle.theory.specs.Trees.Means.{tree_means}
use Rattle.theory.specs.Numbers.Joined.{Each}
use Rattle.scope.specs.Wire.{question_held}
use Rattle.smtlib.specs.Forms.{forms_of}
use Rattle.smtlib.specs.Formulas.{Formula, Clause, joined_at}
use Rattle.smtlib.specs.Script.{unless, Declaration, names_of, unsigned}
use Rattle.smtlib.specs.Imported.{conjoined, tree_of, imported}
use Rattle.smtlib.specs.Meaning.{every, text_holds}
use Rattle.smtlib.specs.Values.{append_none, Named}
use Rattle.smtlib.proofs.Truths.{truth_in}
use Rattle.smtlib.specs.Names.{GivesNames, gives_length, gives_named, valued, valued_gives}
use Rattle.smtlib.specs.Steps.{unless_none}
use Rattle.smtlib.proofs.Scripts.{distinct_names, SignedNatural, signed_hold, all_hold, asserted_says}
use Rattle.smtlib.specs.Cases.{script_in, formula_in}
use Rattle.smtlib.specs.Accepted.{declared_names}
use Rattle.smtlib.proofs.Accepted.{accepted_faultless, accepted_few, accepted_question, variables_names, accepted_within}

-- ---- the assertions joined by and

joined_hold : (xs : List ℕ) (at : ℕ) (c : Clause) (cs : List Clause) → truth_in xs (joined_at Formula.and at c cs) ≡ all_hold xs (c ∷ cs)
unfolding joined_at true_for tree_of all_hold every
joined_hold xs at c [] = sym (and-true (truth_in xs c.formula))
joined_hold xs at c (d ∷ cs) = ap (λ (p : Bool). truth_in xs c.formula && p) (joined_hold xs d.place d cs)

conjoined_holds : (xs : List ℕ) (cs : List Clause) → 0 < length cs → truth_in xs (conjoined cs) ≡ all_hold xs cs
conjoined_holds xs [] h = absurd (omega (arith, h))
conjoined_holds xs (c ∷ cs) h = joined_hold xs c.place c cs

-- ---- names whose values are not negative

natural_is : (z : ℤ) → le_z (pos 0) z ≡ true → (x : ℕ) × (z ≡ pos x)
natural_is (pos x) e = (x, refl)
natural_is (negsuc x) e = absurd (true≢false (sym e))

all_natural : (v : List ℕ → ℤ) (ds : List Declaration) → Each (SignedNatural v) ds → unsigned ds ≡ [] → (xs : List ℕ) × GivesNames v (names_of ds) xs
unfolding unsigned
all_natural v [] h e = ([], tt)
all_natural v (d ∷ ds) h e =
    let (f, g) = append_none (unless d.signed d.place) (unsigned ds) e in
    let (x, k) = natural_is (v d.name) (h.0 (unless_none d.signed d.place f)) in
    let (xs, l) = all_natural v ds h.1 g in
    (x ∷ xs, (k, l))

-- ---- an accepted text

module _ (text : List ℕ) (accepted : IsOk (imported text)) where
  pub text_means : (v : List ℕ → ℤ) (xs : List ℕ) → GivesNames v (declared_names text) xs → text_holds v (forms_of text) ≡ satisfied (question_held (imported text)) xs
  text_means v xs g =
      let n : ℕ = length (script_in text).declarations in
      let count : length (declared_names text) ≡ n = length-map (script_in text).declarations (λ (d : Declaration). d.name) in
      let long : length xs ≡ n = gives_length v (declared_names text) xs g ∙ count in
      let named : Named xs v (declared_names text) = gives_named v (declared_names text) xs g (omega (arith, count, accepted_few text accepted)) in
      sym (asserted_says v xs (forms_of text) (accepted_faultless text accepted).outside named)
      ∙ sym (conjoined_holds xs (script_in text).asserted (accepted_faultless text accepted).asserted)
      ∙ ap (λ (k : ℕ). true_for (tree_of k (formula_in text)) xs) long
      ∙ sym (tree_means n (tree_of n (formula_in text)) (accepted_within text accepted) xs)
      ∙ ap (λ (q : Question). satisfied q xs) (sym (accepted_question text accepted))

  pub model_natural : (v : List ℕ → ℤ) → text_holds v (forms_of text) ≡ true → (xs : List ℕ) × (length xs ≡ (question_held (imported text)).n) × GivesNames v (declared_names text) xs
  model_natural v e =
      let (xs, g) = all_natural v (script_in text).declarations (signed_hold v (forms_of text) e) (accepted_faultless text accepted).signed in
      (xs, gives_length v (declared_names text) xs g ∙ sym (variables_names text accepted), g)

  -- where no naturals satisfy the question, no integers are a model of the text
  pub never_no_integers : ((xs : List ℕ) → length xs ≡ (question_held (imported text)).n → satisfied (question_held (imported text)) xs ≡ false)
      → (v : List ℕ → ℤ) → text_holds v (forms_of text) ≡ false
  never_no_integers never v = go (text_holds v (forms_of text)) refl
    where
      go : (t : Bool) → text_holds v (forms_of text) ≡ t → t ≡ false
      go true e = let (xs, long, g) = model_natural v e in absurd (true≢false (sym e ∙ text_means v xs g ∙ never xs long))
      go false e = refl

  -- naturals that satisfy the question are a model of the text
  pub found_holds : (xs : List ℕ) → length xs ≡ (question_held (imported text)).n → satisfied (question_held (imported text)) xs ≡ true
      → GivesNames (valued (declared_names text) xs) (declared_names text) xs × (text_holds (valued (declared_names text) xs) (forms_of text) ≡ true)
  found_holds xs long e =
      let g = valued_gives (declared_names text) xs (long ∙ variables_names text accepted) (distinct_names (forms_of text)) in
      (g, text_means (valued (declared_names text) xs) xs g ∙ e)
