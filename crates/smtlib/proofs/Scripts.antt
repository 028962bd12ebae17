-- The script of a text: at most six names, no name twice, a signed name natural where the text holds, and the text holds exactly where all
-- assertions do that are no sign assertions.
use Rattle.std.specs.Prelude.{◌≡◌, Bool, ◌&&◌, ℕ, suc, ◌≤◌, length, ℤ, pos}
use Rattle.std.proofs.Math.Path.{refl, ap}
use Rattle.std.proofs.Common.{sym, ◌∙◌, subst, true≢false, arith, length-append}
use Rattle.std.proofs.Math.Bool.{true, false, cond, and-eq-true_iff, and-true}
use mathlib.Core.List.{List, [], ◌∷◌, ◌++◌, map, map-append}
use Rattle.std.proofs.Math.Dec.{leb-zero}
use Rattle.std.specs.Int.Signed.{le_z}
use Rattle.scope.specs.Sizes.{most_variables}
use Rattle.theory.specs.Numbers.Joined.{Each, each_append}
use Rattle.smtlib.specs.Spelling.{same, is_in}
use Rattle.smtlib.specs.Forms.{Forms}
use Rattle.smtlib.specs.Formulas.{Clause, clauses_of}
use Rattle.smtlib.specs.Script.{Command, Declaration, Script, names_of, signed_as, script_of}
use Rattle.smtlib.specs.Meaning.{every, truths_of, command_holds, text_holds}
use Rattle.smtlib.specs.Values.{Named}
use Rattle.smtlib.proofs.Truths.{truth_in, EachSays, clauses_say}
use Rattle.smtlib.specs.Names.{same→eq, named_fewer, index_there, Distinct, distinct_more}
use Rattle.smtlib.specs.Signs.{sign_says}
use Rattle.smtlib.specs.Steps.{Change, nothing_new, new_name, new_sign, new_clause, CommandStep, KeptBy, text_keeps, script_keeps}

-- ---- names

names_append : (ds : List Declaration) (d : Declaration) → names_of (ds ++ (d ∷ [])) ≡ names_of ds ++ (d.name ∷ [])
names_append ds d = map-append (λ (d : Declaration). d.name) ds (d ∷ [])

signed_names : (w : List ℕ) (ds : List Declaration) → names_of (signed_as w ds) ≡ names_of ds
unfolding signed_as
signed_names w [] = refl
signed_names w (d ∷ ds) = ap (λ (l : List (List ℕ)). d.name ∷ l) (signed_names w ds)

signed_length : (w : List ℕ) (ds : List Declaration) → length (signed_as w ds) ≡ length ds
unfolding signed_as
signed_length w [] = refl
signed_length w (d ∷ ds) = ap suc (signed_length w ds)

-- at most six, where no 4 is told
abbrev FewNames : Script → Type 0
FewNames s = s.beyond ≡ [] → length s.declarations ≤ most_variables

few_kept : (s r : Script) (c : Command) (parts : Forms) → CommandStep s r c parts → FewNames s → FewNames r
few_kept s r c parts step few e = go step.change
  where
    go : Change s r c parts → length r.declarations ≤ most_variables
    go (nothing_new d a q) = rw d (few (step.beyond e))
    go (new_name k c i g room d a) = rw d (omega (arith, room e, length-append s.declarations (k ∷ [])))
    go (new_sign w c g d a) = rw d (omega (arith, few (step.beyond e), signed_length w s.declarations))
    go (new_clause k c i g d a) = rw d (few (step.beyond e))

pub few_names : (forms : Forms) → (script_of forms).beyond ≡ [] → length (script_of forms).declarations ≤ most_variables
few_names = script_keeps FewNames few_kept (λ e. omega arith)

distinct_kept : (s r : Script) (c : Command) (parts : Forms) → CommandStep s r c parts → Distinct (names_of s.declarations) → Distinct (names_of r.declarations)
distinct_kept s r c parts step k = go step.change
  where
    go : Change s r c parts → Distinct (names_of r.declarations)
    go (nothing_new d a q) = rw d k
    go (new_name n c i g room d a) = rw (d, names_append) (distinct_more (names_of s.declarations) n.name k i)
    go (new_sign w c g d a) = rw (d, signed_names) k
    go (new_clause n c i g d a) = rw d k

pub distinct_names : (forms : Forms) → Distinct (names_of (script_of forms).declarations)
distinct_names = script_keeps (λ s. Distinct (names_of s.declarations)) distinct_kept tt

-- ---- a signed name is natural where the text holds

module _ (v : List ℕ → ℤ) where
  abbrev pub SignedNatural : Declaration → Type 0
  SignedNatural d = d.signed ≡ true → le_z (pos 0) (v d.name) ≡ true

  signed_natural : (w : List ℕ) (ds : List Declaration) → le_z (pos 0) (v w) ≡ true → Each SignedNatural ds → Each SignedNatural (signed_as w ds)
  unfolding signed_as
  signed_natural w [] e h = tt
  signed_natural w (d ∷ ds) e h = (go (same w d.name) refl, signed_natural w ds e h.1)
    where
      go : (t : Bool) → same w d.name ≡ t → cond t true d.signed ≡ true → le_z (pos 0) (v d.name) ≡ true
      go true f k = ap (λ (u : List ℕ). le_z (pos 0) (v u)) (sym (same→eq w d.name f)) ∙ e
      go false f k = h.0 k

  natural_kept : KeptBy v (λ s t. t ≡ true → Each SignedNatural s.declarations)
  natural_kept s r c parts t step h e = go step.change
    where
      both : (t ≡ true) × (command_holds v c parts ≡ true)
      both = (and-eq-true_iff t (command_holds v c parts)).0 e

      go : Change s r c parts → Each SignedNatural r.declarations
      go (nothing_new d a q) = rw d (h both.0)
      go (new_name n g i f room d a) = rw d (each_append SignedNatural s.declarations (n ∷ []) (h both.0) (λ k. absurd (true≢false (sym k ∙ f)), tt))
      go (new_sign w g f d a) =
          let said = sign_says v (names_of s.declarations) parts w f in
          rw d (signed_natural w s.declarations (sym said.1 ∙ ap (λ (c : Command). command_holds v c parts) (sym g) ∙ both.1) (h both.0))
      go (new_clause k g i f d a) = rw d (h both.0)

  pub signed_hold : (forms : Forms) → text_holds v forms ≡ true → Each SignedNatural (script_of forms).declarations
  signed_hold = text_keeps v (λ s t. t ≡ true → Each SignedNatural s.declarations) natural_kept (λ e. tt)

-- ---- the text holds exactly where the other assertions do

-- whether all of these hold
unfoldable pub all_hold : List ℕ → List Clause → Bool
all_hold xs cs = every (map (λ (c : Clause). truth_in xs c.formula) cs)

every_append : (k l : List Bool) → every (k ++ l) ≡ every k && every l
unfolding every
every_append [] l = refl
every_append (true ∷ k) l = every_append k l
every_append (false ∷ k) l = refl

one_more : (xs : List ℕ) (cs : List Clause) (c : Clause) (t : Bool) → truth_in xs c.formula ≡ t → all_hold xs (cs ++ (c ∷ [])) ≡ all_hold xs cs && t
unfolding all_hold every
one_more xs cs c t e =
    let truth : Clause → Bool = λ (c : Clause). truth_in xs c.formula in
    ap every (map-append truth cs (c ∷ [])) ∙ every_append (map truth cs) (truth c ∷ [])
    ∙ ap (λ (p : Bool). all_hold xs cs && p) (and-true (truth_in xs c.formula) ∙ e)

one_says : (xs : List ℕ) (c : Clause) (l : List Bool) → EachSays xs (c ∷ []) l → c.faults ≡ [] → truth_in xs c.formula ≡ every l
unfolding every
one_says xs c [] h e = absurd h
one_says xs c (t ∷ []) h e = h.0 e ∙ sym (and-true t)
one_says xs c (t ∷ u ∷ l) h e = absurd h.1

module _ (v : List ℕ → ℤ) (xs : List ℕ) where
  abbrev AssertedSo : Script → Bool → Type 0
  AssertedSo s t = s.outside ≡ [] → Named xs v (names_of s.declarations) → all_hold xs s.asserted ≡ t

  -- a name that has a natural value is signed in truth
  sign_true : (names : List (List ℕ)) (w : List ℕ) → Named xs v names → is_in w names ≡ true → le_z (pos 0) (v w) ≡ true
  sign_true names w n e =
      let (j, f) = index_there 0 w names e in
      let (x, g, h) = n w j f in
      rw g (leb-zero x)

  asserted_kept : KeptBy v AssertedSo
  asserted_kept s r c parts t step h e n = go step.change
    where
      before : Named xs v (names_of s.declarations) → all_hold xs s.asserted ≡ t
      before = h (step.outside e)

      same_names : r.declarations ≡ s.declarations → Named xs v (names_of s.declarations)
      same_names d = subst (λ (l : List Declaration). Named xs v (names_of l)) d n

      -- where the command is true of itself
      quiet : r.asserted ≡ s.asserted → command_holds v c parts ≡ true → Named xs v (names_of s.declarations) → all_hold xs r.asserted ≡ t && command_holds v c parts
      quiet a k m = ap (all_hold xs) a ∙ before m ∙ sym (and-true t) ∙ ap (λ (b : Bool). t && b) (sym k)

      go : Change s r c parts → all_hold xs r.asserted ≡ t && command_holds v c parts
      go (nothing_new d a q) = quiet a (q e v) (same_names d)
      go (new_name k g i f room d a) =
          quiet a (ap (λ (c : Command). command_holds v c parts) g)
          (named_fewer v xs (names_of s.declarations) (k.name ∷ []) (subst (Named xs v) (ap names_of d ∙ names_append s.declarations k) n))
      go (new_sign w g f d a) =
          let m : Named xs v (names_of s.declarations) = subst (Named xs v) (ap names_of d ∙ signed_names w s.declarations) n in
          let says = sign_says v (names_of s.declarations) parts w f in
          quiet a (ap (λ (c : Command). command_holds v c parts) g ∙ says.1 ∙ sign_true (names_of s.declarations) w m says.0) m
      go (new_clause k g i f d a) =
          let m : Named xs v (names_of s.declarations) = same_names d in
          let said : EachSays xs (clauses_of (names_of s.declarations) parts) (truths_of v parts) = clauses_say xs v (names_of s.declarations) m parts in
          let says : EachSays xs (k ∷ []) (truths_of v parts) = subst (λ (l : List Clause). EachSays xs l (truths_of v parts)) i said in
          ap (all_hold xs) a
          ∙ one_more xs s.asserted k (command_holds v c parts) (one_says xs k (truths_of v parts) says (f e) ∙ ap (λ (c : Command). command_holds v c parts) (sym g))
          ∙ ap (λ (b : Bool). b && command_holds v c parts) (before m)

  pub asserted_says : (forms : Forms) → (script_of forms).outside ≡ [] → Named xs v (names_of (script_of forms).declarations)
      → all_hold xs (script_of forms).asserted ≡ text_holds v forms
  unfolding all_hold every
  asserted_says = text_keeps v AssertedSo asserted_kept (λ e n. refl)
