-- What is given in each case: the text broken, its script at fault, a limit passed, or a question.
use Prim.Native.Nat.{ℕ, ◌*◌, ◌≤◌, ◌<◌}
use native.Mathlib.Omega.{arith}
use mathlib.Core.Path.{◌≡◌, refl, sym, ap, ◌∙◌, subst}
use mathlib.Core.Option.{Option, none, some}
use mathlib.Core.List.{List, [], ◌++◌, cons≢nil}
use lib.ListN.{length, take, replicate}
use lib.Dec.{ltb}
use borrow.Author.Tests.{ltb-true}
use Rattle.std.specs.Prelude.{Some, None, Ok, Err, Result, ⊤}
use Rattle.scope.specs.declared.Question.{Question}
use Rattle.scope.specs.declared.Rule.{Rule}
use Rattle.scope.specs.declared.Refusal.{Refusal}
use Rattle.scope.specs.Whole.{at_front}
use Rattle.scope.specs.Sizes.{most_variables}
use Rattle.scope.specs.Refusals.{refusal, unless_refused}
use Rattle.smtlib.specs.Lexicon.{broken_at}
use Rattle.smtlib.specs.Forms.{Forms, forms_of}
use Rattle.smtlib.specs.Formulas.{Clause}
use Rattle.smtlib.specs.Script.{Stage, start, under, checked, names_of, unsigned, missing_forms, missing_names, script_of, all_outside, all_beyond}
use Rattle.smtlib.specs.Imported.{laid_out, laid_unless, imported_if, imported}
use Rattle.smtlib.specs.Values.{append_none}
use Rattle.smtlib.specs.Steps.{unless_none}
use Rattle.smtlib.proofs.Scripts.{few_names}
use Rattle.smtlib.specs.Lowest.{faultless_exactly}
use Rattle.smtlib.specs.Cases.{script_in, formula_in, fault_in}
use Rattle.lexicon.specs.Spots.{spot_of, spot_none, spot_some}
use Rattle.forms.specs.Places.{forms_at}
use Rattle.forms.specs.Following.{text_unbroken, text_forms}
use Rattle.laying.specs.declared.Laying.{Laying}
use Rattle.laying.specs.Laid.{laid_question}
use Rattle.laying.specs.LaidTree.{laid_accepted, laid_refused}
use Rattle.script.specs.declared.Kept.{Kept}
use Rattle.script.specs.Kept.{declaration_at, Keeps}
use Rattle.script.specs.Declarations.{declared_count, declared_names_lem}
use Rattle.script.specs.Faults.{FaultTold}
use Rattle.importing.specs.declared.answer.Import.{Import}
use Rattle.importing.specs.Given.{given_by, import_given}
use Rattle.importing.specs.Underway.{FaultlessText, WholeLaidOr, first_refused}
use Rattle.importing.proofs.NameBounds.{kept_bounds}

module _ (text : List ℕ) where
  refused_given : (r : Refusal) → Err r ≡ imported text → Err r ≡ import_given text
  unfolding import_given
  refused_given r e = ap {B = Result Import Refusal} (λ (a : Result Question Refusal). given_by a text) e

  -- ---- a text that is broken

  pub broken_given : (at : ℕ) → Some at ≡ spot_of (broken_at text) → Err (refusal Rule.NotWellFormed at) ≡ import_given text
  unfolding imported
  broken_given at e = refused_given (refusal Rule.NotWellFormed at) (rw (spot_some (broken_at text) at e))

  pub whole_text : None ≡ spot_of (broken_at text) → broken_at text ≡ none
  whole_text e = spot_none (broken_at text) e

  -- ---- a script at fault

  pub keeps_text : (k : Kept) → Keeps text (script_of (forms_at text 0)) k → Keeps text (script_in text) k
  keeps_text k h = subst (λ (l : Forms). Keeps text (script_of l) k) (sym (text_forms text)) h

  module _ (p : broken_at text ≡ none) (k : Kept) (h : Keeps text (script_in text) k) (a : Result ⊤ Refusal) (told : FaultTold k (length text) a) where
    answered : a ≡ unless_refused (fault_in text) tt
    unfolding FaultTold
    answered = told text (script_in text) h

    pub fault_given : (r : Refusal) → a ≡ Err r → Err r ≡ import_given text
    unfolding imported
    fault_given r e = refused_given r (go (fault_in text) answered ∙ ap (λ (o : Option ℕ). imported_if o text) (sym p))
      where
        go : (o : Option Refusal) → a ≡ unless_refused o tt → Err r ≡ laid_unless o (script_in text)
        go none f = let z : ◌≡◌ {A = Result ⊤ Refusal} (Err r) (Ok tt) = sym e ∙ f in absurd (let y : ◌≡◌ {A = ℕ} 0 1 = cc in omega arith)
        go (some q) f = let z : ◌≡◌ {A = Result ⊤ Refusal} (Err r) (Err q) = sym e ∙ f in let y : r ≡ q = cc in ap {B = Result Question Refusal} (λ (p : Refusal). Err p) y

    pub no_fault_told : a ≡ Ok tt → fault_in text ≡ none
    no_fault_told e = go (fault_in text) answered
      where
        go : (o : Option Refusal) → a ≡ unless_refused o tt → o ≡ none
        go none f = refl
        go (some q) f = let z : ◌≡◌ {A = Result ⊤ Refusal} (Ok tt) (Err q) = sym e ∙ f in absurd (let y : ◌≡◌ {A = ℕ} 0 1 = cc in omega arith)

  -- ---- a script without fault

  asserted_there : (stage : Stage) (cs : List Clause) → missing_forms stage (length text) cs ≡ [] → 0 < length cs
  asserted_there start cs e = absurd (cons≢nil e)
  asserted_there under cs e = absurd (cons≢nil e)
  asserted_there (checked at) cs e = ltb-true 0 (length cs) (unless_none (ltb 0 (length cs)) at e)

  module _ (k : Kept) (h : Keeps text (script_in text) k) (p : broken_at text ≡ none) (q : fault_in text ≡ none) where
    counted : k.count ≡ length (script_in text).declarations
    counted = sym (ap length h.declarations_are ∙ declared_count (λ i. declaration_at text k i) 0 k.count)

    no_beyond : (script_in text).beyond ≡ []
    unfolding all_beyond
    no_beyond = (append_none (script_in text).beyond (missing_names (script_in text).stage (script_in text).declarations) ((faultless_exactly (length text) (script_in text)).0 q).1).0

    pub faultless_text : FaultlessText text k.bounds k.count
    unfolding all_outside
    faultless_text =
        let s = script_in text in
        let missing : List ℕ = missing_forms s.stage (length text) s.asserted in
        let out = append_none s.outside (unsigned s.declarations ++ missing) ((faultless_exactly (length text) s).0 q).0 in
        record {
          whole = text_unbroken text p;
          outside = out.0;
          beyond = no_beyond;
          few = omega (arith, counted, few_names (forms_of text) no_beyond);
          counted = counted;
          names_are = ap names_of h.declarations_are ∙ declared_names_lem text k;
          names_stand = h.names_stand;
          some_asserted = asserted_there s.stage s.asserted (append_none (unsigned s.declarations) missing out.1).1;
        }

    laid_out_lem : (n : ℕ) → n ≡ k.count → laid_out n (formula_in text) ≡ imported text
    unfolding imported
    laid_out_lem n e = ap (λ (m : ℕ). laid_out m (formula_in text)) (e ∙ counted) ∙ ap (λ (o : Option Refusal). laid_unless o (script_in text)) (sym q) ∙ ap (λ (o : Option ℕ). imported_if o text) (sym p)

    pub limit_given : (r : Refusal) → first_refused text ≡ some r → Err r ≡ import_given text
    limit_given r e = refused_given r (laid_refused k.count (formula_in text) r e ∙ laid_out_lem k.count refl)

    module _ (l : Laying) (laid : WholeLaidOr text k.count (Ok l)) where
      pub few_laid : l.n ≤ most_variables
      few_laid = rw laid.0 faultless_text.few

      pub question_given : Ok (record { question = laid_question l; names = at_front (take (2 * k.count) k.bounds) (replicate (2 * most_variables) 0) }) ≡ import_given text
      unfolding import_given
      question_given =
          ap {B = Result Import Refusal} (λ (c : List ℕ). Ok (record { question = laid_question l; names = at_front c (replicate (2 * most_variables) 0) })) (sym (kept_bounds text (script_in text) k h))
          ∙ ap {B = Result Import Refusal} (λ (d : Result Question Refusal). given_by d text) (laid_accepted (formula_in text) l laid.1 ∙ laid_out_lem l.n laid.0)
