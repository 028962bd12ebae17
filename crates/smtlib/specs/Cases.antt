-- Document 02, E2: each answer of the import exactly in its case. A text is broken (14); else a fault is told (15 or 4); else a limit is passed
-- (5, 12 or 13); else it is accepted. A refusal's number tells the case.
use Rattle.std.specs.Prelude.{◌≡◌, refl, ◌↔◌, ◌⊎◌, cond, List, [], ◌∷◌, ℕ, suc, ◌+◌, length, Ok, Err, Result, is_ok, IsOk}
use Rattle.std.proofs.Common.{true≢false, sym, ◌∙◌, inl, inr, ⊎_elim, arith}
use Rattle.std.proofs.Math.Path.{ap}
use mathlib.Core.Logic.Iff
use Rattle.std.proofs.Math.Option.{Option, none, some}
use Rattle.scope.specs.declared.Rule.{Rule}
use Rattle.scope.specs.declared.Question.{Question}
use Rattle.scope.specs.declared.Refusal.{Refusal}
use Rattle.scope.specs.Question.{is_atom}
use Rattle.scope.specs.Tree.{held_as}
use Rattle.scope.specs.Refusals.{rule_number, Check, refusal, first_refusal, unless_refused}
use Rattle.theory.specs.Wire.Checks.{some_iff_failing, EveryRule, failing_numbered}
use Rattle.smtlib.specs.Lexicon.{broken_at}
use Rattle.smtlib.specs.Forms.{forms_of}
use Rattle.smtlib.specs.Formulas.{Formula}
use Rattle.smtlib.specs.Script.{Script, script_of, all_outside, all_beyond, fault_of}
use Rattle.smtlib.specs.Imported.{PlacedNode, conjoined, placed_from, placed_checks, tree_of, laid_out, laid_unless, imported_if, imported}
use Rattle.smtlib.specs.Lowest.{LowestFault, lowest_first}

-- a text's script, its formula, and the checks of its limits
abbrev pub script_in : List ℕ → Script
script_in text = script_of (forms_of text)

abbrev pub formula_in : List ℕ → Formula
formula_in text = conjoined (script_in text).asserted

abbrev pub limit_checks : List ℕ → List Check
limit_checks text = placed_checks 0 0 (placed_from 1 (formula_in text))

-- the refusal by a fault and by a limit, where there is one
abbrev pub fault_in : List ℕ → Option Refusal
fault_in text = fault_of (length text) (script_in text)

abbrev pub limit_in : List ℕ → Option Refusal
limit_in text = first_refusal (limit_checks text)

abbrev pub question_in : List ℕ → Question
question_in text = let n = length (script_in text).declarations in held_as n (tree_of n (formula_in text))

-- ---- the four cases

pub data ImportCase (text : List ℕ) (h : Result Question Refusal) : Type 0 where
  broken : (at : ℕ) → broken_at text ≡ some at → h ≡ Err (refusal Rule.NotWellFormed at) → ImportCase text h
  outside_or_beyond : (r : Refusal) → broken_at text ≡ none → fault_in text ≡ some r → h ≡ Err r → ImportCase text h
  too_large : (r : Refusal) → broken_at text ≡ none → fault_in text ≡ none → limit_in text ≡ some r → h ≡ Err r → ImportCase text h
  taken : broken_at text ≡ none → fault_in text ≡ none → limit_in text ≡ none
      → h ≡ Ok (question_in text) → ImportCase text h

pub import_case : (text : List ℕ) → ImportCase text (imported text)
unfolding imported laid_out
import_case text = first (broken_at text) refl
  where
    s : Script
    s = script_of (forms_of text)

    third : (o : Option Refusal) → broken_at text ≡ none → fault_in text ≡ none → limit_in text ≡ o → ImportCase text (unless_refused o (question_in text))
    third none p q e = taken p q e refl
    third (some r) p q e = too_large r p q e refl

    second : (o : Option Refusal) → broken_at text ≡ none → fault_in text ≡ o → ImportCase text (laid_unless o s)
    second none p e = third (limit_in text) p e refl
    second (some r) p e = outside_or_beyond r p e refl

    first : (o : Option ℕ) → broken_at text ≡ o → ImportCase text (imported_if o text)
    first none e = second (fault_in text) e refl
    first (some at) e = broken at e refl

-- ---- the rules

abbrev pub FaultRule : Rule → Type 0
FaultRule rule = (rule ≡ Rule.OutsideSubset) ⊎ (rule ≡ Rule.BeyondLimit)

abbrev pub LimitRule : Rule → Type 0
LimitRule rule = (rule ≡ Rule.TooMany) ⊎ ((rule ≡ Rule.CoefficientBeyond) ⊎ (rule ≡ Rule.ConstantBeyond))

pub fault_number : (end : ℕ) (s : Script) (r : Refusal) → fault_of end s ≡ some r → FaultRule r.rule
fault_number end s r e = ⊎_elim (λ h. inl h.0) (λ h. inr h.0) ((lowest_first end s r).0 e).which

limits_numbered : (nodes atoms : ℕ) (xs : List PlacedNode) → EveryRule LimitRule (placed_checks nodes atoms xs)
unfolding placed_checks
limits_numbered nodes atoms [] = tt
limits_numbered nodes atoms (x ∷ xs) = (inl refl, (inr (inl refl), (inr (inr refl), limits_numbered (suc nodes) (atoms + cond (is_atom x.node) 1 0) xs)))

pub limit_number : (text : List ℕ) (r : Refusal) → limit_in text ≡ some r → LimitRule r.rule
limit_number text r e = failing_numbered LimitRule (limit_checks text) r (limits_numbered 0 0 (placed_from 1 (formula_in text))) ((some_iff_failing (limit_checks text) r).0 e)

-- no rule is of two cases

pub fault_not_broken : (n : Rule) → FaultRule n → n ≡ Rule.NotWellFormed → ⊥
fault_not_broken n (inl h) e = omega (arith, ap rule_number h, ap rule_number e)
fault_not_broken n (inr h) e = omega (arith, ap rule_number h, ap rule_number e)

pub limit_not_broken : (n : Rule) → LimitRule n → n ≡ Rule.NotWellFormed → ⊥
limit_not_broken n (inl h) e = omega (arith, ap rule_number h, ap rule_number e)
limit_not_broken n (inr (inl h)) e = omega (arith, ap rule_number h, ap rule_number e)
limit_not_broken n (inr (inr h)) e = omega (arith, ap rule_number h, ap rule_number e)

pub fault_not_limit : (n : Rule) → FaultRule n → LimitRule n → ⊥
fault_not_limit n (inl h) (inl k) = omega (arith, ap rule_number h, ap rule_number k)
fault_not_limit n (inl h) (inr (inl k)) = omega (arith, ap rule_number h, ap rule_number k)
fault_not_limit n (inl h) (inr (inr k)) = omega (arith, ap rule_number h, ap rule_number k)
fault_not_limit n (inr h) (inl k) = omega (arith, ap rule_number h, ap rule_number k)
fault_not_limit n (inr h) (inr (inl k)) = omega (arith, ap rule_number h, ap rule_number k)
fault_not_limit n (inr h) (inr (inr k)) = omega (arith, ap rule_number h, ap rule_number k)

-- ---- each answer exactly in its case

pub data ImportRefused (text : List ℕ) (r : Refusal) : Type 0 where
  by_lexicon : r.rule ≡ Rule.NotWellFormed → broken_at text ≡ some r.place → ImportRefused text r
  by_script : FaultRule r.rule → broken_at text ≡ none → fault_in text ≡ some r → ImportRefused text r
  by_limits : LimitRule r.rule → broken_at text ≡ none → fault_in text ≡ none → limit_in text ≡ some r → ImportRefused text r

pub record ImportAccepted (text : List ℕ) : Type 0 where
  pub whole : broken_at text ≡ none
  pub faultless : fault_in text ≡ none
  pub small : limit_in text ≡ none

refused_same : (r t : Refusal) (h : Result Question Refusal) → h ≡ Err t → h ≡ Err r → t ≡ r
refused_same r t h e f = let g : ◌≡◌ {A = Result Question Refusal} (Err t) (Err r) = sym e ∙ f in cc

refused_taken : (r : Refusal) (q : Question) (h : Result Question Refusal) → h ≡ Ok q → h ≡ Err r → ⊥
refused_taken r q h e f = let g : Ok q ≡ Err r = sym e ∙ f in let z : ◌≡◌ {A = ℕ} 0 1 = cc in omega arith

accepted_refusing : (t : Refusal) (h : Result Question Refusal) → h ≡ Err t → IsOk h → ⊥
accepted_refusing t h e f = true≢false (sym f ∙ ap is_ok e)

module _ (text : List ℕ) where
  -- what is imported, by the case: a refusal with nothing held, or the question
  pub refused_import : (r : Refusal) → ImportRefused text r → imported text ≡ Err r
  unfolding imported laid_out
  refused_import r (by_lexicon n p) = ap (λ (o : Option ℕ). imported_if o text) p ∙ ap (λ (k : Rule). Err (refusal k r.place)) (sym n)
  refused_import r (by_script n p q) = ap (λ (o : Option ℕ). imported_if o text) p ∙ ap (λ (o : Option Refusal). laid_unless o (script_in text)) q
  refused_import r (by_limits n p q e) =
      ap (λ (o : Option ℕ). imported_if o text) p ∙ ap (λ (o : Option Refusal). laid_unless o (script_in text)) q
      ∙ ap (λ (o : Option Refusal). unless_refused o (question_in text)) e

  pub accepted_import : ImportAccepted text → imported text ≡ Ok (question_in text)
  unfolding imported laid_out
  accepted_import a =
      ap (λ (o : Option ℕ). imported_if o text) a.whole ∙ ap (λ (o : Option Refusal). laid_unless o (script_in text)) a.faultless
      ∙ ap (λ (o : Option Refusal). unless_refused o (question_in text)) a.small

  pub refused_exactly : (r : Refusal) → (imported text ≡ Err r) ↔ ImportRefused text r
  refused_exactly r = (λ e. go (import_case text) e, refused_import r)
    where
      go : ImportCase text (imported text) → imported text ≡ Err r → ImportRefused text r
      go (broken at p h) e =
          let same : refusal Rule.NotWellFormed at ≡ r = refused_same r (refusal Rule.NotWellFormed at) (imported text) h e in
          by_lexicon (ap (λ (t : Refusal). t.rule) (sym same)) (p ∙ ap (λ (t : Refusal). some t.place) same)
      go (outside_or_beyond t p q h) e =
          let f : fault_in text ≡ some r = q ∙ ap some (refused_same r t (imported text) h e) in
          by_script (fault_number (length text) (script_in text) r f) p f
      go (too_large t p q l h) e =
          let f : limit_in text ≡ some r = l ∙ ap some (refused_same r t (imported text) h e) in
          by_limits (limit_number text r f) p q f
      go (taken p q l h) e = absurd (refused_taken r (question_in text) (imported text) h e)

  pub accepted_exactly : (IsOk (imported text)) ↔ ImportAccepted text
  accepted_exactly = (λ e. go (import_case text) e, λ a. ap is_ok (accepted_import a))
    where
      go : ImportCase text (imported text) → IsOk (imported text) → ImportAccepted text
      go (broken at p h) e = absurd (accepted_refusing (refusal Rule.NotWellFormed at) (imported text) h e)
      go (outside_or_beyond t p q h) e = absurd (accepted_refusing t (imported text) h e)
      go (too_large t p q l h) e = absurd (accepted_refusing t (imported text) h e)
      go (taken p q l h) e = record { whole = p; faultless = q; small = l }

  -- ---- so a refusal's number tells the case

  pub broken_exactly : (at : ℕ) → (imported text ≡ Err (refusal Rule.NotWellFormed at)) ↔ (broken_at text ≡ some at)
  broken_exactly at = (λ e. go ((refused_exactly (refusal Rule.NotWellFormed at)).0 e), λ p. (refused_exactly (refusal Rule.NotWellFormed at)).1 (by_lexicon refl p))
    where
      go : ImportRefused text (refusal Rule.NotWellFormed at) → broken_at text ≡ some at
      go (by_lexicon n p) = p
      go (by_script n p q) = absurd (fault_not_broken Rule.NotWellFormed n refl)
      go (by_limits n p q l) = absurd (limit_not_broken Rule.NotWellFormed n refl)

  pub fault_exactly : (r : Refusal) → ((imported text ≡ Err r) × FaultRule r.rule) ↔ ((broken_at text ≡ none) × (fault_in text ≡ some r))
  fault_exactly r = (λ h. there ((refused_exactly r).0 h.0) h.1, back)
    where
      there : ImportRefused text r → FaultRule r.rule → (broken_at text ≡ none) × (fault_in text ≡ some r)
      there (by_lexicon m p) n = absurd (fault_not_broken r.rule n m)
      there (by_script m p q) n = (p, q)
      there (by_limits m p q l) n = absurd (fault_not_limit r.rule n m)

      back : (broken_at text ≡ none) × (fault_in text ≡ some r) → (imported text ≡ Err r) × FaultRule r.rule
      back (p, q) = let n : FaultRule r.rule = fault_number (length text) (script_in text) r q in ((refused_exactly r).1 (by_script n p q), n)

  -- at the lowest place of all
  pub fault_lowest : (r : Refusal) → ((imported text ≡ Err r) × FaultRule r.rule)
      ↔ ((broken_at text ≡ none) × LowestFault (all_outside (length text) (script_in text)) (all_beyond (script_in text)) r)
  fault_lowest r = Iff.trans (fault_exactly r) (Iff.and Iff.rfl (lowest_first (length text) (script_in text) r))

  pub limit_exactly : (r : Refusal) → ((imported text ≡ Err r) × LimitRule r.rule)
      ↔ ((broken_at text ≡ none) × (fault_in text ≡ none) × (limit_in text ≡ some r))
  limit_exactly r = (λ h. there ((refused_exactly r).0 h.0) h.1, back)
    where
      there : ImportRefused text r → LimitRule r.rule → (broken_at text ≡ none) × (fault_in text ≡ none) × (limit_in text ≡ some r)
      there (by_lexicon m p) n = absurd (limit_not_broken r.rule n m)
      there (by_script m p q) n = absurd (fault_not_limit r.rule m n)
      there (by_limits m p q l) n = (p, q, l)

      back : (broken_at text ≡ none) × (fault_in text ≡ none) × (limit_in text ≡ some r) → (imported text ≡ Err r) × LimitRule r.rule
      back (p, q, l) = let n : LimitRule r.rule = limit_number text r l in ((refused_exactly r).1 (by_limits n p q l), n)
