-- The commands one after the other: the script so far, and what is still to come of it.
use Rattle.std.specs.Prelude.{ℕ, suc, ◌≤◌, ◌<◌, ◌≡◌, List, [], ◌∷◌, length}
use native.Mathlib.Omega.{arith}
use Rattle.std.proofs.Math.Decide.{dec_lt}
use Rattle.std.proofs.Math.Path.{refl, sym, ap, subst}
use Rattle.std.proofs.Common.{◌∙◌, length-append, eq-eqb, ne_eqb}
use Rattle.std.proofs.Math.Logic.{by_cases}
use Rattle.smtlib.specs.Forms.{Bare, Forms, word, list}
use Rattle.smtlib.specs.Script.{Command, Stage, Script, no_script, at_stage, script_from, script_of}
use Rattle.smtlib.specs.Steps.{Change, nothing_new, new_name, new_sign, new_clause, command_step}
use Rattle.forms.specs.declared.Form.{Form}
use Rattle.forms.specs.Places.{forms_at, Unbroken}
use Rattle.forms.specs.Read.{OPEN, FormReads, rest_of, RestBehind, FormStands}
use Rattle.script.specs.declared.Kept.{Kept}
use Rattle.script.specs.Parts.{nothing_more}
use Rattle.script.specs.Commands.{command_in, forms_behind, CommandHere}
use Rattle.script.specs.Kept.{Keeps}
use Rattle.script.specs.Changes.{KeepsOn}

-- ---- a command asserts at most once

asserted_once : (stage : Stage) (c : Command) (at : ℕ) (parts : Forms) (s : Script) → length (at_stage stage c at parts s).asserted ≤ suc (length s.asserted)
asserted_once stage c at parts s = go (command_step stage c at parts s).change
  where
    go : {r : Script} → Change s r c parts → length r.asserted ≤ suc (length s.asserted)
    go (nothing_new d a q) = omega (arith, ap length a)
    go (new_name k f i g room d a) = omega (arith, ap length a)
    go (new_sign w f g d a) = omega (arith, ap length a)
    go (new_clause k f i g d a) = omega (arith, ap length a, length-append s.asserted (k ∷ []))

-- ---- a form is one command

module _ (text : List ℕ) (f : Form) (s : Script) where
  abbrev after : Script
  after = at_stage s.stage (command_in text f) f.place (forms_behind text f) s

  list_step : (forms : Forms) (inner rest : Forms) → f.kind ≡ OPEN → inner ≡ forms_at text f.next → forms ≡ list f.place inner rest → script_from s forms ≡ script_from after (rest_of forms)
  unfolding script_from
  list_step forms inner rest k e g = rw (eq-eqb f.kind 2 k, g, e) refl

  word_step : (forms : Forms) (w : Bare) (rest : Forms) → (f.kind ≡ OPEN → ⊥) → forms ≡ word f.place w rest → script_from s forms ≡ script_from after (rest_of forms)
  unfolding script_from
  word_step forms w rest k g = rw (ne_eqb f.kind 2 k, g) refl

-- ---- the script so far

pub record ScriptSoFar (text : List ℕ) (next : ℕ) (k : Kept) : Type 0 where
  pub script : Script
  pub keeps : Keeps text script k
  pub to_come : script_from script (forms_at text next) ≡ script_of (forms_at text 0)
  pub unbroken : Unbroken text next 0
  pub here : next ≤ length text
  pub few : k.asserted ≤ next

pub none_so_far : (text : List ℕ) (k : Kept) → Keeps text no_script k → Unbroken text 0 0 → ScriptSoFar text 0 k
unfolding script_of
none_so_far text k keeps u = record { script = no_script; keeps = keeps; to_come = refl; unbroken = u; here = omega arith; few = omega (arith, keeps.asserted_are) }

module _ (text : List ℕ) (next : ℕ) (k : Kept) (so_far : ScriptSoFar text next k) (f : Form) (stands : FormStands text next f) (reads : FormReads text next f) where
  pub all_so_far : f.kind < OPEN → Keeps text (script_of (forms_at text 0)) k
  unfolding script_from
  all_so_far h =
      subst (λ (s : Script). Keeps text s k) (ap (script_from so_far.script) (sym (nothing_more text next 0 f reads so_far.unbroken h)) ∙ so_far.to_come) so_far.keeps

  pub command_here : CommandHere text f
  unfolding FormReads
  command_here = record { here = stands.inside; unbroken = λ e. ((reads 0 so_far.unbroken).open_list e).unbroken }

  module _ (some_form : OPEN ≤ f.kind) (r : Kept) (kept : KeepsOn text k (λ s. at_stage s.stage (command_in text f) f.place (forms_behind text f) s) r) where
    one_command : script_from so_far.script (forms_at text next) ≡ script_from (after text f so_far.script) (rest_of (forms_at text next))
    unfolding FormReads
    one_command = by_cases (dec_lt f.kind 3)
        (λ p. let e : f.kind ≡ 2 = omega arith in list_step text f so_far.script _ _ _ e refl ((reads 0 so_far.unbroken).open_list e).forms)
        (λ p. word_step text f so_far.script _ _ _ (λ e. omega arith) ((reads 0 so_far.unbroken).word_here (omega arith)).forms)

    pub one_more : (behind_it : ℕ) → f.next ≤ behind_it → behind_it ≤ length text → RestBehind text f behind_it → ScriptSoFar text behind_it r
    unfolding RestBehind FormReads KeepsOn
    one_more behind_it low high rest-behind =
        let rest = rest-behind next 0 so_far.unbroken (reads 0 so_far.unbroken) some_form in
        let keeps : Keeps text (after text f so_far.script) r = kept so_far.script so_far.keeps in
        let grown = asserted_once so_far.script.stage (command_in text f) f.place (forms_behind text f) so_far.script in
        let further : f.place < f.next = stands.goes_on (λ e. omega arith) in
        record {
          script = after text f so_far.script;
          keeps = keeps;
          to_come = ap (script_from (after text f so_far.script)) rest.forms ∙ sym one_command ∙ so_far.to_come;
          unbroken = rest.unbroken;
          here = high;
          few = omega (arith, grown, keeps.asserted_are, so_far.keeps.asserted_are, so_far.few, stands.not_before);
        }
