-- What a command does to the script: nothing but faults, a declaration, a sign, or an assertion; and what every command keeps, the text keeps.
use Rattle.std.specs.Prelude.{◌≡◌, refl, Bool, true, false, not, ◌&&◌, ℕ, ◌<◌, leb, ltb, eqb, length, ℤ, pos}
use Rattle.std.proofs.Common.{sym, subst, true≢false, ltb-true}
use Rattle.std.proofs.Math.Bool.{and-eq-true_iff, and-true, and_assoc}
use Rattle.std.proofs.Math.Option.{Option, none, some}
use mathlib.Core.List.{List, [], ◌∷◌, ◌++◌, cons≢nil}
use Rattle.std.proofs.lemmas.Bool.{not-true}
use Rattle.scope.specs.Sizes.{most_variables}
use Rattle.smtlib.specs.Spelling.{is_in, spelling}
use Rattle.smtlib.specs.Forms.{Bare, numeral, symbol, reserved, other_word, Forms, nothing, word, list}
use Rattle.smtlib.specs.Formulas.{Clause, clauses_of}
use Rattle.smtlib.specs.Script.{unless, Part, parts_of, says_word, says_one, nameable, name_in, Command, set_logic, declare_const, assert, check_sat, other_command, command_of, behind, Stage, start, under, checked, Declaration, Script, no_script, names_of, moved, faulty, logic_faults, kept_if, declared_if, declared, signs, signed_as, asserted_only, asserted_as, under_logic, at_stage, script_from, script_of}
use Rattle.smtlib.specs.Meaning.{command_holds, text_holds}
use Rattle.smtlib.specs.Values.{append_none}

-- from a script to the one behind a command
pub data Change (s r : Script) (c : Command) (parts : Forms) : Type 0 where
  -- an assertion is left out only with a fault
  nothing_new : r.declarations ≡ s.declarations → r.asserted ≡ s.asserted → (r.outside ≡ [] → (v : List ℕ → ℤ) → command_holds v c parts ≡ true)
      → Change s r c parts
  new_name : (d : Declaration) → c ≡ declare_const → is_in d.name (names_of s.declarations) ≡ false → d.signed ≡ false
      → (r.beyond ≡ [] → length s.declarations < most_variables) → r.declarations ≡ s.declarations ++ (d ∷ []) → r.asserted ≡ s.asserted → Change s r c parts
  new_sign : (w : List ℕ) → c ≡ assert → signs (names_of s.declarations) parts ≡ some w
      → r.declarations ≡ signed_as w s.declarations → r.asserted ≡ s.asserted → Change s r c parts
  new_clause : (k : Clause) → c ≡ assert → clauses_of (names_of s.declarations) parts ≡ k ∷ [] → (r.outside ≡ [] → k.faults ≡ [])
      → r.declarations ≡ s.declarations → r.asserted ≡ s.asserted ++ (k ∷ []) → Change s r c parts

pub record CommandStep (s r : Script) (c : Command) (parts : Forms) : Type 0 where
  pub outside : r.outside ≡ [] → s.outside ≡ []
  pub beyond : r.beyond ≡ [] → s.beyond ≡ []
  pub change : Change s r c parts

-- ---- no more than faults

moved_step : (stage : Stage) (places : List ℕ) (s : Script) (c : Command) (parts : Forms) → (places ≡ [] → (v : List ℕ → ℤ) → command_holds v c parts ≡ true)
    → CommandStep s (moved stage places s) c parts
moved_step stage places s c parts f = record {
  outside = λ e. (append_none s.outside places e).0;
  beyond = λ e. e;
  change = nothing_new refl refl (λ e. f (append_none s.outside places e).1);
}

faulty_step : (stage : Stage) (at : ℕ) (s : Script) (c : Command) (parts : Forms) → CommandStep s (moved stage (at ∷ []) s) c parts
faulty_step stage at s c parts = moved_step stage (at ∷ []) s c parts (λ e v. absurd (cons≢nil e))

-- ---- a declaration

new_name_lem : (b : Bare) (names : List (List ℕ)) → nameable b && not (says_one b names) ≡ true → is_in (name_in b) names ≡ false
new_name_lem (numeral v) names e = absurd (true≢false (sym e))
new_name_lem (symbol w) names e = not-true (is_in w names) ((and-eq-true_iff (nameable (symbol w)) (not (is_in w names))).0 e).1
new_name_lem (reserved w) names e = absurd (true≢false (sym e))
new_name_lem other_word names e = absurd (true≢false (sym e))

pub unless_none : (t : Bool) (at : ℕ) → unless t at ≡ [] → t ≡ true
unless_none true at e = refl
unless_none false at e = absurd (cons≢nil e)

-- whether the name is kept comes first
declared_step : (at : ℕ) (ps : List Part) (s : Script) (parts : Forms) → CommandStep s (declared at ps s) declare_const parts
unfolding declared declared_if kept_if
declared_step at [] s parts = faulty_step s.stage at s declare_const parts
declared_step at (n ∷ []) s parts = faulty_step s.stage at s declare_const parts
declared_step at (n ∷ t ∷ u ∷ ps) s parts = faulty_step s.stage at s declare_const parts
declared_step at (n ∷ t ∷ []) s parts = go (new && int) refl
  where
    new : Bool
    new = nameable n.word && not (says_one n.word (names_of s.declarations))

    int : Bool
    int = says_word t.word (spelling "Int")

    places : List ℕ
    places = unless new n.place ++ unless int t.place

    room : Bool
    room = ltb (length s.declarations) most_variables

    d : Declaration
    d = record { name = name_in n.word; place = at; name_place = n.place; signed = false }

    -- with the name kept, or left out
    next : Bool → Script
    next k = record {
      stage = s.stage;
      declarations = kept_if k d s.declarations;
      asserted = s.asserted;
      outside = s.outside ++ places;
      beyond = s.beyond ++ unless room n.place;
    }

    added : (k : Bool) → new && int ≡ true → CommandStep s (next k) declare_const parts
    added true e = record {
      outside = λ f. (append_none s.outside places f).0;
      beyond = λ f. (append_none s.beyond (unless room n.place) f).0;
      change = new_name d refl (new_name_lem n.word (names_of s.declarations) ((and-eq-true_iff new int).0 e).0) refl
          (λ f. ltb-true (length s.declarations) most_variables (unless_none room n.place (append_none s.beyond (unless room n.place) f).1)) refl refl;
    }
    added false e = record {
      outside = λ f. (append_none s.outside places f).0;
      beyond = λ f. (append_none s.beyond (unless room n.place) f).0;
      change = nothing_new refl refl (λ f v. refl);
    }

    go : (k : Bool) → new && int ≡ k → CommandStep s (declared_if k at n (faulty places s)) declare_const parts
    go true e = added (leb (length s.declarations) most_variables) e
    go false e = moved_step s.stage places s declare_const parts (λ f v. refl)

-- ---- an assertion

asserted_step : (at : ℕ) (cs : List Clause) (s : Script) (parts : Forms) → clauses_of (names_of s.declarations) parts ≡ cs
    → CommandStep s (asserted_only at cs s) assert parts
unfolding asserted_only
asserted_step at [] s parts e = faulty_step s.stage at s assert parts
asserted_step at (k ∷ []) s parts e = record {
  outside = λ f. (append_none s.outside k.faults f).0;
  beyond = λ f. f;
  change = new_clause k refl e (λ f. (append_none s.outside k.faults f).1) refl refl;
}
asserted_step at (k ∷ l ∷ cs) s parts e = faulty_step s.stage at s assert parts

assert_step : (o : Option (List ℕ)) (at : ℕ) (s : Script) (parts : Forms) → signs (names_of s.declarations) parts ≡ o
    → CommandStep s (asserted_as o at parts s) assert parts
unfolding asserted_as
assert_step none at s parts e = asserted_step at (clauses_of (names_of s.declarations) parts) s parts refl
assert_step (some w) at s parts e = record { outside = λ f. f; beyond = λ f. f; change = new_sign w refl e refl refl }

-- ---- any command

pub command_step : (stage : Stage) (c : Command) (at : ℕ) (parts : Forms) (s : Script) → CommandStep s (at_stage stage c at parts s) c parts
unfolding at_stage under_logic
command_step start set_logic at parts s = moved_step under (logic_faults at (parts_of parts)) s set_logic parts (λ e v. refl)
command_step start declare_const at parts s = faulty_step under at s declare_const parts
command_step start assert at parts s = faulty_step under at s assert parts
command_step start check_sat at parts s = faulty_step under at s check_sat parts
command_step start other_command at parts s = faulty_step under at s other_command parts
command_step under set_logic at parts s = faulty_step s.stage at s set_logic parts
command_step under declare_const at parts s = declared_step at (parts_of parts) s parts
command_step under assert at parts s = assert_step (signs (names_of s.declarations) parts) at s parts refl
command_step under check_sat at parts s = moved_step (checked at) (unless (eqb (length (parts_of parts)) 0) at) s check_sat parts (λ e v. refl)
command_step under other_command at parts s = faulty_step s.stage at s other_command parts
command_step (checked place) c at parts s = faulty_step s.stage at s c parts

-- ---- what every command keeps of the script so far, and of whether what stands there holds, the text keeps

abbrev pub KeptBy : (List ℕ → ℤ) → (Script → Bool → Type 0) → Type 0
KeptBy v P = (s r : Script) (c : Command) (parts : Forms) (t : Bool) → CommandStep s r c parts → P s t → P r (t && command_holds v c parts)

kept_on : (v : List ℕ → ℤ) (P : Script → Bool → Type 0) → KeptBy v P → (forms : Forms) (s : Script) (t : Bool) → P s t → P (script_from s forms) (t && text_holds v forms)
unfolding script_from text_holds
kept_on v P kept nothing s t p = subst (P s) (sym (and-true t)) p
kept_on v P kept (word at w rest) s t p =
    let r : Script = at_stage s.stage other_command at nothing s in
    kept_on v P kept rest r t (subst (P r) (and-true t) (kept s r other_command nothing t (command_step s.stage other_command at nothing s) p))
kept_on v P kept (list at inner rest) s t p =
    let c : Command = command_of inner in
    let r : Script = at_stage s.stage c at (behind inner) s in
    subst (P (script_from r rest)) (and_assoc t (command_holds v c (behind inner)) (text_holds v rest))
    (kept_on v P kept rest r (t && command_holds v c (behind inner)) (kept s r c (behind inner) t (command_step s.stage c at (behind inner) s) p))

pub text_keeps : (v : List ℕ → ℤ) (P : Script → Bool → Type 0) → KeptBy v P → P no_script true → (forms : Forms) → P (script_of forms) (text_holds v forms)
unfolding script_of
text_keeps v P kept p forms = kept_on v P kept forms no_script true p

-- of the script alone
pub script_keeps : (P : Script → Type 0) → ((s r : Script) (c : Command) (parts : Forms) → CommandStep s r c parts → P s → P r) → P no_script
    → (forms : Forms) → P (script_of forms)
script_keeps P kept = text_keeps (λ w. pos 0) (λ s t. P s) (λ s r c parts t. kept s r c parts)
