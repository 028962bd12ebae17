-- What each command does to a script, by what was read of it.
use Prim.Native.Nat.{ℕ, suc, ◌≤◌, ◌<◌}
use native.Mathlib.Omega.{arith}
use native.Mathlib.Decide.{dec_lt}
use mathlib.Core.Path.{◌≡◌, refl, sym, ap, ◌∙◌, subst}
use mathlib.Core.Logic.{by_cases}
use Rattle.std.specs.Prelude.{◌≢◌}
use mathlib.Core.Bool.{Bool, true, false, not, ◌&&◌, true≢false, and-eq-true_iff}
use mathlib.Core.Option.{Option, none}
use mathlib.Core.List.{List, [], ◌∷◌, ◌++◌, append-nil}
use lib.Dec.{ltb, eqb}
use lib.ListN.{length}
use borrow.Author.Tests.{lt-ltb, le-ltb, eq-eqb, ne_eqb, not-true}
use Rattle.smtlib.specs.Spelling.{is_in, spelling}
use Rattle.smtlib.specs.Forms.{Bare, numeral, symbol, reserved, other_word, Forms, nothing, word, list}
use Rattle.smtlib.specs.Formulas.{Clause, clauses_of}
use Rattle.smtlib.specs.Script.{unless, parts_of, says_word, says_one, nameable, name_in, Command, set_logic, declare_const, assert, check_sat, other_command, behind, Stage, start, under, checked, Script, names_of, moved, faulty, logic_faults, declared_if, declared, signs, asserted_only, asserted_as, logic_due, under_logic, at_stage, lowest_of}
use Rattle.std.specs.Prelude.{Some, None}
use Rattle.lexicon.specs.Spots.{Position, spot_of}
use Rattle.forms.specs.declared.Form.{Form}
use Rattle.forms.specs.Places.{forms_at, Unbroken}
use Rattle.forms.specs.Read.{OPEN, FormReads}
use Rattle.terms.specs.Names.{names_in}
use Rattle.terms.specs.Read.{Inside}
use Rattle.clauses.specs.declared.ClausePart.{ClausePart}
use Rattle.clauses.specs.Read.{ClausePartRead}
use Rattle.script.specs.declared.Phase.{Phase}
use Rattle.script.specs.declared.Kept.{Kept}
use Rattle.script.specs.declared.CommandName.{CommandName}
use Rattle.script.specs.declared.CommandHead.{CommandHead}
use Rattle.script.specs.Parts.{ListHere, word_in, part_in, PartSays, nothing_more}
use Rattle.script.specs.Commands.{command_name, name_place, CommandReads, command_in, forms_behind, CommandHere, command_nesting, CommandSays, CommandInside, SignedName}
use Rattle.script.specs.Kept.{phase_of, Keeps}
use Rattle.script.specs.Declarations.{kept_names}
use Rattle.script.specs.Changes.{KeepsOn, MovesOn, FaultsOn, NamesOn, SignsOn, AssertsOn, CommandsOn}
use Rattle.script.proofs.Listing.{no_parts, some_part}

pub inside_list : {text : List ℕ} {at : ℕ} → Inside text at command_nesting → ListHere text at
inside_list inside = record { depth = 0; here = inside.here; unbroken = inside.unbroken }

pub keeps_as : (text : List ℕ) (k r : Kept) (f g : Script → Script) → ((s : Script) → Keeps text s k → f s ≡ g s) → KeepsOn text k f r → KeepsOn text k g r
unfolding KeepsOn
keeps_as text k r f g e h s keeps = subst (λ (t : Script). Keeps text t r) (e s keeps) (h s keeps)

pub fault_on : (text : List ℕ) (k r : Kept) (at : ℕ) → FaultsOn k (spot_of (lowest_of (at ∷ []))) r → KeepsOn text k (λ s. faulty (at ∷ []) s) r
unfolding FaultsOn
fault_on text k r at h = h text (at ∷ []) refl

-- ---- set-logic

not_logic : (c : Command) (at : ℕ) (parts : Forms) → (command_name c ≡ CommandName.SetLogic → ⊥) → logic_due c at parts ≡ at ∷ []
not_logic set_logic at parts n = absurd (n refl)
not_logic declare_const at parts n = refl
not_logic assert at parts n = refl
not_logic check_sat at parts n = refl
not_logic other_command at parts n = refl

is_logic : (c : Command) (at : ℕ) (parts : Forms) → command_name c ≡ CommandName.SetLogic → logic_due c at parts ≡ logic_faults at (parts_of parts)
is_logic set_logic at parts e = refl
is_logic declare_const at parts e = absurd (omega (arith, ap name_place e))
is_logic assert at parts e = absurd (omega (arith, ap name_place e))
is_logic check_sat at parts e = absurd (omega (arith, ap name_place e))
is_logic other_command at parts e = absurd (omega (arith, ap name_place e))

module _ (text : List ℕ) (head : CommandHead) (k r : Kept) (at : ℕ) (fault : Position) (moves : MovesOn k Phase.Under fault r) where
  pub no_logic_due : (head.name ≡ CommandName.SetLogic → ⊥) → fault ≡ spot_of (lowest_of (at ∷ [])) → CommandsOn text head k (λ c parts s. moved under (logic_due c at parts) s) r
  unfolding KeepsOn MovesOn CommandsOn
  no_logic_due n e c parts says s keeps =
      moves text s under (logic_due c at parts) keeps refl (e ∙ ap (λ (l : List ℕ). spot_of (lowest_of l)) (sym (not_logic c at parts (λ f. n (says.name_is ∙ f)))))

  pub logic_set : head.name ≡ CommandName.SetLogic → fault ≡ spot_of (lowest_of (logic_faults at (parts_of (forms_at text head.next)))) → CommandsOn text head k (λ c parts s. moved under (logic_due c at parts) s) r
  unfolding KeepsOn MovesOn CommandsOn
  logic_set z e c parts says s keeps =
      moves text s under (logic_due c at parts) keeps refl
      (e ∙ ap (λ (p : Forms). spot_of (lowest_of (logic_faults at (parts_of p)))) (sym (says.parts_are (λ f. omega (arith, ap name_place (sym z ∙ f))))) ∙ ap (λ (l : List ℕ). spot_of (lowest_of l)) (sym (is_logic c at parts (sym says.name_is ∙ z))))

-- ---- declare-const

new_is_out : (b : Bare) (names : List (List ℕ)) → nameable b && not (says_one b names) ≡ true → (nameable b ≡ true) × (is_in (name_in b) names ≡ false)
new_is_out (numeral v) names e = absurd (true≢false (sym e))
new_is_out (symbol w) names e = let f = (and-eq-true_iff (nameable (symbol w)) (not (is_in w names))).0 e in (f.0, not-true (is_in w names) f.1)
new_is_out (reserved w) names e = absurd (true≢false (sym e))
new_is_out other_word names e = absurd (true≢false (sym e))

no_faults : (text : List ℕ) (s : Script) (k : Kept) → Keeps text s k → Keeps text (faulty [] s) k
no_faults text s k keeps = record {
  whole = keeps.whole;
  phase_is = keeps.phase_is;
  declarations_are = keeps.declarations_are;
  names_stand = keeps.names_stand;
  spelt_from = keeps.spelt_from;
  no_name_twice = keeps.no_name_twice;
  asserted_are = keeps.asserted_are;
  outside_is = keeps.outside_is ∙ ap (λ (l : List ℕ). spot_of (lowest_of l)) (sym (append-nil s.outside));
  beyond_is = keeps.beyond_is;
}

module _ (text : List ℕ) (k r : Kept) (at : ℕ) (n t : Form) (new int : Bool)
    (New-is : new ≡ nameable (word_in text n) && not (says_one (word_in text n) (names_in text k.bounds k.count))) (int_is : int ≡ says_word (word_in text t) (spelling "Int")) where
  declared_by_lem : (s : Script) → Keeps text s k
      → declared_if (new && int) at (part_in text n) (faulty (unless new n.place ++ unless int t.place) s) ≡ declared at (part_in text n ∷ part_in text t ∷ []) s
  unfolding declared
  declared_by_lem s keeps =
      let now_new : new ≡ nameable (word_in text n) && not (says_one (word_in text n) (names_of s.declarations)) =
      New-is ∙ ap (λ (l : List (List ℕ)). nameable (word_in text n) && not (says_one (word_in text n) l)) (sym (kept_names keeps)) in
      λ i. declared_if (now_new i && int_is i) at (part_in text n) (faulty (unless (now_new i) n.place ++ unless (int_is i) t.place) s)

  pub declared_new : PartSays text n → new && int ≡ true → NamesOn k at n r → KeepsOn text k (λ s. declared at (part_in text n ∷ part_in text t ∷ []) s) r
  unfolding KeepsOn NamesOn
  declared_new says e names s keeps =
      let both = (and-eq-true_iff new int).0 e in
      let out = new_is_out (word_in text n) (names_in text k.bounds k.count) (sym New-is ∙ both.0) in
      let out_now : is_in (name_in (word_in text n)) (names_of s.declarations) ≡ false = ap (is_in (name_in (word_in text n))) (kept_names keeps) ∙ out.1 in
      let kept : Keeps text (declared_if true at (part_in text n) (faulty [] s)) r = names text (faulty [] s) (no_faults text s k keeps) says out.0 out_now in
      let same_script : declared_if true at (part_in text n) (faulty [] s) ≡ declared at (part_in text n ∷ part_in text t ∷ []) s =
      (λ i. declared_if (sym e i) at (part_in text n) (faulty (unless (sym both.0 i) n.place ++ unless (sym both.1 i) t.place) s)) ∙ declared_by_lem s keeps in
      subst (λ (p : Script). Keeps text p r) same_script kept

  pub declared_faulty : (fault : Position) → new && int ≡ false → fault ≡ spot_of (lowest_of (unless new n.place ++ unless int t.place)) → FaultsOn k fault r
      → KeepsOn text k (λ s. declared at (part_in text n ∷ part_in text t ∷ []) s) r
  unfolding KeepsOn FaultsOn declared_if
  declared_faulty fault e f faults s keeps =
      let places : List ℕ = unless new n.place ++ unless int t.place in
      subst (λ (p : Script). Keeps text p r) (ap (λ (u : Bool). declared_if u at (part_in text n) (faulty places s)) (sym e) ∙ declared_by_lem s keeps) (faults text places f s keeps)

-- ---- assert

list_clause_lem : (names : List (List ℕ)) (at : ℕ) (inner rest : Forms) → (c : Clause) × (clauses_of names (list at inner rest) ≡ c ∷ clauses_of names rest)
unfolding clauses_of
list_clause_lem names at nothing rest = (_, refl)
list_clause_lem names at (word first h parts) rest = (_, refl)
list_clause_lem names at (list first inner parts) rest = (_, refl)

word_clause : (names : List (List ℕ)) (at : ℕ) (w : Bare) (rest : Forms) → (c : Clause) × (clauses_of names (word at w rest) ≡ c ∷ clauses_of names rest)
unfolding clauses_of
word_clause names at w rest = (_, refl)

module _ (text : List ℕ) (at depth : ℕ) (f : Form) (reads : FormReads text at f) (u : Unbroken text at depth) (names : List (List ℕ)) where
  some_clause : OPEN ≤ f.kind → (c : Clause) × (rest : List Clause) × (clauses_of names (forms_at text at) ≡ c ∷ rest)
  unfolding FormReads
  some_clause h = by_cases (dec_lt f.kind 3)
      (λ p. let (c, e) = list_clause_lem names _ _ _ in (c, _, ap (clauses_of names) ((reads depth u).open_list (omega arith)).forms ∙ e))
      (λ p. let (c, e) = word_clause names _ _ _ in (c, _, ap (clauses_of names) ((reads depth u).word_here (omega arith)).forms ∙ e))

  no_clauses : f.kind < OPEN → clauses_of names (forms_at text at) ≡ []
  unfolding clauses_of
  no_clauses h = ap (clauses_of names) (nothing_more text at depth f reads u h)

module _ (text : List ℕ) (k r : Kept) (place at : ℕ) (clause : ClausePart) (read : ClausePartRead text at 1 (names_in text k.bounds k.count) clause) where
  -- the clauses of the script's names are those of the names that are kept
  clauses_kept : (cs : List Clause) → clauses_of (names_in text k.bounds k.count) (forms_at text at) ≡ cs → (s : Script) → Keeps text s k
      → asserted_only place cs s ≡ asserted_only place (clauses_of (names_of s.declarations) (forms_at text at)) s
  clauses_kept cs e s keeps =
      ap (λ (l : List Clause). asserted_only place l s) (sym e ∙ ap (λ (l : List (List ℕ)). clauses_of l (forms_at text at)) (sym (kept_names keeps)))

  pub no_formula : clause.formula ≡ None → KeepsOn text k (λ s. faulty (place ∷ []) s) r
      → KeepsOn text k (λ s. asserted_only place (clauses_of (names_of s.declarations) (forms_at text at)) s) r
  unfolding asserted_only clauses_of
  no_formula e h = keeps_as text k r _ _ (clauses_kept [] (ap (clauses_of (names_in text k.bounds k.count)) (read.no_more e).0)) h

  module _ (fault : Position) (e : clause.formula ≡ Some fault) (f : Form) (reads : FormReads text clause.next f) where
    pub two_formulas : OPEN ≤ f.kind → KeepsOn text k (λ s. faulty (place ∷ []) s) r
        → KeepsOn text k (λ s. asserted_only place (clauses_of (names_of s.declarations) (forms_at text at)) s) r
    unfolding asserted_only
    two_formulas h kept =
        let one = read.one_more fault e in
        let (d, rest, more) = some_clause text clause.next 1 f reads one.unbroken (names_in text k.bounds k.count) h in
        keeps_as text k r _ _ (clauses_kept (one.clause ∷ d ∷ rest) (one.clauses ∙ ap (λ (l : List Clause). one.clause ∷ l) more)) kept

    pub one_formula : f.kind < OPEN → AssertsOn k fault r
        → KeepsOn text k (λ s. asserted_only place (clauses_of (names_of s.declarations) (forms_at text at)) s) r
    unfolding asserted_only AssertsOn
    one_formula h asserts =
        let one = read.one_more fault e in
        let alone = no_clauses text clause.next 1 f reads one.unbroken (names_in text k.bounds k.count) h in
        keeps_as text k r _ _ (clauses_kept (one.clause ∷ []) (one.clauses ∙ ap (λ (l : List Clause). one.clause ∷ l) alone)) (asserts text one.clause one.fault_is)

module _ (text : List ℕ) (k r : Kept) (place at : ℕ) where
  abbrev asserts : Script → Script
  asserts s = asserted_as (signs (names_of s.declarations) (forms_at text at)) place (forms_at text at) s

  pub sign_asserted : (i : ℕ) → SignedName (names_in text k.bounds k.count) (signs (names_in text k.bounds k.count) (forms_at text at)) k.count i → SignsOn k i r → KeepsOn text k (λ s. asserts s) r
  unfolding asserted_as SignsOn
  sign_asserted i one signs-on =
      keeps_as text k r _ _
      (λ s keeps. sym (ap (λ (l : List (List ℕ)). asserted_as (signs l (forms_at text at)) place (forms_at text at) s) (kept_names keeps)
      ∙ ap (λ (o : Option (List ℕ)). asserted_as o place (forms_at text at) s) one.signs_it))
      (signs-on text one.name one.number_is)

  pub formula_asserted : signs (names_in text k.bounds k.count) (forms_at text at) ≡ none → KeepsOn text k (λ s. asserted_only place (clauses_of (names_of s.declarations) (forms_at text at)) s) r → KeepsOn text k (λ s. asserts s) r
  unfolding asserted_as
  formula_asserted unsigned kept =
      keeps_as text k r _ _
      (λ s keeps. sym (ap (λ (l : List (List ℕ)). asserted_as (signs l (forms_at text at)) place (forms_at text at) s) (kept_names keeps)
      ∙ ap (λ (o : Option (List ℕ)). asserted_as o place (forms_at text at) s) unsigned))
      kept

-- ---- check-sat

module _ (text : List ℕ) (at depth : ℕ) (f : Form) (reads : FormReads text at f) (u : Unbroken text at depth) where
  pub none_by_kind : ltb f.kind OPEN ≡ eqb (length (parts_of (forms_at text at))) 0
  none_by_kind = by_cases (dec_lt f.kind 2)
      (λ p. rw (lt-ltb f.kind 2 p, no_parts text at depth f reads u p) refl)
      (λ p. let (q, rest, e) = some_part text at depth f reads u (omega arith) in rw (le-ltb f.kind 2 (omega arith), e) (sym (ne_eqb (suc (length rest)) 0 (λ z. omega arith))))

pub checked_on : (text : List ℕ) (k r : Kept) (place : ℕ) (t : Bool) (parts : Forms) (fault : Position) → t ≡ eqb (length (parts_of parts)) 0 → fault ≡ spot_of (lowest_of (unless t place))
    → MovesOn k (Phase.Checked place) fault r → KeepsOn text k (λ s. moved (checked place) (unless (eqb (length (parts_of parts)) 0) place) s) r
unfolding KeepsOn MovesOn
checked_on text k r place t parts fault e f moves s keeps =
    moves text s (checked place) (unless (eqb (length (parts_of parts)) 0) place) keeps refl (f ∙ ap (λ (b : Bool). spot_of (lowest_of (unless b place))) e)

-- ---- under the logic

module _ (at : ℕ) (parts : Forms) (s : Script) where
  is_declare : (c : Command) → command_name c ≡ CommandName.DeclareConst → declared at (parts_of parts) s ≡ under_logic c at parts s
  unfolding under_logic
  is_declare set_logic e = absurd (omega (arith, ap name_place e))
  is_declare declare_const e = refl
  is_declare assert e = absurd (omega (arith, ap name_place e))
  is_declare check_sat e = absurd (omega (arith, ap name_place e))
  is_declare other_command e = absurd (omega (arith, ap name_place e))

  is_assert : (c : Command) → command_name c ≡ CommandName.Assert → asserted_as (signs (names_of s.declarations) parts) at parts s ≡ under_logic c at parts s
  unfolding under_logic
  is_assert set_logic e = absurd (omega (arith, ap name_place e))
  is_assert declare_const e = absurd (omega (arith, ap name_place e))
  is_assert assert e = refl
  is_assert check_sat e = absurd (omega (arith, ap name_place e))
  is_assert other_command e = absurd (omega (arith, ap name_place e))

  is_check_sat : (c : Command) → command_name c ≡ CommandName.CheckSat → moved (checked at) (unless (eqb (length (parts_of parts)) 0) at) s ≡ under_logic c at parts s
  unfolding under_logic
  is_check_sat set_logic e = absurd (omega (arith, ap name_place e))
  is_check_sat declare_const e = absurd (omega (arith, ap name_place e))
  is_check_sat assert e = absurd (omega (arith, ap name_place e))
  is_check_sat check_sat e = refl
  is_check_sat other_command e = absurd (omega (arith, ap name_place e))

  is_other : (c : Command) → (command_name c ≡ CommandName.DeclareConst → ⊥) → (command_name c ≡ CommandName.Assert → ⊥) → (command_name c ≡ CommandName.CheckSat → ⊥) → faulty (at ∷ []) s ≡ under_logic c at parts s
  unfolding under_logic
  is_other set_logic a b d = refl
  is_other declare_const a b d = absurd (a refl)
  is_other assert a b d = absurd (b refl)
  is_other check_sat a b d = absurd (d refl)
  is_other other_command a b d = refl

module _ (text : List ℕ) (head : CommandHead) (k r : Kept) (at : ℕ) where
  -- a command that is known, with the parts that were read
  command_as : (change : Forms → Script → Script) → head.name ≢ CommandName.Other → KeepsOn text k (change (forms_at text head.next)) r
      → ((c : Command) (parts : Forms) (s : Script) → head.name ≡ command_name c → change parts s ≡ under_logic c at parts s) → CommandsOn text head k (λ c parts s. under_logic c at parts s) r
  unfolding CommandsOn
  command_as change h kept e c parts says =
      keeps_as text k r _ _ (λ s keeps. ap (λ (p : Forms). change p s) (sym (says.parts_are h)) ∙ e c parts s says.name_is) kept

  pub declare_due : head.name ≡ CommandName.DeclareConst → KeepsOn text k (λ s. declared at (parts_of (forms_at text head.next)) s) r → CommandsOn text head k (λ c parts s. under_logic c at parts s) r
  declare_due e kept = command_as (λ parts s. declared at (parts_of parts) s) (λ f. omega (arith, ap name_place (sym e ∙ f))) kept (λ c parts s f. is_declare at parts s c (sym f ∙ e))

  pub assert_due : head.name ≡ CommandName.Assert → KeepsOn text k (λ s. asserted_as (signs (names_of s.declarations) (forms_at text head.next)) at (forms_at text head.next) s) r
      → CommandsOn text head k (λ c parts s. under_logic c at parts s) r
  assert_due e kept = command_as (λ parts s. asserted_as (signs (names_of s.declarations) parts) at parts s) (λ f. omega (arith, ap name_place (sym e ∙ f))) kept (λ c parts s f. is_assert at parts s c (sym f ∙ e))

  pub check_sat_due : head.name ≡ CommandName.CheckSat → KeepsOn text k (λ s. moved (checked at) (unless (eqb (length (parts_of (forms_at text head.next))) 0) at) s) r
      → CommandsOn text head k (λ c parts s. under_logic c at parts s) r
  check_sat_due e kept = command_as (λ parts s. moved (checked at) (unless (eqb (length (parts_of parts)) 0) at) s) (λ f. omega (arith, ap name_place (sym e ∙ f))) kept (λ c parts s f. is_check_sat at parts s c (sym f ∙ e))

  pub other_due : (head.name ≡ CommandName.DeclareConst → ⊥) → (head.name ≡ CommandName.Assert → ⊥) → (head.name ≡ CommandName.CheckSat → ⊥) → FaultsOn k (spot_of (lowest_of (at ∷ []))) r → CommandsOn text head k (λ c parts s. under_logic c at parts s) r
  unfolding CommandsOn
  other_due a b d faults c parts says =
      keeps_as text k r _ _ (λ s keeps. is_other at parts s c (λ e. a (says.name_is ∙ e)) (λ e. b (says.name_is ∙ e)) (λ e. d (says.name_is ∙ e))) (fault_on text k r at faults)

-- ---- by the stage

module _ (c : Command) (at : ℕ) (parts : Forms) (s : Script) where
  at_start : (stage : Stage) → Phase.Start ≡ phase_of stage → moved under (logic_due c at parts) s ≡ at_stage stage c at parts s
  unfolding at_stage
  at_start start e = refl
  at_start under e = absurd (let z : ◌≡◌ {A = ℕ} 0 1 = cc in omega arith)
  at_start (checked place) e = absurd (let z : ◌≡◌ {A = ℕ} 0 1 = cc in omega arith)

  at_under : (stage : Stage) → Phase.Under ≡ phase_of stage → under_logic c at parts s ≡ at_stage stage c at parts s
  unfolding at_stage
  at_under start e = absurd (let z : ◌≡◌ {A = ℕ} 0 1 = cc in omega arith)
  at_under under e = refl
  at_under (checked place) e = absurd (let z : ◌≡◌ {A = ℕ} 0 1 = cc in omega arith)

  at_checked : (there : ℕ) (stage : Stage) → Phase.Checked there ≡ phase_of stage → faulty (at ∷ []) s ≡ at_stage stage c at parts s
  unfolding at_stage
  at_checked there start e = absurd (let z : ◌≡◌ {A = ℕ} 0 1 = cc in omega arith)
  at_checked there under e = absurd (let z : ◌≡◌ {A = ℕ} 0 1 = cc in omega arith)
  at_checked there (checked place) e = refl

module _ (text : List ℕ) (k r : Kept) (at : ℕ) (head : CommandHead) (c : Command) (parts : Forms) (says : CommandSays text c parts head) where
  pub start_on : k.phase ≡ Phase.Start → CommandsOn text head k (λ c parts s. moved under (logic_due c at parts) s) r → KeepsOn text k (λ s. at_stage s.stage c at parts s) r
  unfolding CommandsOn
  start_on e h = keeps_as text k r _ _ (λ s keeps. at_start c at parts s s.stage (sym e ∙ keeps.phase_is)) (h c parts says)

  pub under_on : k.phase ≡ Phase.Under → CommandsOn text head k (λ c parts s. under_logic c at parts s) r → KeepsOn text k (λ s. at_stage s.stage c at parts s) r
  unfolding CommandsOn
  under_on e h = keeps_as text k r _ _ (λ s keeps. at_under c at parts s s.stage (sym e ∙ keeps.phase_is)) (h c parts says)

  pub behind_check_sat : (there : ℕ) → k.phase ≡ Phase.Checked there → FaultsOn k (spot_of (lowest_of (at ∷ []))) r → KeepsOn text k (λ s. at_stage s.stage c at parts s) r
  behind_check_sat there e h = keeps_as text k r _ _ (λ s keeps. at_checked c at parts s there s.stage (sym e ∙ keeps.phase_is)) (fault_on text k r at h)

-- ---- the head of a form

module _ (text : List ℕ) (f : Form) (here : CommandHere text f) (r : CommandHead) where
  pub list_head : f.kind ≡ OPEN → r.next ≤ length text → CommandReads text f.next r → CommandInside text r × CommandSays text (command_in text f) (forms_behind text f) r
  unfolding CommandReads CommandInside
  list_head e inside reads =
      let read = reads 1 (here.unbroken e) in
      rw (eq-eqb f.kind 2 e) (
        λ h. record { here = inside; left = omega arith; unbroken = (read.parts_behind h).unbroken },
        record { name_is = read.name_is; parts_are = λ h. ap behind (read.parts_behind h).forms },
      )

pub word_head : (text : List ℕ) (f : Form) (next : ℕ) → (f.kind ≡ OPEN → ⊥)
    → CommandInside text record { name = CommandName.Other; next = next } × CommandSays text (command_in text f) (forms_behind text f) record { name = CommandName.Other; next = next }
unfolding CommandInside
word_head text f next n = rw (ne_eqb f.kind 2 n) (
  λ h. absurd (h refl),
  record { name_is = refl; parts_are = λ h. absurd (h refl) },
)
