-- A script without fault, command by command: what a command does, and what the commands after it keep.
use Prim.Native.Nat.{ℕ, suc, ◌<◌}
use native.Mathlib.Omega.{arith}
use mathlib.Core.Path.{◌≡◌, refl, sym, ap, ◌∙◌}
use mathlib.Core.Bool.{Bool, true, false, not, ◌&&◌, and-eq-true_iff, true≢false}
use mathlib.Core.Option.{Option, none, some}
use mathlib.Core.List.{List, [], ◌∷◌, ◌++◌, map-append, append_assoc, append-nil, cons≢nil}
use lib.Dec.{leb, ltb}
use lib.ListN.{length, length-append}
use borrow.Author.Tests.{ltb-true, le-leb}
use Rattle.scope.specs.Sizes.{most_variables}
use Rattle.smtlib.specs.Spelling.{spelling}
use Rattle.smtlib.specs.Forms.{Bare, Forms, nothing, word, list}
use Rattle.smtlib.specs.Formulas.{Clause, clauses_of}
use Rattle.smtlib.specs.Script.{unless, Part, parts_of, says_word, says_one, nameable, name_in, Command, set_logic, declare_const, assert, check_sat, other_command, command_of, behind, Stage, start, under, checked, Declaration, Script, names_of, faulty, kept_if, declared_if, declared, signs, signed_as, asserted_only, asserted_as, under_logic, at_stage, script_from}
use Rattle.smtlib.specs.Values.{append_none}
use Rattle.smtlib.specs.Steps.{unless_none, Change, nothing_new, new_name, new_sign, new_clause, CommandStep, command_step}

-- ---- what a command does

abbrev pub SameSoFar : Script → Script → Type 0
SameSoFar s r = (length r.declarations ≡ length s.declarations) × (r.asserted ≡ s.asserted)

pub data Does (s r : Script) (parts : Forms) : Command → Type 0 where
  sets : SameSoFar s r → Does s r parts set_logic
  names_one : length r.declarations ≡ suc (length s.declarations) → r.asserted ≡ s.asserted → Does s r parts declare_const
  signs_one : (w : List ℕ) → signs (names_of s.declarations) parts ≡ some w → SameSoFar s r → Does s r parts assert
  asserts_one : (c : Clause) → signs (names_of s.declarations) parts ≡ none → clauses_of (names_of s.declarations) parts ≡ c ∷ [] → c.faults ≡ []
      → length r.declarations ≡ length s.declarations → r.asserted ≡ s.asserted ++ (c ∷ []) → Does s r parts assert
  checks : SameSoFar s r → Does s r parts check_sat

pub does_no_other : {s r : Script} {parts : Forms} → Does s r parts other_command → ⊥
does_no_other {s} {r} {parts} d = go other_command d refl
  where
    go : (c : Command) → Does s r parts c → c ≡ other_command → ⊥
    go c (sets h) e = let z : ◌≡◌ {A = ℕ} 0 1 = cc in omega arith
    go c (names_one h k) e = let z : ◌≡◌ {A = ℕ} 0 1 = cc in omega arith
    go c (signs_one w h k) e = let z : ◌≡◌ {A = ℕ} 0 1 = cc in omega arith
    go c (asserts_one k a b d l m) e = let z : ◌≡◌ {A = ℕ} 0 1 = cc in omega arith
    go c (checks h) e = let z : ◌≡◌ {A = ℕ} 0 1 = cc in omega arith

no_fault : (l : List ℕ) (at : ℕ) → l ++ (at ∷ []) ≡ [] → ⊥
no_fault l at e = cons≢nil (append_none l (at ∷ []) e).1

signed_count : (w : List ℕ) (ds : List Declaration) → length (signed_as w ds) ≡ length ds
unfolding signed_as
signed_count w [] = refl
signed_count w (d ∷ ds) = ap suc (signed_count w ds)

declares : (at : ℕ) (ps : List Part) (s : Script) (parts : Forms) → (declared at ps s).outside ≡ [] → (declared at ps s).beyond ≡ [] → Does s (declared at ps s) parts declare_const
unfolding declared declared_if kept_if
declares at [] s parts e f = absurd (no_fault s.outside at e)
declares at (n ∷ []) s parts e f = absurd (no_fault s.outside at e)
declares at (n ∷ t ∷ u ∷ ps) s parts e f = absurd (no_fault s.outside at e)
declares at (n ∷ t ∷ []) s parts e f = go (new && int) refl e f
  where
    new : Bool
    new = nameable n.word && not (says_one n.word (names_of s.declarations))

    int : Bool
    int = says_word t.word (spelling "Int")

    places : List ℕ
    places = unless new n.place ++ unless int t.place

    d : Declaration
    d = record { name = name_in n.word; place = at; name_place = n.place; signed = false }

    both : (a b : Bool) → unless a n.place ++ unless b t.place ≡ [] → a && b ≡ true
    both a b h = (and-eq-true_iff a b).1 (unless_none a _ (append_none (unless a n.place) (unless b t.place) h).0, unless_none b _ (append_none (unless a n.place) (unless b t.place) h).1)

    kept : (k : Bool) → leb (length s.declarations) most_variables ≡ k → length s.declarations < most_variables → length (kept_if k d s.declarations) ≡ suc (length s.declarations)
    kept true g l = omega (arith, length-append s.declarations (d ∷ []))
    kept false g l = absurd (true≢false (sym (le-leb (length s.declarations) most_variables (omega (arith, l))) ∙ g))

    go : (k : Bool) → new && int ≡ k → (declared_if k at n (faulty places s)).outside ≡ [] → (declared_if k at n (faulty places s)).beyond ≡ [] → Does s (declared_if k at n (faulty places s)) parts declare_const
    go true g e f =
        let room = unless_none (ltb (length s.declarations) most_variables) n.place (append_none s.beyond (unless (ltb (length s.declarations) most_variables) n.place) f).1 in
        names_one (kept (leb (length s.declarations) most_variables) refl (ltb-true (length s.declarations) most_variables room)) refl
    go false g e f = absurd (true≢false (sym (both new int (append_none s.outside places e).1) ∙ g))

asserts : (o : Option (List ℕ)) (at : ℕ) (s : Script) (parts : Forms) → signs (names_of s.declarations) parts ≡ o → (asserted_as o at parts s).outside ≡ [] → Does s (asserted_as o at parts s) parts assert
unfolding asserted_as asserted_only
asserts (some w) at s parts g e = signs_one w g (signed_count w s.declarations, refl)
asserts none at s parts g e = go (clauses_of (names_of s.declarations) parts) refl e
  where
    go : (cs : List Clause) → clauses_of (names_of s.declarations) parts ≡ cs → (asserted_only at cs s).outside ≡ [] → Does s (asserted_only at cs s) parts assert
    go [] h e = absurd (no_fault s.outside at e)
    go (c ∷ []) h e = asserts_one c g h (append_none s.outside c.faults e).1 refl refl
    go (c ∷ d ∷ cs) h e = absurd (no_fault s.outside at e)

pub command_does : (stage : Stage) (c : Command) (at : ℕ) (parts : Forms) (s : Script) → (at_stage stage c at parts s).outside ≡ [] → (at_stage stage c at parts s).beyond ≡ []
    → Does s (at_stage stage c at parts s) parts c
unfolding at_stage under_logic
command_does start set_logic at parts s e f = sets (refl, refl)
command_does start declare_const at parts s e f = absurd (no_fault s.outside at e)
command_does start assert at parts s e f = absurd (no_fault s.outside at e)
command_does start check_sat at parts s e f = absurd (no_fault s.outside at e)
command_does start other_command at parts s e f = absurd (no_fault s.outside at e)
command_does under set_logic at parts s e f = absurd (no_fault s.outside at e)
command_does under declare_const at parts s e f = declares at (parts_of parts) s parts e f
command_does under assert at parts s e f = asserts (signs (names_of s.declarations) parts) at s parts refl e
command_does under check_sat at parts s e f = checks (refl, refl)
command_does under other_command at parts s e f = absurd (no_fault s.outside at e)
command_does (checked place) c at parts s e f = absurd (no_fault s.outside at e)

-- ---- what the commands after it keep

pub record Grows (s r : Script) : Type 0 where
  pub outside : r.outside ≡ [] → s.outside ≡ []
  pub beyond : r.beyond ≡ [] → s.beyond ≡ []
  pub names : List (List ℕ)
  pub names_are : names_of r.declarations ≡ names_of s.declarations ++ names
  pub clauses : List Clause
  pub clauses_are : r.asserted ≡ s.asserted ++ clauses

nothing_grows : (s : Script) → Grows s s
nothing_grows s = record {
  outside = λ e. e;
  beyond = λ e. e;
  names = [];
  names_are = sym (append-nil (names_of s.declarations));
  clauses = [];
  clauses_are = sym (append-nil s.asserted);
}

grows_on : (s r t : Script) → Grows s r → Grows r t → Grows s t
grows_on s r t g h = record {
  outside = λ e. g.outside (h.outside e);
  beyond = λ e. g.beyond (h.beyond e);
  names = g.names ++ h.names;
  names_are = h.names_are ∙ ap (λ (l : List (List ℕ)). l ++ h.names) g.names_are ∙ append_assoc (names_of s.declarations) g.names h.names;
  clauses = g.clauses ++ h.clauses;
  clauses_are = h.clauses_are ∙ ap (λ (l : List Clause). l ++ h.clauses) g.clauses_are ∙ append_assoc s.asserted g.clauses h.clauses;
}

signed_names : (w : List ℕ) (ds : List Declaration) → names_of (signed_as w ds) ≡ names_of ds
unfolding signed_as
signed_names w [] = refl
signed_names w (d ∷ ds) = ap (λ (l : List (List ℕ)). d.name ∷ l) (signed_names w ds)

step_grows : (s r : Script) (c : Command) (parts : Forms) → CommandStep s r c parts → Grows s r
step_grows s r c parts step = go step.change
  where
    grown : (names : List (List ℕ)) → names_of r.declarations ≡ names_of s.declarations ++ names → (clauses : List Clause) → r.asserted ≡ s.asserted ++ clauses → Grows s r
    grown names a clauses b = record { outside = step.outside; beyond = step.beyond; names = names; names_are = a; clauses = clauses; clauses_are = b }

    same_names : names_of r.declarations ≡ names_of s.declarations → names_of r.declarations ≡ names_of s.declarations ++ []
    same_names e = e ∙ sym (append-nil (names_of s.declarations))

    same_asserted : r.asserted ≡ s.asserted → r.asserted ≡ s.asserted ++ []
    same_asserted e = e ∙ sym (append-nil s.asserted)

    go : Change s r c parts → Grows s r
    go (nothing_new d a q) = grown [] (same_names (ap names_of d)) [] (same_asserted a)
    go (new_name k g i f room d a) = grown (k.name ∷ []) (ap names_of d ∙ map-append (λ (d : Declaration). d.name) s.declarations (k ∷ [])) [] (same_asserted a)
    go (new_sign w g f d a) = grown [] (same_names (ap names_of d ∙ signed_names w s.declarations)) [] (same_asserted a)
    go (new_clause k g i f d a) = grown [] (same_names (ap names_of d)) (k ∷ []) a

pub script_grows : (forms : Forms) (s : Script) → Grows s (script_from s forms)
unfolding script_from
script_grows nothing s = nothing_grows s
script_grows (word at w rest) s =
    let r : Script = at_stage s.stage other_command at nothing s in
    grows_on s r (script_from r rest) (step_grows s r other_command nothing (command_step s.stage other_command at nothing s)) (script_grows rest r)
script_grows (list at inner rest) s =
    let c : Command = command_of inner in
    let r : Script = at_stage s.stage c at (behind inner) s in
    grows_on s r (script_from r rest) (step_grows s r c (behind inner) (command_step s.stage c at (behind inner) s)) (script_grows rest r)

-- ---- the script from its first form on

-- where nothing stands no command is left
pub script_ended : (s : Script) → script_from s nothing ≡ s
unfolding script_from
script_ended s = refl

module _ (s : Script) (at : ℕ) (inner rest : Forms) where
  abbrev pub behind_first : Script
  behind_first = at_stage s.stage (command_of inner) at (behind inner) s

  pub first_command : script_from s (list at inner rest) ≡ script_from behind_first rest
  unfolding script_from
  first_command = refl

  pub first_does : (script_from behind_first rest).outside ≡ [] → (script_from behind_first rest).beyond ≡ [] → Does s behind_first (behind inner) (command_of inner)
  first_does e f = let g = script_grows rest behind_first in command_does s.stage (command_of inner) at (behind inner) s (g.outside e) (g.beyond f)

-- a word is a fault
pub no_word : (s : Script) (at : ℕ) (w : Bare) (rest : Forms) → (script_from s (word at w rest)).outside ≡ [] → (script_from s (word at w rest)).beyond ≡ [] → ⊥
unfolding script_from
no_word s at w rest e f =
    let r : Script = at_stage s.stage other_command at nothing s in
    let g = script_grows rest r in
    does_no_other (command_does s.stage other_command at nothing s (g.outside e) (g.beyond f))
