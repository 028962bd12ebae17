-- Forms one after the other as the parts of a list, each with its word; the command of a list.
use Prim.Native.Nat.{ℕ, suc, ◌≤◌, ◌<◌}
use native.Mathlib.Omega.{arith}
use native.Mathlib.Decide.{dec_lt}
use mathlib.Core.Path.{◌≡◌, refl, sym, ap, ◌∙◌, subst}
use mathlib.Core.Logic.{by_cases}
use mathlib.Core.Bool.{Bool, true, false, not, ◌||◌, cond}
use mathlib.Core.Option.{none, some, none-ne-some}
use Rattle.std.specs.Prelude.{Option, Some, None, is_none}
use mathlib.Core.List.{List, [], ◌∷◌}
use lib.Dec.{leb, eqb}
use borrow.Author.Tests.{le-leb, eq-eqb, ne_eqb}
use Rattle.smtlib.specs.Spelling.{same, is_in}
use Rattle.smtlib.specs.Forms.{Bare, symbol, other_word, Forms, word, list, bare_of}
use Rattle.smtlib.specs.Terms.{most_numeral, index_from}
use Rattle.smtlib.specs.Script.{Part, parts_of, says_word, nameable, is_nought, other_command, command_named, command_word, command_of, Script, faulty, logic_faults, declared, signs_name}
use Rattle.smtlib.specs.Names.{index_there}
use Rattle.lexicon.specs.Spots.{stretch}
use Rattle.forms.specs.declared.Form.{Form}
use Rattle.forms.specs.Places.{forms_at, Unbroken}
use Rattle.forms.specs.Read.{OPEN, NUMERAL, SYMBOL, RESERVED, OTHER, WordSays, FormReads, rest_of, RestBehind, FormStands}
use Rattle.terms.specs.Names.{IndexOf}
use Rattle.script.specs.declared.Parts.{Parts}
use Rattle.script.specs.Parts.{word_in, part_in, WordIs, list_here, numeral_here, symbol_here, reserved_here, other_here, PartSays, nothing_more, PartsAre, no_part, one_part, two_parts, three_parts, more_parts}
use Rattle.script.specs.declared.CommandName.{CommandName}
use Rattle.script.specs.Commands.{command_name, CommandReads}

-- ---- which word a form is

module _ (text : List ℕ) (f : Form) where
  as_read : (w : Bare) → WordSays text f w → NUMERAL ≤ f.kind → f.kind ≤ OTHER → WordIs text f w
  as_read w says low high =
      by_cases (dec_lt f.kind 4) (λ p. let e : f.kind ≡ 3 = omega arith in let v = says.numeral_says e in rw v.says (numeral_here e v.value v.clips)) λ p.
      by_cases (dec_lt f.kind 5) (λ q. let e : f.kind ≡ 4 = omega arith in rw (says.symbol_says e) (symbol_here e)) λ q.
      by_cases (dec_lt f.kind 6) (λ r. let e : f.kind ≡ 5 = omega arith in rw (says.reserved_says e) (reserved_here e)) λ r.
      let e : f.kind ≡ 6 = omega arith in rw (says.other_says e) (other_here e)

  word_known : OPEN ≤ f.kind → f.kind ≤ OTHER → (NUMERAL ≤ f.kind → WordSays text f (bare_of (stretch text f.place f.next))) → WordIs text f (word_in text f)
  word_known low high says = by_cases (dec_lt f.kind 3)
      (λ p. let e : f.kind ≡ 2 = omega arith in rw (eq-eqb f.kind 2 e) (list_here e))
      (λ p. rw (ne_eqb f.kind 2 (λ e. omega arith)) (as_read _ (says (omega arith)) (omega arith) high))

-- ---- a form and those behind it

list_parts : (forms : Forms) (at : ℕ) (inner rest : Forms) → forms ≡ list at inner rest → parts_of forms ≡ record { place = at; word = other_word } ∷ parts_of (rest_of forms)
unfolding parts_of
list_parts forms at inner rest e = rw e refl

word_parts : (forms : Forms) (at : ℕ) (w : Bare) (rest : Forms) → forms ≡ word at w rest → parts_of forms ≡ record { place = at; word = w } ∷ parts_of (rest_of forms)
unfolding parts_of
word_parts forms at w rest e = rw e refl

pub record PartHere (text : List ℕ) (at depth : ℕ) (f : Form) (next : ℕ) : Type 0 where
  pub parts : parts_of (forms_at text at) ≡ part_in text f ∷ parts_of (forms_at text next)
  pub says : PartSays text f
  pub unbroken : Unbroken text next depth

module _ (text : List ℕ) (at depth : ℕ) (f : Form) (reads : FormReads text at f) (u : Unbroken text at depth) where
  pub no_parts : f.kind < OPEN → parts_of (forms_at text at) ≡ []
  unfolding parts_of
  no_parts h = ap parts_of (nothing_more text at depth f reads u h)

  pub some_part : OPEN ≤ f.kind → (p : Part) × (rest : List Part) × (parts_of (forms_at text at) ≡ p ∷ rest)
  unfolding FormReads
  some_part h = by_cases (dec_lt f.kind 3)
      (λ p. (_, _, list_parts _ _ _ _ ((reads depth u).open_list (omega arith)).forms))
      (λ p. (_, _, word_parts _ _ _ _ ((reads depth u).word_here (omega arith)).forms))

  module _ (stands : FormStands text at f) (some_form : OPEN ≤ f.kind) (next : ℕ) (behind_it : RestBehind text f next) where
    pub part_here : PartHere text at depth f next
    unfolding FormReads RestBehind
    part_here =
        let r = reads depth u in
        let rest = behind_it at depth u r some_form in
        let more : parts_of (rest_of (forms_at text at)) ≡ parts_of (forms_at text next) = ap parts_of (sym rest.forms) in
        record {
          parts = by_cases (dec_lt f.kind 3)
              (λ p. let e : f.kind ≡ 2 = omega arith in rw (eq-eqb f.kind 2 e) (list_parts _ _ _ _ (r.open_list e).forms ∙ ap (λ (l : List Part). record { place = f.place; word = other_word } ∷ l) more))
              (λ p. rw (ne_eqb f.kind 2 (λ e. omega arith)) (word_parts _ _ _ _ (r.word_here (omega arith)).forms ∙ ap (λ (l : List Part). record { place = f.place; word = bare_of (stretch text f.place f.next) } ∷ l) more));
          says = record { word_is = word_known text f some_form stands.kind_known r.word_says; spelt_inside = stands.spelt_inside; spelt_from = stands.spelt_from };
          unbroken = rest.unbroken;
        }

-- ---- what a form says

clipped_nought : (v : ℕ) (t : Bool) → leb v most_numeral ≡ t → eqb (cond t v (suc most_numeral)) 0 ≡ eqb v 0
clipped_nought v true e = refl
clipped_nought v false e = sym (ne_eqb v 0 (λ z. let k : leb v most_numeral ≡ true = le-leb v most_numeral (omega arith) in let n : ◌≡◌ {A = ℕ} 0 1 = cc in omega arith))

module _ {text : List ℕ} {f : Form} where
  pub symbol_is : {w : Bare} → WordIs text f w → f.kind ≡ SYMBOL → w ≡ symbol (stretch text f.from f.to)
  symbol_is (list_here e) k = absurd (omega arith)
  symbol_is (numeral_here e v h) k = absurd (omega arith)
  symbol_is (symbol_here e) k = refl
  symbol_is (reserved_here e) k = absurd (omega arith)
  symbol_is (other_here e) k = absurd (omega arith)

  pub no_symbol : {w : Bare} → WordIs text f w → (f.kind ≡ SYMBOL → ⊥) → (v : List ℕ) → says_word w v ≡ false
  no_symbol (list_here e) k v = refl
  no_symbol (numeral_here e u h) k v = refl
  no_symbol (symbol_here e) k v = absurd (k e)
  no_symbol (reserved_here e) k v = refl
  no_symbol (other_here e) k v = refl

  pub no_name : {w : Bare} → WordIs text f w → (f.kind ≡ SYMBOL → ⊥) → nameable w ≡ false
  no_name (list_here e) k = refl
  no_name (numeral_here e u h) k = refl
  no_name (symbol_here e) k = absurd (k e)
  no_name (reserved_here e) k = refl
  no_name (other_here e) k = refl

  pub not_nought_lem : {w : Bare} → WordIs text f w → (f.kind ≡ NUMERAL → ⊥) → is_nought w ≡ false
  not_nought_lem (list_here e) k = refl
  not_nought_lem (numeral_here e u h) k = absurd (k e)
  not_nought_lem (symbol_here e) k = refl
  not_nought_lem (reserved_here e) k = refl
  not_nought_lem (other_here e) k = refl

  pub nought_by_value : {w : Bare} → WordIs text f w → f.kind ≡ NUMERAL → eqb f.value 0 ≡ is_nought w
  nought_by_value (list_here e) k = absurd (omega arith)
  nought_by_value (numeral_here e v h) k = ap (λ (n : ℕ). eqb n 0) h ∙ clipped_nought v (leb v most_numeral) refl
  nought_by_value (symbol_here e) k = absurd (omega arith)
  nought_by_value (reserved_here e) k = absurd (omega arith)
  nought_by_value (other_here e) k = absurd (omega arith)

-- ---- so many parts

pub record ThreeParts (text : List ℕ) (f g h : Form) (ps : List Part) : Type 0 where
  pub parts : ps ≡ part_in text f ∷ part_in text g ∷ part_in text h ∷ []
  pub first : PartSays text f
  pub second : PartSays text g
  pub third : PartSays text h

pub record TwoParts (text : List ℕ) (f g : Form) (ps : List Part) : Type 0 where
  pub parts : ps ≡ part_in text f ∷ part_in text g ∷ []
  pub first : PartSays text f
  pub second : PartSays text g

pub record OnePart (text : List ℕ) (f : Form) (ps : List Part) : Type 0 where
  pub parts : ps ≡ part_in text f ∷ []
  pub first : PartSays text f

module _ {text : List ℕ} {p : Parts} where
  pub one_there : {ps : List Part} (f : Form) → PartsAre text p ps → p ≡ Parts.One f → OnePart text f ps
  one_there f (no_part e) k = absurd (let z : ◌≡◌ {A = ℕ} 0 1 = cc in omega arith)
  one_there f (one_part f' e a) k = let x : f' ≡ f = cc in record { parts = ap (λ (y : Form). part_in text y ∷ []) x; first = subst (PartSays text) x a }
  one_there f (two_parts f' g' e a b) k = absurd (let z : ◌≡◌ {A = ℕ} 0 1 = cc in omega arith)
  one_there f (three_parts f' g' h' e a b c) k = absurd (let z : ◌≡◌ {A = ℕ} 0 1 = cc in omega arith)
  one_there f (more_parts e a b c d rest) k = absurd (let z : ◌≡◌ {A = ℕ} 0 1 = cc in omega arith)

  pub two_there : {ps : List Part} (f g : Form) → PartsAre text p ps → p ≡ Parts.Two f g → TwoParts text f g ps
  two_there f g (no_part e) k = absurd (let z : ◌≡◌ {A = ℕ} 0 1 = cc in omega arith)
  two_there f g (one_part f' e a) k = absurd (let z : ◌≡◌ {A = ℕ} 0 1 = cc in omega arith)
  two_there f g (two_parts f' g' e a b) k =
      let x : f' ≡ f = cc in
      let y : g' ≡ g = cc in
      record { parts = λ i. part_in text (x i) ∷ part_in text (y i) ∷ []; first = subst (PartSays text) x a; second = subst (PartSays text) y b }
  two_there f g (three_parts f' g' h' e a b c) k = absurd (let z : ◌≡◌ {A = ℕ} 0 1 = cc in omega arith)
  two_there f g (more_parts e a b c d rest) k = absurd (let z : ◌≡◌ {A = ℕ} 0 1 = cc in omega arith)

  pub three_there : {ps : List Part} (f g h : Form) → PartsAre text p ps → p ≡ Parts.Three f g h → ThreeParts text f g h ps
  three_there f g h (no_part e) k = absurd (let z : ◌≡◌ {A = ℕ} 0 1 = cc in omega arith)
  three_there f g h (one_part f' e a) k = absurd (let z : ◌≡◌ {A = ℕ} 0 1 = cc in omega arith)
  three_there f g h (two_parts f' g' e a b) k = absurd (let z : ◌≡◌ {A = ℕ} 0 1 = cc in omega arith)
  three_there f g h (three_parts f' g' h' e a b c) k =
      let x : f' ≡ f = cc in
      let y : g' ≡ g = cc in
      let w : h' ≡ h = cc in
      record { parts = λ i. part_in text (x i) ∷ part_in text (y i) ∷ part_in text (w i) ∷ []; first = subst (PartSays text) x a; second = subst (PartSays text) y b; third = subst (PartSays text) w c }
  three_there f g h (more_parts e a b c d rest) k = absurd (let z : ◌≡◌ {A = ℕ} 0 1 = cc in omega arith)

  -- as many as set-logic, declare-const and a sign assertion do not have

  pub logic_parts : {ps : List Part} → PartsAre text p ps → ((f : Form) → p ≡ Parts.One f → ⊥) → (at : ℕ) → logic_faults at ps ≡ at ∷ []
  unfolding logic_faults
  logic_parts (no_part e) k at = refl
  logic_parts (one_part f e a) k at = absurd (k f e)
  logic_parts (two_parts f g e a b) k at = refl
  logic_parts (three_parts f g h e a b c) k at = refl
  logic_parts (more_parts e a b c d rest) k at = refl

  pub declared_parts : {ps : List Part} → PartsAre text p ps → ((f g : Form) → p ≡ Parts.Two f g → ⊥) → (at : ℕ) (s : Script) → declared at ps s ≡ faulty (at ∷ []) s
  unfolding declared
  declared_parts (no_part e) k at s = refl
  declared_parts (one_part f e a) k at s = refl
  declared_parts (two_parts f g e a b) k at s = absurd (k f g e)
  declared_parts (three_parts f g h e a b c) k at s = refl
  declared_parts (more_parts e a b c d rest) k at s = refl

  pub sign_parts : {ps : List Part} → PartsAre text p ps → ((f g h : Form) → p ≡ Parts.Three f g h → ⊥) → (names : List (List ℕ)) → signs_name names ps ≡ none
  unfolding signs_name
  sign_parts (no_part e) k names = refl
  sign_parts (one_part f e a) k names = refl
  sign_parts (two_parts f g e a b) k names = refl
  sign_parts (three_parts f g h e a b c) k names = absurd (k f g h e)
  sign_parts (more_parts e a b c d rest) k names = refl

-- ---- a name that is declared has a number

pub index_in : (i : ℕ) (w : List ℕ) (names : List (List ℕ)) (j : ℕ) → index_from i w names ≡ some j → is_in w names ≡ true
unfolding index_from is_in
index_in i w [] j e = absurd (none-ne-some j e)
index_in i w (u ∷ names) j e = go (same w u) e (index_in (suc i) w names j)
  where
    go : (t : Bool) → cond t (some i) (index_from (suc i) w names) ≡ some j → (index_from (suc i) w names ≡ some j → is_in w names ≡ true) → t || is_in w names ≡ true
    go true e later = refl
    go false e later = later e

pub not_in : (w : List ℕ) (names : List (List ℕ)) → index_from 0 w names ≡ none → is_in w names ≡ false
not_in w names e = go (is_in w names) refl
  where
    go : (t : Bool) → is_in w names ≡ t → t ≡ false
    go true f = let (j, g) = index_there 0 w names f in absurd (none-ne-some j (sym e ∙ g))
    go false f = refl

pub index_tells : (w : List ℕ) (names : List (List ℕ)) (count : ℕ) (r : Option ℕ) → IndexOf (index_from 0 w names) count r → is_none r ≡ not (is_in w names)
index_tells w names count (Some r) index = rw (index_in 0 w names r index.1) refl
index_tells w names count None index = rw (not_in w names index) refl

-- ---- the command

module _ (text : List ℕ) (at : ℕ) (f : Form) (reads : FormReads text at f) (stands : FormStands text at f) where
  -- a word that is not reserved
  other_word_lem : {w : Bare} → WordIs text f w → (f.kind ≡ RESERVED → ⊥) → command_word w ≡ other_command
  other_word_lem (list_here e) k = refl
  other_word_lem (numeral_here e u h) k = refl
  other_word_lem (symbol_here e) k = refl
  other_word_lem (reserved_here e) k = absurd (k e)
  other_word_lem (other_here e) k = refl

  no_command : (depth : ℕ) → Unbroken text at depth → (f.kind ≡ RESERVED → ⊥) → command_of (forms_at text at) ≡ other_command
  unfolding FormReads
  no_command depth u k =
      by_cases (dec_lt f.kind 2) (λ p. rw (nothing_more text at depth f reads u p) refl) λ p.
      by_cases (dec_lt f.kind 3) (λ q. let e : f.kind ≡ 2 = omega arith in rw ((reads depth u).open_list e).forms refl) λ q.
      let h : 3 ≤ f.kind = omega arith in
      rw ((reads depth u).word_here h).forms (other_word_lem (as_read text f _ ((reads depth u).word_says h) h stands.kind_known) k)

  pub other_read : (f.kind ≡ RESERVED → ⊥) → CommandReads text at record { name = CommandName.Other; next = f.next }
  unfolding CommandReads
  other_read k depth u = record { name_is = sym (ap command_name (no_command depth u k)); parts_behind = λ h. absurd (h refl) }

  pub reserved_read : (name : CommandName) → f.kind ≡ RESERVED → name ≡ command_name (command_named (stretch text f.from f.to)) → CommandReads text at record { name = name; next = f.next }
  unfolding CommandReads FormReads
  reserved_read name k e depth u =
      let r = reads depth u in
      let h : 3 ≤ f.kind = omega arith in
      let w = r.word_here h in
      record {
        name_is = rw (w.forms, (r.word_says h).reserved_says k) e;
        parts_behind = λ l. record { place = f.place; head = _; forms = w.forms; levels = w.levels; unbroken = w.unbroken };
      }
