-- A script that is changed is kept as its changed record.
use Prim.Native.Nat.{ℕ, ◌+◌, ◌*◌, ◌≤◌, ◌<◌}
use native.Mathlib.Numerals.{add-one}
use native.Mathlib.Omega.{arith}
use native.Mathlib.Decide.{dec_lt}
use mathlib.Core.Path.{◌≡◌, refl, sym, ap, ◌∙◌, subst}
use mathlib.Core.Logic.{by_cases}
use mathlib.Core.Bool.{Bool, true, false, true≢false}
use mathlib.Core.Option.{Option, some}
use mathlib.Core.List.{List, [], ◌∷◌, ◌++◌, map-append}
use lib.Dec.{ltb}
use lib.ListN.{length, get_or, set, length-append, length-set}
use lib.Seq.{get_or-set_same, get_or-set_other}
use borrow.Author.Tests.{le-leb, lt-leb}
use Rattle.scope.specs.Sizes.{most_variables}
use Rattle.smtlib.specs.Spelling.{is_in}
use Rattle.smtlib.specs.Forms.{Bare}
use Rattle.smtlib.specs.Terms.{index_from}
use Rattle.smtlib.specs.Formulas.{Clause}
use Rattle.smtlib.specs.Script.{unless, nameable, name_in, Stage, Declaration, Script, names_of, moved, kept_if, declared_if, signed_as, lowest_of}
use Rattle.smtlib.specs.Imported.{spelt_from}
use Rattle.smtlib.specs.Names.{Distinct, distinct_more}
use Rattle.smtlib.specs.Laws.{lower_of, lowest_append}
use Rattle.lexicon.specs.Spots.{Position, spot_of, stretch}
use Rattle.forms.specs.declared.Form.{Form}
use Rattle.forms.specs.Read.{SYMBOL}
use Rattle.terms.specs.Names.{name_at, names_in}
use Rattle.script.specs.declared.Phase.{Phase}
use Rattle.script.specs.declared.Kept.{Kept}
use Rattle.script.specs.Parts.{word_in, part_in, WordIs, list_here, numeral_here, symbol_here, reserved_here, other_here, PartSays}
use Rattle.script.specs.Kept.{phase_of, declaration_at, declarations_from, declarations_in, KeptWhole, Keeps}
use Rattle.script.specs.Declarations.{declared_names_lem, kept_count, kept_names, declared_alike, declared_more, declared_signed}
use Rattle.script.specs.Changes.{signing, asserting}

-- ---- the lower of two

abbrev pub Lower : Position → Position → Position → Type 0
Lower a b r = (x y : Option ℕ) → a ≡ spot_of x → b ≡ spot_of y → r ≡ spot_of (lower_of x y)

pub lower_more : (a b r : Position) (k l : List ℕ) → Lower a b r → a ≡ spot_of (lowest_of k) → b ≡ spot_of (lowest_of l) → r ≡ spot_of (lowest_of (k ++ l))
lower_more a b r k l h e f = h (lowest_of k) (lowest_of l) e f ∙ ap spot_of (sym (lowest_append k l))

-- ---- records with another phase, another number of assertions and other places of 15; with a name signed; with another place of 4, and a name

abbrev pub turned : Kept → Phase → ℕ → Position → Kept
turned k phase asserted outside = record {
  phase = phase;
  count = k.count;
  bounds = k.bounds;
  places = k.places;
  tokens = k.tokens;
  signed = k.signed;
  asserted = asserted;
  outside = outside;
  beyond = k.beyond;
}

abbrev pub signed_at : Kept → ℕ → Kept
signed_at k i = record {
  phase = k.phase;
  count = k.count;
  bounds = k.bounds;
  places = k.places;
  tokens = k.tokens;
  signed = set k.signed i true;
  asserted = k.asserted;
  outside = k.outside;
  beyond = k.beyond;
}

abbrev pub beyond_at : Kept → Position → Kept
beyond_at k beyond = record {
  phase = k.phase;
  count = k.count;
  bounds = k.bounds;
  places = k.places;
  tokens = k.tokens;
  signed = k.signed;
  asserted = k.asserted;
  outside = k.outside;
  beyond = beyond;
}

abbrev pub named_at : Kept → ℕ → Form → Position → Kept
named_at k at n beyond = record {
  phase = k.phase;
  count = k.count + 1;
  bounds = set (set k.bounds (2 * k.count) n.from) (2 * k.count + 1) n.to;
  places = set k.places k.count at;
  tokens = set k.tokens k.count n.place;
  signed = set k.signed k.count false;
  asserted = k.asserted;
  outside = k.outside;
  beyond = beyond;
}

-- ---- a name is spelt as its form is

pub nameable_spelt : (text : List ℕ) (f : Form) (w : Bare) → WordIs text f w → nameable w ≡ true → name_in w ≡ stretch text f.from f.to
nameable_spelt text f w (list_here e) n = absurd (true≢false (sym n))
nameable_spelt text f w (numeral_here e v h) n = absurd (true≢false (sym n))
nameable_spelt text f w (symbol_here e) n = refl
nameable_spelt text f w (reserved_here e) n = absurd (true≢false (sym n))
nameable_spelt text f w (other_here e) n = absurd (true≢false (sym n))

nameable_symbol : (text : List ℕ) (f : Form) (w : Bare) → WordIs text f w → nameable w ≡ true → f.kind ≡ SYMBOL
nameable_symbol text f w (list_here e) n = absurd (true≢false (sym n))
nameable_symbol text f w (numeral_here e v h) n = absurd (true≢false (sym n))
nameable_symbol text f w (symbol_here e) n = e
nameable_symbol text f w (reserved_here e) n = absurd (true≢false (sym n))
nameable_symbol text f w (other_here e) n = absurd (true≢false (sym n))

-- ---- every script that is kept

module _ {text : List ℕ} {s : Script} {k : Kept} (keeps : Keeps text s k) where
  still_whole : (phase : Phase) (asserted : ℕ) (outside beyond : Position) → KeptWhole (turned (beyond_at k beyond) phase asserted outside)
  still_whole phase asserted outside beyond = record {
    bounds_length = keeps.whole.bounds_length;
    places_length = keeps.whole.places_length;
    tokens_length = keeps.whole.tokens_length;
    signed_length = keeps.whole.signed_length;
  }

  pub moved_kept : (stage : Stage) (places : List ℕ) (phase : Phase) (fault outside : Position) → Lower k.outside fault outside
      → phase ≡ phase_of stage → fault ≡ spot_of (lowest_of places) → Keeps text (moved stage places s) (turned k phase k.asserted outside)
  moved_kept stage places phase fault outside l e g = record {
    whole = still_whole phase k.asserted outside k.beyond;
    phase_is = e;
    declarations_are = keeps.declarations_are;
    names_stand = keeps.names_stand;
    spelt_from = keeps.spelt_from;
    no_name_twice = keeps.no_name_twice;
    asserted_are = keeps.asserted_are;
    outside_is = lower_more k.outside fault outside s.outside places l keeps.outside_is g;
    beyond_is = keeps.beyond_is;
  }

  pub asserted_kept : (c : Clause) (fault outside : Position) → Lower k.outside fault outside → fault ≡ spot_of (lowest_of c.faults)
      → Keeps text (asserting c s) (turned k k.phase (k.asserted + 1) outside)
  asserted_kept c fault outside l g = record {
    whole = still_whole k.phase (k.asserted + 1) outside k.beyond;
    phase_is = keeps.phase_is;
    declarations_are = keeps.declarations_are;
    names_stand = keeps.names_stand;
    spelt_from = keeps.spelt_from;
    no_name_twice = keeps.no_name_twice;
    asserted_are = omega (arith, keeps.asserted_are, length-append s.asserted (c ∷ []));
    outside_is = lower_more k.outside fault outside s.outside c.faults l keeps.outside_is g;
    beyond_is = keeps.beyond_is;
  }

  -- ---- a name signed

  module _ (w : List ℕ) (i : ℕ) (small : i < 7) (found : index_from 0 w (names_in text k.bounds k.count) ≡ some i) where
    -- a declaration with another flag
    abbrev flagged : ℕ → Bool → Declaration
    flagged j b = record { name = name_at text k.bounds j; place = get_or k.places j 0; name_place = get_or k.tokens j 0; signed = b }

    signed_are : signed_as w s.declarations ≡ declarations_in text (signed_at k i)
    signed_are =
        ap (signed_as w) keeps.declarations_are
        ∙ declared_signed w (λ j. declaration_at text k j) (λ j. declaration_at text (signed_at k i) j) i
        (ap (flagged i) (get_or-set_same k.signed i true false (omega (arith, keeps.whole.signed_length))))
        (λ j n. ap (flagged j) (get_or-set_other k.signed i j true false n))
        0 k.count
        (subst (λ (l : List Declaration). Distinct (names_of l)) keeps.declarations_are keeps.no_name_twice)
        (subst (λ (l : List (List ℕ)). index_from 0 w l ≡ some i) (sym (declared_names_lem text k)) found)

    pub signed_kept : Keeps text (signing w s) (signed_at k i)
    signed_kept = record {
      whole = record {
        bounds_length = keeps.whole.bounds_length;
        places_length = keeps.whole.places_length;
        tokens_length = keeps.whole.tokens_length;
        signed_length = length-set k.signed i true ∙ keeps.whole.signed_length;
      };
      phase_is = keeps.phase_is;
      declarations_are = signed_are;
      names_stand = keeps.names_stand;
      spelt_from = keeps.spelt_from;
      no_name_twice = subst Distinct (kept_names keeps ∙ sym (declared_names_lem text (signed_at k i)) ∙ sym (ap names_of signed_are)) keeps.no_name_twice;
      asserted_are = keeps.asserted_are;
      outside_is = keeps.outside_is;
      beyond_is = keeps.beyond_is;
    }

  -- ---- another name

  module _ (at : ℕ) (n : Form) (says : PartSays text n) (known : nameable (word_in text n) ≡ true) (new : is_in (name_in (word_in text n)) (names_of s.declarations) ≡ false)
      (beyond : Position) (lowest : beyond ≡ spot_of (lowest_of (s.beyond ++ unless (ltb k.count most_variables) n.place))) where
    beyond_now : beyond ≡ spot_of (lowest_of (s.beyond ++ unless (ltb (length s.declarations) most_variables) n.place))
    beyond_now = rw (kept_count keeps) lowest

    -- an eighth is not kept
    pub name_left_out : 7 ≤ k.count → Keeps text (declared_if true at (part_in text n) s) (beyond_at k beyond)
    unfolding declared_if kept_if
    name_left_out full = record {
      whole = still_whole k.phase k.asserted k.outside beyond;
      phase_is = keeps.phase_is;
      declarations_are = rw (kept_count keeps, lt-leb k.count most_variables (omega arith)) keeps.declarations_are;
      names_stand = keeps.names_stand;
      spelt_from = keeps.spelt_from;
      no_name_twice = rw (kept_count keeps, lt-leb k.count most_variables (omega arith)) keeps.no_name_twice;
      asserted_are = keeps.asserted_are;
      outside_is = keeps.outside_is;
      beyond_is = beyond_now;
    }

    -- ---- up to the seventh is

    module _ (room : k.count < 7) where
      abbrev next : Kept
      next = named_at k at n beyond

      abbrev told : List ℕ → ℕ → ℕ → Bool → Declaration
      told w place token b = record { name = w; place = place; name_place = token; signed = b }

      abbrev new_one : Declaration
      new_one = told (name_in (word_in text n)) at n.place false

      bounds_whole : length next.bounds ≡ 14
      bounds_whole = length-set (set k.bounds (2 * k.count) n.from) (2 * k.count + 1) n.to ∙ length-set k.bounds (2 * k.count) n.from ∙ keeps.whole.bounds_length

      bound_other : (j : ℕ) → j < 2 * k.count → get_or next.bounds j 0 ≡ get_or k.bounds j 0
      bound_other j h =
          get_or-set_other (set k.bounds (2 * k.count) n.from) (2 * k.count + 1) j n.to 0 (λ e. let z : ⊥ = omega arith in z)
          ∙ get_or-set_other k.bounds (2 * k.count) j n.from 0 (λ e. let z : ⊥ = omega arith in z)

      from_here : get_or next.bounds (2 * k.count) 0 ≡ n.from
      from_here =
          get_or-set_other (set k.bounds (2 * k.count) n.from) (2 * k.count + 1) (2 * k.count) n.to 0 (λ e. let z : ⊥ = omega arith in z)
          ∙ get_or-set_same k.bounds (2 * k.count) n.from 0 (omega (arith, keeps.whole.bounds_length))

      to_here : get_or next.bounds (2 * k.count + 1) 0 ≡ n.to
      to_here =
          get_or-set_same (set k.bounds (2 * k.count) n.from) (2 * k.count + 1) n.to 0
          (omega (arith, length-set k.bounds (2 * k.count) n.from, keeps.whole.bounds_length))

      old_alike : (j : ℕ) → j < k.count → declaration_at text next j ≡ declaration_at text k j
      old_alike j h =
          let other : (j ≡ k.count → ⊥) = λ e. omega arith in
          let name : name_at text next.bounds j ≡ name_at text k.bounds j = λ t. stretch text (bound_other (2 * j) (omega arith) t) (bound_other (2 * j + 1) (omega arith) t) in
          λ t. told (name t) (get_or-set_other k.places k.count j at 0 other t) (get_or-set_other k.tokens k.count j n.place 0 other t) (get_or-set_other k.signed k.count j false false other t)

      new_here : declaration_at text next k.count ≡ new_one
      new_here =
          let name : name_at text next.bounds k.count ≡ name_in (word_in text n) =
          (λ t. stretch text (from_here t) (to_here t)) ∙ sym (nameable_spelt text n (word_in text n) says.word_is known) in
          λ t. told (name t)
          (get_or-set_same k.places k.count at 0 (omega (arith, keeps.whole.places_length)) t)
          (get_or-set_same k.tokens k.count n.place 0 (omega (arith, keeps.whole.tokens_length)) t)
          (get_or-set_same k.signed k.count false false (omega (arith, keeps.whole.signed_length)) t)

      names_now : s.declarations ++ (new_one ∷ []) ≡ declarations_in text next
      names_now =
          let d : ℕ → Declaration = λ i. declaration_at text next i in
          let old : s.declarations ≡ declarations_from d 0 k.count =
          keeps.declarations_are ∙ declared_alike (λ i. declaration_at text k i) d 0 k.count (λ j l m. sym (old_alike j (omega arith))) in
          let last : 0 + k.count ≡ k.count = omega arith in
          (λ t. old t ++ (sym new_here t ∷ [])) ∙ ap (λ (m : ℕ). declarations_from d 0 k.count ++ (d m ∷ [])) (sym last) ∙ sym (declared_more d 0 k.count)
          ∙ ap (declarations_from d 0) (sym (add-one k.count))

      spans_now : (i : ℕ) → i < k.count + 1 → (get_or next.bounds (2 * i) 0 ≤ get_or next.bounds (2 * i + 1) 0) × (get_or next.bounds (2 * i + 1) 0 ≤ length text)
      spans_now i h = by_cases (dec_lt i k.count)
          (λ p. let old = keeps.names_stand.spans i p in rw (bound_other (2 * i) (omega arith), bound_other (2 * i + 1) (omega arith)) old)
          (λ p. let e : i ≡ k.count = omega arith in rw (e, from_here, to_here) says.spelt_inside)

      spelt_now : (i : ℕ) → i < k.count + 1 → get_or next.bounds (2 * i) 0 ≡ spelt_from text (get_or next.tokens i 0)
      spelt_now i h = by_cases (dec_lt i k.count)
          (λ p. bound_other (2 * i) (omega arith) ∙ keeps.spelt_from i p ∙ ap (spelt_from text) (sym (get_or-set_other k.tokens k.count i n.place 0 (λ e. let z : ⊥ = omega arith in z))))
          (λ p.
          let e : i ≡ k.count = omega arith in
          let spelt : n.from ≡ spelt_from text n.place = says.spelt_from (nameable_symbol text n (word_in text n) says.word_is known) in
          ap (λ (j : ℕ). get_or next.bounds (2 * j) 0) e ∙ from_here ∙ spelt
          ∙ ap (spelt_from text) (sym (get_or-set_same k.tokens k.count n.place 0 (omega (arith, keeps.whole.tokens_length))) ∙ ap (λ (j : ℕ). get_or next.tokens j 0) (sym e)))

      twice_none : Distinct (names_of (s.declarations ++ (new_one ∷ [])))
      twice_none = rw (map-append (λ (d : Declaration). d.name) s.declarations (new_one ∷ [])) (distinct_more (names_of s.declarations) (name_in (word_in text n)) keeps.no_name_twice new)

      pub name_kept : Keeps text (declared_if true at (part_in text n) s) next
      unfolding declared_if kept_if
      name_kept = record {
        whole = record {
          bounds_length = bounds_whole;
          places_length = length-set k.places k.count at ∙ keeps.whole.places_length;
          tokens_length = length-set k.tokens k.count n.place ∙ keeps.whole.tokens_length;
          signed_length = length-set k.signed k.count false ∙ keeps.whole.signed_length;
        };
        phase_is = keeps.phase_is;
        declarations_are = rw (kept_count keeps, le-leb k.count most_variables (omega arith)) names_now;
        names_stand = record { room = omega (arith, bounds_whole); at_most_seven = omega arith; spans = spans_now };
        spelt_from = spelt_now;
        no_name_twice = rw (kept_count keeps, le-leb k.count most_variables (omega arith)) twice_none;
        asserted_are = keeps.asserted_are;
        outside_is = keeps.outside_is;
        beyond_is = beyond_now;
      }
