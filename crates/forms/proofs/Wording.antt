-- What was read of a word, by its first byte.
use Prim.Native.Nat.{ℕ, suc, ◌+◌, ◌-◌, ◌≤◌, ◌<◌}
use Prim.Native.Char.{code}
use native.Mathlib.Numerals.{add-one}
use native.Mathlib.Omega.{arith}
use mathlib.Core.Path.{◌≡◌, refl, sym, ap, ◌∙◌}
use mathlib.Core.Bool.{true, false, cond}
use mathlib.Core.List.{List}
use mathlib.Core.Logic.{◌⊎◌}
use lib.ListN.{length, get_or, take, drop, length-drop}
use lib.Seq.{take-take, length-take-le}
use Rattle.std.specs.List.{list_all}
use Rattle.smtlib.specs.Spelling.{is_in, reserved_words}
use Rattle.smtlib.specs.Lexicon.{AtHand, nought, digits, bars, is_digit}
use Rattle.smtlib.specs.Forms.{Bare, numeral, symbol, reserved, other_word, numeral_from, bare_of}
use Rattle.lexicon.specs.Spots.{stretch}
use Rattle.forms.specs.declared.Form.{Form}
use Rattle.forms.specs.Read.{NUMERAL, SYMBOL, RESERVED, OTHER, clipped, WordSays}
use Rattle.forms.specs.Stretches.{stretch_more}
use Rattle.forms.specs.Numerals.{clipped_small}
use Rattle.forms.specs.WordKinds.{Signed, digit_first, bar_first, letter_first, other_first, digits_bare, barred_bare, letters_bare, other_bare}
use Rattle.forms.specs.WordRead.{formed, NumeralStarts, SymbolStarts, WordStarts, WordRead}

-- ---- what a form of each kind says

module _ (text : List ℕ) (f : Form) (w : Bare) where
  says_numeral : (v : ℕ) → f.kind ≡ NUMERAL → w ≡ numeral v → f.value ≡ clipped v → WordSays text f w
  says_numeral v k e c =
      record {
        numeral_says = λ h. record { value = v; says = e; clips = c };
        symbol_says = λ h. absurd (omega arith);
        reserved_says = λ h. absurd (omega arith);
        other_says = λ h. absurd (omega arith);
      }

  says_symbol : f.kind ≡ SYMBOL → w ≡ symbol (stretch text f.from f.to) → WordSays text f w
  says_symbol k e =
      record {
        numeral_says = λ h. absurd (omega arith);
        symbol_says = λ h. e;
        reserved_says = λ h. absurd (omega arith);
        other_says = λ h. absurd (omega arith);
      }

  says_reserved : f.kind ≡ RESERVED → w ≡ reserved (stretch text f.from f.to) → WordSays text f w
  says_reserved k e =
      record {
        numeral_says = λ h. absurd (omega arith);
        symbol_says = λ h. absurd (omega arith);
        reserved_says = λ h. e;
        other_says = λ h. absurd (omega arith);
      }

  says_other : f.kind ≡ OTHER → w ≡ other_word → WordSays text f w
  says_other k e =
      record {
        numeral_says = λ h. absurd (omega arith);
        symbol_says = λ h. absurd (omega arith);
        reserved_says = λ h. absurd (omega arith);
        other_says = λ h. e;
      }

-- ---- a word from a place up to another

module _ (text : List ℕ) (place next : ℕ) where
  other_read : place < next → next ≤ length text → bare_of (stretch text place next) ≡ other_word → WordRead text place next (formed OTHER place place place 0 next)
  other_read h k e =
      record {
        place_is = refl;
        next_is = refl;
        is_word = omega arith;
        kind_known = omega arith;
        value_small = omega arith;
        spelt_inside = (omega arith, omega arith);
        spelt_from = λ h. absurd (omega arith);
        says = says_other _ _ _ refl e;
      }

  module _ (p : NumeralStarts text place next) where
    all_digits : bare_of (stretch text place next) ≡ cond (list_all is_digit (stretch text place next)) (numeral (numeral_from 0 (stretch text place next))) other_word
    all_digits = rw (stretch_more text place next p.some_bytes (omega arith)) (digits_bare (get_or text place 0) _ p.digit_there)

    pub no_numeral : list_all is_digit (stretch text place next) ≡ false → WordRead text place next (formed OTHER place place place 0 next)
    no_numeral e = other_read p.some_bytes p.inside (rw e at all_digits)

    pub numeral_read : (v : ℕ) → list_all is_digit (stretch text place next) ≡ true → clipped (numeral_from 0 (stretch text place next)) ≡ v → WordRead text place next (formed NUMERAL place place place v next)
    numeral_read v e c =
        record {
          place_is = refl;
          next_is = refl;
          is_word = omega arith;
          kind_known = omega arith;
          value_small = omega (arith, clipped_small (numeral_from 0 (stretch text place next)));
          spelt_inside = (omega arith, omega (arith, p.some_bytes, p.inside));
          spelt_from = λ h. absurd (omega arith);
          says = says_numeral _ _ _ (numeral_from 0 (stretch text place next)) refl (rw e at all_digits) (sym c);
        }

  module _ (p : SymbolStarts text place next) where
    by_reserved : bare_of (stretch text place next) ≡ cond (is_in (stretch text place next) reserved_words) (reserved (stretch text place next)) (symbol (stretch text place next))
    by_reserved = rw (stretch_more text place next p.some_bytes (omega arith)) (letters_bare (get_or text place 0) _ p.letter_there)

    pub reserved_read : is_in (stretch text place next) reserved_words ≡ true → WordRead text place next (formed RESERVED place place next 0 next)
    reserved_read e =
        record {
          place_is = refl;
          next_is = refl;
          is_word = omega arith;
          kind_known = omega arith;
          value_small = omega arith;
          spelt_inside = (omega (arith, p.some_bytes), p.inside);
          spelt_from = λ h. absurd (omega arith);
          says = says_reserved _ _ _ refl (rw e at by_reserved);
        }

    pub symbol_read : is_in (stretch text place next) reserved_words ≡ false → WordRead text place next (formed SYMBOL place place next 0 next)
    symbol_read e =
        record {
          place_is = refl;
          next_is = refl;
          is_word = omega arith;
          kind_known = omega arith;
          value_small = omega arith;
          spelt_inside = (omega (arith, p.some_bytes), p.inside);
          spelt_from = λ h. rw p.letter_there.no_bar refl;
          says = says_symbol _ _ _ refl (rw e at by_reserved);
        }

  module _ (h : place < next) (k : next ≤ length text) where
    pub barred_read : get_or text place 0 ≡ code "|" → (to : ℕ) → (place + 1 ≤ to) × (to ≤ next) × (to - (place + 1) ≡ next - (place + 1) - 1) → WordRead text place next (formed SYMBOL place (place + 1) to 0 next)
    barred_read e to t =
        let n : length (stretch text (suc place) next) ≡ next - suc place = length-take-le (next - suc place) (drop (suc place) text) (omega (arith, length-drop (suc place) text)) in
        let shorter : to - suc place ≤ next - suc place = omega arith in
        let m : length (stretch text (suc place) next) - 1 ≡ to - suc place = omega arith in
        let between : take (length (stretch text (suc place) next) - 1) (stretch text (suc place) next) ≡ stretch text (suc place) to = rw m (take-take (to - suc place) (next - suc place) (drop (suc place) text) shorter) in
        let bare : bare_of (stretch text place next) ≡ symbol (take (length (stretch text (suc place) next) - 1) (stretch text (suc place) next)) = rw (stretch_more text place next h (omega arith)) (barred_bare (get_or text place 0) _ e) in
        record {
          place_is = refl;
          next_is = refl;
          is_word = omega arith;
          kind_known = omega arith;
          value_small = omega arith;
          spelt_inside = (t.0, omega arith);
          spelt_from = λ h. rw (e, add-one) refl;
          says = says_symbol _ _ _ refl (rw add-one (bare ∙ ap symbol between));
        }

    pub other_word_read : Signed (get_or text place 0) false → WordRead text place next (formed OTHER place place place 0 next)
    other_word_read s = other_read h k (rw (stretch_more text place next h (omega arith)) (other_bare (get_or text place 0) _ s))

  -- ---- by the state behind its first byte

  module _ (s : AtHand) (p : WordStarts text place next s) where
    pub symbol_starts : s ≡ AtHand.symbol → SymbolStarts text place next
    symbol_starts e = record { some_bytes = p.some_bytes; inside = p.inside; letter_there = letter_first _ s p.first e }

    pub numeral_starts : (s ≡ nought) ⊎ (s ≡ digits) → NumeralStarts text place next
    numeral_starts e = record { some_bytes = p.some_bytes; inside = p.inside; digit_there = digit_first _ s p.first e }

    pub barred_word : s ≡ bars → (to : ℕ) → (place + 1 ≤ to) × (to ≤ next) × (to - (place + 1) ≡ next - (place + 1) - 1) → WordRead text place next (formed SYMBOL place (place + 1) to 0 next)
    barred_word e = barred_read p.some_bytes p.inside (bar_first _ s p.first e)

    pub other_word_lem : ((s ≡ nought) ⊎ (s ≡ digits) → ⊥) → (s ≡ AtHand.symbol → ⊥) → (s ≡ bars → ⊥) → WordRead text place next (formed OTHER place place place 0 next)
    other_word_lem no_digit no_letter no_bar = other_word_read p.some_bytes p.inside (other_first _ s p.first no_digit no_letter no_bar)
