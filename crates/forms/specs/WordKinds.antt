-- Which word it is by its first byte, and by the state behind that.
use Rattle.std.specs.Prelude.{ℕ, ◌-◌, ◌≡◌, ◌⊎◌, refl, Bool, true, false, cond, List, ◌∷◌, length, take}
use Rattle.std.proofs.Common.{arith, inl, inr, ⊎_elim}
use Prim.Native.Char.{code}
use Rattle.std.specs.List.{list_all}
use Rattle.smtlib.specs.Spelling.{is_in, reserved_words}
use Rattle.smtlib.specs.Lexicon.{AtHand, comment, nought, digits, bars, starts, among, is, is_digit, is_letter, symbol_first}
use Rattle.smtlib.specs.Forms.{numeral, symbol, reserved, other_word, numeral_from, bare_of}
use Rattle.forms.specs.FirstBytes.{Afresh, lone_nought, digit, hashed, keyed, quoted, barred, lettered}

module _ (b : ℕ) where
  pub starts_no_comment : (s : AtHand) → Afresh b (starts s) → s ≡ comment → ⊥
  starts_no_comment s (lone_nought x) e = let z : ◌≡◌ {A = ℕ} 0 1 = cc in omega arith
  starts_no_comment s (digit x) e = let z : ◌≡◌ {A = ℕ} 0 1 = cc in omega arith
  starts_no_comment s (hashed x) e = let z : ◌≡◌ {A = ℕ} 0 1 = cc in omega arith
  starts_no_comment s (keyed x) e = let z : ◌≡◌ {A = ℕ} 0 1 = cc in omega arith
  starts_no_comment s (quoted x) e = let z : ◌≡◌ {A = ℕ} 0 1 = cc in omega arith
  starts_no_comment s (barred x) e = let z : ◌≡◌ {A = ℕ} 0 1 = cc in omega arith
  starts_no_comment s (lettered x y z) e = let z : ◌≡◌ {A = ℕ} 0 1 = cc in omega arith

  pub digit_first : (s : AtHand) → Afresh b (starts s) → (s ≡ nought) ⊎ (s ≡ digits) → is_digit b ≡ true
  unfolding is_digit
  digit_first s (lone_nought x) h = rw x
  digit_first s (digit x) h = x
  digit_first s (hashed x) h = ⊎_elim (λ e. let z : ◌≡◌ {A = ℕ} 0 1 = cc in absurd (omega arith)) (λ e. let z : ◌≡◌ {A = ℕ} 0 1 = cc in absurd (omega arith)) h
  digit_first s (keyed x) h = ⊎_elim (λ e. let z : ◌≡◌ {A = ℕ} 0 1 = cc in absurd (omega arith)) (λ e. let z : ◌≡◌ {A = ℕ} 0 1 = cc in absurd (omega arith)) h
  digit_first s (quoted x) h = ⊎_elim (λ e. let z : ◌≡◌ {A = ℕ} 0 1 = cc in absurd (omega arith)) (λ e. let z : ◌≡◌ {A = ℕ} 0 1 = cc in absurd (omega arith)) h
  digit_first s (barred x) h = ⊎_elim (λ e. let z : ◌≡◌ {A = ℕ} 0 1 = cc in absurd (omega arith)) (λ e. let z : ◌≡◌ {A = ℕ} 0 1 = cc in absurd (omega arith)) h
  digit_first s (lettered x y z) h = ⊎_elim (λ e. let z : ◌≡◌ {A = ℕ} 0 1 = cc in absurd (omega arith)) (λ e. let z : ◌≡◌ {A = ℕ} 0 1 = cc in absurd (omega arith)) h

  pub bar_first : (s : AtHand) → Afresh b (starts s) → s ≡ bars → b ≡ code "|"
  bar_first s (lone_nought x) h = let z : ◌≡◌ {A = ℕ} 0 1 = cc in absurd (omega arith)
  bar_first s (digit x) h = let z : ◌≡◌ {A = ℕ} 0 1 = cc in absurd (omega arith)
  bar_first s (hashed x) h = let z : ◌≡◌ {A = ℕ} 0 1 = cc in absurd (omega arith)
  bar_first s (keyed x) h = let z : ◌≡◌ {A = ℕ} 0 1 = cc in absurd (omega arith)
  bar_first s (quoted x) h = let z : ◌≡◌ {A = ℕ} 0 1 = cc in absurd (omega arith)
  bar_first s (barred x) h = x
  bar_first s (lettered x y z) h = let z : ◌≡◌ {A = ℕ} 0 1 = cc in absurd (omega arith)

  -- what bare_of tests of a first byte that is no digit
  pub record Signed (symbolic : Bool) : Type 0 where
    pub no_digit : is_digit b ≡ false
    pub no_bar : is "|" b ≡ false
    pub letter : symbol_first b ≡ symbolic

  pub letter_first : (s : AtHand) → Afresh b (starts s) → s ≡ AtHand.symbol → Signed true
  letter_first s (lone_nought x) h = let z : ◌≡◌ {A = ℕ} 0 1 = cc in absurd (omega arith)
  letter_first s (digit x) h = let z : ◌≡◌ {A = ℕ} 0 1 = cc in absurd (omega arith)
  letter_first s (hashed x) h = let z : ◌≡◌ {A = ℕ} 0 1 = cc in absurd (omega arith)
  letter_first s (keyed x) h = let z : ◌≡◌ {A = ℕ} 0 1 = cc in absurd (omega arith)
  letter_first s (quoted x) h = let z : ◌≡◌ {A = ℕ} 0 1 = cc in absurd (omega arith)
  letter_first s (barred x) h = let z : ◌≡◌ {A = ℕ} 0 1 = cc in absurd (omega arith)
  letter_first s (lettered x y z) h = record { no_digit = x; no_bar = y; letter = z }

  pub other_first : (s : AtHand) → Afresh b (starts s) → ((s ≡ nought) ⊎ (s ≡ digits) → ⊥) → (s ≡ AtHand.symbol → ⊥) → (s ≡ bars → ⊥) → Signed false
  unfolding is_digit symbol_first is_letter among
  other_first s (lone_nought x) h k l = absurd (h (inl refl))
  other_first s (digit x) h k l = absurd (h (inr refl))
  other_first s (hashed x) h k l = record { no_digit = rw x; no_bar = rw x; letter = rw x }
  other_first s (keyed x) h k l = record { no_digit = rw x; no_bar = rw x; letter = rw x }
  other_first s (quoted x) h k l = record { no_digit = rw x; no_bar = rw x; letter = rw x }
  other_first s (barred x) h k l = absurd (l refl)
  other_first s (lettered x y z) h k l = absurd (k refl)

  module _ (bs : List ℕ) where
    pub digits_bare : is_digit b ≡ true → bare_of (b ∷ bs) ≡ cond (list_all is_digit (b ∷ bs)) (numeral (numeral_from 0 (b ∷ bs))) other_word
    unfolding bare_of
    digits_bare e = rw e

    pub barred_bare : b ≡ code "|" → bare_of (b ∷ bs) ≡ symbol (take (length bs - 1) bs)
    unfolding bare_of is_digit
    barred_bare e = rw e

    pub letters_bare : Signed true → bare_of (b ∷ bs) ≡ cond (is_in (b ∷ bs) reserved_words) (reserved (b ∷ bs)) (symbol (b ∷ bs))
    unfolding bare_of
    letters_bare p = rw (p.no_digit, p.no_bar, p.letter)

    pub other_bare : Signed false → bare_of (b ∷ bs) ≡ other_word
    unfolding bare_of
    other_bare p = rw (p.no_digit, p.no_bar, p.letter)
