-- A byte where no token is at hand: what it starts, and what it is then.
use Rattle.std.specs.Prelude.{ℕ, ◌≡◌, refl, Bool, true, false, cond}
use Prim.Native.Char.{code}
use Rattle.std.proofs.Common.{arith, eqb-true}
use Rattle.smtlib.specs.Lexicon.{AtHand, apart, comment, nought, digits, hash, colon, symbol, string, bars, Move, stuck, skips, starts, goes_on, opens, closes, white, is, is_digit, symbol_first, fresh}

pub data Afresh (b : ℕ) : Move → Type 0 where
  blank : Afresh b (skips apart)
  semicolon : Afresh b (skips comment)
  opened : Afresh b opens
  closed : Afresh b closes
  lone_nought : b ≡ code "0" → Afresh b (starts nought)
  digit : is_digit b ≡ true → Afresh b (starts digits)
  hashed : b ≡ code "#" → Afresh b (starts hash)
  keyed : b ≡ code ":" → Afresh b (starts colon)
  quoted : b ≡ code "\"" → Afresh b (starts string)
  barred : b ≡ code "|" → Afresh b (starts bars)
  lettered : is_digit b ≡ false → is "|" b ≡ false → symbol_first b ≡ true → Afresh b (starts symbol)
  none_starts : Afresh b stuck

by_test : (b : ℕ) (t : Bool) (m n : Move) → (t ≡ true → Afresh b m) → (t ≡ false → Afresh b n) → Afresh b (cond t m n)
by_test b true m n yes-here not-here = yes-here refl
by_test b false m n yes-here not-here = not-here refl

pub fresh_told : (b : ℕ) → Afresh b (fresh b)
unfolding fresh
fresh_told b =
    by_test b (white b) _ _ (λ e. blank) λ e.
    by_test b (is ";" b) _ _ (λ e. semicolon) λ e.
    by_test b (is "(" b) _ _ (λ e. opened) λ e.
    by_test b (is ")" b) _ _ (λ e. closed) λ e.
    by_test b (is "0" b) _ _ (λ e. lone_nought (eqb-true b _ e)) λ e.
    by_test b (is_digit b) _ _ digit λ no_digit.
    by_test b (is "#" b) _ _ (λ e. hashed (eqb-true b _ e)) λ e.
    by_test b (is ":" b) _ _ (λ e. keyed (eqb-true b _ e)) λ e.
    by_test b (is "\"" b) _ _ (λ e. quoted (eqb-true b _ e)) λ e.
    by_test b (is "|" b) _ _ (λ e. barred (eqb-true b _ e)) λ no_bar.
    by_test b (symbol_first b) _ _ (lettered no_digit no_bar) λ e. none_starts

-- no token goes on where none is at hand
pub fresh_no_on : (b : ℕ) (after : AtHand) → fresh b ≡ goes_on after → ⊥
fresh_no_on b after e = go (fresh b) (fresh_told b) e
  where
    go : (m : Move) → Afresh b m → m ≡ goes_on after → ⊥
    go m blank f = let z : ◌≡◌ {A = ℕ} 0 1 = cc in omega arith
    go m semicolon f = let z : ◌≡◌ {A = ℕ} 0 1 = cc in omega arith
    go m opened f = let z : ◌≡◌ {A = ℕ} 0 1 = cc in omega arith
    go m closed f = let z : ◌≡◌ {A = ℕ} 0 1 = cc in omega arith
    go m (lone_nought x) f = let z : ◌≡◌ {A = ℕ} 0 1 = cc in omega arith
    go m (digit x) f = let z : ◌≡◌ {A = ℕ} 0 1 = cc in omega arith
    go m (hashed x) f = let z : ◌≡◌ {A = ℕ} 0 1 = cc in omega arith
    go m (keyed x) f = let z : ◌≡◌ {A = ℕ} 0 1 = cc in omega arith
    go m (quoted x) f = let z : ◌≡◌ {A = ℕ} 0 1 = cc in omega arith
    go m (barred x) f = let z : ◌≡◌ {A = ℕ} 0 1 = cc in omega arith
    go m (lettered x y z) f = let z : ◌≡◌ {A = ℕ} 0 1 = cc in omega arith
    go m none_starts f = let z : ◌≡◌ {A = ℕ} 0 1 = cc in omega arith
