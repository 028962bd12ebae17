-- A byte behind others: it goes on with the token at hand, is stuck, or does what it does where no token is at hand.
use Rattle.std.specs.Prelude.{ℕ, ◌≡◌, Bool, cond, not, ◌&&◌, ◌||◌, eqb}
use Rattle.std.proofs.Common.{arith}
use Rattle.std.proofs.Math.Bool.{true, false}
use Rattle.smtlib.specs.Spelling.{spelling}
use Rattle.smtlib.specs.Lexicon.{AtHand, apart, comment, nought, digits, point, decimals, hash, hex_start, hexes, bit_start, bits, colon, symbol, string, quote, bars, Move, stuck, skips, goes_on, white, among, is, is_digit, symbol_first, symbol_next, hex_digit, bit_digit, printable, fresh, leaves_token, on_if, move_of}
use Rattle.forms.specs.FirstBytes.{fresh_no_on}

-- by the state, the byte and the move; the token that goes on is no comment
pub data Behind : AtHand → ℕ → Move → Type 0 where
  onward : {s : AtHand} {b : ℕ} (after : AtHand) → (after ≡ comment → ⊥) → Behind s b (goes_on after)
  halted : {s : AtHand} {b : ℕ} → Behind s b stuck
  anew : {s : AtHand} {b : ℕ} → Behind s b (fresh b)
  remarked : {b : ℕ} → Behind comment b (skips comment)
  remark_ends : {b : ℕ} → Behind comment b (skips apart)

module _ (s : AtHand) (b : ℕ) where
  on_if_lem : (t : Bool) (after : AtHand) (m : Move) → (after ≡ comment → ⊥) → Behind s b m → Behind s b (on_if t after m)
  on_if_lem true after m other h = onward after other
  on_if_lem false after m other h = h

  leaves : Behind s b (leaves_token b)
  unfolding leaves_token
  leaves = go (white b || among (spelling ";()\"|") b)
    where
      go : (t : Bool) → Behind s b (cond t (fresh b) stuck)
      go true = anew
      go false = halted

remarks : (b : ℕ) (t : Bool) → Behind comment b (cond t (skips apart) (skips comment))
remarks b true = remark_ends
remarks b false = remarked

differs : {s t : AtHand} → (s ≡ t → ◌≡◌ {A = ℕ} 0 1) → s ≡ t → ⊥
differs f e = let z = f e in omega arith

pub move_told : (s : AtHand) (b : ℕ) → Behind s b (move_of s b)
unfolding move_of
move_told apart b = anew
move_told comment b = remarks b (eqb b 10 || eqb b 13)
move_told nought b = on_if_lem nought b (is "." b) point _ (differs λ e. cc) (leaves nought b)
move_told digits b = on_if_lem digits b (is_digit b) digits _ (differs λ e. cc) (on_if_lem digits b (is "." b) point _ (differs λ e. cc) (leaves digits b))
move_told point b = on_if_lem point b (is_digit b) decimals _ (differs λ e. cc) halted
move_told decimals b = on_if_lem decimals b (is_digit b) decimals _ (differs λ e. cc) (leaves decimals b)
move_told hash b = on_if_lem hash b (is "x" b) hex_start _ (differs λ e. cc) (on_if_lem hash b (is "b" b) bit_start _ (differs λ e. cc) halted)
move_told hex_start b = on_if_lem hex_start b (hex_digit b) hexes _ (differs λ e. cc) halted
move_told hexes b = on_if_lem hexes b (hex_digit b) hexes _ (differs λ e. cc) (leaves hexes b)
move_told bit_start b = on_if_lem bit_start b (bit_digit b) bits _ (differs λ e. cc) halted
move_told bits b = on_if_lem bits b (bit_digit b) bits _ (differs λ e. cc) (leaves bits b)
move_told colon b = on_if_lem colon b (symbol_first b) symbol _ (differs λ e. cc) halted
move_told symbol b = on_if_lem symbol b (symbol_next b) symbol _ (differs λ e. cc) (leaves symbol b)
move_told string b = on_if_lem string b (is "\"" b) quote _ (differs λ e. cc) (on_if_lem string b (printable b) string _ (differs λ e. cc) halted)
move_told quote b = on_if_lem quote b (is "\"" b) string _ (differs λ e. cc) anew
move_told bars b = on_if_lem bars b (is "|" b) apart _ (differs λ e. cc) (on_if_lem bars b (printable b && not (is "\\" b)) bars _ (differs λ e. cc) halted)

pub on_no_comment : (s : AtHand) (b : ℕ) (after : AtHand) → move_of s b ≡ goes_on after → after ≡ comment → ⊥
on_no_comment s b after e = go s (move_of s b) (move_told s b) e
  where
    go : (s : AtHand) (m : Move) → Behind s b m → m ≡ goes_on after → after ≡ comment → ⊥
    go s m (onward to other) f g = other (cc)
    go s m halted f g = let z : ◌≡◌ {A = ℕ} 0 1 = cc in omega arith
    go s m anew f g = fresh_no_on b after f
    go s m remarked f g = let z : ◌≡◌ {A = ℕ} 0 1 = cc in omega arith
    go s m remark_ends f g = let z : ◌≡◌ {A = ℕ} 0 1 = cc in omega arith
