-- A byte that is skipped where no token is at hand: none is at hand behind it.
use Rattle.std.specs.Prelude.{ℕ, ◌≡◌, Bool, cond, ◌||◌}
use native.Mathlib.Omega.{arith}
use Rattle.std.proofs.Math.Path.{refl}
use Rattle.std.proofs.Math.Bool.{true, false}
use Rattle.std.proofs.Math.Dec.{eqb}
use Rattle.smtlib.specs.Lexicon.{AtHand, apart, comment, Move, skips, fresh, move_of}
use Rattle.forms.specs.FirstBytes.{Afresh, blank, semicolon, opened, closed, lone_nought, digit, hashed, keyed, quoted, barred, lettered, none_starts, fresh_told}

-- no token is at hand
pub data Idle : AtHand → Type 0 where
  idle : Idle apart
  remarking : Idle comment

module _ (b : ℕ) where
  pub skips_idle : (s after : AtHand) → Idle s → move_of s b ≡ skips after → Idle after
  unfolding move_of
  skips_idle s after idle e = go (fresh b) (fresh_told b) e
    where
      go : (m : Move) → Afresh b m → m ≡ skips after → Idle after
      go m blank f = let z : apart ≡ after = cc in rw (← z) idle
      go m semicolon f = let z : comment ≡ after = cc in rw (← z) remarking
      go m opened f = let z : ◌≡◌ {A = ℕ} 0 1 = cc in absurd (omega arith)
      go m closed f = let z : ◌≡◌ {A = ℕ} 0 1 = cc in absurd (omega arith)
      go m (lone_nought x) f = let z : ◌≡◌ {A = ℕ} 0 1 = cc in absurd (omega arith)
      go m (digit x) f = let z : ◌≡◌ {A = ℕ} 0 1 = cc in absurd (omega arith)
      go m (hashed x) f = let z : ◌≡◌ {A = ℕ} 0 1 = cc in absurd (omega arith)
      go m (keyed x) f = let z : ◌≡◌ {A = ℕ} 0 1 = cc in absurd (omega arith)
      go m (quoted x) f = let z : ◌≡◌ {A = ℕ} 0 1 = cc in absurd (omega arith)
      go m (barred x) f = let z : ◌≡◌ {A = ℕ} 0 1 = cc in absurd (omega arith)
      go m (lettered x y z) f = let z : ◌≡◌ {A = ℕ} 0 1 = cc in absurd (omega arith)
      go m none_starts f = let z : ◌≡◌ {A = ℕ} 0 1 = cc in absurd (omega arith)
  skips_idle s after remarking e = go (eqb b 10 || eqb b 13) e
    where
      go : (t : Bool) → cond t (skips apart) (skips comment) ≡ skips after → Idle after
      go true f = let z : apart ≡ after = cc in rw (← z) idle
      go false f = let z : comment ≡ after = cc in rw (← z) remarking

  pub no_skip_apart : (s : AtHand) → Idle s → ((after : AtHand) → move_of s b ≡ skips after → ⊥) → s ≡ apart
  unfolding move_of
  no_skip_apart s idle k = refl
  no_skip_apart s remarking k = go (eqb b 10 || eqb b 13) k
    where
      go : (t : Bool) → ((after : AtHand) → cond t (skips apart) (skips comment) ≡ skips after → ⊥) → comment ≡ apart
      go true k = absurd (k apart refl)
      go false k = absurd (k comment refl)
