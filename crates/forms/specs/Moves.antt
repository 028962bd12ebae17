-- What is read from a place on, whatever is at hand there, and what one byte does to it.
use Rattle.std.specs.Prelude.{ℕ, suc, ◌<◌, ◌≡◌, Bool, true, false, cond, List, length, get_or, drop}
use Rattle.std.proofs.Common.{arith, drop-cons}
use Rattle.std.proofs.Math.Path.{refl}
use Rattle.std.proofs.Math.Option.{Option, none, some}
use Rattle.smtlib.specs.Lexicon.{AtHand, apart, Move, move_of, state_after, possible, depth_after, broken_from, Lexed, taken, lexed}
use Rattle.smtlib.specs.Forms.{Forms, levels_of}
use Rattle.forms.specs.Places.{levels_at, Unbroken}

unfoldable pub lexed_from : List ℕ → ℕ → AtHand → Lexed
lexed_from text at s = lexed (drop at text) s at

abbrev pub levels_from : List ℕ → ℕ → AtHand → List Forms
levels_from text at s = levels_of (lexed_from text at s).tokens

unfoldable pub UnbrokenFrom : List ℕ → ℕ → AtHand → ℕ → Type 0
UnbrokenFrom text at s depth = broken_from (drop at text) s depth at ≡ none

-- ---- where no token is at hand

module _ (text : List ℕ) (at : ℕ) where
  pub levels_apart : levels_at text at ≡ levels_from text at apart
  unfolding levels_at lexed_from
  levels_apart = refl

  pub unbroken_apart : (depth : ℕ) → Unbroken text at depth → UnbrokenFrom text at apart depth
  unfolding Unbroken UnbrokenFrom
  unbroken_apart depth u = u

  pub apart_unbroken : (depth : ℕ) → UnbrokenFrom text at apart depth → Unbroken text at depth
  unfolding Unbroken UnbrokenFrom
  apart_unbroken depth u = u

-- ---- a byte

pub goes_on_past : (t : Bool) (later : Option ℕ) (at : ℕ) → cond t later (some at) ≡ none → (t ≡ true) × (later ≡ none)
goes_on_past true later at e = (refl, e)
goes_on_past false later at e = let z : ◌≡◌ {A = ℕ} 0 1 = cc in absurd (omega arith)

module _ (text : List ℕ) (at : ℕ) (s : AtHand) (m : Move) (inside : at < length text) (e : move_of s (get_or text at 0) ≡ m) where
  pub lexed_step : lexed_from text at s ≡ taken m (get_or text at 0) at (lexed_from text (suc at) (state_after m))
  unfolding lexed_from lexed
  lexed_step = rw (drop-cons text at 0 inside, e)

  pub unbroken_step : (depth : ℕ) → UnbrokenFrom text at s depth → (possible m depth ≡ true) × UnbrokenFrom text (suc at) (state_after m) (depth_after m depth)
  unfolding UnbrokenFrom broken_from
  unbroken_step depth u = goes_on_past (possible m depth) _ at (rw (drop-cons text at 0 inside, e) at u)
