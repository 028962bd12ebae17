-- What a word says as a term. Assumes nothing.
use Prim.Native.Nat.{ℕ, zero, suc, ◌≤◌, ◌<◌}
use native.Mathlib.Omega.{arith}
use native.Mathlib.Decide.{ℕ_discrete}
use mathlib.Core.Path.{◌≡◌, refl, ap, ◌∙◌}
use mathlib.Core.Bool.{Bool, true, false, cond}
use mathlib.Core.Option.{none, some}
use mathlib.Core.List.{List, [], ◌∷◌}
use borrow.Author.Tests.{leb-true, le-leb}
use lib.Dec.{T, leb}
use lib.ListN.{set}
use lib.IntN.{ℤ, pos}
use Rattle.smtlib.specs.Forms.{Bare, numeral, symbol}
use Rattle.smtlib.specs.Terms.{most_numeral, most_collected, no_numbers, constantly, one_of, collected_fit, outside_term, index_from, word_term}
use Rattle.smtlib.specs.Script.{lowest_of}
use Rattle.lexicon.specs.Spots.{spot_of}
use Rattle.forms.specs.declared.Form.{Form}
use Rattle.forms.specs.Read.{NUMERAL, SYMBOL, RESERVED, OTHER, clipped, WordSays}
use Rattle.terms.specs.Seven.{small_number}
use Rattle.terms.specs.Read.{TermSays}
use Rattle.terms.proofs.Sevens.{both_true, both_hold}

-- ---- what is outside

pub outside_says : (at : ℕ) → TermSays (outside_term at) record { numeric = false; numbers = no_numbers; fault = spot_of (some at) }
unfolding lowest_of collected_fit
outside_says at = record {
  is_numeral = refl;
  fault_is = refl;
  numbers_are = λ e. absurd (let z : ◌≡◌ {A = ℕ} 0 1 = cc in omega arith);
  within_limit = tt;
  numeral_small = λ e. omega arith;
}

-- ---- numerals

clipped_within : (v : ℕ) → clipped v ≤ most_numeral → (leb v most_numeral ≡ true) × (clipped v ≡ v)
clipped_within v h = go (leb v most_numeral) refl h
  where
    go : (b : Bool) → leb v most_numeral ≡ b → cond b v (suc most_numeral) ≤ most_numeral → (b ≡ true) × (cond b v (suc most_numeral) ≡ v)
    go true e k = (refl, refl)
    go false e k = absurd (omega arith)

clipped_beyond : (v : ℕ) → most_numeral < clipped v → leb v most_numeral ≡ false
clipped_beyond v h = go (leb v most_numeral) refl h
  where
    go : (b : Bool) → leb v most_numeral ≡ b → most_numeral < cond b v (suc most_numeral) → b ≡ false
    go true e k = absurd (omega (arith, leb-true v most_numeral e))
    go false e k = refl

pub numeral_within : (names : List (List ℕ)) (at value v : ℕ) → value ≡ clipped v → value ≤ most_numeral
    → TermSays (word_term names at (numeral v)) record { numeric = true; numbers = constantly (pos value); fault = spot_of none }
unfolding word_term lowest_of collected_fit
numeral_within names at value v e h =
    let c = clipped_within v (rw e at h) in
    let same : value ≡ v = e ∙ c.1 in
    record {
      is_numeral = refl;
      fault_is = rw c.0;
      numbers_are = λ f. ap (λ (k : ℕ). constantly (pos k)) same;
      within_limit = rw (le-leb value most_collected (omega arith)) tt;
      numeral_small = λ f. h;
    }

pub numeral_beyond : (names : List (List ℕ)) (at value v : ℕ) → value ≡ clipped v → most_numeral < value
    → TermSays (word_term names at (numeral v)) record { numeric = true; numbers = no_numbers; fault = spot_of (some at) }
unfolding word_term lowest_of collected_fit
numeral_beyond names at value v e h =
    let c = clipped_beyond v (rw e at h) in
    record {
      is_numeral = refl;
      fault_is = rw c;
      numbers_are = λ f. absurd (let z : ◌≡◌ {A = ℕ} 0 1 = cc (rw c at f) in omega arith);
      within_limit = tt;
      numeral_small = λ f. omega arith;
    }

-- ---- names

fit_set : (l : List ℤ) (i : ℕ) → T (collected_fit l) → T (collected_fit (set l i (pos 1)))
unfolding collected_fit
fit_set [] i t = t
fit_set (a ∷ l) zero t = (both_true (small_number a) (collected_fit l) t).1
fit_set (a ∷ l) (suc i) t =
    let p = both_true (small_number a) (collected_fit l) t in
    both_hold (small_number a) (collected_fit (set l i (pos 1))) p.0 (fit_set l i p.1)

module _ (names : List (List ℕ)) (w : List ℕ) (at : ℕ) where
  pub name_found : (i : ℕ) → index_from 0 w names ≡ some i
      → TermSays (word_term names at (symbol w)) record { numeric = false; numbers = one_of i; fault = spot_of none }
  unfolding word_term lowest_of collected_fit
  name_found i e = record {
    is_numeral = rw e;
    fault_is = rw e;
    numbers_are = λ f. rw e;
    within_limit = fit_set no_numbers (suc i) tt;
    numeral_small = λ f. absurd (let z : ◌≡◌ {A = ℕ} 0 1 = cc in omega arith);
  }

  pub name_missing : index_from 0 w names ≡ none
      → TermSays (word_term names at (symbol w)) record { numeric = false; numbers = no_numbers; fault = spot_of (some at) }
  unfolding word_term
  name_missing e = rw e (outside_says at)

-- ---- any other word

pub other_term : {text : List ℕ} {f : Form} {w : Bare} (names : List (List ℕ)) (at : ℕ) → WordSays text f w → NUMERAL < f.kind → (f.kind ≡ SYMBOL → ⊥) → f.kind ≤ OTHER
    → word_term names at w ≡ outside_term at
unfolding word_term
other_term {text} {f} {w} names at s more n most = go (ℕ_discrete f.kind RESERVED)
  where
    go : Dec (f.kind ≡ RESERVED) → word_term names at w ≡ outside_term at
    go (yes e) = rw (s.reserved_says e)
    go (no d) = let k : f.kind ≡ OTHER = omega arith in rw (s.other_says k)
