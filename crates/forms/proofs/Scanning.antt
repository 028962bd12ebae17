-- The invariants of the loops over bytes, with a law for each way round.
use Prim.Native.Nat.{ℕ, ◌+◌, ◌≤◌, ◌<◌}
use native.Mathlib.Numerals.{add-one}
use native.Mathlib.Omega.{arith}
use mathlib.Core.Path.{◌≡◌, refl, sym, ◌∙◌}
use mathlib.Core.List.{List}
use lib.ListN.{length, get_or}
use Rattle.std.specs.Prelude.{Some, None}
use Rattle.smtlib.specs.Lexicon.{AtHand, apart, comment, Move, stuck, skips, starts, goes_on, opens, closes, move_of, state_after, depth_after}
use Rattle.lexicon.specs.declared.moves.State.{State}
use Rattle.lexicon.specs.declared.moves.Step.{Step}
use Rattle.lexicon.specs.declared.moves.Step.TheVariants.{Skips, Starts, GoesOn, Opens, Closes, Stuck}
use Rattle.lexicon.specs.Steps.{move_said}
use Rattle.forms.specs.SkippedBytes.{Idle, idle, skips_idle, no_skip_apart}
use Rattle.forms.specs.NextBytes.{on_no_comment}
use Rattle.forms.specs.Blanks.{BlanksPast, no_blanks, blanks_end, blanks_on}
use Rattle.forms.specs.TokenEnds.{TokenEnds, token_at_end, token_stops, token_on}
use Rattle.forms.specs.Read.{ListEnds}
use Rattle.forms.specs.Closing.{WalkedWithin, inside_starts, inside_ended, inside_closed, inside_on, left_after, left_goes, left_closed}
use Rattle.forms.specs.WordRead.{BlankEnd, TokenEnd}

-- ---- a move of no such kind

pub no_skip : (t : Step) → ((s : State) → t ≡ Skips s → ⊥) → (after : AtHand) → move_said t ≡ skips after → ⊥
no_skip (Skips s) k after e = k s refl
no_skip (Starts s) k after e = let z : ◌≡◌ {A = ℕ} 0 1 = cc in omega arith
no_skip (GoesOn s) k after e = let z : ◌≡◌ {A = ℕ} 0 1 = cc in omega arith
no_skip Opens k after e = let z : ◌≡◌ {A = ℕ} 0 1 = cc in omega arith
no_skip Closes k after e = let z : ◌≡◌ {A = ℕ} 0 1 = cc in omega arith
no_skip Stuck k after e = let z : ◌≡◌ {A = ℕ} 0 1 = cc in omega arith

pub no_onward : (t : Step) → ((s : State) → t ≡ GoesOn s → ⊥) → (after : AtHand) → move_said t ≡ goes_on after → ⊥
no_onward (GoesOn s) k after e = k s refl
no_onward (Skips s) k after e = let z : ◌≡◌ {A = ℕ} 0 1 = cc in omega arith
no_onward (Starts s) k after e = let z : ◌≡◌ {A = ℕ} 0 1 = cc in omega arith
no_onward Opens k after e = let z : ◌≡◌ {A = ℕ} 0 1 = cc in omega arith
no_onward Closes k after e = let z : ◌≡◌ {A = ℕ} 0 1 = cc in omega arith
no_onward Stuck k after e = let z : ◌≡◌ {A = ℕ} 0 1 = cc in omega arith

-- ---- blanks

pub record Skipping (text : List ℕ) (at i : ℕ) (s : AtHand) : Type 0 where
  pub not_before : at ≤ i
  pub inside : i ≤ length text
  pub no_token : Idle s
  pub onward : (r : ℕ) → BlanksPast text i s r → BlanksPast text at apart r

module _ (text : List ℕ) (at : ℕ) where
  pub skipping_starts : at ≤ length text → Skipping text at at apart
  skipping_starts h = record { not_before = omega arith; inside = h; no_token = idle; onward = λ r p. p }

  module _ (i : ℕ) (s : AtHand) (k : Skipping text at i s) where
    pub skipping_ends : length text ≤ i → BlankEnd text at (length text)
    skipping_ends h =
        record {
          not_before = omega (arith, k.not_before);
          inside = omega arith;
          past = k.onward (length text) (let z : i ≡ length text = omega (arith, k.inside) in rw z (blanks_end text (length text) s (omega arith)));
          no_blank = λ l. absurd (omega arith);
        }

    module _ (h : i < length text) where
      pub skipping_stops : ((after : AtHand) → move_of s (get_or text i 0) ≡ skips after → ⊥) → BlankEnd text at i
      skipping_stops f =
          let z = no_skip_apart (get_or text i 0) s k.no_token f in
          record {
            not_before = k.not_before;
            inside = k.inside;
            past = k.onward i (rw z (no_blanks text i));
            no_blank = λ l after g. f after (rw z g);
          }

      pub skipping_on : (after : AtHand) → move_of s (get_or text i 0) ≡ skips after → Skipping text at (i + 1) after
      skipping_on after e =
          record {
            not_before = omega (arith, k.not_before);
            inside = omega arith;
            no_token = skips_idle (get_or text i 0) s after k.no_token e;
            onward = λ r p. k.onward r (blanks_on text i s after r h e (rw add-one at p));
          }

-- ---- a token

pub record Spelling (text : List ℕ) (at : ℕ) (first : AtHand) (i : ℕ) (s : AtHand) : Type 0 where
  pub not_before : at ≤ i
  pub inside : i ≤ length text
  pub no_comment : (first ≡ comment → ⊥) → s ≡ comment → ⊥
  pub onward : (r : ℕ) → i ≤ r → TokenEnds text i s r → TokenEnds text at first r

module _ (text : List ℕ) (at : ℕ) (first : AtHand) where
  pub spelling_starts : at ≤ length text → Spelling text at first at first
  spelling_starts h = record { not_before = omega arith; inside = h; no_comment = λ f e. f e; onward = λ r l t. t }

  module _ (i : ℕ) (s : AtHand) (k : Spelling text at first i s) where
    pub spelling_ends : length text ≤ i → TokenEnd text at first (length text)
    spelling_ends h =
        let z : i ≡ length text = omega (arith, k.inside) in
        record {
          not_before = omega (arith, k.not_before);
          inside = omega arith;
          ends = λ f. k.onward (length text) (omega arith) (rw z (token_at_end text (length text) s (omega arith)));
        }

    module _ (h : i < length text) where
      pub spelling_stops : ((after : AtHand) → move_of s (get_or text i 0) ≡ goes_on after → ⊥) → TokenEnd text at first i
      spelling_stops f =
          record {
            not_before = k.not_before;
            inside = k.inside;
            ends = λ other. k.onward i (omega arith) (token_stops text i s h (k.no_comment other) f);
          }

      pub spelling_on : (after : AtHand) → move_of s (get_or text i 0) ≡ goes_on after → Spelling text at first (i + 1) after
      spelling_on after e =
          record {
            not_before = omega (arith, k.not_before);
            inside = omega arith;
            no_comment = λ other g. on_no_comment s (get_or text i 0) after e g;
            onward = λ r l t. k.onward r (omega arith) (token_on text i s after r h (omega arith) e (rw add-one at t));
          }

-- ---- a list

depth_few : (m : Move) (left : ℕ) → depth_after m left ≤ left + 1
unfolding depth_after
depth_few stuck left = omega arith
depth_few (skips s) left = omega arith
depth_few (starts s) left = omega arith
depth_few (goes_on s) left = omega arith
depth_few opens left = omega arith
depth_few closes left = omega arith

pub record Counting (text : List ℕ) (at i : ℕ) (s : AtHand) (left : ℕ) : Type 0 where
  pub not_before : at ≤ i
  pub inside : i ≤ length text
  pub few : left ≤ i
  pub within : WalkedWithin text at i s left

module _ (text : List ℕ) (at : ℕ) where
  pub counting_starts : at ≤ length text → Counting text at at apart 0
  counting_starts h = record { not_before = omega arith; inside = h; few = omega arith; within = inside_starts text at }

  module _ (i : ℕ) (s : AtHand) (left : ℕ) (k : Counting text at i s left) where
    pub counting_ends : length text ≤ i → ((at ≤ length text) × (length text ≤ length text)) × ListEnds text at (length text)
    counting_ends h = ((omega (arith, k.not_before, k.inside), omega arith), inside_ended text at i s left k.within (length text) h)

    module _ (h : i < length text) (m : Move) (e : m ≡ move_of s (get_or text i 0)) where
      pub counting_stops : left_after m left ≡ None → ((at ≤ i + 1) × (i + 1 ≤ length text)) × ListEnds text at (i + 1)
      counting_stops f =
          let c = left_closed m left f in
          ((omega (arith, k.not_before), omega arith), rw add-one (inside_closed text at i s left k.within h (sym e ∙ c.0) c.1))

      pub counting_on : (more : ℕ) → left_after m left ≡ Some more → Counting text at (i + 1) (state_after m) more
      counting_on more f =
          let g = left_goes m left more f in
          record {
            not_before = omega (arith, k.not_before);
            inside = omega arith;
            few = omega (arith, k.few, depth_few m left, g.1);
            within = rw add-one (rw g.1 at (inside_on text at i s left k.within h m (sym e) g.0));
          }
