-- White space and comments: the tokens behind them are the same, and the text is broken no sooner.
use Rattle.std.specs.Prelude.{ℕ, suc, ◌≤◌, ◌<◌, ◌≡◌, refl, ◌&&◌, List, length, get_or}
use Rattle.std.proofs.Math.Path.{ap}
use Rattle.std.proofs.Common.{◌∙◌, drop_of_length-le}
use Rattle.std.proofs.Math.Bool.{and-eq-true_iff}
use Rattle.std.proofs.Math.Option.{none}
use Rattle.std.proofs.Math.Dec.{eqb}
use Rattle.smtlib.specs.Lexicon.{AtHand, apart, skips, move_of, complete, state_after, depth_after, broken_from, Lexed, taken, lexed}
use Rattle.smtlib.specs.Forms.{levels_of}
use Rattle.forms.specs.Moves.{lexed_from, levels_from, UnbrokenFrom, goes_on_past, lexed_step, unbroken_step}

pub record BlanksPast (text : List ℕ) (at : ℕ) (s : AtHand) (r : ℕ) : Type 0 where
  pub levels : levels_from text at s ≡ levels_from text r apart
  pub unbroken : (depth : ℕ) → UnbrokenFrom text at s depth → UnbrokenFrom text r apart depth

module _ (text : List ℕ) (i : ℕ) where
  pub no_blanks : BlanksPast text i apart i
  no_blanks = record { levels = refl; unbroken = λ depth u. u }

  -- the end of the text is the same, whatever is at hand
  pub blanks_end : (s : AtHand) → length text ≤ i → BlanksPast text i s i
  unfolding lexed_from UnbrokenFrom lexed broken_from complete
  blanks_end s h =
      record {
        levels = rw (drop_of_length-le text {i = i} h);
        unbroken = λ depth u.
            let e = goes_on_past (complete s && eqb depth 0) none i (rw (drop_of_length-le text {i = i} h) at u) in
            rw (drop_of_length-le text {i = i} h, ((and-eq-true_iff (complete s) (eqb depth 0)).0 e.0).1);
      }

  pub blanks_on : (s after : AtHand) (r : ℕ) → i < length text → move_of s (get_or text i 0) ≡ skips after → BlanksPast text (suc i) after r → BlanksPast text i s r
  unfolding taken state_after depth_after
  blanks_on s after r h e p =
      record {
        levels = ap (λ (l : Lexed). levels_of l.tokens) (lexed_step text i s (skips after) h e) ∙ p.levels;
        unbroken = λ depth u. p.unbroken depth (unbroken_step text i s (skips after) h e depth u).1;
      }
