-- Where the token at hand ends: the bytes up to there are the rest of it, and from there on no token is at hand.
use Rattle.std.specs.Prelude.{ℕ, suc, ◌≤◌, ◌<◌, refl, true, length}
use Rattle.std.proofs.Common.{arith, ◌∙◌, drop_of_length-le, drop-cons}
use Rattle.std.proofs.Math.Path.{◌≡◌, sym, ap}
use mathlib.Core.List.{List, [], ◌∷◌}
use Rattle.std.proofs.Math.ListN.{get_or}
use Rattle.smtlib.specs.Lexicon.{AtHand, apart, comment, Move, stuck, skips, starts, goes_on, opens, closes, fresh, move_of, possible, state_after, depth_after, broken_from, Lexed, taken, lexed}
use Rattle.smtlib.specs.Forms.{levels_of}
use Rattle.lexicon.specs.Spots.{stretch}
use Rattle.forms.specs.Moves.{lexed_from, levels_from, UnbrokenFrom, lexed_step, unbroken_step}
use Rattle.forms.specs.NextBytes.{Behind, onward, halted, anew, remarked, remark_ends, move_told}
use Rattle.forms.specs.Blanks.{blanks_end}
use Rattle.forms.specs.Stretches.{stretch_none, stretch_more}

pub record TokenPast (text : List ℕ) (at : ℕ) (s : AtHand) (depth r : ℕ) : Type 0 where
  pub more : (lexed_from text at s).more ≡ stretch text at r
  pub levels : levels_from text at s ≡ levels_from text r apart
  pub unbroken : UnbrokenFrom text r apart depth

unfoldable pub TokenEnds : List ℕ → ℕ → AtHand → ℕ → Type 0
TokenEnds text at s r = (depth : ℕ) → UnbrokenFrom text at s depth → TokenPast text at s depth r

-- no byte of the token at hand, and none that is stuck
none_more : (m : Move) (b at depth : ℕ) (later : Lexed) → possible m depth ≡ true → ((after : AtHand) → m ≡ goes_on after → ⊥) → (taken m b at later).more ≡ []
unfolding possible taken
none_more stuck b at depth later p f = let z : ◌≡◌ {A = ℕ} 0 1 = cc in absurd (omega arith)
none_more (skips s) b at depth later p f = refl
none_more (starts s) b at depth later p f = refl
none_more (goes_on s) b at depth later p f = absurd (f s refl)
none_more opens b at depth later p f = refl
none_more closes b at depth later p f = refl

module _ (text : List ℕ) (i : ℕ) where
  ended_more : (s : AtHand) → length text ≤ i → (lexed_from text i s).more ≡ []
  unfolding lexed_from lexed
  ended_more s h = rw (drop_of_length-le text {i = i} h)

  pub token_at_end : (s : AtHand) → length text ≤ i → TokenEnds text i s i
  unfolding TokenEnds
  token_at_end s h depth u =
      let e = blanks_end text i s h in
      record {
        more = ended_more s h ∙ sym (stretch_none text i i (omega arith));
        levels = e.levels;
        unbroken = e.unbroken depth u;
      }

  -- the same from there on, by the same move
  same_unbroken : (s : AtHand) → i < length text → move_of s (get_or text i 0) ≡ fresh (get_or text i 0) → (depth : ℕ) → UnbrokenFrom text i s depth → UnbrokenFrom text i apart depth
  unfolding UnbrokenFrom broken_from move_of
  same_unbroken s h e depth u = rw (drop-cons text i 0 h) (rw (drop-cons text i 0 h, e) at u)

  stops_anew : (s : AtHand) → i < length text → move_of s (get_or text i 0) ≡ fresh (get_or text i 0) → ((after : AtHand) → move_of s (get_or text i 0) ≡ goes_on after → ⊥) → TokenEnds text i s i
  unfolding TokenEnds move_of
  stops_anew s h e stays depth u =
      let b = get_or text i 0 in
      let step = lexed_step text i s (fresh b) h e in
      let bare = none_more (fresh b) b i depth _ (unbroken_step text i s (fresh b) h e depth u).0 (λ after f. stays after (e ∙ f)) in
      record {
        more = ap (λ (l : Lexed). l.more) step ∙ bare ∙ sym (stretch_none text i i (omega arith));
        levels = ap (λ (l : Lexed). levels_of l.tokens) (step ∙ sym (lexed_step text i apart (fresh b) h refl));
        unbroken = same_unbroken s h e depth u;
      }

  stops_stuck : (s : AtHand) → i < length text → move_of s (get_or text i 0) ≡ stuck → TokenEnds text i s i
  unfolding TokenEnds possible
  stops_stuck s h e depth u = let p = (unbroken_step text i s stuck h e depth u).0 in let z : ◌≡◌ {A = ℕ} 0 1 = cc in absurd (omega arith)

  pub token_stops : (s : AtHand) → i < length text → (s ≡ comment → ⊥) → ((after : AtHand) → move_of s (get_or text i 0) ≡ goes_on after → ⊥) → TokenEnds text i s i
  token_stops s h other stays = go s (move_of s (get_or text i 0)) (move_told s (get_or text i 0)) refl other stays
    where
      go : (s : AtHand) (m : Move) → Behind s (get_or text i 0) m → move_of s (get_or text i 0) ≡ m → (s ≡ comment → ⊥) → ((after : AtHand) → move_of s (get_or text i 0) ≡ goes_on after → ⊥) → TokenEnds text i s i
      go s m (onward after k) e other stays = absurd (stays after e)
      go s m halted e other stays = stops_stuck s h e
      go s m anew e other stays = stops_anew s h e stays
      go s m remarked e other stays = absurd (other refl)
      go s m remark_ends e other stays = absurd (other refl)

  pub token_on : (s after : AtHand) (r : ℕ) → i < length text → i < r → move_of s (get_or text i 0) ≡ goes_on after → TokenEnds text (suc i) after r → TokenEnds text i s r
  unfolding TokenEnds taken state_after depth_after
  token_on s after r h k e t depth u =
      let p = t depth (unbroken_step text i s (goes_on after) h e depth u).1 in
      record {
        more =
            ap (λ (l : Lexed). l.more) (lexed_step text i s (goes_on after) h e) ∙
            ap (λ (l : List ℕ). get_or text i 0 ∷ l) p.more ∙
            sym (stretch_more text i r k h);
        levels = ap (λ (l : Lexed). levels_of l.tokens) (lexed_step text i s (goes_on after) h e) ∙ p.levels;
        unbroken = p.unbroken;
      }
