-- How many levels there are: one more than lists that are open.
use Rattle.std.specs.Prelude.{ℕ, suc, ◌≡◌, refl, true, ◌&&◌, List, [], ◌∷◌, eqb, length}
use Rattle.std.proofs.Common.{arith, ◌∙◌, ltb-true, eqb-true}
use Rattle.std.proofs.Math.Bool.{and-eq-true_iff}
use Rattle.std.proofs.Math.Option.{none}
use Rattle.smtlib.specs.Lexicon.{AtHand, Move, stuck, skips, starts, goes_on, opens, closes, move_of, state_after, complete, possible, depth_after, broken_from, Lexed, taken, lexed}
use Rattle.smtlib.specs.Forms.{Forms, Bare, enclosed, before, bare_of, levels_of}
use Rattle.forms.specs.Places.{levels_at, outer, around, Unbroken}
use Rattle.forms.specs.Moves.{goes_on_past}

before_count : (at : ℕ) (w : Bare) (l : List Forms) → length (before at w l) ≡ length l
before_count at w [] = refl
before_count at w (forms ∷ l) = refl

enclosed_count : (at depth : ℕ) (l : List Forms) → length l ≡ suc (suc depth) → length (enclosed at l) ≡ suc depth
enclosed_count at depth [] e = omega arith
enclosed_count at depth (inner ∷ []) e = omega arith
enclosed_count at depth (inner ∷ outer ∷ l) e = omega arith

taken_count : (m : Move) (b at depth : ℕ) (later : Lexed) → possible m depth ≡ true → length (levels_of later.tokens) ≡ suc (depth_after m depth) → length (levels_of (taken m b at later).tokens) ≡ suc depth
unfolding possible depth_after taken levels_of
taken_count stuck b at depth later p e = let z : ◌≡◌ {A = ℕ} 0 1 = cc in absurd (omega arith)
taken_count (skips s) b at depth later p e = e
taken_count (starts s) b at depth later p e = before_count at (bare_of (b ∷ later.more)) (levels_of later.tokens) ∙ e
taken_count (goes_on s) b at depth later p e = e
taken_count opens b at depth later p e = enclosed_count at depth (levels_of later.tokens) e
taken_count closes b at depth later p e = let h = ltb-true 0 depth p in omega arith

pub levels_count : (bs : List ℕ) (s : AtHand) (depth at : ℕ) → broken_from bs s depth at ≡ none → length (levels_of (lexed bs s at).tokens) ≡ suc depth
unfolding broken_from lexed levels_of
levels_count [] s depth at e =
    let h = goes_on_past (complete s && eqb depth 0) none at e in
    let z = eqb-true depth 0 ((and-eq-true_iff (complete s) (eqb depth 0)).0 h.0).1 in omega arith
levels_count (b ∷ bs) s depth at e =
    let m = move_of s b in
    let h = goes_on_past (possible m depth) _ at e in
    taken_count m b at depth (lexed bs (state_after m) (suc at)) h.0 (levels_count bs (state_after m) (depth_after m depth) (suc at) h.1)

outer_count : (depth : ℕ) (l : List Forms) → length l ≡ suc depth → length (outer l) ≡ depth
outer_count depth [] e = absurd (omega arith)
outer_count depth (forms ∷ l) e = omega arith

-- ---- at a place

module _ (text : List ℕ) (at depth : ℕ) (u : Unbroken text at depth) where
  pub levels_at_count : length (levels_at text at) ≡ suc depth
  unfolding levels_at Unbroken
  levels_at_count = levels_count _ _ depth at u

  -- so there is one where a list is open
  pub around_count : length (around text at) ≡ depth
  around_count = outer_count depth (levels_at text at) levels_at_count
