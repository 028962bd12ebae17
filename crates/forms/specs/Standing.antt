-- What stands behind the blanks from a place on: the end, a parenthesis or a word.
use Rattle.std.specs.Prelude.{ℕ, suc, ◌≤◌, ◌<◌, refl, ◌&&◌}
use native.Mathlib.Omega.{arith}
use Rattle.std.proofs.Math.Path.{◌≡◌, sym, ap}
use Rattle.std.proofs.Common.{◌∙◌, drop_of_length-le}
use Rattle.std.proofs.Math.Bool.{and-eq-true_iff}
use Rattle.std.proofs.Math.Option.{none}
use mathlib.Core.List.{List, [], ◌∷◌}
use Rattle.std.proofs.Math.Dec.{eqb}
use Rattle.std.proofs.Math.ListN.{length, get_or}
use borrow.Author.Tests.{ltb-true, eqb-true}
use Rattle.smtlib.specs.Lexicon.{AtHand, apart, stuck, starts, opens, closes, most_nesting, possible, state_after, depth_after, complete, broken_from, Lexed, taken, lexed, move_of}
use Rattle.smtlib.specs.Forms.{Bare, Forms, nothing, word, list, enclosed, before, bare_of, levels_of, outermost}
use Rattle.lexicon.specs.Spots.{stretch}
use Rattle.forms.specs.Places.{levels_at, outer, Unbroken}
use Rattle.forms.specs.Read.{EndHere, CloseHere, OpenHere, WordHere}
use Rattle.forms.specs.Moves.{lexed_from, levels_from, UnbrokenFrom, levels_apart, unbroken_apart, apart_unbroken, goes_on_past, lexed_step, unbroken_step}
use Rattle.forms.specs.Levels.{levels_at_count}
use Rattle.forms.specs.Blanks.{BlanksPast}
use Rattle.forms.specs.TokenEnds.{TokenEnds}
use Rattle.forms.specs.Stretches.{stretch_more}

-- ---- the levels by what stands first

enclosed_first : (at : ℕ) (l : List Forms) → 2 ≤ length l → outermost (enclosed at l) ≡ list at (outermost l) (outermost (outer l))
enclosed_first at [] h = absurd (omega arith)
enclosed_first at (inner ∷ []) h = absurd (omega arith)
enclosed_first at (inner ∷ next ∷ l) h = refl

enclosed_around : (at : ℕ) (l : List Forms) → 2 ≤ length l → outer (outer l) ≡ outer (enclosed at l)
enclosed_around at [] h = refl
enclosed_around at (inner ∷ []) h = absurd (omega arith)
enclosed_around at (inner ∷ next ∷ l) h = refl

before_first : (at : ℕ) (w : Bare) (l : List Forms) → 1 ≤ length l → outermost (before at w l) ≡ word at w (outermost l)
before_first at w [] h = absurd (omega arith)
before_first at w (forms ∷ l) h = refl

before_around : (at : ℕ) (w : Bare) (l : List Forms) → outer (before at w l) ≡ outer l
before_around at w [] = refl
before_around at w (forms ∷ l) = refl

module _ (text : List ℕ) (at p depth : ℕ) (blanks : BlanksPast text at apart p) (u : Unbroken text at depth) where
  levels_there : levels_at text at ≡ levels_from text p apart
  levels_there = levels_apart text at ∙ blanks.levels

  unbroken_there : UnbrokenFrom text p apart depth
  unbroken_there = blanks.unbroken depth (unbroken_apart text at depth u)

  pub end_here : length text ≤ p → EndHere text at depth
  unfolding lexed_from lexed levels_of UnbrokenFrom broken_from complete
  end_here h =
      let none_there : levels_from text p apart ≡ nothing ∷ [] = rw (drop_of_length-le text {i = p} h) in
      let e = goes_on_past (complete apart && eqb depth 0) none p (rw (drop_of_length-le text {i = p} h) at unbroken_there) in
      record { forms = ap outermost (levels_there ∙ none_there); none_open = eqb-true depth 0 ((and-eq-true_iff (complete apart) (eqb depth 0)).0 e.0).1 }

  module _ (h : p < length text) where
    pub close_here : move_of apart (get_or text p 0) ≡ closes → CloseHere text at depth (suc p)
    unfolding taken levels_of possible state_after depth_after
    close_here e =
        let step : levels_from text p apart ≡ nothing ∷ levels_from text (suc p) apart = ap (λ (l : Lexed). levels_of l.tokens) (lexed_step text p apart closes h e) in
        let levels = levels_there ∙ step in
        let goes = unbroken_step text p apart closes h e depth unbroken_there in
        record {
          forms = ap outermost levels;
          one_open = ltb-true 0 depth goes.0;
          closed = record { levels = levels_apart text (suc p) ∙ sym (ap outer levels); unbroken = apart_unbroken text (suc p) _ goes.1 };
        }

    pub open_here : move_of apart (get_or text p 0) ≡ opens → OpenHere text at depth p (suc p)
    unfolding taken levels_of possible state_after depth_after
    open_here e =
        let step : levels_from text p apart ≡ enclosed p (levels_from text (suc p) apart) = ap (λ (l : Lexed). levels_of l.tokens) (lexed_step text p apart opens h e) in
        let levels : levels_at text at ≡ enclosed p (levels_at text (suc p)) = levels_there ∙ step ∙ ap (enclosed p) (sym (levels_apart text (suc p))) in
        let goes = unbroken_step text p apart opens h e depth unbroken_there in
        let onward = apart_unbroken text (suc p) (suc depth) goes.1 in
        let two : 2 ≤ length (levels_at text (suc p)) = omega (arith, levels_at_count text (suc p) (suc depth) onward) in
        record {
          forms = ap outermost levels ∙ enclosed_first p (levels_at text (suc p)) two;
          levels = enclosed_around p (levels_at text (suc p)) two ∙ sym (ap outer levels);
          nested = ltb-true depth most_nesting goes.0;
          unbroken = onward;
        }

    pub word_here : (s : AtHand) (next : ℕ) → move_of apart (get_or text p 0) ≡ starts s → p < next → TokenEnds text (suc p) s next → WordHere text at depth p next
    unfolding taken levels_of state_after depth_after TokenEnds
    word_here s next e k t =
        let b = get_or text p 0 in
        let goes = unbroken_step text p apart (starts s) h e depth unbroken_there in
        let past = t depth goes.1 in
        let onward = apart_unbroken text next depth past.unbroken in
        let step : levels_from text p apart ≡ before p (bare_of (b ∷ (lexed_from text (suc p) s).more)) (levels_from text (suc p) s) = ap (λ (l : Lexed). levels_of l.tokens) (lexed_step text p apart (starts s) h e) in
        let spelt : b ∷ (lexed_from text (suc p) s).more ≡ stretch text p next = ap (λ (l : List ℕ). b ∷ l) past.more ∙ sym (stretch_more text p next k h) in
        let w = bare_of (stretch text p next) in
        let levels : levels_at text at ≡ before p w (levels_at text next) = levels_there ∙ step ∙ ap (λ (l : List ℕ). before p (bare_of l) (levels_from text (suc p) s)) spelt ∙ ap (before p w) (past.levels ∙ sym (levels_apart text next)) in
        record {
          forms = ap outermost levels ∙ before_first p w (levels_at text next) (omega (arith, levels_at_count text next depth onward));
          levels = sym (ap outer levels ∙ before_around p w (levels_at text next));
          unbroken = onward;
        }

    pub never_stuck : move_of apart (get_or text p 0) ≡ stuck → ⊥
    unfolding possible
    never_stuck e = let goes = (unbroken_step text p apart stuck h e depth unbroken_there).0 in let z : ◌≡◌ {A = ℕ} 0 1 = cc in omega arith
