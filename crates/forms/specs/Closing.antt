-- Byte by byte to the end of the list at hand, with so many lists opened since.
use Prim.Native.Nat.{ℕ, suc, ◌+◌, ◌-◌, ◌≤◌, ◌<◌}
use Rattle.std.proofs.Math.Nat.{zero-add}
use native.Mathlib.Omega.{arith}
use Rattle.std.specs.Prelude.{◌≡◌, refl, Bool, true, false, cond, ◌&&◌, List, [], ◌∷◌, length, get_or}
use Rattle.std.proofs.Math.Path.{sym, ap}
use Rattle.std.proofs.Common.{◌∙◌, drop_of_length-le}
use Rattle.std.proofs.Math.Bool.{and-eq-true_iff}
use Rattle.std.proofs.Math.Option.{none}
use Rattle.std.proofs.Math.Dec.{eqb}
use Rattle.std.proofs.Math.ListN.{drop}
use Rattle.std.proofs.Math.Seq.{drop-nil}
use borrow.Author.Tests.{eqb-true, eqb-false}
use Rattle.std.specs.Prelude.{Option, Some, None}
use Rattle.std.proofs.lemmas.Option.{same_Some, none-some}
use Rattle.smtlib.specs.Lexicon.{AtHand, apart, Move, stuck, skips, starts, goes_on, opens, closes, move_of, state_after, depth_after, complete, broken_from, Lexed, taken}
use Rattle.smtlib.specs.Forms.{Bare, Forms, enclosed, before, bare_of, levels_of}
use Rattle.forms.specs.Places.{levels_at, outer, around, Unbroken}
use Rattle.forms.specs.Read.{ListEnds}
use Rattle.forms.specs.Moves.{levels_from, UnbrokenFrom, levels_apart, unbroken_apart, apart_unbroken, goes_on_past, lexed_step, unbroken_step}

pub record ListWithin (text : List ℕ) (at i : ℕ) (s : AtHand) (left depth : ℕ) : Type 0 where
  pub levels : drop (suc left) (levels_from text i s) ≡ around text at
  pub unbroken : UnbrokenFrom text i s (suc (left + depth))

unfoldable pub WalkedWithin : List ℕ → ℕ → ℕ → AtHand → ℕ → Type 0
WalkedWithin text at i s left = (depth : ℕ) → Unbroken text at (suc depth) → ListWithin text at i s left depth

drop_one : (l : List Forms) → drop 1 l ≡ outer l
drop_one [] = refl
drop_one (forms ∷ l) = refl

drop_before : (left at : ℕ) (w : Bare) (l : List Forms) → drop (suc left) (before at w l) ≡ drop (suc left) l
drop_before left at w [] = refl
drop_before left at w (forms ∷ l) = refl

drop_enclosed : (left at : ℕ) (l : List Forms) → drop (suc left) (enclosed at l) ≡ drop (suc (suc left)) l
drop_enclosed left at [] = refl
drop_enclosed left at (inner ∷ []) = drop-nil left
drop_enclosed left at (inner ∷ next ∷ l) = refl

taken_drop : (m : Move) (b at left : ℕ) (later : Lexed) → (m ≡ closes → 0 < left) → drop (suc left) (levels_of (taken m b at later).tokens) ≡ drop (suc (depth_after m left)) (levels_of later.tokens)
unfolding taken levels_of depth_after
taken_drop stuck b at left later k = refl
taken_drop (skips s) b at left later k = refl
taken_drop (starts s) b at left later k = drop_before left at (bare_of (b ∷ later.more)) (levels_of later.tokens)
taken_drop (goes_on s) b at left later k = refl
taken_drop opens b at left later k = drop_enclosed left at (levels_of later.tokens)
taken_drop closes b at left later k = let h = k refl in let n : left ≡ suc (left - 1) = omega arith in ap (λ (j : ℕ). drop j (levels_of later.tokens)) n

depth_moved : (m : Move) (left depth : ℕ) → (m ≡ closes → 0 < left) → depth_after m (suc (left + depth)) ≡ suc (depth_after m left + depth)
unfolding depth_after
depth_moved stuck left depth k = refl
depth_moved (skips s) left depth k = refl
depth_moved (starts s) left depth k = refl
depth_moved (goes_on s) left depth k = refl
depth_moved opens left depth k = omega arith
depth_moved closes left depth k = let h = k refl in omega arith

-- the lists that are open behind a byte, unless it closes the list at hand
unfoldable pub left_after : Move → ℕ → Option ℕ
left_after stuck left = Some left
left_after (skips s) left = Some left
left_after (starts s) left = Some left
left_after (goes_on s) left = Some left
left_after opens left = Some (suc left)
left_after closes left = cond (eqb left 0) None (Some (left - 1))

pub left_goes : (m : Move) (left more : ℕ) → left_after m left ≡ Some more → (m ≡ closes → 0 < left) × (depth_after m left ≡ more)
unfolding left_after depth_after
left_goes stuck left more e = ((λ f. let z : ◌≡◌ {A = ℕ} 0 1 = cc in absurd (omega arith)), same_Some left more e)
left_goes (skips s) left more e = ((λ f. let z : ◌≡◌ {A = ℕ} 0 1 = cc in absurd (omega arith)), same_Some left more e)
left_goes (starts s) left more e = ((λ f. let z : ◌≡◌ {A = ℕ} 0 1 = cc in absurd (omega arith)), same_Some left more e)
left_goes (goes_on s) left more e = ((λ f. let z : ◌≡◌ {A = ℕ} 0 1 = cc in absurd (omega arith)), same_Some left more e)
left_goes opens left more e = ((λ f. let z : ◌≡◌ {A = ℕ} 0 1 = cc in absurd (omega arith)), same_Some (suc left) more e)
left_goes closes left more e = go (eqb left 0) refl e
  where
    go : (t : Bool) → eqb left 0 ≡ t → cond t None (Some (left - 1)) ≡ Some more → (closes ≡ closes → 0 < left) × (left - 1 ≡ more)
    go true p e = absurd (none-some more e)
    go false p e = ((λ f. let n : left ≡ 0 → ⊥ = eqb-false left 0 p in omega arith), same_Some (left - 1) more e)

pub left_closed : (m : Move) (left : ℕ) → left_after m left ≡ None → (m ≡ closes) × (left ≡ 0)
unfolding left_after
left_closed stuck left e = absurd (none-some left (sym e))
left_closed (skips s) left e = absurd (none-some left (sym e))
left_closed (starts s) left e = absurd (none-some left (sym e))
left_closed (goes_on s) left e = absurd (none-some left (sym e))
left_closed opens left e = absurd (none-some (suc left) (sym e))
left_closed closes left e = go (eqb left 0) refl e
  where
    go : (t : Bool) → eqb left 0 ≡ t → cond t None (Some (left - 1)) ≡ None → (closes ≡ closes) × (left ≡ 0)
    go true p e = (refl, eqb-true left 0 p)
    go false p e = absurd (none-some (left - 1) (sym e))

module _ (text : List ℕ) (at : ℕ) where
  pub inside_starts : WalkedWithin text at at apart 0
  unfolding WalkedWithin
  inside_starts depth u =
      record {
        levels = ap (drop 1) (sym (levels_apart text at)) ∙ drop_one (levels_at text at);
        unbroken = rw zero-add (unbroken_apart text at (suc depth) u);
      }

  module _ (i : ℕ) (s : AtHand) (left : ℕ) (inside : WalkedWithin text at i s left) where
    -- at the end of the text no list is open
    pub inside_ended : (r : ℕ) → length text ≤ i → ListEnds text at r
    unfolding WalkedWithin ListEnds UnbrokenFrom broken_from
    inside_ended r h depth u =
        let open_lists = suc (left + depth) in
        let e = goes_on_past (complete s && eqb open_lists 0) none i (rw (drop_of_length-le text {i = i} h) at (inside depth u).unbroken) in
        let z = eqb-true open_lists 0 ((and-eq-true_iff (complete s) (eqb open_lists 0)).0 e.0).1 in
        absurd (omega arith)

    module _ (h : i < length text) where
      pub inside_closed : move_of s (get_or text i 0) ≡ closes → left ≡ 0 → ListEnds text at (suc i)
      unfolding WalkedWithin ListEnds taken levels_of state_after depth_after
      inside_closed e z depth u =
          let w = inside depth u in
          let step = ap (λ (l : Lexed). drop (suc left) (levels_of l.tokens)) (lexed_step text i s closes h e) in
          let goes = (unbroken_step text i s closes h e _ w.unbroken).1 in
          let n : suc (left + depth) - 1 ≡ depth = omega arith in
          record {
            levels = levels_apart text (suc i) ∙ rw z at (sym step ∙ w.levels);
            unbroken = apart_unbroken text (suc i) depth (rw n at goes);
          }

      pub inside_on : (m : Move) → move_of s (get_or text i 0) ≡ m → (m ≡ closes → 0 < left) → WalkedWithin text at (suc i) (state_after m) (depth_after m left)
      unfolding WalkedWithin
      inside_on m e k depth u =
          let w = inside depth u in
          let step = ap (λ (l : Lexed). drop (suc left) (levels_of l.tokens)) (lexed_step text i s m h e) ∙ taken_drop m _ i left _ k in
          record {
            levels = sym step ∙ w.levels;
            unbroken = rw (depth_moved m left depth k) at (unbroken_step text i s m h e _ w.unbroken).1;
          }
