-- The bounds that are kept are those of the declarations.
use Prim.Native.Nat.{ℕ, zero, suc, ◌+◌, ◌*◌, ◌-◌, ◌≤◌, ◌<◌}
use native.Mathlib.Omega.{arith}
use mathlib.Core.Path.{◌≡◌, refl, sym, ap, ◌∙◌}
use mathlib.Core.List.{List, ◌∷◌}
use lib.ListN.{length, get_or, take, drop, length-drop}
use lib.Seq.{drop-cons, length-take-le}
use Rattle.smtlib.specs.Script.{Script}
use Rattle.smtlib.specs.Imported.{spelt_from, bounds_of}
use Rattle.lexicon.specs.Spots.{stretch}
use Rattle.terms.specs.Names.{name_at}
use Rattle.script.specs.declared.Kept.{Kept}
use Rattle.script.specs.Kept.{declaration_at, declarations_from, Keeps}

-- ---- those that are kept

module _ (text : List ℕ) (s : Script) (k : Kept) (h : Keeps text s k) where
  to_place : (i : ℕ) → i < k.count → spelt_from text (get_or k.tokens i 0) + length (name_at text k.bounds i) ≡ get_or k.bounds (2 * i + 1) 0
  to_place i l =
      let span = h.names_stand.spans i l in
      let from : ℕ = get_or k.bounds (2 * i) 0 in
      let to : ℕ = get_or k.bounds (2 * i + 1) 0 in
      let long : length (stretch text from to) ≡ to - from = length-take-le (to - from) (drop from text) (omega (arith, length-drop from text, span.0, span.1)) in
      omega (arith, long, span.0, h.spelt_from i l)

  kept_from : (i n : ℕ) → i + n ≤ k.count → bounds_of text (declarations_from (λ j. declaration_at text k j) i n) ≡ take (2 * n) (drop (2 * i) k.bounds)
  unfolding bounds_of declarations_from
  kept_from i zero l = refl
  kept_from i (suc n) l =
      let room = h.names_stand.room in
      let two : 2 * suc n ≡ suc (suc (2 * n)) = omega arith in
      let odd : suc (2 * i) ≡ 2 * i + 1 = omega arith in
      let next : suc (2 * i + 1) ≡ 2 * suc i = omega arith in
      let cells : drop (2 * i) k.bounds ≡ get_or k.bounds (2 * i) 0 ∷ get_or k.bounds (2 * i + 1) 0 ∷ drop (2 * suc i) k.bounds =
      drop-cons k.bounds (2 * i) 0 (omega (arith, room, l))
      ∙ ap (λ (j : ℕ). get_or k.bounds (2 * i) 0 ∷ drop j k.bounds) odd
      ∙ ap (λ (r : List ℕ). get_or k.bounds (2 * i) 0 ∷ r) (drop-cons k.bounds (2 * i + 1) 0 (omega (arith, room, l)) ∙ ap (λ (j : ℕ). get_or k.bounds (2 * i + 1) 0 ∷ drop j k.bounds) next) in
      let first : spelt_from text (get_or k.tokens i 0) ≡ get_or k.bounds (2 * i) 0 = sym (h.spelt_from i (omega (arith, l))) in
      let second = to_place i (omega (arith, l)) in
      let later = kept_from (suc i) n (omega (arith, l)) in
      (λ j. first j ∷ second j ∷ later j) ∙ sym (λ j. take (two j) (cells j))

  pub kept_bounds : bounds_of text s.declarations ≡ take (2 * k.count) k.bounds
  kept_bounds = ap (bounds_of text) h.declarations_are ∙ kept_from 0 k.count (omega arith)
