-- The lowest place of a list; and the fault that is told, at the lowest place of all: 15 where the place is one of a 15, else 4.
use Rattle.std.specs.Prelude.{◌≡◌, ◌↔◌, ◌⊎◌, Bool, true, false, cond, ◌||◌, List, [], ◌∷◌, ℕ, ◌≤◌, ◌<◌, leb, eqb}
use Rattle.std.proofs.Math.Path.{refl, subst}
use Rattle.std.proofs.Common.{sym, ap, ◌∙◌, ⊎_elim, true≢false, arith, leb-true, leb-false, eqb-true, eq-eqb}
use Rattle.std.proofs.Math.Logic.{inl, inr}
use Rattle.std.proofs.Math.Bool.{or-true}
use Rattle.std.proofs.Math.Option.{Option, none, some}
use Rattle.scope.specs.declared.Rule.{Rule}
use Rattle.scope.specs.declared.Refusal.{Refusal}
use Rattle.scope.specs.Refusals.{refusal}
use Rattle.theory.specs.Numbers.Joined.{Each}
use Rattle.smtlib.specs.Lexicon.{among}
use Rattle.smtlib.specs.Script.{Script, lower, lowest_of, refused_at, all_outside, all_beyond, fault_of}

-- at most each of these
abbrev pub BelowAll : ℕ → List ℕ → Type 0
BelowAll a l = Each (λ (b : ℕ). a ≤ b) l

pub record Lowest (l : List ℕ) (a : ℕ) : Type 0 where
  pub there : among l a ≡ true
  pub least : BelowAll a l

below_less : (a b : ℕ) (l : List ℕ) → a ≤ b → BelowAll b l → BelowAll a l
below_less a b [] h k = tt
below_less a b (c ∷ l) h k = (omega (arith, h, k.0), below_less a b l h k.1)

below_there : (a b : ℕ) (l : List ℕ) → BelowAll a l → among l b ≡ true → a ≤ b
unfolding among
below_there a b [] h e = absurd (true≢false (sym e))
below_there a b (c ∷ l) h e = go (eqb b c) refl e (below_there a b l h.1)
  where
    go : (t : Bool) → eqb b c ≡ t → t || among l b ≡ true → (among l b ≡ true → a ≤ b) → a ≤ b
    go true f e later = omega (arith, eqb-true b c f, h.0)
    go false f e later = later e

pub lowest_once : (l : List ℕ) (a b : ℕ) → Lowest l a → Lowest l b → a ≡ b
lowest_once l a b h k = omega (arith, below_there a b l h.least k.there, below_there b a l k.least h.there)

nowhere : (l : List ℕ) (a : ℕ) → l ≡ [] → among l a ≡ true → ⊥
unfolding among
nowhere l a e f = true≢false (sym f ∙ ap (λ (k : List ℕ). among k a) e)

-- there is none, or it is this
abbrev LowestIs : List ℕ → Option ℕ → Type 0
LowestIs l none = l ≡ []
LowestIs l (some a) = Lowest l a

lower_of_two : (a b : ℕ) (l : List ℕ) (t : Bool) → leb a b ≡ t → Lowest l b → Lowest (a ∷ l) (cond t a b)
unfolding among
lower_of_two a b l true e h = record { there = rw (eq-eqb a a refl); least = (omega arith, below_less a b l (leb-true a b e) h.least) }
lower_of_two a b l false e h = record { there = rw h.there (or-true (eqb b a)); least = (omega (arith, leb-false a b e), h.least) }

lowest_told : (l : List ℕ) → LowestIs l (lowest_of l)
unfolding lowest_of among
lowest_told [] = refl
lowest_told (a ∷ l) = more (lowest_of l) (lowest_told l)
  where
    more : (o : Option ℕ) → LowestIs l o → LowestIs (a ∷ l) (lower a o)
    more none e = record { there = rw (eq-eqb a a refl); least = (omega arith, rw e tt) }
    more (some b) h = lower_of_two a b l (leb a b) refl h

pub lowest_none : (l : List ℕ) → (lowest_of l ≡ none) ↔ (l ≡ [])
unfolding lowest_of
lowest_none l = (λ e. subst (LowestIs l) e (lowest_told l), λ e. ap lowest_of e)

pub lowest_exactly : (l : List ℕ) (a : ℕ) → (lowest_of l ≡ some a) ↔ Lowest l a
lowest_exactly l a = (λ e. subst (LowestIs l) e (lowest_told l), λ h. go (lowest_of l) (lowest_told l) h)
  where
    go : (o : Option ℕ) → LowestIs l o → Lowest l a → o ≡ some a
    go none e h = absurd (nowhere l a e h.there)
    go (some b) k h = ap some (lowest_once l b a k h)

-- ---- the fault that is told

-- at a place that is the lowest of both lists, and which of the two it is
pub record LowestFault (outside beyond : List ℕ) (r : Refusal) : Type 0 where
  pub below_outside : BelowAll r.place outside
  pub below_beyond : BelowAll r.place beyond
  pub which :
      ((r.rule ≡ Rule.OutsideSubset) × (among outside r.place ≡ true))
      ⊎ ((r.rule ≡ Rule.BeyondLimit) × (among outside r.place ≡ false) × (among beyond r.place ≡ true))

module _ (outside beyond : List ℕ) where
  not_there : (a b : ℕ) → b < a → BelowAll a outside → among outside b ≡ false
  not_there a b h k = go (among outside b) refl
    where
      go : (t : Bool) → among outside b ≡ t → t ≡ false
      go true e = absurd (omega (arith, h, below_there a b outside k e))
      go false e = refl

  abbrev FaultIs : Option Refusal → Type 0
  FaultIs none = (outside ≡ []) × (beyond ≡ [])
  FaultIs (some r) = LowestFault outside beyond r

  lower_fault : (a b : ℕ) (t : Bool) → leb a b ≡ t → Lowest outside a → Lowest beyond b
      → LowestFault outside beyond (cond t (refusal Rule.OutsideSubset a) (refusal Rule.BeyondLimit b))
  lower_fault a b true e h k = record { below_outside = h.least; below_beyond = below_less a b beyond (leb-true a b e) k.least; which = inl (refl, h.there) }
  lower_fault a b false e h k =
      let f : b < a = leb-false a b e in
      record { below_outside = below_less b a outside (omega (arith, f)) h.least; below_beyond = k.least; which = inr (refl, not_there a b f h.least, k.there) }

  fault_told : (o p : Option ℕ) → LowestIs outside o → LowestIs beyond p → FaultIs (refused_at o p)
  unfolding among
  fault_told none none h k = (h, k)
  fault_told (some a) none h k = record { below_outside = h.least; below_beyond = rw k tt; which = inl (refl, h.there) }
  fault_told none (some b) h k = record { below_outside = rw h tt; below_beyond = k.least; which = inr (refl, rw h refl, k.there) }
  fault_told (some a) (some b) h k = lower_fault a b (leb a b) refl h k

  place_least : (r t : Refusal) → LowestFault outside beyond r → LowestFault outside beyond t → r.place ≤ t.place
  place_least r t f g = ⊎_elim
      (λ h. below_there r.place t.place outside f.below_outside h.1)
      (λ h. below_there r.place t.place beyond f.below_beyond h.2)
      g.which

  pub fault_once : (r t : Refusal) → LowestFault outside beyond r → LowestFault outside beyond t → r ≡ t
  fault_once r t f g = λ i. refusal (rule i) (place i)
    where
      place : r.place ≡ t.place
      place = omega (arith, place_least r t f g, place_least t r g f)

      clash : among outside r.place ≡ true → among outside t.place ≡ false → ⊥
      clash p q = true≢false (sym p ∙ ap (among outside) place ∙ q)

      rule : r.rule ≡ t.rule
      rule = ⊎_elim
          (λ h. ⊎_elim (λ k. h.0 ∙ sym k.0) (λ k. absurd (clash h.1 k.1)) g.which)
          (λ h. ⊎_elim (λ k. absurd (true≢false (sym k.1 ∙ ap (among outside) (sym place) ∙ h.1))) (λ k. h.0 ∙ sym k.0) g.which)
          f.which

module _ (end : ℕ) (s : Script) where
  told : FaultIs (all_outside end s) (all_beyond s) (fault_of end s)
  unfolding fault_of
  told = fault_told (all_outside end s) (all_beyond s) (lowest_of (all_outside end s)) (lowest_of (all_beyond s)) (lowest_told (all_outside end s)) (lowest_told (all_beyond s))

  pub faultless_exactly : (fault_of end s ≡ none) ↔ ((all_outside end s ≡ []) × (all_beyond s ≡ []))
  unfolding fault_of lowest_of
  faultless_exactly = (λ e. subst (FaultIs (all_outside end s) (all_beyond s)) e told, λ h. λ i. refused_at (lowest_of (h.0 i)) (lowest_of (h.1 i)))

  -- the lowest fault of all is the one that is told
  pub lowest_first : (r : Refusal) → (fault_of end s ≡ some r) ↔ LowestFault (all_outside end s) (all_beyond s) r
  lowest_first r = (λ e. subst (FaultIs (all_outside end s) (all_beyond s)) e told, λ h. go (fault_of end s) told h)
    where
      go : (o : Option Refusal) → FaultIs (all_outside end s) (all_beyond s) o → LowestFault (all_outside end s) (all_beyond s) r → o ≡ some r
      go none e h = absurd (⊎_elim (λ k. nowhere (all_outside end s) r.place e.0 k.1) (λ k. nowhere (all_beyond s) r.place e.1 k.2) h.which)
      go (some t) k h = ap some (fault_once (all_outside end s) (all_beyond s) t r k h)
