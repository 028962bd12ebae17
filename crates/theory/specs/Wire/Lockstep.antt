-- Work that goes on step by step until it has ended: what holds at every step on the way, and two works in lockstep.
use Rattle.std.specs.Prelude.{◌≡◌}
use Rattle.std.proofs.Math.Path.{refl, sym, ap}
use Rattle.std.proofs.Common.{◌∙◌, subst, arith}
use Prim.Native.Nat.{ℕ, zero, suc, ◌+◌}
use Rattle.scope.specs.declared.Refusal.{Refusal}
use Rattle.scope.specs.Refusals.{Progress, stopped, going, ended, onward}
use Rattle.theory.specs.Wire.Checks.{stopped_not_ended, going_not_ended, going_not_stopped, ended_not_stopped, going_one, onward_stopped, onward_ended}

module _ {A B : Type 0} (step : A → Progress A B) (b : B) where
  -- by the first step, where the work ends
  by_step : (P : Type 0) (f : ℕ) (a : A)
      → (step a ≡ ended b → P)
      → ((c : A) → step a ≡ going c → onward f step (going c) ≡ ended b → P)
      → onward (suc f) step (going a) ≡ ended b → P
  unfolding onward
  by_step P f a at_end on e = go (step a) refl e
    where
      go : (p : Progress A B) → step a ≡ p → onward f step p ≡ ended b → P
      go (stopped r) s e = absurd (stopped_not_ended r b (sym (onward_stopped f step r) ∙ e))
      go (going c) s e = on c s e
      go (ended d) s e = at_end (s ∙ sym (onward_ended f step d) ∙ e)

  -- what every step hands on, up to the end
  module _ (Kept : A → Type 0) (Final : Type 0)
      (on : (a c : A) → Kept a → step a ≡ going c → Kept c) (at_end : (a : A) → Kept a → step a ≡ ended b → Final) where
    pub kept_onward : (f : ℕ) (a : A) → Kept a → onward f step (going a) ≡ ended b → Final
    unfolding onward
    kept_onward zero a k e = absurd (going_not_ended a b e)
    kept_onward (suc f) a k e = by_step Final f a (at_end a k) (λ c s e'. kept_onward f c (on a c k s) e') e

  -- what is known of a step's start from its end
  module _ (Known : A → Type 0)
      (back : (a c : A) → step a ≡ going c → Known c → Known a) (last : (a : A) → step a ≡ ended b → Known a) where
    pub known_onward : (f : ℕ) (a : A) → onward f step (going a) ≡ ended b → Known a
    unfolding onward
    known_onward zero a e = absurd (going_not_ended a b e)
    known_onward (suc f) a e = by_step (Known a) f a (last a) (λ c s e'. back a c s (known_onward f c e')) e

    -- a second work that goes on where the first does, and ends where it does
    module _ {C D : Type 0} (other : C → Progress C D) (Beside : A → C → Type 0) (Final : D → Type 0)
        (on : (a a' : A) (c : C) → Beside a c → Known a' → step a ≡ going a' → (c' : C) × (other c ≡ going c') × Beside a' c')
        (at_end : (a : A) (c : C) → Beside a c → step a ≡ ended b → (d : D) × (other c ≡ ended d) × Final d) where
      pub lockstep : (f : ℕ) (a : A) (c : C) → Beside a c → onward f step (going a) ≡ ended b → (d : D) × (onward f other (going c) ≡ ended d) × Final d
      unfolding onward
      lockstep zero a c h e = absurd (going_not_ended a b e)
      lockstep (suc f) a c h e = by_step ((d : D) × (onward f other (other c) ≡ ended d) × Final d) f a
          (λ s. let g : (d : D) × (other c ≡ ended d) × Final d = at_end a c h s in (g.0, ap (onward f other) g.1 ∙ onward_ended f other g.0, g.2))
          (λ a' s e'.
          let g : (c' : C) × (other c ≡ going c') × Beside a' c' = on a a' c h (known_onward f a' e') s in
          let r : (d : D) × (onward f other (going g.0) ≡ ended d) × Final d = lockstep f a' g.0 g.2 e' in
          (r.0, ap (onward f other) g.1 ∙ r.1, r.2))
          e

-- ---- work that was stopped, and work that is still going

module _ {A B : Type 0} (step : A → Progress A B) (Kept : A → Type 0) (on : (a c : A) → Kept a → step a ≡ going c → Kept c) where
  -- it was stopped by one of its steps
  pub stopped_onward : (f : ℕ) (a : A) (r : Refusal) → Kept a → onward f step (going a) ≡ stopped r → (c : A) × Kept c × (step c ≡ stopped r)
  unfolding onward
  stopped_onward zero a r k e = absurd (going_not_stopped a r e)
  stopped_onward (suc f) a r k e = go (λ c s e. stopped_onward f c r (on a c k s) e) (step a) refl e
    where
      go : ((c : A) → step a ≡ going c → onward f step (going c) ≡ stopped r → (d : A) × Kept d × (step d ≡ stopped r))
          → (p : Progress A B) → step a ≡ p → onward f step p ≡ stopped r → (c : A) × Kept c × (step c ≡ stopped r)
      go later (stopped t) s e = (a, k, s ∙ sym (onward_stopped f step t) ∙ e)
      go later (going c) s e = later c s e
      go later (ended b) s e = absurd (ended_not_stopped b r (sym (onward_ended f step b) ∙ e))

  -- it has made every one of its steps
  module _ (count : A → ℕ) (one_more : (a c : A) → Kept a → step a ≡ going c → count c ≡ count a + 1) where
    pub going_onward : (f : ℕ) (a c : A) → Kept a → onward f step (going a) ≡ going c → Kept c × (count c ≡ count a + f)
    unfolding onward
    going_onward zero a c k e = let same : a ≡ c = going_one a c e in (subst Kept same k, ap count (sym same) ∙ omega arith)
    going_onward (suc f) a c k e = go (λ d s e. going_onward f d c (on a d k s) e) (step a) refl e
      where
        go : ((d : A) → step a ≡ going d → onward f step (going d) ≡ going c → Kept c × (count c ≡ count d + f))
            → (p : Progress A B) → step a ≡ p → onward f step p ≡ going c → Kept c × (count c ≡ count a + suc f)
        go later (stopped t) s e = absurd (going_not_stopped c t (sym e ∙ onward_stopped f step t))
        go later (going d) s e =
            let h : Kept c × (count c ≡ count d + f) = later d s e in
            (h.0, omega (arith, h.1, one_more a d k s))
        go later (ended b) s e = absurd (going_not_ended c b (sym e ∙ onward_ended f step b))
