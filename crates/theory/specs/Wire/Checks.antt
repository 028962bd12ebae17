-- Checks in their order: none is refused exactly where every check was passed, and the refusal is that of the first check that failed.
-- Progress: what its checks say where it still goes, has ended or was stopped, and how a further step unfolds.
use Rattle.std.specs.Prelude.{◌≡◌, ◌↔◌, ◌⊎◌, Bool, true, false, not, ◌&&◌, ◌||◌, List, [], ◌∷◌, ◌++◌, T}
use Rattle.std.proofs.Math.Path.{refl}
use Rattle.std.proofs.Common.{sym, ap, ◌∙◌, subst, inl, inr, ⊎_elim, arith}
use Rattle.std.proofs.Math.Option.{Option, none, some}
use Prim.Native.Nat.{ℕ, zero, suc}
use Rattle.std.specs.Float.Ieee.Bits.{is_true}
use Rattle.scope.specs.declared.Refusal.{Refusal}
use Rattle.scope.specs.declared.Rule.{Rule}
use Rattle.scope.specs.Refusals.{Check, refusal, unless_passed, first_refusal, Progress, stopped, going, ended, or_stopped, onward}

-- ---- tests

pub and_first : (a b : Bool) → T (a && b) → T a
and_first true b t = tt
and_first false b t = t

pub and_second : (a b : Bool) → T (a && b) → T b
and_second true b t = t
and_second false b t = absurd t

pub and_both : (a b : Bool) → T a → T b → T (a && b)
and_both true b s t = t
and_both false b s t = s

-- a test that is asked only where a holds
pub if_asked : (a b : Bool) → (T a → T b) → T (not a || b)
if_asked true b f = f tt
if_asked false b f = tt

pub was_asked : (a b : Bool) → T (not a || b) → T a → T b
was_asked true b t u = t
was_asked false b t u = absurd u

-- ---- every check was passed

abbrev pub Passed : List Check → Type 0
Passed [] = Unit {0}
Passed (c ∷ cs) = T c.passed × Passed cs

pub passed_none : (cs : List Check) → Passed cs → first_refusal cs ≡ none
unfolding first_refusal
passed_none [] p = refl
passed_none (c ∷ cs) p = rw (is_true c.passed p.0) (passed_none cs p.1)

none_cons : (t : Bool) (r : Refusal) (later : Option Refusal) → unless_passed t r later ≡ none → T t × (later ≡ none)
none_cons true r later e = (tt, e)
none_cons false r later e = let z : ◌≡◌ {A = ℕ} 0 1 = cc in absurd (omega arith)

pub none_passed : (cs : List Check) → first_refusal cs ≡ none → Passed cs
unfolding first_refusal
none_passed [] e = tt
none_passed (c ∷ cs) e =
    let h : T c.passed × (first_refusal cs ≡ none) = none_cons c.passed (refusal c.rule c.place) (first_refusal cs) e in
    (h.0, none_passed cs h.1)

pub none_iff_passed : (cs : List Check) → (first_refusal cs ≡ none) ↔ Passed cs
none_iff_passed cs = (none_passed cs, passed_none cs)

-- ---- the first that failed

pub record FirstFailing (cs : List Check) (r : Refusal) : Type 0 where
  pub before : List Check
  pub failing : Check
  pub after : List Check
  pub order : cs ≡ before ++ (failing ∷ after)
  pub earlier : Passed before
  pub failed : failing.passed ≡ false
  pub told : r ≡ refusal failing.rule failing.place

some_cons : (c : Check) (cs : List Check) (r : Refusal) (t : Bool) → c.passed ≡ t
    → (first_refusal cs ≡ some r → FirstFailing cs r)
    → unless_passed t (refusal c.rule c.place) (first_refusal cs) ≡ some r → FirstFailing (c ∷ cs) r
some_cons c cs r true t rest e =
    let f : FirstFailing cs r = rest e in
    record {
      before = c ∷ f.before;
      failing = f.failing;
      after = f.after;
      order = ap {B = List Check} (λ l. c ∷ l) f.order;
      earlier = (rw t tt, f.earlier);
      failed = f.failed;
      told = f.told;
    }
some_cons c cs r false t rest e =
    record { before = []; failing = c; after = cs; order = refl; earlier = tt; failed = t; told = cc }

some_failing : (cs : List Check) (r : Refusal) → first_refusal cs ≡ some r → FirstFailing cs r
unfolding first_refusal
some_failing [] r e = let z : ◌≡◌ {A = ℕ} 0 1 = cc in absurd (omega arith)
some_failing (c ∷ cs) r e = some_cons c cs r c.passed refl (some_failing cs r) e

-- a check fails behind others that were passed
pub failing_at : (before : List Check) (c : Check) (after : List Check) → Passed before → c.passed ≡ false
    → first_refusal (before ++ (c ∷ after)) ≡ some (refusal c.rule c.place)
unfolding first_refusal
failing_at [] c after p f = rw f
failing_at (b ∷ before) c after p f = rw (is_true b.passed p.0) (failing_at before c after p.1 f)

failing_some : (cs : List Check) (r : Refusal) → FirstFailing cs r → first_refusal cs ≡ some r
failing_some cs r f = ap first_refusal f.order ∙ failing_at f.before f.failing f.after f.earlier f.failed ∙ ap some (sym f.told)

pub some_iff_failing : (cs : List Check) (r : Refusal) → (first_refusal cs ≡ some r) ↔ FirstFailing cs r
some_iff_failing cs r = (some_failing cs r, failing_some cs r)

-- a check of the one list fails, or those are passed and one of the other fails
failing_cons : (c : Check) (cs ds : List Check) (r : Refusal) (t : Bool) → c.passed ≡ t
    → (first_refusal (cs ++ ds) ≡ some r → (first_refusal cs ≡ some r) ⊎ (Passed cs × (first_refusal ds ≡ some r)))
    → unless_passed t (refusal c.rule c.place) (first_refusal (cs ++ ds)) ≡ some r
    → (unless_passed t (refusal c.rule c.place) (first_refusal cs) ≡ some r) ⊎ ((T c.passed × Passed cs) × (first_refusal ds ≡ some r))
failing_cons c cs ds r true h rest e = ⊎_elim (λ x. inl x) (λ p. inr ((rw h tt, p.0), p.1)) (rest e)
failing_cons c cs ds r false h rest e = inl e

pub failing_append : (cs ds : List Check) (r : Refusal) → first_refusal (cs ++ ds) ≡ some r → (first_refusal cs ≡ some r) ⊎ (Passed cs × (first_refusal ds ≡ some r))
unfolding first_refusal
failing_append [] ds r e = inr (tt, e)
failing_append (c ∷ cs) ds r e = failing_cons c cs ds r c.passed refl (failing_append cs ds r) e

pub passed_append : (cs ds : List Check) → Passed cs → first_refusal (cs ++ ds) ≡ first_refusal ds
unfolding first_refusal
passed_append [] ds p = refl
passed_append (c ∷ cs) ds p = rw (is_true c.passed p.0) (passed_append cs ds p.1)

-- what holds of the number of every check holds of a refusal's
abbrev pub EveryRule : (Rule → Type 0) → List Check → Type 0
EveryRule P [] = Unit {0}
EveryRule P (c ∷ cs) = P c.rule × EveryRule P cs

numbered_at : (P : Rule → Type 0) (before : List Check) (c : Check) (after : List Check) → EveryRule P (before ++ (c ∷ after)) → P c.rule
numbered_at P [] c after n = n.0
numbered_at P (b ∷ before) c after n = numbered_at P before c after n.1

pub failing_numbered : (P : Rule → Type 0) (cs : List Check) (r : Refusal) → EveryRule P cs → FirstFailing cs r → P r.rule
failing_numbered P cs r n f = rw f.told (numbered_at P f.before f.failing f.after (subst (EveryRule P) f.order n))

-- ---- progress

module _ {A B : Type 0} where
  stop_going : (o : Option Refusal) (p : Progress A B) (a : A) → or_stopped o p ≡ going a → (o ≡ none) × (p ≡ going a)
  stop_going none p a e = (refl, e)
  stop_going (some r) p a e = let z : ◌≡◌ {A = ℕ} 0 1 = cc in absurd (omega arith)

  stop_ended : (o : Option Refusal) (p : Progress A B) (b : B) → or_stopped o p ≡ ended b → (o ≡ none) × (p ≡ ended b)
  stop_ended none p b e = (refl, e)
  stop_ended (some r) p b e = let z : ◌≡◌ {A = ℕ} 0 1 = cc in absurd (omega arith)

  stop_stopped : (o : Option Refusal) (p : Progress A B) (r : Refusal) → ((s : Refusal) → p ≡ stopped s → ⊥) → or_stopped o p ≡ stopped r → o ≡ some r
  stop_stopped none p r f e = absurd (f r e)
  stop_stopped (some s) p r f e = cc

  pub still_going : (cs : List Check) (p : Progress A B) (a : A) → or_stopped (first_refusal cs) p ≡ going a → Passed cs × (p ≡ going a)
  still_going cs p a e = let h : (first_refusal cs ≡ none) × (p ≡ going a) = stop_going (first_refusal cs) p a e in (none_passed cs h.0, h.1)

  pub still_ended : (cs : List Check) (p : Progress A B) (b : B) → or_stopped (first_refusal cs) p ≡ ended b → Passed cs × (p ≡ ended b)
  still_ended cs p b e = let h : (first_refusal cs ≡ none) × (p ≡ ended b) = stop_ended (first_refusal cs) p b e in (none_passed cs h.0, h.1)

  -- a progress that is not stopped itself is stopped by the first check that failed
  pub stopped_failing : (cs : List Check) (p : Progress A B) (r : Refusal) → ((s : Refusal) → p ≡ stopped s → ⊥)
      → or_stopped (first_refusal cs) p ≡ stopped r → FirstFailing cs r
  stopped_failing cs p r f e = some_failing cs r (stop_stopped (first_refusal cs) p r f e)

  pub passed_on : (cs : List Check) (p : Progress A B) → Passed cs → or_stopped (first_refusal cs) p ≡ p
  passed_on cs p h = rw (passed_none cs h)

  pub failing_stops : (cs : List Check) (p : Progress A B) (r : Refusal) → FirstFailing cs r → or_stopped (first_refusal cs) p ≡ stopped r
  failing_stops cs p r f = ap (λ (o : Option Refusal). or_stopped o p) (failing_some cs r f)

  pub stopped_one : (r t : Refusal) → ◌≡◌ {A = Progress A B} (stopped r) (stopped t) → r ≡ t
  stopped_one r t e = cc

  pub going_one : (a c : A) → ◌≡◌ {A = Progress A B} (going a) (going c) → a ≡ c
  going_one a c e = cc

  pub ended_one : (b d : B) → ◌≡◌ {A = Progress A B} (ended b) (ended d) → b ≡ d
  ended_one b d e = cc

  pub going_not_ended : (a : A) (b : B) → ◌≡◌ {A = Progress A B} (going a) (ended b) → ⊥
  going_not_ended a b e = let z : ◌≡◌ {A = ℕ} 0 1 = cc in omega arith

  pub stopped_not_ended : (r : Refusal) (b : B) → ◌≡◌ {A = Progress A B} (stopped r) (ended b) → ⊥
  stopped_not_ended r b e = let z : ◌≡◌ {A = ℕ} 0 1 = cc in omega arith

  pub going_not_stopped : (a : A) (r : Refusal) → ◌≡◌ {A = Progress A B} (going a) (stopped r) → ⊥
  going_not_stopped a r e = let z : ◌≡◌ {A = ℕ} 0 1 = cc in omega arith

  pub ended_not_stopped : (b : B) (r : Refusal) → ◌≡◌ {A = Progress A B} (ended b) (stopped r) → ⊥
  ended_not_stopped b r e = let z : ◌≡◌ {A = ℕ} 0 1 = cc in omega arith

  pub onward_stopped : (f : ℕ) (step : A → Progress A B) (r : Refusal) → onward f step (stopped r) ≡ stopped r
  unfolding onward
  onward_stopped zero step r = refl
  onward_stopped (suc f) step r = refl

  pub onward_ended : (f : ℕ) (step : A → Progress A B) (b : B) → onward f step (ended b) ≡ ended b
  unfolding onward
  onward_ended zero step b = refl
  onward_ended (suc f) step b = refl

  pub onward_going : (f : ℕ) (step : A → Progress A B) (a : A) → onward (suc f) step (going a) ≡ onward f step (step a)
  unfolding onward
  onward_going f step a = refl
