-- What is missing, and the fault that is told.
use Prim.Native.Nat.{ℕ, ◌≤◌, ◌<◌}
use mathlib.Core.Path.{◌≡◌, refl, sym, ap, ◌∙◌}
use mathlib.Core.Bool.{true, false}
use mathlib.Core.Option.{Option, none, some}
use mathlib.Core.List.{List, [], ◌++◌}
use native.Mathlib.Omega.{arith}
use lib.Dec.{ltb}
use lib.ListN.{length}
use borrow.Author.Tests.{le-leb, lt-leb}
use Rattle.std.specs.Prelude.{Some, None, Ok, Err, Result, ⊤}
use Rattle.scope.specs.declared.Refusal.{Refusal}
use Rattle.scope.specs.declared.Rule.{Rule}
use Rattle.scope.specs.Refusals.{refusal, unless_refused}
use Rattle.smtlib.specs.Formulas.{Clause}
use Rattle.smtlib.specs.Script.{unless, Stage, start, under, checked, Declaration, unsigned, missing_forms, missing_names, all_outside, all_beyond, lowest_of, refused_at, fault_of}
use Rattle.lexicon.specs.Spots.{Position, spot_of, spot_none, spot_some}
use Rattle.script.specs.declared.Phase.{Phase}
use Rattle.script.specs.declared.Kept.{Kept}
use Rattle.script.specs.Kept.{phase_of}
use Rattle.script.specs.Declarations.{kept_count}
use Rattle.script.specs.Faults.{UnsignedPlace, MissingForm, MissingName, LowerTold, FaultTold}
use Rattle.script.proofs.Keeping.{Lower, lower_more}

-- ---- what is missing

abbrev unchecked : Phase → Type 0
unchecked p = (at : ℕ) → p ≡ Phase.Checked at → ⊥

no_check_sat : (stage : Stage) (end : ℕ) (asserted : List Clause) → unchecked (phase_of stage) → missing_forms stage end asserted ≡ unless false end
no_check_sat start end asserted n = refl
no_check_sat under end asserted n = refl
no_check_sat (checked at) end asserted n = absurd (n at refl)

no_assertion : (there : ℕ) (stage : Stage) (end : ℕ) (asserted : List Clause) → Phase.Checked there ≡ phase_of stage → missing_forms stage end asserted ≡ unless (ltb 0 (length asserted)) there
no_assertion there start end asserted e = absurd (let z : ◌≡◌ {A = ℕ} 0 1 = cc in omega arith)
no_assertion there under end asserted e = absurd (let z : ◌≡◌ {A = ℕ} 0 1 = cc in omega arith)
no_assertion there (checked at) end asserted e = let same : at ≡ there = cc in ap (λ (n : ℕ). unless (ltb 0 (length asserted)) n) same

nothing_named : (there : ℕ) (stage : Stage) (ds : List Declaration) → Phase.Checked there ≡ phase_of stage → missing_names stage ds ≡ unless (ltb 0 (length ds)) there
nothing_named there start ds e = absurd (let z : ◌≡◌ {A = ℕ} 0 1 = cc in omega arith)
nothing_named there under ds e = absurd (let z : ◌≡◌ {A = ℕ} 0 1 = cc in omega arith)
nothing_named there (checked at) ds e = let same : at ≡ there = cc in ap (λ (n : ℕ). unless (ltb 0 (length ds)) n) same

names_later : (stage : Stage) (ds : List Declaration) → unchecked (phase_of stage) → missing_names stage ds ≡ []
names_later start ds n = refl
names_later under ds n = refl
names_later (checked at) ds n = absurd (n at refl)

module _ (k : Kept) where
  module _ (n : unchecked k.phase) where
    pub check_sat_missing : (end : ℕ) → MissingForm k end (spot_of (lowest_of (unless false end)))
    unfolding MissingForm
    check_sat_missing end text s keeps = ap (λ (l : List ℕ). spot_of (lowest_of l)) (sym (no_check_sat s.stage end s.asserted (λ at e. n at (keeps.phase_is ∙ e))))

    pub names_not_due : MissingName k (spot_of (lowest_of (unless true 0)))
    unfolding MissingName
    names_not_due text s keeps = ap (λ (l : List ℕ). spot_of (lowest_of l)) (sym (names_later s.stage s.declarations (λ at e. n at (keeps.phase_is ∙ e))))

  module _ (there : ℕ) (e : k.phase ≡ Phase.Checked there) where
    pub assertion_missing : (end : ℕ) → MissingForm k end (spot_of (lowest_of (unless (ltb 0 k.asserted) there)))
    unfolding MissingForm
    assertion_missing end text s keeps =
        (λ i. spot_of (lowest_of (unless (ltb 0 (keeps.asserted_are i)) there)))
        ∙ ap (λ (l : List ℕ). spot_of (lowest_of l)) (sym (no_assertion there s.stage end s.asserted (sym e ∙ keeps.phase_is)))

    pub name_missing : MissingName k (spot_of (lowest_of (unless (ltb 0 k.count) there)))
    unfolding MissingName
    name_missing text s keeps =
        (λ i. spot_of (lowest_of (unless (ltb 0 (sym (kept_count keeps) i)) there)))
        ∙ ap (λ (l : List ℕ). spot_of (lowest_of l)) (sym (nothing_named there s.stage s.declarations (sym e ∙ keeps.phase_is)))

-- ---- the lower of a 15 and a 4

module _ (a b : Position) where
  pub outside_told : (p : ℕ) → a ≡ Some p → ((q : ℕ) → b ≡ Some q → p ≤ q) → LowerTold a b (Err (refusal Rule.OutsideSubset p))
  unfolding LowerTold
  outside_told p g h x y e f = rw (spot_some x p (sym g ∙ e)) (go y f)
    where
      go : (y : Option ℕ) → b ≡ spot_of y → ◌≡◌ {A = Result ⊤ Refusal} (Err (refusal Rule.OutsideSubset p)) (unless_refused (refused_at (some p) y) tt)
      go none f = refl
      go (some q) f = rw (le-leb p q (h q f))

  pub beyond_told : (q : ℕ) → b ≡ Some q → ((p : ℕ) → a ≡ Some p → q < p) → LowerTold a b (Err (refusal Rule.BeyondLimit q))
  unfolding LowerTold
  beyond_told q g h x y e f = rw (spot_some y q (sym g ∙ f)) (go x e)
    where
      go : (x : Option ℕ) → a ≡ spot_of x → ◌≡◌ {A = Result ⊤ Refusal} (Err (refusal Rule.BeyondLimit q)) (unless_refused (refused_at x (some q)) tt)
      go none e = refl
      go (some p) e = rw (lt-leb p q (h p e))

  pub none_told : a ≡ None → b ≡ None → LowerTold a b (Ok tt)
  unfolding LowerTold
  none_told g h x y e f = rw (spot_none x (sym g ∙ e), spot_none y (sym h ∙ f))

-- ---- the fault of a script

module _ (k : Kept) (end : ℕ) (unsigned_place form_place low outside name_place beyond : Position) (r : Result ⊤ Refusal) where
  pub fault_told : UnsignedPlace k unsigned_place → MissingForm k end form_place → Lower unsigned_place form_place low → Lower k.outside low outside
      → MissingName k name_place → Lower k.beyond name_place beyond → LowerTold outside beyond r → FaultTold k end r
  unfolding UnsignedPlace MissingForm MissingName LowerTold FaultTold fault_of all_outside all_beyond
  fault_told u m l o n b t text s keeps =
      let unsigned_is : unsigned_place ≡ spot_of (lowest_of (unsigned s.declarations)) = u text ∙ ap (λ (ds : List Declaration). spot_of (lowest_of (unsigned ds))) (sym keeps.declarations_are) in
      let low_is : low ≡ spot_of (lowest_of (unsigned s.declarations ++ missing_forms s.stage end s.asserted)) =
      lower_more unsigned_place form_place low (unsigned s.declarations) (missing_forms s.stage end s.asserted) l unsigned_is (m text s keeps) in
      t (lowest_of (all_outside end s)) (lowest_of (all_beyond s))
      (lower_more k.outside low outside s.outside (unsigned s.declarations ++ missing_forms s.stage end s.asserted) o keeps.outside_is low_is)
      (lower_more k.beyond name_place beyond s.beyond (missing_names s.stage s.declarations) b keeps.beyond_is (n text s keeps))
