-- An atom's numbers: their checks are passed exactly where each is within its limit, and else the first beyond its limit is refused, by its number and place.
use Rattle.std.proofs.Math.Path.{◌≡◌, refl, ap}
use Rattle.std.proofs.Common.{sym, ◌∙◌, inl}
use Rattle.std.specs.Prelude.{◌⊎◌, ◌↔◌, Bool, cond, ◌&&◌, T, ℤ, pos, get_or}
use Rattle.std.proofs.Math.Logic.{inr, ⊎_elim}
use Rattle.std.proofs.Math.Bool.{true, false}
use Rattle.std.proofs.Math.Option.{none, some}
use mathlib.Core.List.{List, [], ◌∷◌}
use Prim.Native.Nat.{ℕ, zero, suc, ◌+◌, ◌*◌, ◌≤◌, ◌<◌}
use native.Mathlib.Omega.{arith}
use Rattle.std.specs.Float.Ieee.Bits.{is_true}
use Rattle.std.proofs.Math.ListN.{length}
use Rattle.scope.specs.declared.Rule.{Rule}
use Rattle.scope.specs.declared.Refusal.{Refusal}
use Rattle.std.specs.List.{list_all}
use Rattle.scope.specs.Sizes.{coefficient_fits, constant_fits, numbers_fit}
use Rattle.scope.specs.Refusals.{check, refusal, unless_passed, first_refusal}
use Rattle.scope.specs.Wire.{field_checks}
use Rattle.theory.specs.Numbers.Tests.{all_each}
use Rattle.theory.specs.Wire.Checks.{Passed, EveryRule, and_first, and_second, and_both}

-- ---- every number is within its limit

passed_fields : (place apart : ℕ) (cs : List ℤ) (k : ℤ) → Passed (field_checks place apart cs k) → T (numbers_fit cs k)
unfolding numbers_fit field_checks
passed_fields place apart [] k p = p.0
passed_fields place apart (a ∷ cs) k p =
    let t = passed_fields (place + apart) apart cs k p.1 in
    and_both (coefficient_fits a && list_all coefficient_fits cs) (constant_fits k)
    (and_both (coefficient_fits a) (list_all coefficient_fits cs) p.0 (and_first (list_all coefficient_fits cs) (constant_fits k) t))
    (and_second (list_all coefficient_fits cs) (constant_fits k) t)

fields_passed : (place apart : ℕ) (cs : List ℤ) (k : ℤ) → T (numbers_fit cs k) → Passed (field_checks place apart cs k)
unfolding numbers_fit field_checks
fields_passed place apart [] k t = (t, tt)
fields_passed place apart (a ∷ cs) k t =
    let row = and_first (coefficient_fits a && list_all coefficient_fits cs) (constant_fits k) t in (
      and_first (coefficient_fits a) (list_all coefficient_fits cs) row,
      fields_passed (place + apart) apart cs k
          (and_both (list_all coefficient_fits cs) (constant_fits k)
          (and_second (coefficient_fits a) (list_all coefficient_fits cs) row)
          (and_second (coefficient_fits a && list_all coefficient_fits cs) (constant_fits k) t)),
    )

-- and where there is no atom, no number is looked at
pub passed_atom : (t : Bool) (place apart : ℕ) (cs : List ℤ) (k : ℤ) → Passed (cond t (field_checks place apart cs k) []) → T t → T (numbers_fit cs k)
passed_atom true place apart cs k p u = passed_fields place apart cs k p
passed_atom false place apart cs k p u = absurd u

pub atom_passed : (t : Bool) (place apart : ℕ) (cs : List ℤ) (k : ℤ) → (T t → T (numbers_fit cs k)) → Passed (cond t (field_checks place apart cs k) [])
atom_passed true place apart cs k f = fields_passed place apart cs k (f tt)
atom_passed false place apart cs k f = tt

-- ---- the first that is not

-- of these coefficients the first so many are within their limit, and the next one, where there is one, is not
pub record FitTo (cs : List ℤ) (j : ℕ) : Type 0 where
  pub most : j ≤ length cs
  pub earlier : (i : ℕ) → i < j → T (coefficient_fits (get_or cs i (pos 0)))
  pub beyond : j < length cs → coefficient_fits (get_or cs j (pos 0)) ≡ false

fit_tail : (a : ℤ) (cs : List ℤ) (j : ℕ) → FitTo (a ∷ cs) (suc j) → FitTo cs j
fit_tail a cs j f = record { most = omega (arith, f.most); earlier = λ i h. f.earlier (suc i) (omega arith); beyond = λ h. f.beyond (omega arith) }

fit_more : (a : ℤ) (cs : List ℤ) (j : ℕ) → T (coefficient_fits a) → FitTo cs j → FitTo (a ∷ cs) (suc j)
fit_more a cs j t f = record { most = omega (arith, f.most); earlier = before; beyond = λ h. f.beyond (omega arith) }
  where
    before : (i : ℕ) → i < suc j → T (coefficient_fits (get_or (a ∷ cs) i (pos 0)))
    before zero h = t
    before (suc i) h = f.earlier i (omega arith)

module _ (apart : ℕ) (k : ℤ) where
  pub coefficient_refused : (place : ℕ) (cs : List ℤ) (j : ℕ) → FitTo cs j → j < length cs → first_refusal (field_checks place apart cs k) ≡ some (refusal Rule.CoefficientBeyond (place + apart * j))
  unfolding first_refusal field_checks
  coefficient_refused place [] j f h = absurd (omega arith)
  coefficient_refused place (a ∷ cs) zero f h = let z : place + apart * 0 ≡ place = omega arith in rw (f.beyond h, z)
  coefficient_refused place (a ∷ cs) (suc j) f h =
      let z : place + apart * suc j ≡ place + apart + apart * j = omega arith in
      rw (is_true (coefficient_fits a) (f.earlier 0 (omega arith)), z) (coefficient_refused (place + apart) cs j (fit_tail a cs j f) (omega arith))

  pub constant_left : (place : ℕ) (cs : List ℤ) (j : ℕ) → FitTo cs j → length cs ≤ j → first_refusal (field_checks place apart cs k) ≡ first_refusal (check Rule.ConstantBeyond (place + apart * length cs) (constant_fits k) ∷ [])
  unfolding first_refusal field_checks
  constant_left place [] j f h = let z : place + apart * 0 ≡ place = omega arith in rw z
  constant_left place (a ∷ cs) zero f h = absurd (omega arith)
  constant_left place (a ∷ cs) (suc j) f h =
      let z : place + apart * suc (length cs) ≡ place + apart + apart * length cs = omega arith in
      rw (is_true (coefficient_fits a) (f.earlier 0 (omega arith)), z) (constant_left (place + apart) cs j (fit_tail a cs j f) (omega arith))

-- ---- which number is refused

-- a coefficient: those before it are within their limit
pub record NamesCoefficient (place apart : ℕ) (cs : List ℤ) (ρ : Refusal) : Type 0 where
  pub index : ℕ
  pub there : index < length cs
  pub first : FitTo cs index
  pub told : ρ ≡ refusal Rule.CoefficientBeyond (place + apart * index)

-- the constant: every coefficient is within its limit
pub record NamesConstant (place apart : ℕ) (cs : List ℤ) (k : ℤ) (ρ : Refusal) : Type 0 where
  pub first : FitTo cs (length cs)
  pub beyond : constant_fits k ≡ false
  pub told : ρ ≡ refusal Rule.ConstantBeyond (place + apart * length cs)

abbrev pub NamesNumber : ℕ → ℕ → List ℤ → ℤ → Refusal → Type 0
NamesNumber place apart cs k ρ = NamesCoefficient place apart cs ρ ⊎ NamesConstant place apart cs k ρ

module _ (apart : ℕ) (k : ℤ) where
  -- behind a coefficient within its limit
  named_behind : (place : ℕ) (a : ℤ) (cs : List ℤ) (ρ : Refusal) → T (coefficient_fits a)
      → NamesNumber (place + apart) apart cs k ρ → NamesNumber place apart (a ∷ cs) k ρ
  named_behind place a cs ρ t = ⊎_elim
      (λ c.
      let z : place + apart + apart * c.index ≡ place + apart * suc c.index = omega arith in
      inl (record { index = suc c.index; there = omega (arith, c.there); first = fit_more a cs c.index t c.first; told = c.told ∙ ap (refusal Rule.CoefficientBeyond) z }))
      (λ c.
      let z : place + apart + apart * length cs ≡ place + apart * suc (length cs) = omega arith in
      inr (record { first = fit_more a cs (length cs) t c.first; beyond = c.beyond; told = c.told ∙ ap (refusal Rule.ConstantBeyond) z }))

  named_cons : (place : ℕ) (a : ℤ) (cs : List ℤ) (ρ : Refusal) (t : Bool) → coefficient_fits a ≡ t
      → (first_refusal (field_checks (place + apart) apart cs k) ≡ some ρ → NamesNumber (place + apart) apart cs k ρ)
      → unless_passed t (refusal Rule.CoefficientBeyond place) (first_refusal (field_checks (place + apart) apart cs k)) ≡ some ρ
      → NamesNumber place apart (a ∷ cs) k ρ
  named_cons place a cs ρ true h rest e = named_behind place a cs ρ (rw h tt) (rest e)
  named_cons place a cs ρ false h rest e =
      let z : place ≡ place + apart * 0 = omega arith in
      let r : ρ ≡ refusal Rule.CoefficientBeyond place = cc in
      inl (record {
        index = 0;
        there = omega arith;
        first = record { most = omega arith; earlier = λ i g. absurd (omega arith); beyond = λ g. h };
        told = r ∙ ap (refusal Rule.CoefficientBeyond) z;
      })

  constant_alone : (place : ℕ) (ρ : Refusal) (t : Bool) → constant_fits k ≡ t → unless_passed t (refusal Rule.ConstantBeyond place) none ≡ some ρ → NamesConstant place apart [] k ρ
  constant_alone place ρ true h e = let z : ◌≡◌ {A = ℕ} 0 1 = cc in absurd (omega arith)
  constant_alone place ρ false h e =
      let z : place ≡ place + apart * 0 = omega arith in
      let r : ρ ≡ refusal Rule.ConstantBeyond place = cc in
      record {
        first = record { most = omega arith; earlier = λ i g. absurd (omega arith); beyond = λ g. absurd (omega arith) };
        beyond = h;
        told = r ∙ ap (refusal Rule.ConstantBeyond) z;
      }

  fields_named : (place : ℕ) (cs : List ℤ) (ρ : Refusal) → first_refusal (field_checks place apart cs k) ≡ some ρ → NamesNumber place apart cs k ρ
  unfolding first_refusal field_checks
  fields_named place [] ρ e = inr (constant_alone place ρ (constant_fits k) refl e)
  fields_named place (a ∷ cs) ρ e = named_cons place a cs ρ (coefficient_fits a) refl (fields_named (place + apart) cs ρ) e

  named_fields : (place : ℕ) (cs : List ℤ) (ρ : Refusal) → NamesNumber place apart cs k ρ → first_refusal (field_checks place apart cs k) ≡ some ρ
  unfolding first_refusal
  named_fields place cs ρ = ⊎_elim
      (λ c. coefficient_refused apart k place cs c.index c.first c.there ∙ ap some (sym c.told))
      (λ c. constant_left apart k place cs (length cs) c.first (omega arith) ∙ rw (c.beyond, c.told))

  pub fields_refused_iff : (place : ℕ) (cs : List ℤ) (ρ : Refusal) → (first_refusal (field_checks place apart cs k) ≡ some ρ) ↔ NamesNumber place apart cs k ρ
  fields_refused_iff place cs ρ = (fields_named place cs ρ, named_fields place cs ρ)

pub fields_numbered : (P : Rule → Type 0) (place apart : ℕ) (cs : List ℤ) (k : ℤ) → P Rule.CoefficientBeyond → P Rule.ConstantBeyond → EveryRule P (field_checks place apart cs k)
unfolding field_checks
fields_numbered P place apart [] k x y = (y, tt)
fields_numbered P place apart (a ∷ cs) k x y = (x, fields_numbered P (place + apart) apart cs k x y)

-- ---- where all numbers have one place

module _ (place : ℕ) (k : ℤ) where
  row_cons : (a : ℤ) (cs : List ℤ) (t : Bool) → coefficient_fits a ≡ t
      → (list_all coefficient_fits cs ≡ false → first_refusal (field_checks place 0 cs k) ≡ some (refusal Rule.CoefficientBeyond place))
      → t && list_all coefficient_fits cs ≡ false → first_refusal (field_checks place 0 (a ∷ cs) k) ≡ some (refusal Rule.CoefficientBeyond place)
  unfolding first_refusal field_checks
  row_cons a cs true h rest e = let z : place + 0 ≡ place = omega arith in rw (h, z) (rest e)
  row_cons a cs false h rest e = rw h

  pub row_beyond : (cs : List ℤ) → list_all coefficient_fits cs ≡ false → first_refusal (field_checks place 0 cs k) ≡ some (refusal Rule.CoefficientBeyond place)
  row_beyond [] e = let z : ◌≡◌ {A = ℕ} 0 1 = cc in absurd (omega arith)
  row_beyond (a ∷ cs) e = row_cons a cs (coefficient_fits a) refl (row_beyond cs) e

  pub row_within : (cs : List ℤ) → list_all coefficient_fits cs ≡ true → first_refusal (field_checks place 0 cs k) ≡ first_refusal (check Rule.ConstantBeyond place (constant_fits k) ∷ [])
  row_within cs e =
      let z : place + 0 * length cs ≡ place = omega arith in
      rw z at
      (constant_left 0 k place cs (length cs)
      (record { most = omega arith; earlier = λ i h. rw (all_each coefficient_fits cs (pos 0) e i h) tt; beyond = λ h. absurd (omega arith) })
      (omega arith))
