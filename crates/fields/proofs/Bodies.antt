-- The numbers of a body, taken one after the other.
use mathlib.Core.Path.{◌≡◌, refl, ap, ◌∙◌}
use mathlib.Core.Logic.{by_cases}
use mathlib.Core.Bool.{true, false}
use mathlib.Core.Option.{some}
use mathlib.Core.List.{List, [], ◌∷◌}
use Prim.Native.Nat.{ℕ, suc, ◌+◌, ◌-◌, ◌*◌, ◌<◌, ◌≤◌}
use native.Mathlib.Decide.{dec_lt}
use native.Mathlib.Omega.{arith}
use lib.Dec.{T}
use lib.IntN.{ℤ, pos}
use lib.ListN.{length, get_or, set, length-set}
use lib.Seq.{sets}
use Rattle.scope.specs.declared.Rule.{Rule}
use Rattle.scope.specs.declared.Refusal.{Refusal}
use Rattle.scope.specs.Sizes.{most_variables, coefficient_fits, constant_fits}
use Rattle.scope.specs.Refusals.{check, refusal, first_refusal}
use Rattle.scope.specs.Wire.{number_at, numbers_at, field_checks}
use Rattle.theory.specs.Wire.Octets.{number_in, numbers_length}
use Rattle.theory.specs.Wire.Fields.{coefficient_refused, constant_left}
use Rattle.std.specs.Prelude.{Result, Ok, Err, Some, None}
use Rattle.scope.specs.declared.Question.{Question}
use Rattle.records.proofs.Checks.{first_failed, first_passed}
use Rattle.fields.specs.Fields.{RowTaken, AtomTaken}

numbers_suc : (m : ℕ) (b : List ℕ) (at : ℕ) → numbers_at (suc m) b at ≡ number_at b at ∷ numbers_at m b (at + 4)
unfolding numbers_at
numbers_suc m b at = refl

module _ (b : List ℕ) (start n i : ℕ) where
  numbers_next : i < n → numbers_at (n - i) b (start + 4 * i) ≡ number_at b (start + 4 * i) ∷ numbers_at (n - (i + 1)) b (start + 4 * (i + 1))
  numbers_next h =
      let e : n - i ≡ suc (n - (i + 1)) = omega arith in
      let d : start + 4 * (i + 1) ≡ start + 4 * i + 4 = omega arith in
      rw (e, d) (numbers_suc (n - (i + 1)) b (start + 4 * i))

  numbers_done : n ≤ i → numbers_at (n - i) b (start + 4 * i) ≡ []
  unfolding numbers_at
  numbers_done h = let e : n - i ≡ 0 = omega arith in rw e

-- the coefficients before i are within their limit, and those from i on are still to be taken
pub record TakenFrom (b : List ℕ) (start n cell : ℕ) (l₀ l : List ℤ) (i : ℕ) : Type 0 where
  pub within : i ≤ n
  pub same : length l ≡ length l₀
  pub fits : (j : ℕ) → j < i → T (coefficient_fits (get_or (numbers_at n b start) j (pos 0)))
  pub rest : sets l (cell + i) (numbers_at (n - i) b (start + 4 * i)) ≡ sets l₀ cell (numbers_at n b start)

module _ (b : List ℕ) (start n cell : ℕ) (l₀ : List ℤ) where
  pub taken_start : TakenFrom b start n cell l₀ l₀ 0
  taken_start =
      let z : cell + 0 ≡ cell = omega arith in
      let y : n - 0 ≡ n = omega arith in
      let x : start + 4 * 0 ≡ start = omega arith in
      record { within = omega arith; same = refl; fits = λ j h. absurd (omega arith); rest = rw (z, y, x) }

  module _ (l : List ℤ) (i : ℕ) (inv : TakenFrom b start n cell l₀ l i) where
    fits_next : i < n → coefficient_fits (number_at b (start + 4 * i)) ≡ true → (j : ℕ) → j < i + 1 → T (coefficient_fits (get_or (numbers_at n b start) j (pos 0)))
    fits_next h f j k = by_cases (dec_lt j i)
        (λ e. inv.fits j e)
        (λ e. let s : j ≡ i = omega arith in rw (s, number_in n b start i (pos 0) h, f) tt)

    pub taken_again : (v : ℤ) → v ≡ number_at b (start + 4 * i) → i < n → coefficient_fits (number_at b (start + 4 * i)) ≡ true → TakenFrom b start n cell l₀ (set l (cell + i) v) (i + 1)
    taken_again v e h f =
        let d : cell + (i + 1) ≡ suc (cell + i) = omega arith in
        record {
          within = omega arith;
          same = length-set l (cell + i) v ∙ inv.same;
          fits = fits_next h f;
          rest = rw (d, e) (rw (numbers_next b start n i h) at inv.rest);
        }

    pub taken_not : (after : List ℤ) → i < n → coefficient_fits (number_at b (start + 4 * i)) ≡ false → RowTaken (numbers_at n b start) cell l₀ (Some i) after
    taken_not after h f = (
      record { most = omega (arith, numbers_length n b start); earlier = inv.fits; beyond = λ k. ap coefficient_fits (number_in n b start i (pos 0) h) ∙ f },
      omega (arith, numbers_length n b start),
    )

    pub taken_whole : n ≤ i → RowTaken (numbers_at n b start) cell l₀ None l
    taken_whole h =
        let e : i ≡ length (numbers_at n b start) = omega (arith, inv.within, numbers_length n b start) in (
          record { most = omega arith; earlier = rw e at inv.fits; beyond = λ k. absurd (omega arith) },
          rw (numbers_done b start n i h) at inv.rest,
        )

-- ---- an atom, by its row and its constant

module _ (b : List ℕ) (start n code atom : ℕ) (before after : Question) where
  abbrev row : List ℤ
  row = numbers_at n b start

  abbrev constant : ℤ
  constant = number_at b (start + 4 * n)

  abbrev Taken : Result ℕ Refusal → Type 0
  Taken r = AtomTaken row constant start code atom before r after

  module _ (same : (after.n ≡ before.n) × (after.codes ≡ before.codes)) (put : after.constants ≡ set before.constants atom constant) where
    atom_refused : (r : Refusal) → first_refusal (field_checks start 4 row constant) ≡ some r → Taken (Err r)
    atom_refused r e = record { answer = rw e; variables = same.0; codes = same.1; coefficients = λ c f. let z : ◌≡◌ {A = ℕ} 0 1 = cc in absurd (omega arith); constants = put }

    module _ (fitting : ℕ) (t : RowTaken row (most_variables * atom) before.coefficients (Some fitting) after.coefficients) where
      pub coefficient_beyond : Taken (Err (refusal Rule.CoefficientBeyond (start + 4 * fitting)))
      coefficient_beyond = atom_refused (refusal Rule.CoefficientBeyond (start + 4 * fitting)) (coefficient_refused 4 constant start row fitting t.0 t.1)

    module _ (t : RowTaken row (most_variables * atom) before.coefficients None after.coefficients) where
      last_field : first_refusal (field_checks start 4 row constant) ≡ first_refusal (check Rule.ConstantBeyond (start + 4 * n) (constant_fits constant) ∷ [])
      last_field = rw (numbers_length n b start) at (constant_left 4 constant start row (length row) t.0 (omega arith))

      pub constant_beyond : constant_fits constant ≡ false → Taken (Err (refusal Rule.ConstantBeyond (start + 4 * n)))
      constant_beyond f = atom_refused (refusal Rule.ConstantBeyond (start + 4 * n)) (last_field ∙ first_failed Rule.ConstantBeyond (start + 4 * n) (constant_fits constant) [] f)

      pub atom_taken : constant_fits constant ≡ true → Taken (Ok code)
      unfolding first_refusal
      atom_taken f = record {
        answer = rw (last_field ∙ first_passed Rule.ConstantBeyond (start + 4 * n) (constant_fits constant) [] f);
        variables = same.0;
        codes = same.1;
        coefficients = λ c g. t.1;
        constants = put;
      }
