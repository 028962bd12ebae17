-- The numbers of a whole list as the code has them: those of the definitions, or as little within the limit. Assumes nothing.
use Prim.Native.Nat.{ℕ, suc, ◌≤◌, ◌<◌}
use native.Mathlib.Omega.{arith}
use mathlib.Core.Path.{◌≡◌, refl, sym, ap, ◌∙◌}
use mathlib.Core.Bool.{Bool, true, ◌&&◌}
use mathlib.Core.List.{List, [], ◌∷◌}
use lib.Dec.{T, eqb}
use lib.ListN.{length, length-map}
use lib.Seq.{ext_get_or}
use lib.IntN.{ℤ, pos, neg_ℤ}
use Rattle.smtlib.specs.Terms.{Relation, equal, at_most, below, at_least, above, Head, plus, minus, times, compare, negation, conjunction, disjunction, other_head, no_numbers, opposite, less, collected_fit, Term, faults_in, total}
use Rattle.smtlib.specs.Formulas.{sides}
use Rattle.smtlib.specs.Laws.{sums_nought}
use Rattle.terms.specs.declared.gather.Gathering.{Gathering}
use Rattle.terms.specs.Seven.{number_count, small_number, lane, SumFlat}
use Rattle.terms.specs.Heads.{head_code}
use Rattle.terms.specs.Gathered.{part_count, shapely_at, product_with}
use Rattle.terms.specs.Gathering.{Totals, Gathers, numbers_by, NumbersBy}
use Rattle.terms.proofs.Sevens.{fit_each}
use Rattle.terms.proofs.Gatherings.{both_empty}
use Rattle.terms.proofs.Settling.{never, no_product, minus_numbers, product_numbers, sides_numbers, numbers_of}

pub record Collects (l r : List ℤ) : Type 0 where
  pub same_fit : collected_fit r ≡ collected_fit l
  pub same_numbers : T (collected_fit r) → r ≡ l

exactly : {l r : List ℤ} → r ≡ l → Collects l r
exactly e = record { same_fit = ap collected_fit e; same_numbers = λ t. e }

-- ---- a sum

fit_alike : (k l : List ℤ) → length k ≡ length l → ((i : ℕ) → i < length k → small_number (lane k i) ≡ small_number (lane l i)) → collected_fit k ≡ collected_fit l
unfolding collected_fit
fit_alike [] [] e same = refl
fit_alike [] (b ∷ l) e same = absurd (omega arith)
fit_alike (a ∷ k) [] e same = absurd (omega arith)
fit_alike (a ∷ k) (b ∷ l) e same = λ i. same 0 (omega arith) i && fit_alike k l (omega arith) (λ j h. same (suc j) (omega arith)) i

sum_collects : {ts : List Term} {low high r : List ℤ} → Totals ts low high → SumFlat low high r → Collects (total ts) r
sum_collects {ts} {low} {high} {r} t f =
    let long : length r ≡ length (total ts) = f.seven ∙ sym t.seven in
    record {
      same_fit = fit_alike r (total ts) long (λ i h. let b : i < number_count = omega (arith, f.seven) in (f.lanes i b).same_test ∙ ap small_number (t.lanes i b));
      same_numbers = λ fits.
          ext_get_or (pos 0) r (total ts) long
          (λ i h. let b : i < number_count = omega (arith, f.seven) in (f.lanes i b).same_value (fit_each r i fits) ∙ t.lanes i b);
    }

-- ---- two parts, or one

nothing_less : (l : List ℤ) → length l ≡ number_count → less no_numbers l ≡ opposite l
unfolding opposite
nothing_less l e = sums_nought number_count (opposite l) (length-map l neg_ℤ ∙ e)

one_faultless : (t : Term) (ts : List Term) → faults_in (t ∷ ts) ≡ [] → (t.faults ≡ []) × (faults_in ts ≡ [])
unfolding faults_in
one_faultless t ts e = both_empty t.faults (faults_in ts) e

-- two parts without a fault
two_kept : {g : Gathering} (t u : Term) → Gathers (t ∷ u ∷ []) g → faults_in (t ∷ u ∷ []) ≡ [] → (g.first.numbers ≡ t.numbers) × (g.second.numbers ≡ u.numbers)
two_kept t u had none =
    let rest = one_faultless t (u ∷ []) none in
    (had.first_kept.numbers_are rest.0, had.second_kept.numbers_are (one_faultless u [] rest.1).0)

module _ {g : Gathering} where
  minus_agree : (ts : List Term) (b : Bool) → Gathers ts g → faults_in ts ≡ [] → length g.first.numbers ≡ number_count → shapely_at 1 (part_count ts) b ≡ true → numbers_by 1 g ≡ minus_numbers ts
  unfolding part_count shapely_at minus_numbers numbers_by
  minus_agree [] b had none seven e = never (sym e)
  minus_agree (t ∷ []) b had none seven e =
      rw had.count_is (nothing_less g.first.numbers seven ∙ ap opposite (had.first_kept.numbers_are (one_faultless t [] none).0))
  minus_agree (t ∷ u ∷ []) b had none seven e = let kept = two_kept t u had none in rw had.count_is (λ i. less (kept.0 i) (kept.1 i))
  minus_agree (t ∷ u ∷ v ∷ ts) b had none seven e = never (sym e)

  times_agree : (ts : List Term) (b : Bool) → Gathers ts g → faults_in ts ≡ [] → shapely_at 2 (part_count ts) b ≡ true → numbers_by 2 g ≡ product_numbers ts
  unfolding part_count shapely_at product_numbers numbers_by
  times_agree [] b had none e = absurd (no_product b e)
  times_agree (t ∷ []) b had none e = absurd (no_product b e)
  times_agree (t ∷ u ∷ []) b had none e =
      let kept = two_kept t u had none in
      λ i. product_with (had.first_kept.is_numeral i) (kept.0 i) (kept.1 i)
  times_agree (t ∷ u ∷ v ∷ ts) b had none e = absurd (no_product b e)

  sides_agree : (o : Relation) (ts : List Term) → Gathers ts g → faults_in ts ≡ [] → eqb (part_count ts) 2 ≡ true → sides o g.first.numbers g.second.numbers ≡ sides_numbers o ts
  unfolding part_count sides_numbers
  sides_agree o [] had none e = never (sym e)
  sides_agree o (t ∷ []) had none e = never (sym e)
  sides_agree o (t ∷ u ∷ []) had none e = let kept = two_kept t u had none in λ i. sides o (kept.0 i) (kept.1 i)
  sides_agree o (t ∷ u ∷ v ∷ ts) had none e = never (sym e)

  pub numbers_agree : {r : List ℤ} (h : Head) (ts : List Term) (b : Bool) → head_code h ≤ 7 → Gathers ts g → faults_in ts ≡ [] → length g.first.numbers ≡ number_count → shapely_at (head_code h) (part_count ts) b ≡ true
      → NumbersBy (head_code h) g r → Collects (numbers_of h ts) r
  unfolding shapely_at sides numbers_by
  numbers_agree plus ts b l had none seven e by = sum_collects (had.total_is none) (by.of_plus refl)
  numbers_agree minus ts b l had none seven e by = exactly (by.of_others (λ z. omega arith) ∙ minus_agree ts b had none seven e)
  numbers_agree times ts b l had none seven e by = exactly (by.of_others (λ z. omega arith) ∙ times_agree ts b had none e)
  numbers_agree (compare equal) ts b l had none seven e by = exactly (by.of_others (λ z. omega arith) ∙ sides_agree equal ts had none e)
  numbers_agree (compare at_most) ts b l had none seven e by = exactly (by.of_others (λ z. omega arith) ∙ sides_agree at_most ts had none e)
  numbers_agree (compare below) ts b l had none seven e by = exactly (by.of_others (λ z. omega arith) ∙ sides_agree below ts had none e)
  numbers_agree (compare at_least) ts b l had none seven e by = exactly (by.of_others (λ z. omega arith) ∙ sides_agree at_least ts had none e)
  numbers_agree (compare above) ts b l had none seven e by = exactly (by.of_others (λ z. omega arith) ∙ sides_agree above ts had none e)
  numbers_agree negation ts b l had none seven e by = absurd (omega arith)
  numbers_agree conjunction ts b l had none seven e by = absurd (omega arith)
  numbers_agree disjunction ts b l had none seven e by = absurd (omega arith)
  numbers_agree other_head ts b l had none seven e by = absurd (omega arith)
