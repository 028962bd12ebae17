-- What the answer says of the whole list, by the way that the code takes. Assumes nothing.
use Prim.Native.Nat.{ℕ, ◌≤◌}
use native.Mathlib.Omega.{arith}
use mathlib.Core.Path.{◌≡◌, refl, sym, ap, ◌∙◌}
use mathlib.Core.Bool.{Bool, true, false, ◌||◌}
use mathlib.Core.Option.{Option, none, some}
use mathlib.Core.List.{List, [], ◌∷◌}
use lib.Dec.{T}
use lib.ListN.{length}
use lib.IntN.{ℤ}
use Rattle.std.specs.Prelude.{is_some}
use Rattle.smtlib.specs.Terms.{no_numbers, collected_fit, Head, Term, faults_in, collecting, collected}
use Rattle.smtlib.specs.Script.{lower, lowest_of}
use Rattle.lexicon.specs.Spots.{spot_of}
use Rattle.terms.specs.declared.gather.Gathering.{Gathering}
use Rattle.terms.specs.Seven.{number_count}
use Rattle.terms.specs.Heads.{head_code}
use Rattle.terms.specs.Gathered.{gathered, part_count, shapely_at}
use Rattle.terms.specs.Gathering.{FirstKept, SecondKept, Gathers, NumbersBy}
use Rattle.terms.specs.Read.{TermSays}
use Rattle.terms.proofs.Settling.{never, NumeralSays, numbers_of, gathered_is}
use Rattle.terms.proofs.Collecting.{Collects, numbers_agree}
use Rattle.terms.proofs.WordTerms.{outside_says}

numeral_says : (g : Gathering) (ts : List Term) → FirstKept ts g.first → SecondKept ts g.second → NumeralSays ts (g.first.numeric || g.second.numeric)
numeral_says g [] f s = tt
numeral_says g (t ∷ []) f s = tt
numeral_says g (t ∷ u ∷ []) f s = λ i. f.is_numeral i || s.is_numeral i
numeral_says g (t ∷ u ∷ v ∷ ts) f s = tt

-- ---- collected

-- a list has a lowest place exactly if it has any
some_lowest : (l : List ℕ) → is_some (spot_of (lowest_of l)) ≡ true → (l ≡ [] → ⊥)
unfolding lowest_of
some_lowest l e f = never (sym (rw f at e))

none_lowest : (l : List ℕ) → is_some (spot_of (lowest_of l)) ≡ false → l ≡ []
unfolding lowest_of
none_lowest [] e = refl
none_lowest (a ∷ l) e = go (lowest_of l) e
  where
    go : (o : Option ℕ) → is_some (spot_of (lower a o)) ≡ false → a ∷ l ≡ []
    go none e = never e
    go (some b) e = never e

collecting_some : (place : ℕ) (n : List ℤ) (l : List ℕ) → (l ≡ [] → ⊥) → collecting place n l ≡ l
unfolding collecting
collecting_some place n [] f = absurd (f refl)
collecting_some place n (a ∷ l) f = refl

module _ (place : ℕ) (h : Head) (ts : List Term) {g : Gathering} (few : head_code h ≤ 7) (had : Gathers ts g) where
  abbrev numeral : Bool
  numeral = g.first.numeric || g.second.numeric

  numeral_is : NumeralSays ts numeral
  numeral_is = numeral_says g ts had.first_kept had.second_kept

  pub misshapen_says : shapely_at (head_code h) g.count numeral ≡ false
      → TermSays (gathered h place ts) record { numeric = false; numbers = no_numbers; fault = spot_of (some place) }
  misshapen_says e = rw (gathered_is place h ts numeral few numeral_is, sym had.count_is, e) (outside_says place)

  module _ (shapely : shapely_at (head_code h) g.count numeral ≡ true) where
    shapely_here : shapely_at (head_code h) (part_count ts) numeral ≡ true
    shapely_here = rw had.count_is at shapely

    together : gathered h place ts ≡ collected place (numbers_of h ts) ts
    together = rw shapely_here at (gathered_is place h ts numeral few numeral_is)

    pub faulty_says : is_some g.fault ≡ true → TermSays (gathered h place ts) record { numeric = false; numbers = no_numbers; fault = g.fault }
    unfolding collected_fit
    faulty_says e =
        let some_fault = some_lowest (faults_in ts) (rw had.fault_is at e) in
        let faults : collecting place (numbers_of h ts) (faults_in ts) ≡ faults_in ts = collecting_some place (numbers_of h ts) (faults_in ts) some_fault in
        rw together record {
          is_numeral = refl;
          fault_is = had.fault_is ∙ ap (λ (l : List ℕ). spot_of (lowest_of l)) (sym faults);
          numbers_are = λ f. absurd (some_fault (sym faults ∙ f));
          within_limit = tt;
          numeral_small = λ f. omega arith;
        }

    module _ {r : List ℤ} (sound : is_some g.fault ≡ false) (seven : length g.first.numbers ≡ number_count) (by : NumbersBy (head_code h) g r) where
      faultless : faults_in ts ≡ []
      faultless = none_lowest (faults_in ts) (rw had.fault_is at sound)

      collects : Collects (numbers_of h ts) r
      collects = numbers_agree h ts numeral few had faultless seven shapely_here by

      pub sound_says : collected_fit r ≡ true → TermSays (gathered h place ts) record { numeric = false; numbers = r; fault = spot_of none }
      unfolding collecting lowest_of
      sound_says e =
          let fits : T (collected_fit r) = rw e tt in
          let whole : collected_fit (numbers_of h ts) ≡ true = sym collects.same_fit ∙ e in
          rw (together, faultless, whole) record {
            is_numeral = refl;
            fault_is = refl;
            numbers_are = λ f. collects.same_numbers fits;
            within_limit = fits;
            numeral_small = λ f. never (sym f);
          }

      pub beyond_says : collected_fit r ≡ false → TermSays (gathered h place ts) record { numeric = false; numbers = no_numbers; fault = spot_of (some place) }
      unfolding collecting lowest_of collected_fit
      beyond_says e =
          let whole : collected_fit (numbers_of h ts) ≡ false = sym collects.same_fit ∙ e in
          rw (together, faultless, whole) record {
            is_numeral = refl;
            fault_is = refl;
            numbers_are = λ f. absurd (let z : ◌≡◌ {A = ℕ} 0 1 = cc in omega arith);
            within_limit = tt;
            numeral_small = λ f. omega arith;
          }
