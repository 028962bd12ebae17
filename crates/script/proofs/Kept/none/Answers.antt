-- `script::Kept::none` meets its contract. Assumes nothing.
use native.Mathlib.Omega.{arith}
use mathlib.Core.Path.{refl}
use Rattle.smtlib.specs.Script.{lowest_of}
use Rattle.script.specs.Kept.{declarations_from}
use Rattle.script.proofs.Kept.none.Goals as goal

pub returns : goal.returns
unfolding declarations_from lowest_of
returns c text = record {
  whole = record { bounds_length = refl; places_length = refl; tokens_length = refl; signed_length = refl };
  phase_is = refl;
  declarations_are = refl;
  names_stand = record { room = omega arith; at_most_seven = omega arith; spans = λ i h. absurd (let z : ⊥ = omega arith in z) };
  spelt_from = λ i h. absurd (let z : ⊥ = omega arith in z);
  no_name_twice = tt;
  asserted_are = refl;
  outside_is = refl;
  beyond_is = refl;
}
