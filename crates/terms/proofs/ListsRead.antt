-- The terms of a list, one after the other, with what is gathered of those read so far. Assumes nothing.
use Prim.Native.Nat.{ℕ, ◌-◌, ◌≤◌, ◌<◌}
use native.Mathlib.Omega.{arith}
use mathlib.Core.Path.{◌≡◌, refl, sym, ap, ◌∙◌}
use mathlib.Core.List.{List, [], ◌∷◌, ◌++◌, append_assoc, append-nil}
use lib.ListN.{length, length-append}
use Rattle.smtlib.specs.Forms.{nothing}
use Rattle.smtlib.specs.Terms.{Term, terms_of}
use Rattle.forms.specs.Places.{forms_at, around, Unbroken}
use Rattle.forms.specs.Read.{ListEnd}
use Rattle.terms.specs.declared.Collected.{Collected}
use Rattle.terms.specs.declared.gather.Gathering.{Gathering}
use Rattle.terms.specs.Seven.{SumFits}
use Rattle.terms.specs.Gathering.{GatheringFits, Gathers}
use Rattle.terms.specs.Read.{TermSays, TermRead}
use Rattle.terms.proofs.Lanes.{high_fits}

pub record Sofar (text : List ℕ) (at depth : ℕ) (names : List (List ℕ)) (g : Gathering) (next : ℕ) : Type 0 where
  pub sofar : List Term
  pub terms : terms_of names (forms_at text at) ≡ sofar ++ terms_of names (forms_at text next)
  pub gathers : Gathers sofar g
  pub fits : GatheringFits g
  pub levels : around text next ≡ around text at
  pub unbroken : Unbroken text next depth
  pub few : length sofar ≤ next
  pub onward : (at ≤ next) × (next ≤ length text)

pub sofar_none : {text : List ℕ} {at depth : ℕ} (names : List (List ℕ)) {g : Gathering} → at ≤ length text → Unbroken text at depth → GatheringFits g → Gathers [] g → Sofar text at depth names g at
sofar_none names h u f g = record {
  sofar = [];
  terms = refl;
  gathers = g;
  fits = f;
  levels = refl;
  unbroken = u;
  few = omega arith;
  onward = (omega arith, h);
}

module _ {text : List ℕ} {at depth : ℕ} {names : List (List ℕ)} {g : Gathering} {next : ℕ} (s : Sofar text at depth names g next) where
  pub sofar_next : {part : Collected} {behind : ℕ} {r : Gathering} → TermRead text next depth names part behind → next < behind → behind ≤ length text → GatheringFits r
      → ((ts : List Term) (t : Term) → Gathers ts g → TermSays t part → Gathers (ts ++ (t ∷ [])) r) → Sofar text at depth names r behind
  sofar_next {behind = behind} read onward inside fits more = record {
    sofar = s.sofar ++ (read.term ∷ []);
    terms =
        s.terms ∙ ap (λ (l : List Term). s.sofar ++ l) read.terms
        ∙ sym (append_assoc s.sofar (read.term ∷ []) (terms_of names (forms_at text behind)));
    gathers = more s.sofar read.term s.gathers read.says;
    fits = fits;
    levels = read.levels ∙ s.levels;
    unbroken = read.unbroken;
    few = rw (length-append s.sofar (read.term ∷ [])) (omega (arith, s.few));
    onward = (omega (arith, s.onward.0), inside);
  }

  pub sofar_sum : length text < 9223372036854775808 → SumFits g.sum.low g.sum.high
  sofar_sum h = record {
    lanes = λ i b. record {
      low_small = s.fits.lows.lanes i b;
      high_small = high_fits _ _ (length s.sofar) (s.fits.lows.lanes i b) (s.gathers.sum_small i b) (omega (arith, s.few, s.onward.1));
    };
  }

  -- at the list's end these are all of them
  pub sofar_all : forms_at text next ≡ nothing → terms_of names (forms_at text at) ≡ s.sofar
  unfolding terms_of
  sofar_all e = s.terms ∙ ap (λ k. s.sofar ++ terms_of names k) e ∙ append-nil s.sofar

  pub sofar_end : {end : ℕ} → ListEnd text next (depth - 1) end → ListEnd text at (depth - 1) end
  sofar_end e = record { levels = e.levels ∙ s.levels; unbroken = e.unbroken }
