-- The commands of a text from the first on, with nothing laid.
use Prim.Native.Nat.{ℕ, ◌<◌}
use native.Mathlib.Omega.{arith}
use mathlib.Core.Path.{◌≡◌, refl, sym, ap, subst}
use mathlib.Core.List.{List, [], ◌∷◌}
use lib.ListN.{length}
use mathlib.Core.Option.{some}
use Rattle.scope.specs.declared.Refusal.{Refusal}
use Rattle.scope.specs.Refusals.{first_refusal}
use Rattle.smtlib.specs.Formulas.{Clause}
use Rattle.smtlib.specs.Script.{no_script, script_from, script_of}
use Rattle.smtlib.specs.Imported.{conjoined, placed_from, placed_checks}
use Rattle.smtlib.specs.Cases.{script_in}
use Rattle.forms.specs.Following.{text_forms}
use Rattle.laying.specs.declared.Laying.{Laying}
use Rattle.laying.specs.Laid.{Lays, LaysMore, Refuses}
use Rattle.laying.specs.Noted.{empty_laying}
use Rattle.laying.specs.LaidTree.{empty_lays, empty_layable, laid_all, refused_all}
use Rattle.importing.specs.declared.commands.Progress.{Progress}
use Rattle.importing.specs.Underway.{FaultlessText, rest_laid, LaidSoFar}

all_to_lay : (n : ℕ) (cs : List Clause) → 0 < length cs → (later : Laying) → LaysMore (rest_laid 1 cs) (empty_laying n) later → Lays (placed_from 1 (conjoined cs)) later
all_to_lay n [] h later m = absurd (let z : ⊥ = omega (arith, h) in z)
all_to_lay n (c ∷ cs) h later m = laid_all (empty_laying n) later (rest_laid 1 (c ∷ cs)) (empty_lays n) m

all_refused : (n : ℕ) (cs : List Clause) → 0 < length cs → (r : Refusal) → Refuses (rest_laid 1 cs) (empty_laying n) r → first_refusal (placed_checks 0 0 (placed_from 1 (conjoined cs))) ≡ some r
all_refused n [] h r k = absurd (let z : ⊥ = omega (arith, h) in z)
all_refused n (c ∷ cs) h r k = refused_all (empty_laying n) (rest_laid 1 (c ∷ cs)) r (empty_lays n) k

pub commands_begun : (text bounds : List ℕ) (n asserted : ℕ) → FaultlessText text bounds n → asserted ≡ length (script_in text).asserted
    → LaidSoFar text n (record { laying = empty_laying n; count = 0; left = asserted; next = 0 })
unfolding script_of
commands_begun text bounds n asserted t e = record {
  n_is = refl;
  done = λ z. absurd (omega (arith, e, z, t.some_asserted));
  underway = λ l. record {
    so_far = no_script;
    clauses = (script_in text).asserted;
    here = omega arith;
    unbroken = t.whole;
    final_is = ap (script_from no_script) (sym (text_forms text));
    counted = refl;
    clauses_are = refl;
    left_is = e;
    ready = empty_layable n t.few;
    onward = all_to_lay n (script_in text).asserted t.some_asserted;
    refused = all_refused n (script_in text).asserted t.some_asserted;
  };
}

pub same_count : (text : List ℕ) (m n : ℕ) (p : Progress) → m ≡ n → LaidSoFar text m p → LaidSoFar text n p
same_count text m n p e h = subst (λ (k : ℕ). LaidSoFar text k p) e h
