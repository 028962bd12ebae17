-- `script::missing::unsigned_place` meets its contract. The invariant: the spot is that of the names looked at, whatever their spelling. Assumes nothing.
use Prim.Native.Nat.{ℕ}
use native.Mathlib.Numerals.{add-one}
use native.Mathlib.Omega.{arith}
use mathlib.Core.Path.{◌≡◌, refl, sym, ap, ◌∙◌}
use mathlib.Core.List.{List}
use lib.ListN.{get_or}
use Rattle.smtlib.specs.Script.{unless, Declaration, unsigned, lowest_of}
use Rattle.lexicon.specs.Spots.{spot_of}
use Rattle.terms.specs.Names.{name_at}
use Rattle.script.specs.Kept.{declaration_at, declarations_from}
use Rattle.script.specs.Declarations.{unsigned_more}
use Rattle.script.specs.Faults.{UnsignedPlace}
use Rattle.script.proofs.Keeping.{lower_more}
use Rattle.script.proofs.missing.unsigned_place.Invariants.{declared_by}
use Rattle.script.proofs.missing.unsigned_place.Goals as goal

pub loop-i-init : goal.loop-i-init
unfolding declarations_from unsigned lowest_of
loop-i-init c = λ names tokens. refl

pub loop-i-preserved : goal.loop-i-preserved
loop-i-preserved c =
    let a = c.args.kept in
    λ names tokens.
    let d : ℕ → Declaration = λ j. declared_by names tokens a.places a.signed j in
    lower_more _ _ _ (unsigned (declarations_from d 0 c.loop-i.i)) (unless (d c.loop-i.i).signed (d c.loop-i.i).place) c.lower-spot.ensures (c.loop-i.invariant names tokens) c.unless.ensures
    ∙ ap (λ (p : List ℕ). spot_of (lowest_of p)) (sym (unsigned_more d c.loop-i.i) ∙ ap (λ (n : ℕ). unsigned (declarations_from d 0 n)) (sym (add-one c.loop-i.i)))

pub returns : goal.returns
unfolding UnsignedPlace
returns c text =
    let a = c.args.kept in
    let e : c.loop-i.i ≡ a.count = omega arith in
    c.loop-i.invariant (λ j. name_at text a.bounds j) (λ j. get_or a.tokens j 0) ∙ ap (λ (n : ℕ). spot_of (lowest_of (unsigned (declarations_from (λ j. declaration_at text a j) 0 n)))) e
