-- Four cells compared with a key's first four by one Boolean.
use mathlib.Core.Path.{◌≡◌, refl, ap}
use mathlib.Core.Bool.{Bool, true, false, not, ◌||◌}
use mathlib.Core.List.{List}
use Prim.Native.Nat.{ℕ, zero, suc, ◌+◌, ◌<◌}
use native.Mathlib.Nat.{add-zero}
use native.Mathlib.Omega.{arith}
use borrow.Author.Tests.{eqb-true, eqb-false, not-true, not-false}
use lib.Dec.{eqb, lit<}
use lib.ListN.{get_or}
use lib.IntN.{ℤ, pos}
use lib.Signed.{mag}
use mir.Syntax.{w32}
use mir.Val.{of_z}
use Rattle.theory.specs.Numbers.Bits.{same_bits}
use Rattle.index.specs.Index.{Says, CellsAgree}

abbrev differ : ℤ → ℤ → Bool
differ a b = not (eqb (of_z w32 a) (of_z w32 b))

-- what the test of two cells says
record Tells (a b : ℤ) (t : Bool) : Type 0 where
  same : t ≡ false → a ≡ b
  other : t ≡ true → a ≡ b → ⊥

tells : (a b : ℤ) → mag a < 2147483648 → mag b < 2147483648 → Tells a b (differ a b)
tells a b ha hb = record {
  same = λ e. same_bits w32 a b (record { sfits = ha }) (record { sfits = hb }) (eqb-true (of_z w32 a) (of_z w32 b) (not-false _ e));
  other = λ e q. eqb-false (of_z w32 a) (of_z w32 b) (not-true _ e) (ap (of_z w32) q);
}

module _ (keys : List ℤ) (base : ℕ) (key : List ℤ) where
  abbrev here : ℕ → ℤ
  here i = get_or keys (base + i) (pos 0)

  abbrev there : ℕ → ℤ
  there i = get_or key i (pos 0)

  go : (a b c d : Bool) → Tells (here 0) (there 0) a → Tells (here 1) (there 1) b → Tells (here 2) (there 2) c → Tells (here 3) (there 3) d
      → Says (not (((a || b) || c) || d)) (CellsAgree keys base key 4)
  go true b c d s t u v = λ agree. s.other refl (agree 0 (lit< tt))
  go false true c d s t u v = λ agree. t.other refl (agree 1 (lit< tt))
  go false false true d s t u v = λ agree. u.other refl (agree 2 (lit< tt))
  go false false false true s t u v = λ agree. v.other refl (agree 3 (lit< tt))
  go false false false false s t u v = all
    where
      all : (i : ℕ) → i < 4 → here i ≡ there i
      all zero h = s.same refl
      all (suc zero) h = t.same refl
      all (suc (suc zero)) h = u.same refl
      all (suc (suc (suc zero))) h = v.same refl
      all (suc (suc (suc (suc i)))) h = absurd (omega arith)

  abbrev first : ℤ
  first = get_or keys base (pos 0)

  pub four_agree : mag first < 2147483648 → mag (there 0) < 2147483648 → mag (here 1) < 2147483648 → mag (there 1) < 2147483648
      → mag (here 2) < 2147483648 → mag (there 2) < 2147483648 → mag (here 3) < 2147483648 → mag (there 3) < 2147483648
      → Says (not (((differ first (there 0) || differ (here 1) (there 1)) || differ (here 2) (there 2)) || differ (here 3) (there 3))) (CellsAgree keys base key 4)
  four_agree a b c d e f g h =
      let t : Tells (here 0) (there 0) (differ first (there 0)) = rw (add-zero base) (tells first (there 0) a b) in
      go _ _ _ _ t (tells _ _ c d) (tells _ _ e f) (tells _ _ g h)
