-- What a header says of the bytes, and a record step by what was found.
use mathlib.Core.Path.{◌≡◌, refl, sym, ap}
use mathlib.Core.Bool.{Bool, true, false}
use mathlib.Core.List.{List}
use Prim.Native.Nat.{ℕ, ◌+◌, ◌<◌, ◌≤◌}
use native.Mathlib.Omega.{arith}
use borrow.Author.Tests.{le-leb, lt-leb, leb-true, leb-false}
use lib.ListN.{length}
use Rattle.scope.specs.declared.Rule.{Rule}
use Rattle.scope.specs.Refusals.{refusal, first_refusal}
use Rattle.scope.specs.Wire.{length_at, kind_at, header_there, record_at}
use Rattle.records.specs.Headers.{header_or, header_at}
use Rattle.records.specs.declared.headers.Header.{Header}
use Rattle.std.specs.Prelude.{Some, None, Ok, Err}

module _ (b : List ℕ) (at : ℕ) where
  pub record HeaderFound (h : Header) : Type 0 where
    pub there : at + 4 ≤ length b
    pub kind_is : h.kind ≡ kind_at b at
    pub len_is : h.len ≡ length_at b at

  found_by : (t : Bool) (g : Header) → header_there b at ≡ t → header_or t b at ≡ Some g → HeaderFound g
  found_by true g h e = let s : record { kind = kind_at b at; len = length_at b at } ≡ g = cc in record { there = leb-true (at + 4) (length b) h; kind_is = ap (λ (x : Header). x.kind) (sym s); len_is = ap (λ (x : Header). x.len) (sym s) }
  found_by false g h e = let z : ◌≡◌ {A = ℕ} 0 1 = cc in absurd (omega arith)

  pub header_found : (g : Header) → header_at b at ≡ Some g → HeaderFound g
  header_found g e = found_by (header_there b at) g refl e

  cut_by : (t : Bool) → header_there b at ≡ t → header_or t b at ≡ None → length b < at + 4
  cut_by true h e = let z : ◌≡◌ {A = ℕ} 0 1 = cc in absurd (omega arith)
  cut_by false h e = leb-false (at + 4) (length b) h

  pub cut : header_at b at ≡ None → length b < at + 4
  cut e = cut_by (header_there b at) refl e

  -- the cases of a record step
  pub step_short : length b < at + 4 → Err (refusal Rule.BytesEnd at) ≡ record_at b at
  unfolding record_at first_refusal
  step_short h = simp (lt-leb _ _ h)

  pub step_cut : at + 4 ≤ length b → length b < at + 4 + length_at b at → Err (refusal Rule.BytesEnd at) ≡ record_at b at
  unfolding record_at first_refusal
  step_cut h k = simp (le-leb _ _ h, lt-leb _ _ k)

  pub step_whole : at + 4 + length_at b at ≤ length b
      → Ok (record { kind = (kind_at b at); start = (at + 4); len = (length_at b at); next = (at + 4 + length_at b at) }) ≡ record_at b at
  unfolding record_at first_refusal
  step_whole k = let h : at + 4 ≤ length b = omega arith in simp (le-leb _ _ h, le-leb _ _ k)
