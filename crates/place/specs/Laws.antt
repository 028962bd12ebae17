-- A bare step refuses only by 1, at the record, and the place then stays; else it moves past the record, within the bytes, and its body is all there.
use Rattle.std.specs.Prelude.{ℕ, ◌+◌, ◌≤◌, ◌<◌, ◌≡◌, List, Ok, Err}
use native.Mathlib.Omega.{arith}
use Rattle.std.proofs.Math.Decide.{dec_lt}
use Rattle.std.proofs.Math.Logic.{by_cases}
use borrow.Author.Tests.{le-leb, lt-leb}
use Rattle.std.proofs.Math.ListN.{length}
use Rattle.scope.specs.declared.Rule.{Rule}
use Rattle.scope.specs.Refusals.{refusal, first_refusal}
use Rattle.scope.specs.Wire.{length_at, kind_at, record_at}
use Rattle.place.specs.Steps.{moved_to, start_by, len_by}

module _ (b : List ℕ) (at : ℕ) where
  -- where the record ends, by its own length
  abbrev end : ℕ
  end = at + 4 + length_at b at

  pub whole : end ≤ length b → record_at b at ≡ Ok (record { kind = kind_at b at; start = at + 4; len = length_at b at; next = end })
  unfolding record_at first_refusal
  whole k = let h : at + 4 ≤ length b = omega arith in simp (le-leb _ _ h, le-leb _ _ k)

  pub short : length b < end → record_at b at ≡ Err (refusal Rule.BytesEnd at)
  unfolding record_at first_refusal
  short k =
      by_cases (dec_lt (length b) (at + 4)) (λ h. simp (lt-leb _ _ h))
      (λ h. let g : at + 4 ≤ length b = omega arith in simp (le-leb _ _ g, lt-leb _ _ k))

  pub whole_moves : end ≤ length b → moved_to b at ≡ end
  whole_moves k = rw (whole k)

  pub short_stays : length b < end → moved_to b at ≡ at
  short_stays k = rw (short k)

  -- the body's stretch is within the bytes
  pub within : start_by (record_at b at) + len_by (record_at b at) ≤ length b
  within = by_cases (dec_lt (length b) end) (λ k. rw (short k) (omega arith)) (λ k. let w : end ≤ length b = omega arith in rw (whole w) w)
