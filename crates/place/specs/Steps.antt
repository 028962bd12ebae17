-- Document 01, on a place in a question: what a bare step makes of it, in terms of scope's answer at the record.
use Rattle.std.specs.Prelude.{ℕ, ◌≡◌, List, Ok, Err, Result}
use Rattle.scope.specs.declared.Refusal.{Refusal}
use Rattle.scope.specs.declared.Record.{Record}
use Rattle.scope.specs.Wire.{record_at}
use Rattle.records.specs.Bodies.{StretchOf}
use Rattle.place.specs.declared.Place.{Place}
use Rattle.place.specs.declared.Step.{Step}

-- past the record; refused, the place stays
abbrev pub moved_by : Result Record Refusal → ℕ → ℕ
moved_by (Ok r) at = r.next
moved_by (Err r) at = at

abbrev pub moved_to : List ℕ → ℕ → ℕ
moved_to b at = moved_by (record_at b at) at

-- where the body starts, and how long it is; refused, no bytes, at the start
abbrev pub start_by : Result Record Refusal → ℕ
start_by (Ok r) = r.start
start_by (Err r) = 0

abbrev pub len_by : Result Record Refusal → ℕ
len_by (Ok r) = r.len
len_by (Err r) = 0

-- what a step from a place gives
pub record PlaceStepped (p : Place) (s : Step) : Type 0 where
  pub same_bytes : s.place.bytes ≡ p.bytes
  pub moved : s.place.at ≡ moved_to p.bytes.now p.at
  pub answered : s.answer ≡ record_at p.bytes.now p.at
  pub handed : StretchOf p.bytes (start_by (record_at p.bytes.now p.at)) (len_by (record_at p.bytes.now p.at)) s.body
