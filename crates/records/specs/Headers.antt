-- The header of a record by whether it is there.
use Rattle.std.specs.Prelude.{ℕ, Bool, true, false, List, Option, Some, None}
use Rattle.scope.specs.Wire.{kind_at, length_at, header_there}
use Rattle.records.specs.declared.headers.Header.{Header}

abbrev pub header_or : Bool → List ℕ → ℕ → Option Header
header_or true b at = Some (record { kind = kind_at b at; len = length_at b at })
header_or false b at = None

abbrev pub header_at : List ℕ → ℕ → Option Header
header_at b at = header_or (header_there b at) b at
