-- A record's body as a stretch of the caller's bytes.
use Rattle.std.specs.Prelude.{ℕ, ◌+◌, ◌≤◌, ◌≡◌, Bool, cond, List, length, take, drop, leb}
use Rattle.std.specs.Borrow.{Bor}
use Rattle.std.proofs.Common.{le-leb}

-- a stretch of the caller's own bytes, uncopied: it lies in them, start bytes on, and holds len of them
pub record StretchOf (bytes : Bor (List ℕ)) (start len : ℕ) (stretch : Bor (List ℕ)) : Type 0 where
  pub lies : stretch.ref_ptr ≡ (bytes.ref_ptr.0, bytes.ref_ptr.1 + start)
  pub holds : stretch.now ≡ take len (drop start bytes.now)

abbrev pub body_fits : List ℕ → ℕ → ℕ → Bool
body_fits b start len = leb (start + len) (length b)

-- the len bytes from start on; where they do not fit, none, at the first byte
abbrev pub BodyOf : Bor (List ℕ) → ℕ → ℕ → Bor (List ℕ) → Type 0
BodyOf bytes start len body = StretchOf bytes (cond (body_fits bytes.now start len) start 0) (cond (body_fits bytes.now start len) len 0) body

pub body_there_lem : (bytes : Bor (List ℕ)) (start len : ℕ) (body : Bor (List ℕ)) → start + len ≤ length bytes.now → BodyOf bytes start len body → StretchOf bytes start len body
body_there_lem bytes start len body fits b = rw (le-leb _ _ fits) at b
