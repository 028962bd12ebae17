-- Places and stretches of the text, as the code has them.
use Rattle.std.specs.Prelude.{ℕ, ◌-◌, ◌≡◌, refl, Some, None, List, take, drop}
use Rattle.std.proofs.Common.{sym, ap}
use Rattle.std.proofs.lemmas.Option.{none-some, same_Some}
use Rattle.std.proofs.Math.Option.{Option, none, some}

abbrev pub Position : Type 0
Position = Rattle.std.specs.Prelude.Option ℕ

abbrev pub spot_of : Option ℕ → Position
spot_of none = None
spot_of (some at) = Some at

pub spot_none : (x : Option ℕ) → None ≡ spot_of x → x ≡ none
spot_none none e = refl
spot_none (some at) e = absurd (none-some at e)

pub spot_some : (x : Option ℕ) (p : ℕ) → Some p ≡ spot_of x → x ≡ some p
spot_some none p e = absurd (none-some p (sym e))
spot_some (some at) p e = ap some (same_Some at p (sym e))

-- the bytes from a place up to another
abbrev pub stretch : List ℕ → ℕ → ℕ → List ℕ
stretch text from to = take (to - from) (drop from text)
