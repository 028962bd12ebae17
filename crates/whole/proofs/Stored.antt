-- Elements put in the place of a part are stored one after the other.
use Rattle.std.proofs.Common.{◌≡◌, ℕ, ◌+◌, ◌-◌, ◌≤◌, List, length, sym, append_assoc, arith}
use Rattle.std.proofs.lemmas.List.Edits.{sets, sets-eq}
use borrow.Rule.Slice.PartMut.{put_mid, Post-is}

pub put_part : (l vs : List ℕ) (at end : ℕ) → at + length vs ≡ end → end ≤ length l → put_mid at (end - at) l vs ≡ sets l at vs
put_part l vs at end e h =
    let whole : at + length vs ≤ length l = omega arith in
    rw (Post-is at end l (omega arith), ← e) (rw append_assoc at (sym (sets-eq vs l at whole)))
