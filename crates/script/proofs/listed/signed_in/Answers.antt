-- `script::listed::signed_in` meets its contract. Assumes nothing.
use mathlib.Core.Path.{sym, ◌∙◌}
use mathlib.Core.Bool.{◌&&◌}
use Rattle.script.proofs.Listing.{three_there, sign_parts}
use Rattle.script.proofs.Signing.{signed_by_three, not_signed_by_three}
use Rattle.script.proofs.listed.signed_in.Goals as goal

pub returns-in_default : goal.returns-in_default
returns-in_default c = sign_parts c.parts_at.ensures c.in_default.not-Three _

pub says_word-requires : goal.says_word-requires
says_word-requires c = (three_there _ _ _ c.parts_at.ensures c.in-Three.is).first

pub name_of-requires : goal.name_of-requires
name_of-requires c = ((three_there _ _ _ c.parts_at.ensures c.in-Three.is).second, c.requires.1)

pub returns-then-says_word-is_nought : goal.returns-then-says_word-is_nought
returns-then-says_word-is_nought c =
    let three = three_there _ _ _ c.parts_at.ensures c.in-Three.is in
    rw three.parts (signed_by_three _ _ _ _ _ _ ((λ i. sym c.says_word.ensures i && sym (c.is_nought.ensures _ three.third) i) ∙ c.if-says_word-is_nought.true) c.name_of.ensures)

pub returns : goal.returns
returns c =
    let three = three_there _ _ _ c.parts_at.ensures c.in-Three.is in
    rw three.parts (not_signed_by_three _ _ _ _ ((λ i. sym c.says_word.ensures i && sym (c.is_nought.ensures _ three.third) i) ∙ c.if-says_word-is_nought.false))
