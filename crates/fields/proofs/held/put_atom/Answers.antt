-- `fields::held::put_atom` meets its contract: what is still to be put leads to the whole body.
use borrow.Author.Rules.{rules}
use native.Mathlib.Omega.{arith}
use mathlib.Core.Path.{◌≡◌, ap, ◌∙◌}
use Prim.Native.Nat.{◌+◌, ◌*◌}
use lib.IntN.{pos}
use lib.ListN.{length, get_or}
use lib.Seq.{sets}
use mir.Syntax.{w32}
use mir.Val.{to_z, of_z}
use mir.ValLaws.{to_z-of_z}
use Rattle.scope.specs.Sizes.{most_variables, most_atoms}
use Rattle.fields.proofs.Stores.{put_again, put_last, atom_bytes}
use Rattle.fields.proofs.held.put_atom.Goals as goal

pub loop-j-preserved : goal.loop-j-preserved
loop-j-preserved c =
    let z = get_or c.args.question.now.coefficients (most_variables * c.args.atom + c.loop-j.j) (pos 0) in
    put_again c.loop-j.invariant c.put_number.new.bytes
    (to_z w32 (of_z w32 z)) (to_z-of_z w32 z (record { sfits = search rules })) (omega arith)
    (let f : length c.args.question.now.coefficients ≡ most_variables * most_atoms = search rules in omega (arith, c.requires.0.variables, c.requires.0.few, c.from-n.ensures)) c.put_number.auto.bytes c.put_number.ensures

pub returns : goal.returns
returns c =
    let z = get_or c.args.question.now.constants c.args.atom (pos 0) in
    put_last c.loop-j.invariant c.put_number-2.new.bytes
    (to_z w32 (of_z w32 z)) (to_z-of_z w32 z (record { sfits = search rules })) (omega arith) c.put_number-2.ensures
    ∙ ap (sets c.args.bytes.now c.args.at) (atom_bytes c.args.question.now c.args.atom _ c.from-n.ensures)
