-- `laying::lay_sides` meets its contract.
use Prim.Native.Nat.{◌-◌}
use Rattle.std.proofs.lemmas.Result.{err_from_is_err_and}
use Rattle.smtlib.specs.Lexicon.{most_nesting}
use Rattle.terms.specs.Names.{names_in}
use Rattle.terms.specs.Heads.{word_code}
use Rattle.laying.proofs.LaidLists.{sides_small, sides_laid, sides_refused}
use Rattle.laying.proofs.lay_sides.Goals as goal

pub lay_atom-requires : goal.lay_atom-requires
lay_atom-requires c =
    let pre = c.requires.1.1 in
    (pre.0, (pre.1.0, (pre.1.1, sides_small _ _ _ _ _ _ _ pre.1.0 pre.1.1 c.terms_from-sides.ensures.read)))

pub returns-clause-laid : goal.returns-clause-laid
returns-clause-laid c =
    let pre = c.requires.1.1.1 in
    sides_laid c.args.text.now c.args.at (most_nesting - c.args.nesting) (names_in c.args.text.now c.args.names.now c.args.count) (word_code c.args.head) c.args.place c.args.laying.now _ pre.0 pre.1 c.terms_from-sides.ensures.read _ (rw c.in_ok-lay_atom.was at c.lay_atom.ensures.laid)

pub returns-in_err-lay_atom-clause-laid : goal.returns-in_err-lay_atom-clause-laid
returns-in_err-lay_atom-clause-laid c =
    let pre = c.requires.1.1.1 in
    let p = err_from_is_err_and c.from_residual.result c.from_residual.ensures.1 in
    rw (p.1, p.2) (sides_refused c.args.text.now c.args.at (most_nesting - c.args.nesting) (names_in c.args.text.now c.args.names.now c.args.count) (word_code c.args.head) c.args.place c.args.laying.now _ pre.0 pre.1 c.terms_from-sides.ensures.read _ (rw c.in_err-lay_atom.was at c.lay_atom.ensures.laid))
