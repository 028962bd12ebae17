-- `terms::gather::product` meets its contract. Assumes nothing.
use mathlib.Core.Path.{◌≡◌}
use mathlib.Core.Bool.{true}
use mir.Syntax.{w64}
use mir.ValLaws.{to_z-of_z}
use borrow.Author.Rules.{rules}
use Rattle.terms.specs.Seven.{lane}
use Rattle.terms.specs.Gathered.{product_with}
use Rattle.terms.proofs.gather.product.Goals as goal

pub multiple-requires : goal.multiple-requires
multiple-requires c =
    rw (to_z-of_z w64 (lane c.args.first.numbers 0) (record { sfits = search rules }))
    (c.requires.0.numeral_small c.if-first.true, c.requires.1.0.within_limit)

pub returns-then-first : goal.returns-then-first
unfolding product_with
returns-then-first c =
    rw c.if-first.true (rw (to_z-of_z w64 (lane c.args.first.numbers 0) (record { sfits = search rules })) at c.multiple.ensures)

pub multiple-requires-2 : goal.multiple-requires-2
multiple-requires-2 c =
    let n : c.args.second.numeric ≡ true = rw c.if-first.false at c.requires.1.1 in
    rw (to_z-of_z w64 (lane c.args.second.numbers 0) (record { sfits = search rules })) (c.requires.1.0.numeral_small n, c.requires.0.within_limit)

pub returns : goal.returns
unfolding product_with
returns c =
    rw c.if-first.false (rw (to_z-of_z w64 (lane c.args.second.numbers 0) (record { sfits = search rules })) at c.multiple-2.ensures)
