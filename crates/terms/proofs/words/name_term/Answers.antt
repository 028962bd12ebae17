-- `terms::words::name_term` meets its contract. Assumes nothing.
use Rattle.lexicon.specs.Spots.{stretch}
use Rattle.terms.specs.Names.{names_in}
use Rattle.terms.proofs.WordTerms.{name_found, name_missing}
use Rattle.terms.proofs.words.name_term.Goals as goal

pub returns-in-Some : goal.returns-in-Some
returns-in-Some c =
    rw (c.of.ensures, c.one_of.ensures)
    (name_found (names_in c.args.text.now c.args.names.now c.args.count) (stretch c.args.text.now c.args.from c.args.to) c.args.place _
    (rw c.in-Some.is at c.name_index.ensures).1)

pub returns-in-None : goal.returns-in-None
returns-in-None c =
    rw c.outside.ensures
    (name_missing (names_in c.args.text.now c.args.names.now c.args.count) (stretch c.args.text.now c.args.from c.args.to) c.args.place
    (rw c.in-None.is at c.name_index.ensures))
