-- `terms::words::numeral_term` meets its contract. Assumes nothing.
use Rattle.terms.proofs.WordTerms.{numeral_within, numeral_beyond}
use Rattle.terms.proofs.words.numeral_term.Goals as goal

pub returns-then-value-le-MOST_NUMERAL : goal.returns-then-value-le-MOST_NUMERAL
returns-then-value-le-MOST_NUMERAL c names v e =
    rw (c.of.ensures, c.constant.ensures) (numeral_within names c.args.place c.args.value v e c.if-value-le-MOST_NUMERAL.true)

pub returns : goal.returns
returns c names v e =
    rw c.faulty.ensures (numeral_beyond names c.args.place c.args.value v e c.if-value-le-MOST_NUMERAL.false)
