-- What is opened where a symbol is read as a head.
use Rattle.smtlib.specs.Spelling.{same}
use Rattle.smtlib.specs.Terms.{head_named}

unfoldable pub heads : Unit {0}
unfolding head_named same
heads = tt
