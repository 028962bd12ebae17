-- `terms::sums::within` meets its contract. Assumes nothing.
use Rattle.std.specs.Prelude.{leb, nat_abs}
use Rattle.std.proofs.Common.{rules}
use Rattle.std.proofs.lemmas.Iterator.{YieldsList-from_slice}
use Rattle.std.proofs.lemmas.Iterator.Search.{all_from_yields_List}
use borrow.Author.Tests.{tests}
use Rattle.smtlib.specs.Terms.{most_collected, collected_fit}
use Rattle.terms.proofs.sums.within.Goals as goal

pub returns : goal.returns
unfolding collected_fit
returns c = all_from_yields_List (λ z. leb (nat_abs z) most_collected) _ _ _ c.all.ensures.ran (YieldsList-from_slice c.args.numbers cc) (λ x b q k. search (rules, tests))
