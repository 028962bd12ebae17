-- `formula::denied` meets its contract: word by word.
use Rattle.std.proofs.Common.{rules}
use Rattle.formula.proofs.Words.{denied_words}
use Rattle.formula.proofs.denied.Goals as goal

pub returns : goal.returns
returns c =
    denied_words c.args.x (λ i. search rules) c.map.ensures.items.long
    (λ i l.
    let h = (c.map.ensures.items.at i 0 0 l).2.met in
    search rules)
