-- `laying::nodes::deepen` meets its contract.
use Rattle.laying.proofs.OneNode.{one_deeper}
use Rattle.laying.proofs.nodes.deepen.Goals as goal

pub returns : goal.returns
returns c = rw c.at_depth.ensures (one_deeper c.args.laying.now _ _ c.requires.0 (rw c.in_ok-lay_connective.was at c.lay_connective.ensures.laid))
