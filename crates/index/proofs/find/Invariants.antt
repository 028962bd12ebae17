use mathlib.Core.Path.{◌≡◌}
use lib.ListN.{take}
use Rattle.index.specs.Rows.{row_at}
use Rattle.index.specs.Chains.{buckets, Latest, link_after}
use Rattle.index.specs.Index.{bucket_at}
use Rattle.index.proofs.find.Given as goal

abbrev pub invariant-loop-link : goal.invariant-loop-link
invariant-loop-link l =
    Latest (λ s. bucket_at l.keys l.width (buckets l.links) s ≡ l.b) (λ s. row_at l.keys l.width s ≡ take l.width l.key) l.count l.link

abbrev pub decreases-loop-link : goal.decreases-loop-link
decreases-loop-link l = link_after l.link
