-- `index::find` meets its contract. The invariant: the link is to a row of the key's bucket, and no row after it has the key's cells.
-- The measure is the number after the link's row.
use mathlib.Core.Path.{◌≡◌, sym, ap, ◌∙◌}
use Prim.Native.Nat.{ℕ, ◌<◌}
use native.Mathlib.Omega.{arith}
use lib.ListN.{take}
use Rattle.index.specs.Rows.{row_at, row_end}
use Rattle.index.specs.Hash.{bucket_of}
use Rattle.index.specs.Chains.{buckets, walk_start, walk_step, walk_less}
use Rattle.index.specs.Index.{bucket_at}
use Rattle.index.specs.Laws.{key_bucket}
use Rattle.index.proofs.find.Goals as goal
use Rattle.index.proofs.find.Goals.{After-bucket-b, After-from-row}

-- in a turn the link is to a row below count
below : (c : goal.After-from-row) → c.from-row.result < c.args.count
below c = omega (arith, c.from-row.ensures)

-- a row with the key's cells is in the key's bucket
there : (c : goal.After-bucket-b) → (s : ℕ) → s < c.args.count → row_at c.args.keys.now c.args.width s ≡ take c.args.width c.args.key.now
    → bucket_at c.args.keys.now c.args.width (buckets c.args.links.now) s ≡ c.bucket-b.result
there c s h q =
    ap (bucket_of _) q ∙ sym (key_bucket _ c.args.width c.requires.key) ∙ sym c.bucket-b.ensures.0

pub loop-link-init : goal.loop-link-init
loop-link-init c =
    walk_start _ _ c.requires.indexed.chained (there (goal.at.loop-link-init c).After-bucket-b) c.bucket-b.ensures.1

pub same_row-requires : goal.same_row-requires
same_row-requires c = (
  c.requires.indexed.sized.narrow,
  c.requires.key.eight,
  omega (arith, c.requires.indexed.sized.cells, row_end c.from-row.result c.args.count c.args.width (below c)),
)

pub returns-then-same_row : goal.returns-then-same_row
returns-then-same_row c =
    let l = below (goal.at.returns-then-same_row c).After-from-row in
    record { says = (l, rw c.if-same_row.true at c.same_row.ensures) }

pub loop-link-smaller : goal.loop-link-smaller
loop-link-smaller c =
    rw c.from-row.ensures (walk_less _ _ c.requires.indexed.chained (there (goal.at.loop-link-smaller c).After-bucket-b) c.loop-link.invariant c.loop-link-test.true)

pub loop-link-preserved : goal.loop-link-preserved
loop-link-preserved c =
    rw c.from-row.ensures (walk_step _ _ c.requires.indexed.chained (there (goal.at.loop-link-preserved c).After-bucket-b) c.loop-link.invariant c.loop-link-test.true
    (rw (c.from-row.ensures, c.if-same_row.false) at c.same_row.ensures))

pub returns : goal.returns
returns c = record { says = λ s l q. c.loop-link.invariant.none s (omega arith) l q }
