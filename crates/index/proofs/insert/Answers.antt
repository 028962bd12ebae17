-- `index::insert` meets its contract: the two stores are those of `linked`, at the key's bucket.
use native.Mathlib.Omega.{arith}
use lib.ListN.{length-set}
use Rattle.index.proofs.insert.Goals as goal

pub bounds-links-b-2 : goal.bounds-links-b-2
bounds-links-b-2 c = rw length-set (omega (arith, c.bucket-b.ensures.1))

pub returns : goal.returns
returns c = rw c.bucket-b.ensures.0
