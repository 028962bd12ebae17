-- `step::is_odd` meets its contract: the difference fits. Assumes nothing.
use lib.Dec.{lit<}
use lib.IntN.{◌-ℤ◌}
use mir.ValLaws.{to_z-of_z}
use Rattle.step.proofs.Signed.{Sizes, sizes, odd_test}
use Rattle.step.proofs.is_odd.Reads as reads
use Rattle.step.proofs.is_odd.Lts as lts
use Rattle.step.proofs.is_odd.Goals as goal

at_start : (c : lts.Start reads.Pre reads.Post) → Sizes c.args.cell c.args.sum
at_start c = sizes c.args.cell c.args.sum c.requires.0 c.requires.1

pub overflow_sub-result : goal.overflow_sub-result
overflow_sub-result c = let z = at_start c in simp (to_z-of_z, z.entry, z.sum) z.difference

pub nonzero_rem-result : goal.nonzero_rem-result
nonzero_rem-result c = let z = at_start c in (lit< tt, simp (to_z-of_z, z.entry, z.sum, z.difference) z.quotient)

pub returns : goal.returns
returns c = let z = at_start c in simp (to_z-of_z, z.entry, z.sum, z.difference) (odd_test (c.args.cell -ℤ c.args.sum))
