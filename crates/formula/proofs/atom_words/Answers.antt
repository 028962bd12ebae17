-- `formula::atom_words` meets its contract: the table of Words has each atom's.
use Rattle.std.proofs.Common.{arith, ◌≡◌}
use Rattle.formula.proofs.Words.{atom_words}
use Rattle.formula.proofs.atom_words.Goals as goal

pub returns-in-0 : goal.returns-in-0
returns-in-0 c = rw c.in-0.is (atom_words 0 (omega arith))

pub returns-in-1 : goal.returns-in-1
returns-in-1 c = rw c.in-1.is (atom_words 1 (omega arith))

pub returns-in-2 : goal.returns-in-2
returns-in-2 c = rw c.in-2.is (atom_words 2 (omega arith))

pub returns-in-3 : goal.returns-in-3
returns-in-3 c = rw c.in-3.is (atom_words 3 (omega arith))

pub returns-in-4 : goal.returns-in-4
returns-in-4 c = rw c.in-4.is (atom_words 4 (omega arith))

pub returns-in-5 : goal.returns-in-5
returns-in-5 c = rw c.in-5.is (atom_words 5 (omega arith))

pub returns-in-6 : goal.returns-in-6
returns-in-6 c = rw c.in-6.is (atom_words 6 (omega arith))

pub returns-in_default : goal.returns-in_default
returns-in_default c =
    let e : c.args.atom ≡ 7 = omega (arith, c.in_default, c.requires) in
    rw e (atom_words 7 (omega arith))
