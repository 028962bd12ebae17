use Rattle.formula.proofs.+settle.Given as goal

-- proposed from what the function passes where it calls itself
abbrev pub decreases-settle : goal.decreases-settle
decreases-settle l = l.depth
