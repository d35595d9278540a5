use Rattle.convert.proofs.rule.+rule.Given as goal

-- a share fewer each time
abbrev pub decreases-rule : goal.decreases-rule
decreases-rule l = l.s
