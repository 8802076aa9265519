use Rattle.pw_parse.proofs.stmt.+stmt.Given as goal

abbrev pub decreases-stmt : goal.decreases-stmt
decreases-stmt l = l.depth
