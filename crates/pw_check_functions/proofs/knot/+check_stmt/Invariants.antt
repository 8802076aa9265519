use Rattle.pw_check_functions.proofs.knot.+check_stmt.Given as goal

abbrev pub decreases-check_stmt : goal.decreases-check_stmt
decreases-check_stmt l = l.depth
