use Rattle.pw_check_knot.proofs.knot.+phrases.Given as goal

abbrev pub decreases-check_expr : goal.decreases-check_expr
decreases-check_expr l = l.depth

abbrev pub decreases-check_specifiers : goal.decreases-check_specifiers
decreases-check_specifiers l = l.depth

abbrev pub decreases-check_declarator : goal.decreases-check_declarator
decreases-check_declarator l = l.depth
