use Rattle.pw_parse_knot.proofs.knot.+parts.Given as goal

abbrev pub decreases-read_expr : goal.decreases-read_expr
decreases-read_expr l = l.depth

abbrev pub decreases-read_specifiers : goal.decreases-read_specifiers
decreases-read_specifiers l = l.depth

abbrev pub decreases-read_declarator : goal.decreases-read_declarator
decreases-read_declarator l = l.depth
