use Rattle.pw_parse.proofs.init.+init.Given as goal

abbrev pub decreases-init : goal.decreases-init
decreases-init l = l.depth
