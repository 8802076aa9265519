use Rattle.pw_check_rules.specs.Phrases.{core_rule}
use Rattle.pw_check_declarator.proofs.declarators.core_of.Goals as goal

pub returns-in-Paren : goal.returns-in-Paren
unfolding core_rule
returns-in-Paren g c = rw (c.in-Paren.is, c.declarators_show_their_lists.ensures.enclosed c.in-Paren.token c.in-Paren.inner) (rw c.deref.ensures at c.declarator.ensures)
