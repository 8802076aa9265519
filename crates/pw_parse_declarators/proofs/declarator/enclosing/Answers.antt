use Rattle.pw_parse_declarators.proofs.declarator.enclosing.Goals as goal

pub returns : goal.returns
returns c = c.declarators_show_their_lists.ensures.enclosed c.args.token c.args.inner
