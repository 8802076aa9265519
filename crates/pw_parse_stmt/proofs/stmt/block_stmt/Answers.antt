use Rattle.pw_parse_stmt.proofs.stmt.block_stmt.Goals as goal

pub returns : goal.returns
returns c = c.statements_show_their_lists.ensures.compound c.args.block
