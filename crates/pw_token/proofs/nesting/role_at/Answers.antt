use Rattle.pw_token.proofs.nesting.role_at.Goals as goal

pub role_in-requires : goal.role_in-requires
role_in-requires c = c.requires c.args.at _ c.if-at-tokens.true
