use Rattle.pw_link_rules.proofs.Unknown.{known_by}
use Rattle.pw_link_rules.proofs.undefined.is_known.Goals as goal

pub returns-then-is_ordinary : goal.returns-then-is_ordinary
returns-then-is_ordinary c = known_by c.args.defined.now c.args.name.now c.find_name.result c.is_some.result c.is_some.ensures c.find_name.ensures.found c.find_name.ensures.none (c.is_ordinary.ensures.0 c.if-is_ordinary.true)
