use Rattle.pw_webs.proofs.WalkLaws.{clash}
use Rattle.pw_colour.proofs.Numbered.{role_there, role_absent}
use Rattle.pw_colour.proofs.directing.role_of.Goals as goal

pub returns-then-contains : goal.returns-then-contains
returns-then-contains c = role_there c.args.web.now c.args.place (c.contains.ensures.0 c.if-contains.true)

pub returns-else-contains : goal.returns-else-contains
returns-else-contains c = role_absent c.args.web.now c.args.place (λ h. clash c.contains.result c.if-contains.false (c.contains.ensures.1 h))
