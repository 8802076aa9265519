use Rattle.std.proofs.Common.{sym, subst}
use Rattle.pw_webflow.specs.ValidWebs.{IsWebFn}
use Rattle.pw_webflow.proofs.DirectionLaws.{directed_lawful}
use Rattle.pw_webflow.proofs.directing.direct.Goals as goal

pub returns-clause-lawful : goal.returns-clause-lawful
returns-clause-lawful c = subst IsWebFn (sym c.in_ok-r.ensures) (directed_lawful c.args.f.now c.args.d.now c.requires.function c.requires.directives)
