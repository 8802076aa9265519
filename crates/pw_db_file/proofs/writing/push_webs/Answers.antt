use Rattle.std.proofs.Common.{sym, subst}
use Rattle.std.specs.Prelude.{Contains}
use Rattle.pw_db_file.proofs.writing.push_webs.Goals as goal

pub push_web-requires-clause-stands : goal.push_web-requires-clause-stands
push_web-requires-clause-stands c = subst (λ w. Contains c.args.names.now w.0.global) (sym c.web-item.is) (c.requires.stand c.loop-web.web-index _ c.loop-web-test.true)
