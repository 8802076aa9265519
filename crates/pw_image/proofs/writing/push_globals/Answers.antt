use Rattle.std.proofs.Common.{sym, subst}
use Rattle.std.specs.Prelude.{Contains}
use Rattle.pw_image.proofs.writing.push_globals.Goals as goal

pub push_global-requires-clause-stands : goal.push_global-requires-clause-stands
push_global-requires-clause-stands c = subst (λ x. Contains c.args.names.now x.name) (sym c.global-item.is) (c.requires.stand c.loop-global.global-index _ c.loop-global-test.true)
