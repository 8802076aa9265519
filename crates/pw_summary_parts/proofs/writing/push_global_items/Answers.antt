use Rattle.std.proofs.Common.{sym, subst}
use Rattle.std.specs.Prelude.{Contains}
use Rattle.pw_summary_parts.proofs.writing.push_global_items.Goals as goal

pub push_global-requires-clause-stands : goal.push_global-requires-clause-stands
push_global-requires-clause-stands c = subst (λ g. Contains c.args.names.now g.0) (sym c.global-item.is) (c.requires.stand c.loop-global.global-index _ c.loop-global-test.true)
