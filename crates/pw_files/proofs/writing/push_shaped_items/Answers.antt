use Rattle.std.proofs.Common.{sym, subst}
use Rattle.std.specs.Prelude.{Contains}
use Rattle.pw_files.proofs.writing.push_shaped_items.Goals as goal

pub push_shaped-requires-clause-stands : goal.push_shaped-requires-clause-stands
push_shaped-requires-clause-stands c = subst (λ x. Contains c.args.names.now x.0) (sym c.item-item.is) (c.requires.stand c.loop-item.item-index _ c.loop-item-test.true)
