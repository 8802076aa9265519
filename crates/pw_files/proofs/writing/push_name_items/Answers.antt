use Rattle.std.proofs.Common.{sym, subst}
use Rattle.std.specs.Prelude.{Contains}
use Rattle.pw_files.proofs.writing.push_name_items.Goals as goal

pub push_name-requires-clause-stands : goal.push_name-requires-clause-stands
push_name-requires-clause-stands c = subst (λ x. Contains c.args.names.now x) (sym c.item-item.is) (c.requires.stand c.loop-item.item-index _ c.loop-item-test.true)
