use Rattle.std.proofs.Common.{sym, subst}
use Rattle.std.specs.Prelude.{Contains}
use Rattle.std.specs.List.{AllByRecursion}
use Rattle.pw_flowfile.specs.FlowFile.{all_in_global}
use Rattle.pw_object.proofs.writing.push_globals.Goals as goal

pub push_global-requires-clause-stand : goal.push_global-requires-clause-stand
push_global-requires-clause-stand c = subst (λ g. AllByRecursion (Contains c.args.names.now) (all_in_global g)) (sym c.global-item.is) (c.requires.stand c.loop-global.global-index _ c.loop-global-test.true)
