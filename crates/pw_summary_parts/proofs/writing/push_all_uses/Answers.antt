use Rattle.std.proofs.Common.{sym, subst}
use Rattle.pw_summary_parts.specs.Spelling.{AreNamed}
use Rattle.pw_summary_parts.proofs.writing.push_all_uses.Goals as goal

pub push_uses-requires-clause-stand : goal.push_uses-requires-clause-stand
push_uses-requires-clause-stand c = subst (λ u. AreNamed c.args.names.now u) (sym c.uses-item.is) (c.requires.stand c.loop-uses.uses-index _ c.loop-uses-test.true)
