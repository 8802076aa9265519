use Rattle.std.proofs.Common.{sym, subst}
use Rattle.pw_object.specs.Functions.{IsSymbolNamed}
use Rattle.pw_object.proofs.writing.push_fixes.Goals as goal

pub push_fix-requires-clause-stands : goal.push_fix-requires-clause-stands
push_fix-requires-clause-stands c = subst (λ f. IsSymbolNamed c.args.names.now f.symbol) (sym c.fix-item.is) (c.requires.stand c.loop-fix.fix-index _ c.loop-fix-test.true)
