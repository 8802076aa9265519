use Rattle.std.proofs.Common.{rules}
use Rattle.pw_build_files.proofs.ModulesLemmas.{told_fault}
use Rattle.pw_build_files.proofs.program.modules_to_build.Goals as goal

pub returns-in_err-seen_modules-clause-fault : goal.returns-in_err-seen_modules-clause-fault
returns-in_err-seen_modules-clause-fault g c =
    told_fault (g.S.Store.told c.args.store.now) c.in_err-seen_modules.field-0.0 c.from_residual.result c.in_err-seen_modules.ensures.seen (first_of (search (rules, c.from_residual.ensures), cc (c.from_residual.ensures)))
