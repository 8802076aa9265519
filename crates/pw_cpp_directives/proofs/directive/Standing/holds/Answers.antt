use Rattle.std.proofs.Common.{◌≡◌, [], ap, sym, arith}
use Rattle.pw_cpp_directives.proofs.Effects.{judged-faulty, judged-holds, judged-stopped}
use Rattle.pw_cpp_directives.proofs.directive.Standing.holds.Goals as goal
use Rattle.pw_cpp_expand.specs.declared.progress.Progress.{Progress}

pub judge-requires-clause-fresh : goal.judge-requires-clause-fresh
judge-requires-clause-fresh c = ap (λ r. record { next = 0; rows = r; produced = c.args.self.now.produced; size = 0 }) c.new.ensures

pub judge-requires-clause-limits : goal.judge-requires-clause-limits
judge-requires-clause-limits c = (c.requires.limits, omega arith)

pub returns-in-Err-clause-judges : goal.returns-in-Err-clause-judges
returns-in-Err-clause-judges c =
    judged-stopped c.args.source.now c.args.self.now.macros c.args.digits c.args.d.tokens.now c.args.d.hash c.args.self.now.produced c.judge.new.progress.produced c.in-Err.fault c.of_expansion.result c.args.self.now.produced c.of_expansion.ensures c.in-Err.ensures.judges

pub returns-in-Holds-clause-judges : goal.returns-in-Holds-clause-judges
returns-in-Holds-clause-judges c =
    judged-holds c.args.source.now c.args.self.now.macros c.args.digits c.args.d.tokens.now c.args.d.hash c.args.self.now.produced c.judge.new.progress.produced c.in-Ok.verdict c.in-Holds.holds c.in-Holds.is c.in-Ok.ensures.judges

pub returns-clause-judges : goal.returns-clause-judges
returns-clause-judges c =
    judged-faulty c.args.source.now c.args.self.now.macros c.args.digits c.args.d.tokens.now c.args.d.hash c.args.self.now.produced c.judge.new.progress.produced c.in-Ok.verdict c.faulty.result c.judge.new.progress.produced c.in-Faulty.is c.faulty.ensures
    c.in-Ok.ensures.judges

pub returns-in-Holds-clause-limits : goal.returns-in-Holds-clause-limits
returns-in-Holds-clause-limits c = c.in-Ok.ensures.limits.0

pub returns-in-Holds-clause-keeps : goal.returns-in-Holds-clause-keeps
returns-in-Holds-clause-keeps c = c.in-Ok.ensures.keeps
