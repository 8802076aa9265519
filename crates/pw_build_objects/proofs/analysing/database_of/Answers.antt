use Rattle.std.proofs.Common.{refl, arith}
use Rattle.std.proofs.lemmas.List.Elements.{All-from_recursion}
use Rattle.std.proofs.lemmas.Result.{IfOk-weaker}
use Rattle.pw_summary.specs.Summary.{IsSummary}
use Rattle.pw_build_objects.proofs.analysing.database_of.Goals as goal

pub returns-clause-lawful : goal.returns-clause-lawful
returns-clause-lawful c =
    let summaries = c.args.summaries.now in
    let all = All-from_recursion IsSummary summaries c.requires.lawful in
    IfOk-weaker c.analyse.result _ _ (λ db exact. c.databases_are_lawful.ensures summaries c.args.colours db.functions (omega (arith, c.requires.few)) all ((exact db.functions).1 refl)) c.analyse.ensures.exact
