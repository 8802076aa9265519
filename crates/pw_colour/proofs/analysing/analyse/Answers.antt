use Rattle.std.proofs.Common.{subst, sym}
use Rattle.pw_colour.specs.Colours.{IsDatabaseOf}
use Rattle.pw_colour.proofs.analysing.analyse.Goals as goal

pub returns-clause-exact : goal.returns-clause-exact
returns-clause-exact c = λ d.
    let ss = c.args.summaries.now in
    let here = c.in_ok-database_of.ensures.functions in
    (λ i. c.databases_are_one.ensures ss c.args.colours d c.in_ok-database_of.field-0.functions i here, λ e. subst (IsDatabaseOf ss c.args.colours) (sym e) here)
