use Rattle.std.proofs.lemmas.Result.{err_from_is_err_and}
use Rattle.pw_link_rules.specs.Linking.{few_functions, few_globals}
use Rattle.pw_link_rules.proofs.InOrder.{none_passed, one_more, refused, then_answers}
use Rattle.pw_link_rules.proofs.checking.check_counts.Goals as goal

pub returns-in_err-check_functions-clause-answers : goal.returns-in_err-check_functions-clause-answers
returns-in_err-check_functions-clause-answers c =
    let m = c.args.modules.now in
    let p = err_from_is_err_and c.from_residual.result c.from_residual.ensures.1 in
    rw (p.1, p.2) (refused few_functions m c.in_err-check_functions.field-0.0 (none_passed m) c.in_err-check_functions.ensures.answers)

pub returns-clause-answers : goal.returns-clause-answers
returns-clause-answers c =
    let m = c.args.modules.now in
    then_answers few_globals m c.check_globals.result (one_more few_functions m (none_passed m) c.in_ok-check_functions.ensures.answers) c.check_globals.ensures.answers
