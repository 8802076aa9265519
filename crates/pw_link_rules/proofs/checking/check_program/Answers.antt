use Rattle.std.proofs.lemmas.Result.{err_from_is_err_and}
use Rattle.pw_link_rules.proofs.InOrder.{last_links, last_refused}
use Rattle.pw_link_rules.proofs.checking.check_program.Goals as goal

pub returns-in_err-check_counts-clause-refused : goal.returns-in_err-check_counts-clause-refused
returns-in_err-check_counts-clause-refused c =
    let p = err_from_is_err_and c.from_residual.result c.from_residual.ensures.1 in
    rw (p.1, p.2) c.in_err-check_counts.ensures.answers

pub returns-in_err-check_names-clause-refused : goal.returns-in_err-check_names-clause-refused
returns-in_err-check_names-clause-refused c =
    let p = err_from_is_err_and c.from_residual-in_err-check_names.result c.from_residual-in_err-check_names.ensures.1 in
    rw (p.1, p.2) c.in_err-check_names.ensures

pub returns-clause-refused : goal.returns-clause-refused
returns-clause-refused c = last_refused c.args.modules.now c.check_main.result c.in_ok-check_names.ensures c.check_main.ensures.answers

pub returns-clause-links : goal.returns-clause-links
returns-clause-links c = last_links c.args.modules.now c.check_main.result c.in_ok-check_names.ensures c.check_main.ensures.answers

pub check_names-requires-clause-counts : goal.check_names-requires-clause-counts
check_names-requires-clause-counts c = c.in_ok-check_counts.ensures.answers
