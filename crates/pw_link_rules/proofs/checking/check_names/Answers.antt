use Rattle.std.proofs.lemmas.Result.{err_from_is_err_and}
use Rattle.pw_link_rules.specs.Linking.{all_defined, defined_once, all_agree}
use Rattle.pw_link_rules.proofs.InOrder.{one_more, refused, then_answers}
use Rattle.pw_link_rules.proofs.checking.check_names.Goals as goal

pub returns-in_err-check_defined : goal.returns-in_err-check_defined
returns-in_err-check_defined c =
    let m = c.args.modules.now in
    let p = err_from_is_err_and c.from_residual.result c.from_residual.ensures.1 in
    rw (p.1, p.2) (refused all_defined m c.in_err-check_defined.field-0.0 c.requires.counts c.in_err-check_defined.ensures)

pub returns-in_err-check_once : goal.returns-in_err-check_once
returns-in_err-check_once c =
    let m = c.args.modules.now in
    let p = err_from_is_err_and c.from_residual-in_err-check_once.result c.from_residual-in_err-check_once.ensures.1 in
    rw (p.1, p.2) (refused defined_once m c.in_err-check_once.field-0.0 (one_more all_defined m c.requires.counts c.in_ok-check_defined.ensures) c.in_err-check_once.ensures)

pub returns : goal.returns
returns c =
    let m = c.args.modules.now in
    let three = one_more all_defined m c.requires.counts c.in_ok-check_defined.ensures in
    then_answers all_agree m c.check_shapes.result (one_more defined_once m three c.in_ok-check_once.ensures) c.check_shapes.ensures
