use Rattle.std.proofs.Common.{◌+◌, drop, rules, arith}
use Rattle.pw_cmean.specs.Evaluation.{site}
use Rattle.pw_cmean.specs.SourceRun.{set_parameters}
use Rattle.pw_interp_calls.specs.Views.{view_env}
use Rattle.pw_interp_calls.proofs.AnswerLaws.{given_by, gives, same, then_err, no_memory}
use Rattle.pw_interp_todo.proofs.LeadLaws.{behind_given, further, named, stays}
use Rattle.pw_interp_functions.proofs.ArgumentLaws.{parameters_at, parameters_past}
use Rattle.pw_interp_functions.proofs.Continuing.{answers_so}
use Rattle.pw_interp_functions.proofs.parameters.set_parameters.Goals as goal

pub loop-k-init : goal.loop-k-init
loop-k-init c = stays

pub returns-in_err-local : goal.returns-in_err-local
returns-in_err-local c = no_memory (search rules)

pub returns-in_err-set_local : goal.returns-in_err-set_local
returns-in_err-set_local c =
    let e = view_env c.args.env.now in
    let at = site e c.args.token in
    answers_so (further c.loop-k.invariant (named (parameters_at at e c.args.args.now c.loop-k.k c.in_ok-local.local _ (omega arith) (search rules) (search rules))))
    (then_err (λ done. set_parameters at (c.loop-k.k + 1) (drop (c.loop-k.k + 1) c.args.args.now) e) c.set_local.ensures c.in_err-set_local.was (search rules))

pub loop-k-preserved : goal.loop-k-preserved
loop-k-preserved c =
    let e = view_env c.args.env.now in
    let at = site e c.args.token in
    further (further c.loop-k.invariant (named (parameters_at at e c.args.args.now c.loop-k.k c.in_ok-local.local _ (omega arith) (search rules) (search rules))))
    (behind_given (λ done. set_parameters at (c.loop-k.k + 1) (drop (c.loop-k.k + 1) c.args.args.now) e) (given_by c.set_local.ensures c.in_ok-set_local.was))

pub returns : goal.returns
returns c = answers_so c.loop-k.invariant (same (parameters_past _ _ _ _ _ c.loop-k-test.false) (gives tt))
