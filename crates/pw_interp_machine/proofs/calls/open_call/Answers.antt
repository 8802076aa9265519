use Rattle.std.proofs.Common.{rules, ap, ◌∙◌, option_map}
use Rattle.pw_typed.specs.Views.{view_function}
use Rattle.pw_cmean.specs.SourceRun.{calls}
use Rattle.pw_interp_calls.specs.Views.{view_env}
use Rattle.pw_interp_calls.specs.declared.ending.Stop.TheVariants as S
use Rattle.pw_interp_calls.proofs.AnswerLaws.{given_by}
use Rattle.pw_interp_state.specs.Shown.{view_state}
use Rattle.pw_interp_machine.specs.Bodies.{with_arguments}
use Rattle.pw_interp_functions.proofs.LocalLaws.{locals_stop}
use Rattle.pw_interp_functions.proofs.LocalLaws.{made_world}
use Rattle.pw_interp_machine.proofs.Entering.{active_leads, active_stops, answers_in, opens_so, opens_stopped}
use Rattle.pw_interp_machine.proofs.Standings.{answer_stops}
use Rattle.pw_interp_machine.proofs.calls.open_call.Goals as goal

pub returns-in_err-inner : goal.returns-in_err-inner
returns-in_err-inner c = opens_stopped S.NoMemory (search rules) tt

pub returns-in-None : goal.returns-in-None
returns-in-None c =
    let e = view_env c.args.outer in
    let f = view_function c.args.f.now in
    let made_so = c.in_ok-inner.ensures ∙ ap (λ o. (option_map view_env o, c.make_locals.new.objects)) c.in-None.is in
    record { opened = tt; stopped = locals_stop e.world (with_arguments f (calls e.world c.args.bound) c.args.args.now) f.params 0 e (view_state c.args.state.now) c.make_locals.new.objects made_so }

pub returns-in_err-set_parameters-in-Some : goal.returns-in_err-set_parameters-in-Some
returns-in_err-set_parameters-in-Some c =
    let e = view_env c.args.outer in
    let f = view_function c.args.f.now in
    let inner = view_env c.in-Some.env in
    let made_so = c.in_ok-inner.ensures ∙ ap (λ o. (option_map view_env o, c.make_locals.new.objects)) c.in-Some.is in
    let home = made_world f.params 0 e inner (view_state c.args.state.now).objects c.make_locals.new.objects made_so in
    opens_stopped _ (search rules)
    (active_stops e.world c.args.bound f c.args.args.now e inner (view_state c.args.state.now) _ _ made_so (answer_stops (answers_in home c.set_parameters.ensures) c.in_err-set_parameters-in-Some.was))

pub returns-in_err-call-in-Some : goal.returns-in_err-call-in-Some
returns-in_err-call-in-Some c = opens_stopped S.NoMemory (search rules) tt

pub returns-in_ok-call-in-Some : goal.returns-in_ok-call-in-Some
returns-in_ok-call-in-Some c =
    let e = view_env c.args.outer in
    let f = view_function c.args.f.now in
    let inner = view_env c.in-Some.env in
    let made_so = c.in_ok-inner.ensures ∙ ap (λ o. (option_map view_env o, c.make_locals.new.objects)) c.in-Some.is in
    let home = made_world f.params 0 e inner (view_state c.args.state.now).objects c.make_locals.new.objects made_so in
    let call = c.in_ok-call-in-Some.call in
    let b = c.in_ok-call-in-Some.ensures in
    let answers = answers_in home c.set_parameters.ensures in
    opens_so call (record {
      leads = λ a next. active_leads e.world c.args.bound f c.args.args.now e inner _ call a next made_so c.count-count.ensures (given_by answers c.in_ok-set_parameters-in-Some.was) b.env home b.bound b.todo;
      room = b.before;
      stands = ap (λ x. x.world) b.env ∙ home;
    })
