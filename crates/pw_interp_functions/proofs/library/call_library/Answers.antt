use Rattle.std.proofs.Common.{rules, subst}
use Rattle.pw_cmean.specs.Evaluation as meaning
use Rattle.pw_cmean.specs.SourceRun as runs
use Rattle.pw_interp_state.specs.Shown.{view_state}
use Rattle.pw_interp_calls.specs.Answers.{Answers}
use Rattle.pw_interp_calls.specs.WorldViews.{view_world}
use Rattle.pw_interp_todo.proofs.LeadLaws.{followed, named, then_more, then_stops}
use Rattle.pw_interp_functions.proofs.CallLaws.{library_is}
use Rattle.pw_interp_functions.proofs.library.call_library.Goals as goal

pub returns-in_err-take_room : goal.returns-in_err-take_room
returns-in_err-take_room c n =
    let world = view_world c.args.world.now in
    let s = view_state c.args.state.now in
    followed (named (library_is world (runs.calls world n) c.args.function c.args.args.now))
    (then_stops _ (subst (λ name. Answers (λ x. tt) world (meaning.take_room world name) s c.take_room.result s) c.library_name.ensures c.take_room.ensures.answers)
    c.in_err-take_room.was (search rules))

pub returns : goal.returns
returns c n =
    let world = view_world c.args.world.now in
    let s = view_state c.args.state.now in
    followed (named (library_is world (runs.calls world n) c.args.function c.args.args.now))
    (then_more _ (subst (λ name. Answers (λ x. tt) world (meaning.take_room world name) s c.take_room.result s) c.library_name.ensures c.take_room.ensures.answers)
    c.in_ok-take_room.was (c.library_call.ensures world s))
