use Rattle.std.proofs.Common.{rules, sym, ap, ◌+◌, ◌∙◌}
use Rattle.std.specs.Prelude.{nat_lt}
use Rattle.pw_typed.specs.Views.{view_function}
use Rattle.pw_interp_world.specs.Views.{view_part}
use Rattle.pw_interp_state.specs.Shown.{view_state}
use Rattle.pw_interp_calls.specs.Views.{view_env}
use Rattle.pw_interp_calls.specs.WorldViews.{view_world}
use Rattle.pw_interp_calls.specs.declared.ending.Ending.TheVariants as E
use Rattle.pw_interp_calls.specs.declared.ending.Stop.TheVariants as S
use Rattle.pw_interp_machine.proofs.Entering.{begins_err, begins_full, begins_opened, framed}
use Rattle.pw_interp_machine.proofs.Rooms.{full_test, room_test}
use Rattle.pw_interp_machine.proofs.calls.begin_call.Goals as goal

pub returns-in_err-full : goal.returns-in_err-full
returns-in_err-full c n more = begins_err S.NoMemory (search rules) tt

pub returns-in_err-outer : goal.returns-in_err-outer
returns-in_err-outer c n more = begins_err S.NoMemory (search rules) tt

pub returns-then-has_room : goal.returns-then-has_room
returns-then-has_room c n more =
    let world = view_world c.args.world.now in
    let home = view_part c.args.home in
    let f = view_function c.args.f.now in
    let used = (view_state c.args.state.now).used in
    let frame = c.frame-frame.ensures ∙ ap world.frame_of (c.as_bytes-name.ensures.bytes ∙ c.in_ok-full.ensures) in
    let test = sym c.has_room.ensures ∙ c.if-has_room.true in
    let room = ap (λ f. nat_lt world.stack (f + used)) (sym frame) ∙ room_test _ test in
    begins_opened world n c.args.bound home f c.args.args.now more room
    (framed world n c.args.bound home f c.args.args.now more (view_env c.in_ok-outer.outer) _ c.in_ok-outer.ensures (ap (λ f. f + used) frame) c.open_framed.ensures)

pub returns : goal.returns
returns c n more =
    let world = view_world c.args.world.now in
    let home = view_part c.args.home in
    let f = view_function c.args.f.now in
    let used = (view_state c.args.state.now).used in
    let frame = c.frame-frame.ensures ∙ ap world.frame_of (c.as_bytes-name.ensures.bytes ∙ c.in_ok-full.ensures) in
    let test = sym c.has_room.ensures ∙ c.if-has_room.false in
    let full = ap (λ f. nat_lt world.stack (f + used)) (sym frame) ∙ full_test _ test in
    begins_err (S.Ended E.StackFull) (search rules) (begins_full world n c.args.bound home f c.args.args.now more full)
