use Rattle.std.proofs.Common.{sym, ◌∙◌}
use Rattle.pw_interp_state.specs.Shown.{view_state}
use Rattle.pw_interp_calls.specs.WorldViews.{view_world}
use Rattle.pw_interp_acts.proofs.CallLaws.{room_there, stack_full}
use Rattle.pw_interp_acts.proofs.calls.take_room.Goals as goal

pub returns-then-has_room-clause-answers : goal.returns-then-has_room-clause-answers
returns-then-has_room-clause-answers c =
    record {
      given = room_there (view_world c.args.world.now) c.args.name.now c.frame.result (view_state c.args.state.now) c.frame.ensures (sym c.has_room.ensures ∙ c.if-has_room.true);
      stopped = tt;
    }

pub returns-else-has_room-clause-answers : goal.returns-else-has_room-clause-answers
returns-else-has_room-clause-answers c =
    record {
      given = tt;
      stopped = stack_full (view_world c.args.world.now) c.args.name.now c.frame.result (view_state c.args.state.now) c.frame.ensures (sym c.has_room.ensures ∙ c.if-has_room.false);
    }
