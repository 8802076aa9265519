-- The world of the meaning, as the code holds it.
use Rattle.pw_cmean.specs.Worlds as worlds
use Rattle.pw_interp_world.specs.Views.{view_program}
use Rattle.pw_interp_calls.specs.declared.world.World.{World}
use Rattle.pw_interp_calls.specs.Frames.{frame_in}

abbrev pub view_world : World → worlds.World
view_world w = record { program = view_program w.names.now.parts.now; frame_of = frame_in w.framed w.frames.items; stack = w.stack }
