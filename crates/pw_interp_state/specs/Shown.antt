-- What of the state of a run the code holds: the objects, and the room that the active functions take on the stack. The
-- input and output of a run stand beside it: what is left of the input, how much was read, and the output.
use Rattle.std.specs.Prelude.{ℕ, List}
use Rattle.pw_value.specs.Objects.{Object}
use Rattle.pw_cmean.specs.Worlds as worlds
use Rattle.pw_cmean.specs.Worlds.{depth}
use Rattle.pw_cmean.specs.Acts as acts
use Rattle.pw_interp_state.specs.declared.state.State.{State}

pub record Shown : Type 0 where
  pub objects : List Object
  pub used : ℕ

pub record Streams : Type 0 where
  pub rest : List ℕ
  pub read : ℕ
  pub out : List ℕ

-- of a state of the meaning
abbrev pub shown : worlds.World → acts.State → Shown
shown world s = record { objects = s.objects; used = depth world s.active }

abbrev pub streams : acts.State → Streams
streams s = record { rest = s.rest; read = s.read; out = s.out }

-- both
abbrev pub all_shown : worlds.World → acts.State → Shown × Streams
all_shown world s = (shown world s, streams s)

-- of the code's
abbrev pub view_state : State → Shown
view_state s = record { objects = s.objects; used = s.used }
