use Rattle.pw_interp_state.proofs.RunLaws.{changes_at, write_shows, room_shows, full_shows}
use Rattle.pw_interp_state.proofs.step_laws.steps_show.Goals as goal

pub returns-clause-changes : goal.returns-clause-changes
returns-clause-changes c = changes_at

pub returns-clause-writes : goal.returns-clause-writes
returns-clause-writes c = write_shows

pub returns-clause-room : goal.returns-clause-room
returns-clause-room c = room_shows

pub returns-clause-full : goal.returns-clause-full
returns-clause-full c = full_shows
