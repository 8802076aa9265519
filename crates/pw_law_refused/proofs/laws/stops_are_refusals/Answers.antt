use Rattle.std.specs.Prelude.{suc}
use Rattle.pw_law_selection.proofs.Given.{functions_fine}
use Rattle.pw_law_refused.proofs.Stages.{stopped_room}
use Rattle.pw_law_refused.proofs.Stops.{step_stops}
use Rattle.pw_law_refused.proofs.laws.stops_are_refusals.Goals as goal

pub returns : goal.returns
returns c = λ p d functions w input n m u given none at stops.
    let here = c.functions_stand_in_blocks.ensures p functions input n m (λ x there. (functions_fine p given.program d given.directives functions given.serve given.frames x there).lawful) at in
    let had = stopped_room p functions input n m u at stops (c.active_calls_have_room.ensures p functions input given.fits none (suc n)) in
    step_stops p functions u c.calls_alone_stop.ensures.operations c.calls_alone_stop.ensures.webs c.calls_alone_stop.ensures.ends d w input given m none (c.active_calls_are_noted.ensures p functions input n m at) had here.0 stops
