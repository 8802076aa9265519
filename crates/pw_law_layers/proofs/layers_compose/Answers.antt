use Rattle.pw_law_layers.proofs.Composition.{composes}
use Rattle.pw_law_layers.proofs.layers_compose.Goals as goal

pub returns : goal.returns
returns c = composes c.maps_have_frames.ensures c.placement_keeps_runs.ensures c.sound_directives_guard.ensures c.layers_hold.ensures
