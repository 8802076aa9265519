use Rattle.pw_law_layers.proofs.MapFrames.{map_has_frames}
use Rattle.pw_law_layers.proofs.maps_have_frames.Goals as goal

pub returns : goal.returns
returns c = map_has_frames c.modules_stand_in_order.ensures.stay
