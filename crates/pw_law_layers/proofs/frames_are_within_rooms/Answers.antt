use Rattle.pw_law_layers.proofs.Frames.{all_fit}
use Rattle.pw_law_layers.proofs.frames_are_within_rooms.Goals as goal

pub returns : goal.returns
returns c = all_fit c.places_fit_their_rooms.ensures c.maps_have_frames.ensures
