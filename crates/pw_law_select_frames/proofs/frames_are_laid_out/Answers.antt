use Rattle.pw_law_select_frames.proofs.Framing.{place_is_below, sized, slot_stands, slots_apart}
use Rattle.pw_law_select_frames.proofs.frames_are_laid_out.Goals as goal

pub returns-clause-places : goal.returns-clause-places
returns-clause-places c = place_is_below

pub returns-clause-sizes : goal.returns-clause-sizes
returns-clause-sizes c = sized

pub returns-clause-slots : goal.returns-clause-slots
returns-clause-slots c = slot_stands

pub returns-clause-apart : goal.returns-clause-apart
returns-clause-apart c = slots_apart
