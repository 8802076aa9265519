use Rattle.pw_law_slots.proofs.Settling.{settled_sources, settled_targets, settled_turns}
use Rattle.pw_law_slots.proofs.words.settled_words_move_alike.Goals as goal

pub returns : goal.returns
returns c = record { sources = settled_sources; targets = settled_targets; turns = settled_turns }
