use Rattle.pw_law_select_frames.proofs.Known.{Known}
use Rattle.pw_law_select_frames.proofs.Entering.{frame_entered, full_stops}
use Rattle.pw_law_select_frames.proofs.frames_are_entered.Goals as goal

pub returns-clause-entered : goal.returns-clause-entered
returns-clause-entered c = let known : Known = record { joins = c.straight_words_run.ensures.joined; notes = c.straight_words_run.ensures.noted; run = c.straight_words_run.ensures.run; quiet = c.words_are_made.ensures.quiet; constants = c.words_are_made.ensures.constants; addresses = c.words_are_made.ensures.addresses; loads = c.frame_words_move.ensures.loaded; stores = c.frame_words_move.ensures.stored; temporaries = c.operands_are_loaded.ensures.temporary; read = c.numbers_are_stored.ensures.read; other = c.numbers_are_stored.ensures.byte; bounded = c.numbers_are_stored.ensures.bounded; bytes = c.numbers_are_stored.ensures.bytes } in frame_entered known

pub returns-clause-full : goal.returns-clause-full
returns-clause-full c = let known : Known = record { joins = c.straight_words_run.ensures.joined; notes = c.straight_words_run.ensures.noted; run = c.straight_words_run.ensures.run; quiet = c.words_are_made.ensures.quiet; constants = c.words_are_made.ensures.constants; addresses = c.words_are_made.ensures.addresses; loads = c.frame_words_move.ensures.loaded; stores = c.frame_words_move.ensures.stored; temporaries = c.operands_are_loaded.ensures.temporary; read = c.numbers_are_stored.ensures.read; other = c.numbers_are_stored.ensures.byte; bounded = c.numbers_are_stored.ensures.bounded; bytes = c.numbers_are_stored.ensures.bytes } in full_stops known c.straight_words_run.ensures.lines
