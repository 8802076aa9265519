use Rattle.pw_law_select_frames.proofs.Known.{Known}
use Rattle.pw_law_select_frames.proofs.Refusing.{calls_noted, full_calls_refused}
use Rattle.pw_law_select_frames.proofs.calls_are_noted_alike.Goals as goal

pub returns-clause-called : goal.returns-clause-called
returns-clause-called c = calls_noted c.bytes_stand.ensures.alike

pub returns-clause-refused : goal.returns-clause-refused
returns-clause-refused c = let known : Known = record { joins = c.straight_words_run.ensures.joined; notes = c.straight_words_run.ensures.noted; run = c.straight_words_run.ensures.run; quiet = c.words_are_made.ensures.quiet; constants = c.words_are_made.ensures.constants; addresses = c.words_are_made.ensures.addresses; loads = c.frame_words_move.ensures.loaded; stores = c.frame_words_move.ensures.stored; temporaries = c.operands_are_loaded.ensures.temporary; read = c.numbers_are_stored.ensures.read; other = c.numbers_are_stored.ensures.byte; bounded = c.numbers_are_stored.ensures.bounded; bytes = c.numbers_are_stored.ensures.bytes } in full_calls_refused known c.straight_words_run.ensures.lines
