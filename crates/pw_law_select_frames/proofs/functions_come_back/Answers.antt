use Rattle.pw_law_select_frames.proofs.Known.{Known}
use Rattle.pw_law_select_frames.proofs.Returning.{function_comes_back, links_then}
use Rattle.pw_law_select_frames.proofs.functions_come_back.Goals as goal

pub returns-clause-back : goal.returns-clause-back
returns-clause-back c = let known : Known = record { joins = c.straight_words_run.ensures.joined; notes = c.straight_words_run.ensures.noted; run = c.straight_words_run.ensures.run; quiet = c.words_are_made.ensures.quiet; constants = c.words_are_made.ensures.constants; addresses = c.words_are_made.ensures.addresses; loads = c.frame_words_move.ensures.loaded; stores = c.frame_words_move.ensures.stored; temporaries = c.operands_are_loaded.ensures.temporary; read = c.numbers_are_stored.ensures.read; other = c.numbers_are_stored.ensures.byte; bounded = c.numbers_are_stored.ensures.bounded; bytes = c.numbers_are_stored.ensures.bytes } in function_comes_back known c.straight_words_run.ensures.lines c.bytes_stand.ensures.alike

pub returns-clause-links : goal.returns-clause-links
returns-clause-links c = links_then
