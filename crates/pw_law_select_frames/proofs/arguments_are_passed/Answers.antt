use Rattle.pw_law_select_frames.proofs.Known.{Known}
use Rattle.pw_law_select_frames.proofs.Arguments.{arguments_passed, arguments_passed_by_value}
use Rattle.pw_law_select_frames.proofs.arguments_are_passed.Goals as goal

pub returns-clause-named : goal.returns-clause-named
returns-clause-named c = let known : Known = record { joins = c.straight_words_run.ensures.joined; notes = c.straight_words_run.ensures.noted; run = c.straight_words_run.ensures.run; quiet = c.words_are_made.ensures.quiet; constants = c.words_are_made.ensures.constants; addresses = c.words_are_made.ensures.addresses; loads = c.frame_words_move.ensures.loaded; stores = c.frame_words_move.ensures.stored; temporaries = c.operands_are_loaded.ensures.temporary; read = c.numbers_are_stored.ensures.read; other = c.numbers_are_stored.ensures.byte; bounded = c.numbers_are_stored.ensures.bounded; bytes = c.numbers_are_stored.ensures.bytes } in arguments_passed known

pub returns-clause-valued : goal.returns-clause-valued
returns-clause-valued c = let known : Known = record { joins = c.straight_words_run.ensures.joined; notes = c.straight_words_run.ensures.noted; run = c.straight_words_run.ensures.run; quiet = c.words_are_made.ensures.quiet; constants = c.words_are_made.ensures.constants; addresses = c.words_are_made.ensures.addresses; loads = c.frame_words_move.ensures.loaded; stores = c.frame_words_move.ensures.stored; temporaries = c.operands_are_loaded.ensures.temporary; read = c.numbers_are_stored.ensures.read; other = c.numbers_are_stored.ensures.byte; bounded = c.numbers_are_stored.ensures.bounded; bytes = c.numbers_are_stored.ensures.bytes } in arguments_passed_by_value known
