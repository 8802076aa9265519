use Rattle.pw_law_select_frames.proofs.Known.{Known}
use Rattle.pw_law_select_frames.proofs.Reaching.{call_reached}
use Rattle.pw_law_select_frames.proofs.calls_are_reached.Goals as goal

pub returns : goal.returns
returns c = let known : Known = record { joins = c.straight_words_run.ensures.joined; notes = c.straight_words_run.ensures.noted; run = c.straight_words_run.ensures.run; quiet = c.words_are_made.ensures.quiet; constants = c.words_are_made.ensures.constants; addresses = c.words_are_made.ensures.addresses; loads = c.frame_words_move.ensures.loaded; stores = c.frame_words_move.ensures.stored; temporaries = c.operands_are_loaded.ensures.temporary; read = c.numbers_are_stored.ensures.read; other = c.numbers_are_stored.ensures.byte; bounded = c.numbers_are_stored.ensures.bounded; bytes = c.numbers_are_stored.ensures.bytes } in λ p functions w scratch site o ops t f args m l may. call_reached known c.straight_words_run.ensures.lines c.bytes_stand.ensures.old c.places_stand.ensures.temporaries p functions w scratch site ops t f args m l o may
