use Rattle.pw_law_select_rows.proofs.Frames.{frame_word_loaded, frame_word_stored}
use Rattle.pw_law_select_rows.proofs.frame_words_move.Goals as goal

pub returns-clause-loaded : goal.returns-clause-loaded
returns-clause-loaded c = frame_word_loaded

pub returns-clause-stored : goal.returns-clause-stored
returns-clause-stored c = frame_word_stored
