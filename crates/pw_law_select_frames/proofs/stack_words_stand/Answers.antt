use Rattle.pw_law_select_frames.proofs.Stack.{stack_word_is}
use Rattle.pw_law_select_frames.proofs.stack_words_stand.Goals as goal

pub returns : goal.returns
returns c = stack_word_is
