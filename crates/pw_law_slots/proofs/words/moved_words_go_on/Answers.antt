use Rattle.pw_law_slots.proofs.Moving.{never_stop, pass_nothing, leave_links}
use Rattle.pw_law_slots.proofs.words.moved_words_go_on.Goals as goal

pub returns : goal.returns
returns c = record { stays = never_stop; runs = pass_nothing; links = leave_links c.actions_go_by_registers.ensures.targets }
