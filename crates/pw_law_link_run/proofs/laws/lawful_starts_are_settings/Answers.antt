use Rattle.pw_law_link_run.proofs.Whole.{lawful_setting}
use Rattle.pw_law_link_run.proofs.laws.lawful_starts_are_settings.Goals as goal

pub returns : goal.returns
returns c = lawful_setting c.runs_keep_lawful_states.ensures.run c.words_of_the_text_stay.ensures c.runs_add_up.ensures.sum c.runs_go_on.ensures.going
