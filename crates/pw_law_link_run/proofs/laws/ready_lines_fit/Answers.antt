use Rattle.pw_law_link_run.proofs.Fitting.{arranged_fit}
use Rattle.pw_law_link_run.proofs.laws.ready_lines_fit.Goals as goal

pub returns : goal.returns
returns c = arranged_fit (record {
  stays = c.moved_words_go_on.ensures.stays;
  runs = c.moved_words_go_on.ensures.runs;
  links = c.moved_words_go_on.ensures.links;
})
