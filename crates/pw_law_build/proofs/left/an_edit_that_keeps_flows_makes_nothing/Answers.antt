use Rattle.pw_law_build.proofs.AgainLemmas.{edit_comes}
use Rattle.pw_law_build.proofs.left.an_edit_that_keeps_flows_makes_nothing.Goals as goal

pub returns : goal.returns
returns c = edit_comes (record {
  files = record { inserted = c.other_files.ensures.inserted; insertion = c.other_files.ensures.insertion };
  front = c.front.ensures.whole;
  modules = c.modules_are_exact.ensures.exact;
  rising = c.modules_are_exact.ensures.rising;
}) c.forms_keep_what_modules_have.ensures.count
