use Rattle.pw_law_build.proofs.KeptLemmas.{keeps_objects}
use Rattle.pw_law_build.proofs.left.a_build_keeps_its_objects.Goals as goal

pub returns : goal.returns
returns c = keeps_objects (record {
  files = record { inserted = c.other_files.ensures.inserted; insertion = c.other_files.ensures.insertion };
  front = c.front.ensures.whole;
  modules = c.modules_are_exact.ensures.exact;
  rising = c.modules_are_exact.ensures.rising;
}) c.forms_keep_what_modules_have.ensures.count
