use Rattle.pw_law_build.proofs.TextLemmas.{text_keeps}
use Rattle.pw_law_build.proofs.left.a_text_with_the_same_flow_keeps_flows.Goals as goal

pub returns : goal.returns
returns c = text_keeps (record {
  files = record { inserted = c.other_files.ensures.inserted; insertion = c.other_files.ensures.insertion };
  front = c.front.ensures.whole;
  modules = c.modules_are_exact.ensures.exact;
  rising = c.modules_are_exact.ensures.rising;
})
