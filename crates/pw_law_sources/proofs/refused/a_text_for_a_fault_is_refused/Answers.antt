use Rattle.pw_law_sources.proofs.RefusedText.{text_refused}
use Rattle.pw_law_sources.proofs.refused.a_text_for_a_fault_is_refused.Goals as goal

pub returns : goal.returns
returns c = text_refused c.front.ensures.whole
