use Rattle.pw_law_refine_steps.proofs.Starting.{programs_keep}
use Rattle.pw_law_refine_steps.proofs.programs_rest_on_parts.Goals as goal

pub returns : goal.returns
returns c = λ parts starts p frame_of stack input lowerable none bytes.
    programs_keep (λ n. (parts n).calls) starts p frame_of stack input lowerable none bytes
