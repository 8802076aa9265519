use Rattle.pw_law_linked.proofs.Stands.{function_stands}
use Rattle.pw_law_linked.proofs.functions_stand_as_items.Goals as goal

pub returns : goal.returns
returns c = function_stands c.placed_code_stands.ensures
