use Rattle.pw_law_checked.proofs.DesignatorFunctions.{functions_named}
use Rattle.pw_law_checked.proofs.designators.accepted_names_of_objects_are_no_functions.Goals as goal

pub returns : goal.returns
returns c = functions_named
