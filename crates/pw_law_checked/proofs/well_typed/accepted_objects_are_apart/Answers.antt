use Rattle.pw_law_checked.proofs.well_typed.accepted_objects_are_apart.Goals as goal
use Rattle.pw_law_checked.proofs.Laws.{module_objects_apart, module_kinds_apart}

pub returns-clause-one_global : goal.returns-clause-one_global
returns-clause-one_global g = module_objects_apart

pub returns-clause-one_kind : goal.returns-clause-one_kind
returns-clause-one_kind g = module_kinds_apart
