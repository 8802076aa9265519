use Rattle.pw_law_checked.proofs.limits.accepted_is_within.Goals as goal
use Rattle.pw_law_checked.proofs.FitStatements.{module_items, module_locals, module_records}
use Rattle.pw_law_checked.proofs.LimitFunctions.{module_params, module_parts, module_rooms}
use Rattle.pw_law_checked.proofs.Names.{declared_names, function_names, global_names}
use Rattle.pw_law_checked.proofs.SmallModules.{module_small}

pub returns : goal.returns
returns g = λ tree m text names short h few. record {
  records = module_records tree m (g.accepted_records_are_laid.ensures.laid tree m h) text h;
  declared = declared_names tree m text names h;
  globals = λ k d below. record { name = global_names tree m text names h few k d below; items = module_items tree m text h k d below };
  functions = λ k d below. record {
    name = function_names tree m text names h k d below;
    params = module_params tree m text h k d below;
    locals = module_locals tree m (g.accepted_locals_are_objects.ensures tree m h) text h k d below;
    body = module_small tree m short h k d below;
    parts = module_parts tree m text h k d below;
    room = module_rooms tree m text h k d below;
  };
}
