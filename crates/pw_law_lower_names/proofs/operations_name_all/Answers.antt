use Rattle.pw_law_lower_names.proofs.Functions.{function_names}
use Rattle.pw_law_lower_names.proofs.operations_name_all.Goals as goal

pub returns : goal.returns
returns c = λ objects functions home m f fn h.
    function_names objects functions c.later_code_keeps.ensures.expressions c.later_code_keeps.ensures.statements home m f (c.graphs_contain_functions.ensures home m f fn) fn h
