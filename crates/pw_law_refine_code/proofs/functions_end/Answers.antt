use Rattle.pw_law_refine_code.proofs.FunctionCode.{function-ends}
use Rattle.pw_law_refine_code.proofs.functions_end.Goals as goal

pub returns : goal.returns
returns c = λ home m f typed.
    function-ends (record { blocks = c.expressions_spread.ensures.blocks; labels = c.expressions_spread.ensures.labels }) home m f typed
