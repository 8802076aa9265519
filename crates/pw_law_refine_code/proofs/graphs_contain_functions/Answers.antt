use Rattle.pw_law_refine_code.proofs.FunctionCode.{function-contains}
use Rattle.pw_law_refine_code.proofs.graphs_contain_functions.Goals as goal

pub returns : goal.returns
returns c = λ home m f typed.
    function-contains (record { blocks = c.expressions_spread.ensures.blocks; labels = c.expressions_spread.ensures.labels }) home m f typed
