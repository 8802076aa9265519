use Rattle.pw_law_accept.proofs.Right.{function_right}
use Rattle.pw_law_accept.proofs.operations.lowered_functions_refer_rightly.Goals as goal

pub returns : goal.returns
returns c home m f = function_right m f home
