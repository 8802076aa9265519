use Rattle.pw_law_code.proofs.PlacedCode as code
use Rattle.pw_law_code.proofs.code.placed_code_stands.Goals as goal

pub returns : goal.returns
returns c = code.placed_code_stands
