-- The code of a function's body.
use Rattle.std.specs.Prelude.{ℕ, None, List}
use Rattle.pw_types.specs.TypeTrees.{RecordValue}
use Rattle.pw_types.specs.TypedTrees.{FunctionValue}
use Rattle.pw_flow.specs.declared.flow.Block.{Block}
use Rattle.pw_flow.specs.declared.flow.End.TheVariants.{Return}
use Rattle.pw_lower.specs.declared.code.Code.{Code}
use Rattle.pw_lower.specs.Statements.{lower_statement}
use Rattle.pw_lower.specs.Modules.{entered, frame_of}

-- the code behind the body, whose last block is still filled
abbrev pub code_of_body : List ℕ → List RecordValue → FunctionValue → Code
code_of_body home records f = lower_statement (frame_of home records f) (record { out = 0; on = 0 }) f.body (entered f)

-- the block that is filled behind it, at whose end the function returns without a result
abbrev pub last_block : Code → Block
last_block c = record { depth = c.depth; ops = c.ops; end = Return None }
