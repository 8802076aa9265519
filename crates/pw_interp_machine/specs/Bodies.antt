-- The body of a function, whose parameters are in scope (ISO C90 6.3.2.2).
use Rattle.std.specs.Prelude.{Option, List}
use Rattle.pw_value.specs.declared.value.Value.{Value}
use Rattle.pw_types.specs.TypedTrees.{FunctionValue}
use Rattle.pw_cmean.specs.Acts.{Act, ◌>>=◌, ◌>>◌}
use Rattle.pw_cmean.specs.Evaluation.{Env, Calls, site}
use Rattle.pw_cmean.specs.Execution.{Front, meaning}
use Rattle.pw_cmean.specs.SourceRun.{set_parameters, result_of}

-- the arguments put into the parameters, and then the body
unfoldable pub with_arguments : FunctionValue → Calls → List Value → Env → Act (Option Value)
with_arguments f lower args e = set_parameters (site e f.token) 0 args e >> (meaning f.body Front lower e >>= result_of)
