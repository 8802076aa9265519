-- Returns (ISO C90 6.6.6.4).
use Rattle.std.specs.Prelude.{Option, Some, None}
use Rattle.pw_types.specs.TypedTrees.{Expression}
use Rattle.pw_cmean.specs.Acts.{Act, ◌>>=◌, give}
use Rattle.pw_cmean.specs.Evaluation.{Env, Calls}
use Rattle.pw_cmean.specs.Execution.{Flow, Returns, value_of}

unfoldable pub return_act : Option Expression → Calls → Env → Act Flow
return_act None cs e = give (Returns None)
return_act (Some a) cs e = value_of a cs e >>= λ v. give (Returns (Some v))
