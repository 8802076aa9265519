-- Operands that an operator uses.
use Rattle.std.specs.Prelude.{ℕ}
use Rattle.pw_value.specs.declared.value.Value.{Value}
use Rattle.pw_types.specs.TypedTrees.{Expression}
use Rattle.pw_cmean.specs.Acts.{Act, ◌>>=◌}
use Rattle.pw_cmean.specs.Evaluation.{Env, site, used, answer_of}
use Rattle.pw_cmean.specs.SourceRun.{calls}

-- the value of an operand, which the node of the token meets where it is missing
abbrev pub operand_act : Expression → ℕ → ℕ → Env → Act Value
operand_act a token bound e = answer_of a (calls e.world bound) e >>= used (site e token)
