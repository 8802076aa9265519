-- How many functions and objects there are.
use Rattle.std.specs.Prelude.{◌≤◌, List, length}
use Rattle.std.specs.List.{sum_by}
use Rattle.pw_value.specs.Limits.{function_limit, global_limit}
use Rattle.pw_flow.specs.declared.flow.FlowModule.{FlowModule}

-- no more functions and objects with static lifetime than a program may have
pub record AreFew (flows : List FlowModule) : Type 0 where
  pub functions : sum_by (λ m. length m.functions) flows ≤ function_limit
  pub globals : sum_by (λ m. length m.globals) flows ≤ global_limit
