use Rattle.std.proofs.Common.{◌≡◌, ◌+◌, ◌≤◌, drop, map, nat_lt}
use Rattle.std.specs.List.{position_from}
use Rattle.pw_token.specs.Levels.{levels_of, IsSound}
use Rattle.pw_token.specs.Limits.{nest_limit}
use Rattle.pw_token.specs.Nesting.{first_role, nests_from, nests_of}
use Rattle.pw_token.specs.Roles.{role_in}
use Rattle.pw_token.proofs.nesting.nest_fault.Given as goal

-- what is left gives the answer, and its first token's role is known
abbrev pub invariant-loop-index : goal.invariant-loop-index
invariant-loop-index l =
    (position_from (λ nest. nat_lt nest_limit nest) (l.index + 1) (nests_from (record { before = l.before; operand = l.operand; levels = levels_of l.levels }) (map (role_in l.text) (drop l.index l.tokens)))
    ≡ position_from (λ nest. nat_lt nest_limit nest) 1 (nests_of l.text l.tokens))
    × IsSound l.levels × (l.levels.nest ≤ nest_limit + 1) × (l.role ≡ first_role (map (role_in l.text) (drop l.index l.tokens)))
