use Rattle.std.proofs.Common.{◌≡◌, ◌≤◌, true}
use Rattle.std.specs.List.{list_any}
use Rattle.pw_token.specs.Levels.{levels_of, IsSound}
use Rattle.pw_token.specs.Nesting.{past_bracket, is_bracket}
use Rattle.pw_token.proofs.levels.Levels.close_bracket.Given as goal

-- a bracket is still open, and what is left gives the answer
abbrev pub invariant-loop-self : goal.invariant-loop-self
invariant-loop-self l =
    IsSound l.self × (past_bracket (levels_of l.self) ≡ past_bracket (levels_of l.initial.self)) × (l.self.nest ≤ l.initial.self.nest)
    × (list_any (λ m. is_bracket m.opener) (levels_of l.self) ≡ true)

abbrev pub decreases-loop-self : goal.decreases-loop-self
decreases-loop-self l = l.self.depth
