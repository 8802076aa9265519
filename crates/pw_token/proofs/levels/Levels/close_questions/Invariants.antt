use Rattle.std.proofs.Common.{◌≡◌, ◌≤◌}
use Rattle.pw_token.specs.Levels.{levels_of, IsSound}
use Rattle.pw_token.specs.Nesting.{without_questions}
use Rattle.pw_token.proofs.levels.Levels.close_questions.Given as goal

-- what is left gives the answer
abbrev pub invariant-loop-self : goal.invariant-loop-self
invariant-loop-self l =
    IsSound l.self × (without_questions (levels_of l.self) ≡ without_questions (levels_of l.initial.self)) × (l.self.nest ≤ l.initial.self.nest)

abbrev pub decreases-loop-self : goal.decreases-loop-self
decreases-loop-self l = l.self.depth
