use Rattle.std.proofs.Common.{◌≡◌, ◌≤◌}
use Rattle.std.specs.List.{list_any}
use Rattle.pw_token.specs.Levels.{outers}
use Rattle.pw_token.specs.Nesting.{is_bracket}
use Rattle.pw_token.proofs.levels.Levels.has_outer_bracket.Given as goal

-- the levels that are left give the answer
abbrev pub invariant-loop-at : goal.invariant-loop-at
invariant-loop-at l =
    (list_any (λ m. is_bracket m.opener) (outers l.self.outer l.at) ≡ list_any (λ m. is_bracket m.opener) (outers l.self.outer l.self.depth)) × (l.at ≤ l.self.depth)

abbrev pub decreases-loop-at : goal.decreases-loop-at
decreases-loop-at l = l.at
