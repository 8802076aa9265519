use Rattle.std.proofs.Common.{◌≡◌, ℕ, ◌<◌, ◌++◌, length, map, reverse}
use Rattle.pw_cpp_expand.specs.Numbered.{AreKnown, fresh}
use Rattle.pw_cpp_expand.proofs.ahead.put_fresh.Given as goal
use Rattle.pw_cpp_sets.specs.Sets.{Known}

-- the tokens that are left come in front of those at hand
abbrev pub invariant-loop-token : goal.invariant-loop-token
invariant-loop-token l =
    (l.pending ++ reverse (map fresh l.tokens) ≡ l.initial.pending ++ reverse (map fresh l.initial.tokens))
    × ((known : Known) → 0 < length known → AreKnown known l.initial.pending → AreKnown known l.pending)

abbrev pub decreases-loop-token : goal.decreases-loop-token
decreases-loop-token l = length l.tokens
