use Rattle.std.proofs.Common.{◌≡◌, ◌≤◌, length}
use Rattle.std.specs.List.{All}
use Rattle.pw_cpp_expand.specs.Numbered.{AreKnown}
use Rattle.pw_cpp_expand.proofs.Results.{IsUsed}
use Rattle.pw_cpp_expand.proofs.expansion.used_of.Given as goal
use Rattle.pw_cpp_sets.specs.Sets.{Known}

-- of the arguments that are not left, those that are expanded wait
abbrev pub invariant-loop-tokens : goal.invariant-loop-tokens
invariant-loop-tokens l =
    (l.count ≡ length l.arguments) × (l.count ≤ length l.parameters) × ((known : Known) → IsUsed known l.source l.parameters l.replacement l.initial.arguments l.arguments l.waiting)
    × ((known : Known) → All (AreKnown known) l.initial.arguments → All (AreKnown known) l.arguments × All (λ raw. AreKnown known raw.tokens) l.waiting)

abbrev pub decreases-loop-tokens : goal.decreases-loop-tokens
decreases-loop-tokens l = length l.arguments
