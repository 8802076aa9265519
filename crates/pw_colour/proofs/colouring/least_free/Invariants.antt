use Rattle.std.proofs.Common.{ℕ, ◌<◌}
use Rattle.pw_colour.specs.Giving.{IsBusyIn}
use Rattle.pw_colour.proofs.colouring.least_free.Given as goal

abbrev pub invariant-loop-colour : goal.invariant-loop-colour
invariant-loop-colour l = (k : ℕ) → k < l.colour → IsBusyIn l.busy l.members k
