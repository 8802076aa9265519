use Rattle.std.proofs.Common.{◌≡◌, ◌≤◌, ◌*◌, take}
use Rattle.std.specs.List.{sum_by}
use Rattle.pw_webs.specs.Webs.{weight}
use Rattle.pw_webs.proofs.parts.total.Given as goal

abbrev pub invariant-loop-place : goal.invariant-loop-place
invariant-loop-place l = record { sum : l.sum ≡ sum_by (weight l.graph l.global) (take l.place-index l.members); small : l.sum ≤ l.place-index * 8589934592 }
