use Rattle.std.proofs.Common.{◌<◌, ◌≡◌, ℕ, List}
use Rattle.std.specs.Prelude.{Some, slice_get, Contains}
use Rattle.pw_value.specs.ProgramNames.{IsOrdinary}
use Rattle.pw_link_rules.proofs.undefined.first_unknown.Given as goal

abbrev pub invariant-loop-name : goal.invariant-loop-name
invariant-loop-name l = (k : ℕ) (other : List ℕ) → k < l.name-index → slice_get l.used k ≡ Some other → IsOrdinary other → Contains l.defined other
