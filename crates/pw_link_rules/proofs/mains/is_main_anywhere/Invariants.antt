use Rattle.std.proofs.Common.{◌<◌, ◌≡◌, ◌≢◌, ℕ}
use Rattle.std.specs.Prelude.{Some, slice_get}
use Rattle.pw_value.specs.ProgramNames.{main_shape}
use Rattle.pw_link_rules.specs.declared.interface.Interface.{Interface}
use Rattle.pw_link_rules.proofs.mains.is_main_anywhere.Given as goal

abbrev pub invariant-loop-each : goal.invariant-loop-each
invariant-loop-each l = (k : ℕ) (i : Interface) → k < l.each-index → slice_get l.modules k ≡ Some i → i.main ≢ Some main_shape
