use Rattle.std.proofs.Common.{◌≡◌, take, map}
use Rattle.pw_interp_world.specs.Views.{view_part}
use Rattle.pw_interp.specs.Programs.{module_of}
use Rattle.pw_interp.proofs.run.parts_of.Given as goal

abbrev pub invariant-loop-named : goal.invariant-loop-named
invariant-loop-named l = map view_part l.parts.items ≡ map module_of (take l.named-index l.modules)
