use Rattle.std.proofs.Common.{◌≡◌, ◌++◌, take, map}
use Rattle.pw_typed.specs.Views.{view_global}
use Rattle.pw_cmean.specs.Worlds as worlds
use Rattle.pw_interp_world.proofs.globals.add_names.Given as goal

abbrev pub invariant-loop-global : goal.invariant-loop-global
invariant-loop-global l = l.names.items ≡ l.fn.names.items ++ map (λ g. worlds.full_name l.part.name.now g.name) (map view_global (take l.global-index l.global-items))
