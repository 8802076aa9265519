use Rattle.std.proofs.Common.{◌≡◌, ◌∷◌, take, map, count_by}
use Rattle.pw_value.specs.ProgramNames.{start_name}
use Rattle.pw_value.specs.Names.{is_before}
use Rattle.pw_interp_world.specs.Views.{view_callables}
use Rattle.pw_interp_world.proofs.numbers.number_of.Given as goal

abbrev pub invariant-loop-other : goal.invariant-loop-other
invariant-loop-other l = l.count ≡ count_by (λ x. is_before x l.name) (start_name ∷ map (λ f. f.name) (view_callables (take l.other-index l.callables)))
