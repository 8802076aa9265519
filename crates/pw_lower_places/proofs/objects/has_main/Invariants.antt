use Rattle.std.proofs.Common.{◌≡◌, map, drop}
use Rattle.pw_lower.specs.Modules.{start_of}
use Rattle.pw_typed.specs.Views.{view_function}
use Rattle.pw_lower_places.proofs.objects.has_main.Given as goal

-- no function so far is `main`
abbrev pub invariant-loop-f : goal.invariant-loop-f
invariant-loop-f l = start_of (map view_function (drop l.f-index l.all)) ≡ start_of (map view_function l.all)
