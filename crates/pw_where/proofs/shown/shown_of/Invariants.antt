-- those of the globals that are left stand behind those that are there
use Rattle.std.proofs.Common.{◌≡◌, ◌++◌, map, length}
use Rattle.pw_where.specs.Shown.{shown_of}
use Rattle.pw_where.proofs.shown.shown_of.Given as goal

abbrev pub invariant-loop-rest : goal.invariant-loop-rest
invariant-loop-rest l = l.shown.items ++ shown_of (map (λ g. g.now) l.rest) l.objects ≡ shown_of (map (λ g. g.now) l.globals) l.fn.objects

abbrev pub decreases-loop-rest : goal.decreases-loop-rest
decreases-loop-rest l = length l.rest
