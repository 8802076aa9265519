use Rattle.std.proofs.Common.{◌≡◌, ◌++◌}
use Rattle.std.specs.List.{flat_map, range_with_len}
use Rattle.pw_gen.specs.Generator.{foreign_global}
use Rattle.pw_gen.proofs.modules.add_foreign_globals.Given as goal

abbrev pub invariant-loop-other : goal.invariant-loop-other
invariant-loop-other l = l.out.items ≡ l.fn.out.items ++ flat_map (foreign_global l.k) (range_with_len 0 l.other)
