use Rattle.std.proofs.Common.{◌≡◌, ◌++◌, drop, length}
use Rattle.std.specs.List.{AllByRecursion}
use Rattle.pw_object.specs.Functions as object
use Rattle.pw_phase_two.specs.Phases.{all_compiled}
use Rattle.pw_phase_two.proofs.compiling.compile_all.Given as goal

-- the functions that are left are still to be compiled
abbrev pub invariant-loop-f : goal.invariant-loop-f
invariant-loop-f l = record {
  so_far : l.compiled ++ all_compiled (drop (length l.yielded) l.functions) (drop (length l.yielded) l.directives) ≡ all_compiled l.functions l.directives;
  made : AllByRecursion object.IsFunction l.compiled;
}
