use Rattle.std.proofs.Common.{◌++◌, List, drop, map}
use Rattle.pw_cmean.specs.Worlds.{ProgramModule}
use Rattle.pw_interp.specs.Programs.{module_of}
use Rattle.pw_store_modules.specs.Views.{source}
use Rattle.pw_interp_runs.specs.Running.{AreTyped}
use Rattle.pw_interp_runs.proofs.programs.typed_modules.Given as goal

-- the typed trees so far, before those of the modules that are left, are all
abbrev pub invariant-loop-which : goal.invariant-loop-which
invariant-loop-which l = (ms : List ProgramModule) → AreTyped (drop l.which-index (map source l.modules)) ms → AreTyped (map source l.modules) (map module_of l.typed.items ++ ms)
