-- An answer to a build, and that where nothing was kept.
use Rattle.std.specs.Prelude.{Result, Ok, Err}
use Rattle.pw_build_objects.specs.Programs.{Parts}
use Rattle.pw_build_objects.specs.Kept.{all_fresh}
use Rattle.pw_build.specs.declared.fault.BuildFault.{BuildFault}

-- the same answer with all objects made anew
abbrev pub built_anew : Result Parts BuildFault → Result Parts BuildFault
built_anew (Ok parts) = Ok (all_fresh parts)
built_anew (Err fault) = Err fault
