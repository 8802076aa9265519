-- What follows in a run on what an act gives.
use Rattle.std.specs.Prelude.{Option}
use Rattle.pw_value.specs.declared.value.Value.{Value}
use Rattle.pw_cmean.specs.Worlds.{Body}
use Rattle.pw_cmean.specs.Acts.{Act, ◌>>=◌}
use Rattle.pw_cmean.specs.SourceRun.{finish}

-- on what main returned
abbrev pub then_finished : Act (Option Value) → Body → Act (Unit {0})
then_finished act main = act >>= finish main
