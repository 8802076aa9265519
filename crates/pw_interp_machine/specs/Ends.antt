-- How a run ends in which main returned (ISO C90 5.1.2.2.3).
use Rattle.std.specs.Prelude.{◌%◌, Option, Some, None}
use Rattle.pw_value.specs.declared.value.Value.{Value}
use Rattle.pw_value.specs.declared.value.Value.TheVariants as V
use Rattle.pw_cmean.specs.declared.undefined.Undef.TheVariants.{MissingResult}
use Rattle.pw_cmean.specs.Worlds.{Body, Defined, Library}
use Rattle.pw_cmean.specs.Acts as acts

-- this value: its low eight bits are the status
abbrev pub ended_with : Value → acts.Ending
ended_with (V.Num n) = acts.Exit (n % 256)
ended_with V.Undefined = acts.Wrong
ended_with V.Null = acts.Wrong
ended_with (V.At p) = acts.Wrong
ended_with (V.Piece p i) = acts.Wrong

-- no result
abbrev pub unreturned : Body → acts.Ending
unreturned (Defined home f) = acts.Undefined MissingResult home.name f.token
unreturned (Library g) = acts.Wrong

-- so
abbrev pub finished : Body → Option Value → acts.Ending
finished body (Some v) = ended_with v
finished body None = unreturned body
