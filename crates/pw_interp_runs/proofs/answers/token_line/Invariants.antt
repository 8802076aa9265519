-- the line is that of the modules that are left
use Rattle.std.proofs.Common.{◌≡◌, length, map}
use Rattle.pw_store_modules.specs.Views.{source}
use Rattle.pw_interp_runs.specs.Running.{token_line}
use Rattle.pw_interp_runs.proofs.answers.token_line.Given as goal

abbrev pub invariant-loop-rest : goal.invariant-loop-rest
invariant-loop-rest l = token_line (map source l.modules) l.name l.token ≡ token_line (map source l.rest) l.name l.token

abbrev pub decreases-loop-rest : goal.decreases-loop-rest
decreases-loop-rest l = length l.rest
