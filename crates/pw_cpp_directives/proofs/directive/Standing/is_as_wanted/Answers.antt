use Rattle.std.proofs.Common.{sym}
use Rattle.pw_cpp_directives.proofs.Effects.{as-wanted-none, as-wanted-some}
use Rattle.pw_cpp_directives.proofs.directive.Standing.is_as_wanted.Goals as goal

pub returns-in-Some : goal.returns-in-Some
returns-in-Some c = as-wanted-some c.args.wanted _ _ c.in-Some.ensures

pub returns-in-None : goal.returns-in-None
returns-in-None c = as-wanted-none c.args.wanted _ c.in-None.ensures
