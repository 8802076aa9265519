use Rattle.pw_scope.proofs.Visibility.{visible-append}
use Rattle.pw_scope.proofs.laws.inner_hides_outer.Goals as goal

pub returns : goal.returns
returns g c = visible-append
