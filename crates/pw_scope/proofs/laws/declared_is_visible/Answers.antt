use Rattle.pw_scope.proofs.Visibility.{visible-declared_same}
use Rattle.pw_scope.proofs.laws.declared_is_visible.Goals as goal

pub returns : goal.returns
returns g c = visible-declared_same
