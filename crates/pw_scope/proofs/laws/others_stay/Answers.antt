use Rattle.pw_scope.proofs.Visibility.{visible-declared_other}
use Rattle.pw_scope.proofs.laws.others_stay.Goals as goal

pub returns : goal.returns
returns g c = visible-declared_other
