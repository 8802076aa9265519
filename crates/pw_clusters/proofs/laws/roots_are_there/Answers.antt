use Rattle.pw_clusters.proofs.Telling.{told}
use Rattle.pw_clusters.proofs.Making.{there}
use Rattle.pw_clusters.proofs.laws.roots_are_there.Goals as goal

pub returns : goal.returns
returns c = λ ss g of. there ss g (told ss g of) of
