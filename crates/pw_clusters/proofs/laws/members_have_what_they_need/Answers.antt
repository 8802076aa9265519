use Rattle.pw_clusters.proofs.Greatest.{enough, attained}
use Rattle.pw_clusters.proofs.laws.members_have_what_they_need.Goals as goal

pub returns : goal.returns
returns c = record { enough = enough; attained = attained }
