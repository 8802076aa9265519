use Rattle.pw_clusters.proofs.Roots.{one, each_is_its_own, each_is_within}
use Rattle.pw_clusters.proofs.laws.roots_are_one.Goals as goal

pub returns : goal.returns
returns c = record { one = λ ss g xs ys of are also. one ss g xs ys are also of; own = λ ss g roots of are. each_is_its_own ss g roots are of; within = λ ss g roots of are. each_is_within ss g roots are of }
