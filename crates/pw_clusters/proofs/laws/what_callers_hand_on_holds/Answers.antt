use Rattle.std.proofs.Common.{◌≡◌, true}
use Rattle.pw_clusters.proofs.Climbing.{everywhere}
use Rattle.pw_clusters.proofs.laws.what_callers_hand_on_holds.Goals as goal

pub returns : goal.returns
returns c = λ g holds rows once from_callers f lt. everywhere g rows (λ q. holds q ≡ true) (record { once = once; from_callers = from_callers }) f lt
