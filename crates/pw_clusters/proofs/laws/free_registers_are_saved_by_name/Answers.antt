use Rattle.pw_clusters.proofs.Telling.{told}
use Rattle.pw_clusters.proofs.Naming.{saved_named}
use Rattle.pw_clusters.proofs.laws.free_registers_are_saved_by_name.Goals as goal

pub returns : goal.returns
returns c = λ ss g roots needs n of are named movable. saved_named ss g roots n of are named.calls movable (told ss g of) needs
