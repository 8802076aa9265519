-- Where a temporary may have anything, each row has what it may.
use Rattle.std.specs.Prelude.{true, List}
use Rattle.std.proofs.Common.{refl}
use Rattle.pw_opt_rules.specs.declared.flat.Flat.{Flat}
use Rattle.pw_opt_rows.specs.Joins.{HasWhatMay}

pub anything_may : (row : List Flat) → HasWhatMay (λ _ _. true) row
anything_may row = λ t n is. refl
