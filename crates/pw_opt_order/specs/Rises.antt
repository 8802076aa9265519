-- Transfers that rise: more that is known before an operation is more that is known behind it.
use Rattle.std.specs.Prelude.{◌≡◌, List, length}
use Rattle.pw_flow.specs.declared.flow.Op.{Op}
use Rattle.pw_opt_rules.specs.declared.flat.Flat.{Flat}
use Rattle.pw_opt_rules.specs.Rows.{IsRowBelow}

pub record Rises (transfer : List Flat → Op → List Flat) : Type 0 where
  pub long : (row : List Flat) (o : Op) → length (transfer row o) ≡ length row
  pub up : (xs ys : List Flat) (o : Op) → length xs ≡ length ys → IsRowBelow xs ys → IsRowBelow (transfer xs o) (transfer ys o)
