-- The labels that the code of a part begins blocks of.
use Rattle.std.specs.Prelude.{ℕ, nat_eq, All, ◌<◌, not, List, filter, length}
use Rattle.std.specs.List.{IsDistinct}
use Rattle.pw_lower.specs.declared.code.Code.{Code}
use Rattle.pw_cmean.specs.Execution.{holds}

-- of the labels of a part those that are the labels of no case in it: the others are given blocks within
abbrev pub open_labels : (own cased : List ℕ) → List ℕ
open_labels own cased = filter (λ l. not (holds cased l)) own

-- The labels of a part differ, and so do those of its cases; there is room for the blocks of all.
pub record Fits (c : Code) (own cased : List ℕ) : Type 0 where
  pub once : IsDistinct nat_eq own
  pub one_use : IsDistinct nat_eq cased
  pub below : All (λ l. l < length c.labels) own
