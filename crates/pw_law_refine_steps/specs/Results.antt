-- Where the result of code stands.
use Rattle.std.specs.Prelude.{ℕ, ◌≡◌, ◌<◌, ◌≤◌, Some}
use Rattle.pw_lower.specs.declared.code.Code.{Code}
use Rattle.pw_lower.specs.Codes.{Lowered}

-- in a temporary whose number was given out since
pub record HasNewResult (c : Code) (y : Lowered) : Type 0 where
  pub result : ℕ
  pub is : y.temp ≡ Some result
  pub since : c.temps ≤ result
  pub given : result < y.code.temps
