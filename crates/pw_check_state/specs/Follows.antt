-- What code that follows a rule answers, where the rule leaves the state as it is.
use Rattle.std.specs.Prelude.{Result}
use Rattle.pw_check_walk.specs.declared.constraints.CheckFault.{CheckFault}
use Rattle.pw_check_walk.specs.Calls.{Obeys}
use Rattle.pw_check_walk.specs.Walks.{RuleOver}

abbrev pub Follows : {S A R : Type 0} → (R → A) → RuleOver S A → S → Result R CheckFault → Type 0
Follows view rule s result = Obeys view (rule s) result s

-- the same of a rule that changes the state
abbrev pub Leads : {S A R : Type 0} → (R → A) → RuleOver S A → S → Result R CheckFault → S → Type 0
Leads view rule before result after = Obeys view (rule before) result after
