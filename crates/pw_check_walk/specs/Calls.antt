-- What code that follows a rule answers.
use Rattle.std.specs.Prelude.{◌≡◌, ◌⊎◌, Result, Ok, Err, IfOk, IfErr}
use Rattle.pw_check_walk.specs.declared.constraints.CheckFault.{CheckFault}
use Rattle.pw_check_walk.specs.declared.constraints.CheckKind.TheVariants.{NoMemory}
use Rattle.pw_check_walk.specs.Walks.{Walk, outcome}

-- What the rule makes, as plain data, with the state that it leaves; or the rule's fault; or want of memory, of which no
-- rule speaks.
pub record Obeys {S A R : Type 0} (view : R → A) (walk : Walk (A × S)) (result : Result R CheckFault) (left : S) : Type 0 where
  pub made : IfOk result (λ x. outcome walk ≡ Ok (view x, left))
  pub told : IfErr result (λ fault. (fault.kind ≡ NoMemory) ⊎ (outcome walk ≡ Err fault))
