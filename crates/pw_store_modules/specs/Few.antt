-- The modules of a store, of which there are not too many.
use Rattle.std.specs.Prelude.{◌≡◌, ℕ, ◌≤◌, ◌<◌, Result, Ok, Err}
use Rattle.pw_io.specs.Faults.{Rose}
use Rattle.pw_io.specs.declared.StoreError.TheVariants as store
use Rattle.pw_value.specs.Limits.{module_limit}
use Rattle.pw_store_modules.specs.declared.few.ModulesFault.{ModulesFault}
use Rattle.pw_store_modules.specs.declared.few.ModulesFault.TheVariants as modules

-- of so many modules their count was told, where it is above the limit; or the store's own answer
abbrev pub IsFewFault : ℕ → ModulesFault → Type 0
IsFewFault count (modules.TooMany many) = (many ≡ count) × (module_limit < count)
IsFewFault count (modules.Store error) = Unit {0}

-- of so many modules something was answered only where they are within the limit, or such a fault
abbrev pub AnswersFew : {T : Type 0} → ℕ → Result T ModulesFault → Type 0
AnswersFew count (Ok value) = count ≤ module_limit
AnswersFew count (Err fault) = IsFewFault count fault

-- the store failed only where its count of faults rose; any other fault leaves it as it was
abbrev pub HasFaultCause : ℕ → ℕ → ModulesFault → Type 0
HasFaultCause before now (modules.TooMany many) = now ≡ before
HasFaultCause before now (modules.Store store.Failed) = Rose before now
HasFaultCause before now (modules.Store store.NoMemory) = now ≡ before

-- the same of an answer
abbrev pub HasModulesCause : {T : Type 0} → ℕ → ℕ → Result T ModulesFault → Type 0
HasModulesCause before now (Ok value) = now ≡ before
HasModulesCause before now (Err fault) = HasFaultCause before now fault
