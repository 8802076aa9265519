-- The count of an object's faults, and which answers it explains.
use Rattle.std.specs.Prelude.{◌≡◌, ℕ, ◌+◌, ◌-◌, ◌^◌, ◌≤◌, min, Result, Ok, Err}
use Rattle.pw_io.specs.declared.Failed.{Failed as Fault}
use Rattle.pw_io.specs.declared.StoreError.{StoreError}
use Rattle.pw_io.specs.declared.StoreError.TheVariants.{Failed, NoMemory}

-- the count of faults after one more; it ends at the greatest 64-bit number
abbrev pub next_fault : ℕ → ℕ
next_fault faults = min (faults + 1) (2 ^ 64 - 1)

-- The count is greater than before, or stands at the greatest 64-bit number, where counters end.
abbrev pub Rose : ℕ → ℕ → Type 0
Rose before now = next_fault before ≤ now

-- A source or sink answers `Failed` only where its count rose; any other answer leaves it as it was.
abbrev pub HasCause : {T : Type 0} → ℕ → ℕ → Result T Fault → Type 0
HasCause before now (Ok _) = now ≡ before
HasCause before now (Err _) = Rose before now

-- The same of a store, whose count stays where memory runs out.
abbrev pub HasStoreCause : {T : Type 0} → ℕ → ℕ → Result T StoreError → Type 0
HasStoreCause before now (Ok _) = now ≡ before
HasStoreCause before now (Err Failed) = Rose before now
HasStoreCause before now (Err NoMemory) = now ≡ before

-- the fact, where the store failed
abbrev pub OnFailed : {T : Type 0} → Result T StoreError → Type 0 → Type 0
OnFailed (Ok _) P = Unit {0}
OnFailed (Err Failed) P = P
OnFailed (Err NoMemory) P = Unit {0}

-- the fact, where memory ran out
abbrev pub OnNoMemory : {T : Type 0} → Result T StoreError → Type 0 → Type 0
OnNoMemory (Ok _) P = Unit {0}
OnNoMemory (Err Failed) P = Unit {0}
OnNoMemory (Err NoMemory) P = P
