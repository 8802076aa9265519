-- Layouts as they are told, and where there is no memory for them.
use Rattle.std.specs.Prelude.{◌≡◌, ◌-◌, ◌^◌, ◌≤◌, Option, Result, Ok, Err, IsSomeAnd}
use Rattle.pw_types.specs.declared.record.Layout.{Layout}

-- A layout is told as it is; there is no memory only for one of 2^32 - 1 bytes or more, whose sizes 32 bits do not
-- tell apart.
abbrev pub TellsLayout : {E : Type 0} → Option Layout → Result (Option Layout) E → Type 0
TellsLayout laid (Ok layout) = layout ≡ laid
TellsLayout laid (Err none) = IsSomeAnd laid (λ l. 2 ^ 32 - 1 ≤ l.size)
