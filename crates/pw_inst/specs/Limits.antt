-- The limits that instructions set, and the count of the routines.
use Rattle.std.specs.Prelude.{ℕ}

-- the greatest displacement of a load, a store or LDO, whose field has 14 bits
abbrev pub near_limit : ℕ
near_limit = 8191

-- and how far a displacement may go below 0
abbrev pub near_least : ℕ
near_least = 8192

-- the routines that a symbol may be: $divs, $divu, $mul, $rems and $remu
abbrev pub routine_count : ℕ
routine_count = 5
