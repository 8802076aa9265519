-- What a name of the program is: some bytes, at least one, and no more than the limit; and the order of names.
use Rattle.std.specs.Prelude.{ℕ, ◌≤◌, ◌&&◌, nat_le, Bool, List}
use Rattle.std.specs.Ordering.{nat_cmp, is_lt}
use Rattle.std.specs.Cmp.Lexicographic.{slice_cmp}
use Rattle.pw_value.specs.Limits.{name_limit}

-- a count of bytes that a name may have
abbrev pub IsNameLength : ℕ → Type 0
IsNameLength count = (1 ≤ count) × (count ≤ name_limit)

abbrev pub is_name_length : ℕ → Bool
is_name_length count = nat_le 1 count && nat_le count name_limit

-- in byte order
abbrev pub is_before : List ℕ → List ℕ → Bool
is_before a b = is_lt (slice_cmp nat_cmp a b)
