-- What types are (ISO C90 6.1.2.5): the tests that checking and lowering share.
use Rattle.std.specs.Prelude.{Bool, true, false, ◌||◌}
use Rattle.pw_types.specs.TypeTrees.{CType, Void, Int, Pointer, Array, Function, Record}

-- integral types; there are no other arithmetic ones
abbrev pub is_integral : CType → Bool
is_integral (Int kind) = true
is_integral _ = false

abbrev pub is_pointer : CType → Bool
is_pointer (Pointer q) = true
is_pointer _ = false

abbrev pub is_scalar : CType → Bool
is_scalar ty = is_integral ty || is_pointer ty

abbrev pub is_void : CType → Bool
is_void Void = true
is_void _ = false

abbrev pub is_array : CType → Bool
is_array (Array q n) = true
is_array _ = false

abbrev pub is_function : CType → Bool
is_function (Function q ps) = true
is_function _ = false

-- a structure or a union
abbrev pub is_record : CType → Bool
is_record (Record n) = true
is_record _ = false
