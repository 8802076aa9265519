-- What two pointers become, and which pointer is assigned to which.
use Rattle.std.specs.Prelude.{Bool, not, ◌&&◌, ◌||◌, if◌then◌else◌}
use Rattle.pw_types.specs.TypeTrees.{CType, Void, type_of}
use Rattle.pw_check_rules.specs.Compatible.{compatible_types, composite_type, qualified_within}
use Rattle.pw_check_rules.specs.Kinds.{is_pointer, pointee, points_to_void, points_to_function}
use Rattle.pw_check_rules.specs.Operators.{pointer_with_both}

-- neither of which is a null pointer constant
abbrev pub joined : CType → CType → CType
joined a b =
    if points_to_void a || points_to_void b then pointer_with_both Void (pointee a) (pointee b) else
    pointer_with_both (composite_type (type_of (pointee a)) (type_of (pointee b))) (pointee a) (pointee b)

-- a pointer that is assigned to another (6.3.16.1)
abbrev pub pointer_fits : CType → CType → Bool
pointer_fits to from =
    is_pointer to && is_pointer from && qualified_within (pointee from) (pointee to)
    && (compatible_types (type_of (pointee to)) (type_of (pointee from))
    || (points_to_void to && not (points_to_function from))
    || (points_to_void from && not (points_to_function to)))
