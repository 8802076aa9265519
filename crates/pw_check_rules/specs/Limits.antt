-- The limits on types and names that are declared (ISO C90 5.2.4.1), and what is to be complete.
use Rattle.std.specs.Prelude.{ℕ, Bool, false, not, ◌&&◌, nat_le, nat_lt, if◌then◌else◌, Option, None, Some, is_some, unwrap_or, List, [], ◌∷◌, length}
use Rattle.std.specs.Option.{option_or}
use Rattle.pw_types.specs.TypeTrees.{CType, Pointer, Array, Function, QType, Qualified, type_of, is_volatile, RecordValue}
use Rattle.pw_types.specs.Records.{depth_of}
use Rattle.pw_value.specs.Limits.{depth_limit, shape_limit, parameter_limit}
use Rattle.pw_types.specs.Shapes.{shape_of}
use Rattle.pw_types.specs.Sizes.{oversize_of}
use Rattle.pw_check_walk.specs.Causes.{Constraint, Cause, Point, Within, needs, keeps, DeclaredTag}
use Rattle.pw_check_walk.specs.declared.constraints.Which.{Which}
use Rattle.pw_check_walk.specs.declared.constraints.Which.TheVariants.{NameLength, ObjectSize, ShapeLength, TypeDepth, Parameters}
use Rattle.pw_check_rules.specs.Kinds.{count_of_types, innermost, is_complete, is_record}

-- bytes of an identifier
abbrev pub identifier_limit : ℕ
identifier_limit = 255

-- a number that passes a limit, if there is one
abbrev pub passes : Which → ℕ → Option ℕ → Cause
passes limit token count =
    record { constraint = Within limit (unwrap_or count 0); token = token; broken = is_some count }

abbrev pub above : ℕ → ℕ → Option ℕ
above most n = if nat_lt most n then Some n else None

-- The shape of the first type that is too long, from the element outward: a declared name's shape is made of those of an
-- array's elements; of what a pointer points to it has nothing.
unfoldable pub long_shape_of : List RecordValue → CType → Bool → Option ℕ
long_shape_of records (Array (Qualified ty c v) n) volatile =
    option_or (long_shape_of records ty v) (above shape_limit (length (shape_of records (Array (Qualified ty c v) n) volatile)))
long_shape_of records ty volatile = above shape_limit (length (shape_of records ty volatile))

-- the parameters of the first function type that has too many, from the element outward
unfoldable pub many_parameters : CType → Option ℕ
many_parameters (Pointer (Qualified ty c v)) = many_parameters ty
many_parameters (Array (Qualified ty c v) n) = many_parameters ty
many_parameters (Function (Qualified ty c v) ps) = option_or (many_parameters ty) (above parameter_limit (count_of_types ps))
many_parameters _ = None

-- no name of a text is without bytes
abbrev pub name_within : ℕ → List ℕ → Cause
name_within token name =
    record {
      constraint = Within NameLength (length name);
      token = token;
      broken = not (nat_le 1 (length name) && nat_le (length name) identifier_limit);
    }

-- the limits of a type that a declarator builds
abbrev pub type_within : List RecordValue → ℕ → QType → Point
type_within records token q =
    passes ObjectSize token (oversize_of records (type_of q))
    ∷ passes ShapeLength token (long_shape_of records (type_of q) (is_volatile q))
    ∷ keeps TypeDepth depth_limit token (depth_of records (type_of q))
    ∷ passes Parameters token (many_parameters (type_of q))
    ∷ []

-- Where the faults of a type stand: at the declared name, or without one at the first specifier; the first specifier; the
-- tag that the specifiers brought in.
pub record Spot : Type 0 where
  pub token : ℕ
  pub specifier : ℕ
  pub tag : Option ℕ

-- a structure or union without content, or an array of such
abbrev pub lacks_content : List RecordValue → CType → Bool
lacks_content records ty = is_record (innermost ty) && not (is_complete records (innermost ty))

-- A type that is to be complete: where its specifiers brought in the tag of a record that has no content, that tag is not
-- declared (6.5.2.3); else the constraint is broken.
abbrev pub completed : List RecordValue → Spot → Constraint → CType → Cause
completed records spot constraint ty =
    if is_some spot.tag then
    (if lacks_content records ty then needs DeclaredTag (unwrap_or spot.tag 0) false
    else needs constraint spot.token (is_complete records ty))
    else needs constraint spot.token (is_complete records ty)
