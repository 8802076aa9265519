-- Conversions to pointers, of which null pointers are made.
use Rattle.std.specs.Prelude.{Bool, false, not, ◌&&◌, Option, None, Some}
use Rattle.pw_types.specs.TypeTrees.{CType, Void, Pointer, Qualified}
use Rattle.pw_types.specs.TypedTrees.{Expression, Node}
use Rattle.pw_types.specs.TypedTrees as T

-- `void *`, where what it points to has no qualifiers
abbrev pub is_plain_void_pointer : CType → Bool
is_plain_void_pointer (Pointer (Qualified Void c v)) = not c && not v
is_plain_void_pointer _ = false

-- what a conversion to a pointer converts
abbrev pub made_pointer : Expression → Option Expression
made_pointer (Node t (Qualified (Pointer q) c v) (T.Cast a)) = Some a
made_pointer _ = None
