-- Initialisers (ISO C90 6.5.7). A list in braces initialises the parts of an object in their order. Where it has no braces for
-- a part that has parts of its own, it goes on inside that part, and takes only as many initialisers as it has.
use Rattle.std.specs.Prelude.{ℕ, zero, suc, ◌+◌, ◌*◌, ◌/◌, ◌%◌, ◌==◌, Bool, true, false, not, ◌&&◌, ◌||◌, nat_le, nat_lt, if◌then◌else◌, Option, None, Some, is_some, unwrap_or, option_map, option_and_then, List, [], ◌∷◌, ◌++◌, length, slice_get, take, zip}
use Rattle.std.specs.Option.{option_map_or}
use Rattle.pw_check_literals.specs.Characters.{characters_of_strings, string_bytes_of}
use Rattle.pw_tree.specs.FirstTokens.{first_of_expr, first_of_words}
use Rattle.pw_tree.specs.Trees.{Word, Expr, Init, Inits}
use Rattle.pw_tree.specs.Trees as S
use Rattle.pw_types.specs.Conversions.{size_of_kind}
use Rattle.pw_types.specs.declared.record.RecordKind.{RecordKind}
use Rattle.pw_types.specs.declared.record.RecordKind.TheVariants.{Structure, Union}
use Rattle.pw_types.specs.TypeTrees.{CType, Int, Pointer, Array, Record, QType, Qualified, type_of, MemberValue, RecordValue}
use Rattle.pw_types.specs.TypedTrees.{Expression, Node, PlacedItem, ItemValue, ItemBytes, ItemAddress}
use Rattle.pw_types.specs.TypedTrees as T
use Rattle.pw_types.specs.Layouts.{content_at, size_of}
use Rattle.pw_types.specs.Records.{kind_at}
use Rattle.pw_value.specs.Limits.{depth_limit}
use Rattle.pw_check_walk.specs.Causes.{needs, InitialiserType, InitialiserForm, InitialiserCount, ConstantInitialiser}
use Rattle.pw_check_walk.specs.Walks.{meets, granted, pure, asks, ◌>>=◌, ◌>>◌}
use Rattle.pw_check_rules.specs.Kinds.{plain, is_scalar, is_array, is_character_array}
use Rattle.pw_check_rules.specs.Constants.{constant_value, is_null_pointer, address_of, Place}
use Rattle.pw_check_rules.specs.Operands.{cast_to}
use Rattle.pw_types.specs.WellTyped.{type_in}
use Rattle.pw_check_rules.specs.Operators.{value_rule, is_assignable, same_record}
use Rattle.pw_check_rules.specs.Leaves.{texts_of, string_type, string_point, is_nil}
use Rattle.pw_check_rules.specs.States.{Rule, records_in}
use Rattle.pw_check_rules.specs.Phrases.{expr_rule}

-- The declared name, at which the faults of types stand; whether constants are asked for; the hidden object of a local that
-- is initialised by its bytes.
pub record Context : Type 0 where
  pub token : ℕ
  pub constant : Bool
  pub hidden : ℕ

-- what initialisers have given: the object's first bytes, and the expressions that they are made of
pub record Filled : Type 0 where
  pub items : List PlacedItem
  pub parts : List Expression

abbrev pub nothing_filled : Filled
nothing_filled = record { items = []; parts = [] }

-- ---- the places of a list

-- an object with its offset, and the number of its part that comes next
pub record Frame : Type 0 where
  pub ty : CType
  pub offset : ℕ
  pub next : ℕ

-- the objects that are initialised, the innermost first
abbrev pub Cursor : Type 0
Cursor = List Frame

-- a part of an object, and its offset
pub record Target : Type 0 where
  pub ty : QType
  pub offset : ℕ

abbrev pub target_at : QType → ℕ → Target
target_at q offset = record { ty = q; offset = offset }

abbrev pub element_of : List RecordValue → QType → Option ℕ → Frame → Option Target
element_of records q count f =
    if option_map_or (nat_lt f.next) count true then
    Some (target_at q (f.offset + f.next * unwrap_or (size_of records (type_of q)) 0))
    else None

abbrev pub member_target : ℕ → MemberValue × ℕ → Target
member_target offset m = target_at m.0.ty (offset + m.1)

abbrev pub is_union : RecordKind → Bool
is_union Union = true
is_union Structure = false

-- of a union its first member is initialised
abbrev pub is_past_union : List RecordValue → ℕ → ℕ → Bool
is_past_union records n next = is_union (kind_at records n) && not (next == 0)

abbrev pub member_at : List RecordValue → ℕ → Frame → Option Target
member_at records n f =
    if is_past_union records n f.next then None
    else option_map (member_target f.offset) (option_and_then (λ c. slice_get (zip c.members c.offsets) f.next) (content_at records n))

-- the part that comes next; a scalar is its own part
abbrev pub part_of : List RecordValue → CType → Frame → Option Target
part_of records (Array q count) f = element_of records q count f
part_of records (Record n) f = member_at records n f
part_of records ty f = if f.next == 0 then Some (target_at (plain ty) f.offset) else None

abbrev pub next_part : List RecordValue → Frame → Option Target
next_part records f = part_of records f.ty f

abbrev pub one_on : Frame → Frame
one_on f = record f { next = f.next + 1 }

-- behind the part that came: an object without parts left is left, but for the outermost
unfoldable pub passed : List RecordValue → Cursor → Cursor
passed records [] = []
passed records (f ∷ outer) =
    if is_some (next_part records (one_on f)) || is_nil outer then one_on f ∷ outer else passed records outer

abbrev pub frame_of : Target → Frame
frame_of t = record { ty = type_of t.ty; offset = t.offset; next = 0 }

-- the part that comes next, and the objects around it
pub record Reached : Type 0 where
  pub target : Target
  pub cursor : Cursor

-- The next part that an initialiser is for: a scalar, or a part that it initialises whole; else inside the part, so deep a
-- type at most.
unfoldable pub reached : ℕ → List RecordValue → (CType → Bool) → Cursor → Option Reached
reached zero records takes cursor = None
reached (suc deep) records takes [] = None
reached (suc deep) records takes (f ∷ outer) =
    option_and_then
    (λ t. if is_scalar (type_of t.ty) || takes (type_of t.ty) then Some (record { target = t; cursor = f ∷ outer })
    else reached deep records takes (frame_of t ∷ f ∷ outer))
    (next_part records f)

abbrev pub reach : List RecordValue → (CType → Bool) → Cursor → Option Reached
reach records takes cursor = reached (depth_limit + 1) records takes cursor

abbrev pub outermost : Cursor → ℕ
outermost [] = 0
outermost (f ∷ []) = f.next
outermost (f ∷ g ∷ outer) = outermost (g ∷ outer)

-- how many elements a list gave to the array in braces
abbrev pub elements_given : Cursor → ℕ
elements_given [] = 0
elements_given (f ∷ []) = f.next
elements_given (f ∷ g ∷ outer) = 1 + outermost (g ∷ outer)

-- ---- one initialiser

-- a word in its bytes, the highest first
abbrev pub word_bytes : ℕ → ℕ → List ℕ
word_bytes zero n = []
word_bytes (suc size) n = word_bytes size (n / 256) ++ n % 256 ∷ []

abbrev pub address_item : Place → ItemValue
address_item p = ItemAddress p.symbol p.offset

-- a constant of a scalar's type, as it stands in the object (6.4)
abbrev pub item_of : List RecordValue → CType → Expression → Option ItemValue
item_of records (Int kind) e = option_map (λ n. ItemBytes (word_bytes (size_of_kind kind) n)) (constant_value e)
item_of records (Pointer q) e =
    if is_null_pointer e then Some (ItemBytes (word_bytes 4 0)) else option_map address_item (address_of records e)
item_of records _ e = None

abbrev pub item_list : ℕ → Option ItemValue → List PlacedItem
item_list offset None = []
item_list offset (Some item) = record { offset = offset; item = item } ∷ []

abbrev pub fill : List PlacedItem → Expression → Filled → Filled
fill items part filled = record { items = filled.items ++ items; parts = filled.parts ++ part ∷ [] }

-- an expression for a part, whose value is converted as by an assignment
unfoldable pub value_filled : Context → ℕ → Target → Expression → Filled → Rule Filled
value_filled cx first t e filled =
    asks records_in >>= λ records.
    let part = cast_to (type_of t.ty) e in
    let item = item_of records (type_of t.ty) part in
    meets (
    needs InitialiserForm cx.token (not (is_array (type_of t.ty)))
    ∷ needs InitialiserType cx.token (is_assignable (type_of t.ty) e)
    ∷ needs ConstantInitialiser first (not cx.constant || is_some item)
    ∷ []) >>
    pure (fill (item_list t.offset item) part filled)

-- the bytes of a string in an array of so many: its zero may be left out
abbrev pub string_fits : CType → ℕ → Bool
string_fits (Array q (Some n)) count = nat_le count n
string_fits _ count = true

abbrev pub bytes_within : CType → List ℕ → List ℕ
bytes_within (Array q (Some n)) bytes = take n bytes
bytes_within _ bytes = bytes

unfoldable pub string_filled : Context → List Word → Target → Filled → Rule Filled
string_filled cx ws t filled =
    let bytes = string_bytes_of (texts_of ws) in
    string_point ws >>
    meets (needs InitialiserCount cx.token (string_fits (type_of t.ty) (length (characters_of_strings (texts_of ws)))) ∷ []) >>
    pure (fill (item_list t.offset (Some (ItemBytes (bytes_within (type_of t.ty) bytes))))
    (Node (first_of_words ws) (string_type bytes) (T.Str cx.hidden)) filled)

-- ---- lists

-- A string literal that stands alone, not in parentheses.
pub data StringForm : Type 0 where
  IsString : List Word → StringForm
  IsOther : StringForm

abbrev pub string_form : Expr → StringForm
string_form (S.Strings ws) = IsString ws
string_form _ = IsOther

-- one string literal in braces
abbrev pub braced_string : Inits → StringForm
braced_string (S.Listed (S.Value e) S.NoInit) = string_form e
braced_string _ = IsOther

-- which part it initialises whole: a record its own type
abbrev pub takes_record : Expression → CType → Bool
takes_record e ty = same_record ty (type_in e)

unfoldable pub listed_value : Context → Cursor → Filled → ℕ → Expression → Rule (Cursor × Filled)
listed_value cx cursor filled first e =
    asks records_in >>= λ records.
    granted InitialiserCount cx.token [] (reach records (takes_record e) cursor) >>= λ r.
    value_filled cx first r.target e filled >>= λ more.
    pure (passed records r.cursor, more)

-- whether a string comes to an array of characters
abbrev pub meets_characters : List RecordValue → Cursor → Bool
meets_characters records cursor =
    option_map_or (λ r. is_character_array (type_of r.target.ty)) (reach records is_character_array cursor) false

unfoldable pub listed_string : Context → Cursor → Filled → List Word → Rule (Cursor × Filled)
listed_string cx cursor filled ws =
    asks records_in >>= λ records.
    granted InitialiserCount cx.token [] (reach records is_character_array cursor) >>= λ r.
    string_filled cx ws r.target filled >>= λ more.
    pure (passed records r.cursor, more)

-- an expression in a list
unfoldable pub listed_expression : Context → Cursor → Filled → Expr → Rule (Cursor × Filled)
listed_expression cx cursor filled e =
    expr_rule e >>= λ a.
    value_rule a >>= λ x.
    listed_value cx cursor filled (first_of_expr e) x

unfoldable pub listed_by : Bool → Context → Cursor → Filled → Expr → List Word → Rule (Cursor × Filled)
listed_by true cx cursor filled e ws = listed_string cx cursor filled ws
listed_by false cx cursor filled e ws = listed_expression cx cursor filled e

unfoldable pub listed_form : Context → Cursor → Filled → Expr → StringForm → Rule (Cursor × Filled)
listed_form cx cursor filled e IsOther = listed_expression cx cursor filled e
listed_form cx cursor filled e (IsString ws) =
    asks (λ s. meets_characters (records_in s) cursor) >>= λ whole.
    listed_by whole cx cursor filled e ws

-- braces are for the next part itself, and a scalar has one pair at most
abbrev pub takes_braces : Cursor → Bool
takes_braces [] = false
takes_braces (f ∷ outer) = not (is_scalar f.ty)

abbrev pub next_target : List RecordValue → Cursor → Option Target
next_target records [] = None
next_target records (f ∷ outer) = next_part records f

unfoldable pub braced_target : Context → Cursor → Rule Target
braced_target cx cursor =
    asks records_in >>= λ records.
    granted InitialiserCount cx.token (needs InitialiserForm cx.token (takes_braces cursor) ∷ []) (next_target records cursor)

-- whether one string in braces is for an array of characters
abbrev pub fills_characters : CType → StringForm → Bool
fills_characters ty IsOther = false
fills_characters ty (IsString ws) = is_character_array ty

abbrev pub words_in : StringForm → List Word
words_in (IsString ws) = ws
words_in IsOther = []

-- by a string in braces, or by the list
unfoldable pub braced_by : Bool → Context → Target → Filled → List Word → Rule (Cursor × Filled) → Rule (Cursor × Filled)
braced_by true cx t filled ws within = string_filled cx ws t filled >>= λ more. pure ([], more)
braced_by false cx t filled ws within = within

unfoldable mutual
  -- the initialisers of a list, one after another
  pub inits_rule : Inits → Context → Cursor → Filled → Rule (Cursor × Filled)
  inits_rule S.NoInit cx cursor filled = pure (cursor, filled)
  inits_rule (S.Listed i rest) cx cursor filled =
      init_rule i cx cursor filled >>= λ r.
      inits_rule rest cx r.0 r.1

  pub init_rule : Init → Context → Cursor → Filled → Rule (Cursor × Filled)
  init_rule (S.Value e) cx cursor filled = listed_form cx cursor filled e (string_form e)
  init_rule (S.Braces token is trailing) cx cursor filled =
      braced_target cx cursor >>= λ t.
      braced_by (fills_characters (type_of t.ty) (braced_string is)) cx t filled (words_in (braced_string is))
      (inits_rule is cx (frame_of t ∷ []) filled) >>= λ r.
      asks records_in >>= λ records.
      pure (passed records cursor, r.1)

-- ---- the initialiser of an object

-- its type, whose length an initialiser may give, its first bytes, and the expressions
pub record Initialised : Type 0 where
  pub ty : QType
  pub filled : Filled

-- the type with the length that was given
abbrev pub with_length : ℕ → QType → QType
with_length n (Qualified (Array q None) c v) = Qualified (Array q (Some n)) c v
with_length n q = q

abbrev pub initialised_as : QType → Filled → Initialised
initialised_as q filled = record { ty = q; filled = filled }

unfoldable pub object_string : Context → QType → List Word → Rule Initialised
object_string cx q ws =
    string_filled cx ws (target_at q 0) nothing_filled >>= λ filled.
    pure (initialised_as (with_length (length (string_bytes_of (texts_of ws))) q) filled)

unfoldable pub object_value : Context → QType → Expr → Rule Initialised
object_value cx q e =
    expr_rule e >>= λ a.
    value_rule a >>= λ x.
    value_filled cx (first_of_expr e) (target_at q 0) x nothing_filled >>= λ filled.
    pure (initialised_as q filled)

unfoldable pub object_list : Context → QType → Inits → Rule Initialised
object_list cx q is =
    inits_rule is cx (frame_of (target_at q 0) ∷ []) nothing_filled >>= λ r.
    pure (initialised_as (with_length (elements_given r.0) q) r.1)

unfoldable pub object_by : Bool → Context → QType → List Word → Rule Initialised → Rule Initialised
object_by true cx q ws otherwise = object_string cx q ws
object_by false cx q ws otherwise = otherwise

unfoldable pub object_rule : Context → QType → Init → Rule Initialised
object_rule cx q (S.Value e) =
    object_by (fills_characters (type_of q) (string_form e)) cx q (words_in (string_form e)) (object_value cx q e)
object_rule cx q (S.Braces token is trailing) =
    object_by (fills_characters (type_of q) (braced_string is)) cx q (words_in (braced_string is)) (object_list cx q is)

-- whether a local is initialised by the bytes of a hidden object: by a list for an object with parts, or by a string for an
-- array of characters
abbrev pub is_by_bytes : CType → Init → Bool
is_by_bytes ty (S.Value e) = fills_characters ty (string_form e)
is_by_bytes ty (S.Braces token is trailing) = not (is_scalar ty)
