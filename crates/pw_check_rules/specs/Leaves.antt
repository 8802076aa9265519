-- What single names, constants and parts of declarators say, where no phrase within them is read any more.
use Rattle.std.specs.Prelude.{ℕ, ◌+◌, ◌==◌, Bool, true, false, not, ◌&&◌, ◌||◌, nat_le, if◌then◌else◌, Option, None, Some, is_some, is_none, unwrap_or, option_and_then, List, [], ◌∷◌, ◌++◌, length, map, filter, slice_get}
use Rattle.std.specs.List.{list_any}
use Rattle.std.specs.Option.{option_map_or}
use Rattle.std.specs.Str.{bytes_eq}
use Rattle.pw_check_literals.specs.Characters.{character_constant, characters_of, characters_of_strings, fits_bytes, string_bytes_of}
use Rattle.pw_check_literals.specs.Integers.{integer_type, integer_value}
use Rattle.pw_tree.specs.declared.expr.RecordKind.{RecordKind as TreeKind}
use Rattle.pw_tree.specs.declared.expr.RecordKind.TheVariants as X
use Rattle.pw_tree.specs.FirstTokens.{first_of_words, first_of_specifiers, first_of_parameter}
use Rattle.pw_tree.specs.Trees.{Word, Specifiers, Declarator, Parameters, NoParameter, Parameter}
use Rattle.pw_types.specs.Conversions.{is_signed_kind}
use Rattle.pw_types.specs.declared.kind.IntKind.TheVariants as K
use Rattle.pw_types.specs.declared.record.RecordKind.{RecordKind}
use Rattle.pw_types.specs.declared.record.RecordKind.TheVariants.{Structure, Union}
use Rattle.pw_types.specs.TypeTrees.{CType, Int, Pointer, Array, Function, Record, QType, Qualified, QTypes, type_of, is_constant, is_volatile, MemberValue, RecordValue, ContentValue}
use Rattle.pw_types.specs.TypedTrees.{Expression, Node, Hidden, PlacedItem, ItemBytes, token_of}
use Rattle.pw_types.specs.TypedTrees as T
use Rattle.pw_types.specs.Layouts.{record_layout, record_offsets}
use Rattle.pw_types.specs.Records.{kind_at, layouts_of, deepest, declared, defined}
use Rattle.pw_types.specs.Shapes.{record_shape, member_shapes}
use Rattle.pw_value.specs.Limits.{depth_limit, shape_limit, size_limit}
use Rattle.pw_value.specs.Words.{int_max, is_negative, unsigned_sum}
use Rattle.pw_check_walk.specs.Causes.{Point, Cause, needs, keeps, DeclaredIdentifier, DeclaredTag, OneKindOfTag, OneContent, OneMember, LawfulStorage, VoidAlone, CompleteMember, IntegerFits, OneCharacter, EscapeFits, ConstantExpression, PositiveLength, EnumeratorFits, NoRecordByValue}
use Rattle.pw_check_walk.specs.declared.constraints.Which.TheVariants.{ObjectSize, ShapeLength, TypeDepth}
use Rattle.pw_check_walk.specs.Walks.{meets, granted, refused, pure, asks, change, ◌>>=◌, ◌>>◌}
use Rattle.pw_check_rules.specs.Kinds.{plain, int_type, is_function, is_record, is_void, types_in, kind_in}
use Rattle.pw_check_rules.specs.Constants.{constant_value}
use Rattle.pw_check_rules.specs.Operands.{Operand, value_operand}
use Rattle.pw_types.specs.WellTyped.{type_in}
use Rattle.pw_check_rules.specs.States.{Rule, State, Entity, TypeName, EnumerationConstant, LocalObject, StaticObject, Linked, records_in, entity_of, tag_of, tag_here, enter, enter_tag, add_record, put_record, add_hidden, next_hidden, with_types, put_at}
use Rattle.pw_check_rules.specs.Limits.{completed, name_within, type_within}
use Rattle.pw_check_rules.specs.Linkage.{fresh_name, symbol_at}
use Rattle.pw_check_rules.specs.SpecifierLists.{Specified, is_register}
use Rattle.pw_check_rules.specs.Derivations.{Declared, ParameterValue, Bindings, built, spot_of}
use Rattle.pw_check_rules.specs.declared.names.Tag.{Tag}
use Rattle.pw_check_rules.specs.declared.names.Tag.TheVariants as G

-- ---- the tokens at which lists of specifiers stand

-- the first of a list, and of a declaration whose list may have none
abbrev pub first_of_list : Specifiers → ℕ
first_of_list specifiers = unwrap_or (first_of_specifiers specifiers) 0

abbrev pub first_of_declaration : Specifiers → Declarator → ℕ
first_of_declaration specifiers d = unwrap_or (first_of_parameter specifiers d) 0

-- ---- primary expressions (6.3.1)

abbrev pub lvalue_operand : Bool → Expression → Operand
lvalue_operand register node = record { node = node; lvalue = true; register = register }

abbrev pub linked_operand : State → ℕ → ℕ → QType → Operand
linked_operand s t place ty =
    if is_function (type_of ty) then value_operand (Node t ty (T.Function (symbol_at s place)))
    else lvalue_operand false (Node t ty (T.Global (symbol_at s place)))

-- what a name denotes: an object is an lvalue; a typedef name is no expression
abbrev pub entity_operand : State → ℕ → Entity → Option Operand
entity_operand s t (TypeName ty) = None
entity_operand s t (EnumerationConstant n) = Some (value_operand (Node t int_type (T.Number n)))
entity_operand s t (LocalObject k ty register) = Some (lvalue_operand register (Node t ty (T.Local k)))
entity_operand s t (StaticObject k ty) = Some (lvalue_operand false (Node t ty (T.Global (Hidden k))))
entity_operand s t (Linked place ty) = Some (linked_operand s t place ty)

unfoldable pub identifier_rule : Word → Rule Operand
identifier_rule w =
    asks (λ s. option_and_then (entity_operand s w.token) (entity_of s w.text)) >>= λ a.
    granted DeclaredIdentifier w.token [] a

-- 6.1.3.2
unfoldable pub number_rule : Word → Rule Operand
number_rule w =
    meets (needs IntegerFits w.token (is_some (integer_type w.text)) ∷ []) >>
    pure (value_operand
    (Node w.token (plain (Int (unwrap_or (integer_type w.text) K.Int))) (T.Number (integer_value w.text))))

-- 6.1.3.4
unfoldable pub character_rule : Word → Rule Operand
character_rule w =
    meets (
    needs OneCharacter w.token (length (characters_of w.text) == 1)
    ∷ needs EscapeFits w.token (fits_bytes (characters_of w.text))
    ∷ []) >>
    pure (value_operand (Node w.token int_type (T.Number (character_constant (characters_of w.text)))))

abbrev pub texts_of : List Word → List (List ℕ)
texts_of ws = map (λ w. w.text) ws

-- an array of char for these bytes
abbrev pub string_type : List ℕ → QType
string_type bytes = plain (Array (plain (Int K.Char)) (Some (length bytes)))

abbrev pub bytes_at_start : List ℕ → List PlacedItem
bytes_at_start bytes = record { offset = 0; item = ItemBytes bytes } ∷ []

-- no escape of a string is above 255
unfoldable pub string_point : List Word → Rule (Unit {0})
string_point ws = meets (needs EscapeFits (first_of_words ws) (fits_bytes (characters_of_strings (texts_of ws))) ∷ [])

-- a string is an object that is not to be written, where it is counted
abbrev pub note_string : List ℕ → State → State
note_string bytes s =
    if s.made.counting then
    add_hidden (record { ty = string_type bytes; writable = false; items = bytes_at_start bytes }) s
    else s

-- 6.1.4
unfoldable pub string_rule : List Word → Rule Operand
string_rule ws =
    string_point ws >>
    asks next_hidden >>= λ k.
    change (note_string (string_bytes_of (texts_of ws))) >>
    pure (lvalue_operand false
    (Node (first_of_words ws) (string_type (string_bytes_of (texts_of ws))) (T.Str k)))

-- ---- constant expressions (6.4)

-- an integral constant expression, by its value and its first token
abbrev pub constant_point : ℕ → Expression → Cause
constant_point first e = needs ConstantExpression first (is_some (constant_value e))

-- a number of the type that is above 0
abbrev pub is_positive : CType → ℕ → Bool
is_positive ty n = nat_le 1 n && not (is_negative (is_signed_kind (kind_in ty)) n)

-- a number of the type that an int can hold
abbrev pub is_int : CType → ℕ → Bool
is_int ty n = is_signed_kind (kind_in ty) || nat_le n int_max

-- the length of an array is at least 1 (6.5.4.2)
unfoldable pub length_rule : ℕ → Expression → Rule ℕ
length_rule first e =
    meets (
    constant_point first e
    ∷ needs PositiveLength first (option_map_or (is_positive (type_in e)) (constant_value e) true)
    ∷ []) >>
    pure (unwrap_or (constant_value e) 1)

-- ---- structures and unions (6.5.2.1, 6.5.2.3)

abbrev pub record_kind : TreeKind → RecordKind
record_kind X.Struct = Structure
record_kind X.Union = Union

abbrev pub same_record_kind : RecordKind → RecordKind → Bool
same_record_kind Structure Structure = true
same_record_kind Union Union = true
same_record_kind _ _ = false

-- a type of its own, which is not defined yet
unfoldable pub new_record : RecordKind → Rule ℕ
new_record kind =
    asks (λ s. length (records_in s)) >>= λ n.
    change (add_record (declared kind)) >>
    pure n

unfoldable pub new_tag : RecordKind → Word → Rule ℕ
new_tag kind w =
    meets (name_within w.token w.text ∷ []) >>
    new_record kind >>= λ n.
    change (enter_tag w.text (G.Record n)) >>
    pure n

abbrev pub kind_point : List RecordValue → RecordKind → ℕ → ℕ → Cause
kind_point records kind n token = needs OneKindOfTag token (same_record_kind kind (kind_at records n))

-- a structure or union by its tag, which is declared here where it is not visible; then its token tells that
unfoldable pub reference_by : RecordKind → Word → Option Tag → Rule (QType × Option ℕ)
reference_by kind w None = new_tag kind w >>= λ n. pure (plain (Record n), Some w.token)
reference_by kind w (Some (G.Record n)) =
    asks records_in >>= λ records.
    meets (kind_point records kind n w.token ∷ []) >>
    pure (plain (Record n), None)
reference_by kind w (Some G.Enumeration) = refused OneKindOfTag w.token

unfoldable pub reference_rule : RecordKind → Word → Rule (QType × Option ℕ)
reference_rule kind w = asks (λ s. tag_of s w.text) >>= λ tag. reference_by kind w tag

-- `struct tag;` alone declares the tag in its own scope
unfoldable pub alone_by : RecordKind → Word → Option Tag → Rule (Unit {0})
alone_by kind w None = new_tag kind w >>= λ n. pure tt
alone_by kind w (Some tag) = reference_by kind w (Some tag) >>= λ r. pure tt

unfoldable pub alone_rule : RecordKind → Word → Rule (Unit {0})
alone_rule kind w = asks (λ s. tag_here s w.text) >>= λ tag. alone_by kind w tag

abbrev pub is_opened : State → ℕ → Bool
is_opened s n = unwrap_or (slice_get s.types.opened n) false

unfoldable pub opening_by : RecordKind → Word → Option Tag → Rule ℕ
opening_by kind w None = new_tag kind w
opening_by kind w (Some (G.Record n)) =
    asks (λ s. s) >>= λ s.
    meets (
    kind_point (records_in s) kind n w.token
    ∷ needs OneContent w.token (not (is_opened s n))
    ∷ []) >>
    pure n
opening_by kind w (Some G.Enumeration) = refused OneKindOfTag w.token

abbrev pub open_record : ℕ → State → State
open_record n = with_types (λ t. record t { opened = put_at n true t.opened })

-- the type that a list of members defines
unfoldable pub opening_rule : RecordKind → Option Word → Rule ℕ
opening_rule kind None = new_record kind >>= λ n. change (open_record n) >> pure n
opening_rule kind (Some w) =
    asks (λ s. tag_here s w.text) >>= λ tag.
    opening_by kind w tag >>= λ n.
    change (open_record n) >>
    pure n

abbrev pub name_text : Option Word → List ℕ
name_text None = []
name_text (Some w) = w.text

abbrev pub has_member : List MemberValue → List ℕ → Bool
has_member members name = list_any (λ m. bytes_eq m.name name) members

-- a member more: its name once, and a complete type
unfoldable pub member_rule : Specified → Declared → List MemberValue → Rule (List MemberValue)
member_rule b d members =
    let spot = spot_of d.name b.first b.tag in
    built spot d.derivations b.ty >>= λ q.
    asks records_in >>= λ records.
    meets (
    needs OneMember spot.token (not (has_member members (name_text d.name)))
    ∷ needs CompleteMember spot.token (not (is_function (type_of q)))
    ∷ completed records spot CompleteMember (type_of q)
    ∷ name_within spot.token (name_text d.name)
    ∷ type_within records spot.token q) >>
    pure (members ++ record { name = name_text d.name; ty = q } ∷ [])

abbrev pub content_by : List RecordValue → RecordKind → List MemberValue → ContentValue
content_by records kind members =
    let layouts = layouts_of records members in
    record {
      members = members;
      offsets = record_offsets kind layouts;
      layout = record_layout kind layouts;
      shape = record_shape kind (record_layout kind layouts).size (member_shapes records members);
      depth = 1 + deepest records members;
    }

-- a record's own limits stand at its tag, or at the first specifier
abbrev pub record_spot : Option Word → ℕ → ℕ
record_spot None first = first
record_spot (Some w) first = w.token

abbrev pub content_point : ℕ → ContentValue → Point
content_point token c =
    keeps ObjectSize size_limit token c.layout.size
    ∷ keeps ShapeLength shape_limit token (length c.shape)
    ∷ keeps TypeDepth depth_limit token c.depth
    ∷ []

unfoldable pub closing_rule : RecordKind → ℕ → ℕ → List MemberValue → Rule QType
closing_rule kind token n members =
    asks (λ s. content_by (records_in s) kind members) >>= λ content.
    meets (content_point token content) >>
    change (put_record n (defined kind content)) >>
    pure (plain (Record n))

-- ---- enumerations (6.5.2.2, 6.5.2.3)

-- an enumeration is an int
unfoldable pub enumeration_by : Word → Option Tag → Rule QType
enumeration_by w None = refused DeclaredTag w.token
enumeration_by w (Some (G.Record n)) = refused OneKindOfTag w.token
enumeration_by w (Some G.Enumeration) = pure int_type

unfoldable pub enumeration_rule : Word → Rule QType
enumeration_rule w = asks (λ s. tag_of s w.text) >>= λ tag. enumeration_by w tag

abbrev pub is_record_tag : Option Tag → Bool
is_record_tag (Some (G.Record n)) = true
is_record_tag _ = false

unfoldable pub enumerating_rule : Option Word → Rule (Unit {0})
enumerating_rule None = pure tt
enumerating_rule (Some w) =
    asks (λ s. tag_here s w.text) >>= λ tag.
    meets (
    needs OneKindOfTag w.token (not (is_record_tag tag))
    ∷ needs OneContent w.token (is_none tag)
    ∷ name_within w.token w.text
    ∷ []) >>
    change (enter_tag w.text G.Enumeration)

-- a name without linkage: once in its scope, and within the limit on names
abbrev pub name_point : State → Word → Point
name_point s w = fresh_name s w.text w.token ∷ name_within w.token w.text ∷ []

-- what an enumerator asks of its name, before its value is read
unfoldable pub enumerator_name : Word → Rule (Unit {0})
enumerator_name w = asks (λ s. name_point s w) >>= λ point. meets point

-- the value of an enumerator is an int
unfoldable pub enumerator_value : ℕ → Expression → Rule ℕ
enumerator_value first e =
    meets (
    constant_point first e
    ∷ needs EnumeratorFits first (option_map_or (is_int (type_in e)) (constant_value e) true)
    ∷ []) >>
    pure (unwrap_or (constant_value e) 0)

-- one more than the value before, unless that is the greatest int
abbrev pub value_after : ℕ → Option ℕ
value_after n = if n == int_max then None else Some (unsigned_sum n 1)

-- An enumerator with its value, where there is one. Its name is asked for here too: the value may have declared it.
unfoldable pub enumerator_rule : Word → Option ℕ → Rule (Option ℕ)
enumerator_rule w value =
    enumerator_name w >>
    meets (needs EnumeratorFits w.token (is_some value) ∷ []) >>
    change (enter w.text (EnumerationConstant (unwrap_or value 0))) >>
    pure (value_after (unwrap_or value 0))

-- ---- type names (6.5.5)

unfoldable pub named_type : Specified → Declared → Rule QType
named_type b d =
    built (spot_of None b.first b.tag) d.derivations b.ty >>= λ q.
    asks records_in >>= λ records.
    meets (type_within records b.first q) >>
    pure q

-- ---- parameters (6.5.4.3)

abbrev pub is_last : Parameters → Bool
is_last NoParameter = true
is_last (Parameter specifiers d rest) = false

-- an array is a pointer to its element, and a function a pointer to it
abbrev pub adjusted : QType → QType
adjusted (Qualified (Array q n) c v) = plain (Pointer q)
adjusted (Qualified (Function q ps) c v) = plain (Pointer (Qualified (Function q ps) c v))
adjusted q = q

abbrev pub is_nil : {X : Type 0} → List X → Bool
is_nil [] = true
is_nil (x ∷ rest) = false

-- `void` alone says that there are no parameters
abbrev pub says_none : Bool → Specified → Option Word → QType → Bool
says_none sole b name q =
    sole && is_none name && is_none b.storage && not (is_constant q) && not (is_volatile q)

unfoldable pub parameter_storage : Specified → Rule (Unit {0})
parameter_storage b = meets (needs LawfulStorage b.first (is_none b.storage || is_register b.storage) ∷ [])

abbrev pub named_point : State → Option Word → Point
named_point s None = []
named_point s (Some w) = name_point s w

abbrev pub enter_parameter : Option Word → Entity → State → State
enter_parameter None entity s = s
enter_parameter (Some w) entity s = enter w.text entity s

unfoldable pub parameter_rule : Bool → Specified → Declared → List ParameterValue → Rule (List ParameterValue)
parameter_rule sole b d parameters =
    let spot = spot_of d.name b.first b.tag in
    built spot d.derivations b.ty >>= λ q.
    asks (λ s. s) >>= λ s.
    meets (
    named_point s d.name ++
    (needs VoidAlone spot.token (not (is_void (type_of q)) || says_none sole b d.name q)
    ∷ needs NoRecordByValue b.first (not (is_record (type_of q)))
    ∷ type_within (records_in s) spot.token (adjusted q))) >>
    change (enter_parameter d.name (LocalObject (length parameters) (adjusted q) (is_register b.storage))) >>
    pure (parameters ++ record { name = d.name; ty = adjusted q } ∷ [])

abbrev pub without_void : List ParameterValue → List ParameterValue
without_void (p ∷ []) = if is_void (type_of p.ty) then [] else p ∷ []
without_void parameters = parameters

abbrev pub parameter_types : List ParameterValue → QTypes
parameter_types parameters = types_in (map (λ p. p.ty) parameters)

-- what the scope of a parameter list has at its end
unfoldable pub bindings_rule : List ParameterValue → Rule Bindings
bindings_rule parameters =
    asks (λ s. record {
      parameters = without_void parameters;
      ordinary = map (λ e. (e.0, e.1.place)) (filter (λ e. e.1.depth == s.scopes.depth) s.scopes.ordinary);
      tags = map (λ e. (e.0, e.1.tag)) (filter (λ e. e.1.depth == s.scopes.depth) s.scopes.tags);
    })
