-- Declarations (ISO C90 6.5, 6.7.2): what is declared, its storage and linkage, and its initialiser.
use Rattle.std.specs.Prelude.{ℕ, Bool, true, false, not, ◌&&◌, ◌||◌, if◌then◌else◌, Option, None, Some, is_some, is_none, unwrap_or, List, [], ◌∷◌, ◌++◌}
use Rattle.std.specs.Option.{option_map_or}
use Rattle.pw_tree.specs.Trees.{Word, Decl, InitDeclarator, Initializer, Init, Specifiers, Declarator}
use Rattle.pw_tree.specs.Trees as S
use Rattle.pw_types.specs.TypeTrees.{QType, type_of, RecordValue}
use Rattle.pw_types.specs.TypedTrees.{Expression, Initialiser, LocalValue, PlacedItem}
use Rattle.pw_types.specs.TypedTrees as T
use Rattle.pw_check_walk.specs.Causes.{Point, needs, LawfulStorage, DeclaresSomething, CompleteObject, BlockFunction, InitialisedKind, InitialisedHere}
use Rattle.pw_check_walk.specs.Walks.{meets, pure, asks, change, ◌>>=◌, ◌>>◌}
use Rattle.pw_check_rules.specs.Kinds.{is_function, is_void, is_open_array, is_const_object}
use Rattle.pw_check_rules.specs.States.{Rule, State, TypeName, LocalObject, StaticObject, records_in, is_file_scope, enter, put_entity, put_at, add_hidden, put_hidden, next_hidden, add_local, next_local, entry_here, with_body, HiddenObject}
use Rattle.pw_check_rules.specs.Limits.{Spot, completed, name_within, type_within}
use Rattle.pw_check_rules.specs.Linkage.{Asking, AsInternal, AsBefore, AsExternal, fresh_name, linkage_point, is_internal_by, declare_linked, undefined_yet, define_tentatively, define_object, initialise_linked, fitting, named_type, note_here}
use Rattle.pw_check_rules.specs.SpecifierLists.{Specified, specified, nothing_gathered, is_typedef, is_extern, is_static, is_auto, is_register}
use Rattle.pw_check_rules.specs.Derivations.{Declared, built, spot_of}
use Rattle.pw_check_rules.specs.Phrases.{specifiers_rule, declarator_rule}
use Rattle.pw_check_rules.specs.Leaves.{alone_rule, record_kind, first_of_list}
use Rattle.pw_check_rules.specs.Initialisers.{Context, object_rule, is_by_bytes}

-- ---- what is declared

-- A typedef name; a function; at file scope an object; in a block an object that is declared `extern`, a static one, and
-- one of automatic storage duration.
pub data Sort : Type 0 where
  ATypedef : Sort
  AFunction : Sort
  AGlobal : Sort
  AnExtern : Sort
  AStatic : Sort
  ALocal : Sort

abbrev pub sort_of : Bool → Specified → QType → Sort
sort_of outside b q =
    if is_typedef b.storage then ATypedef else
    if is_function (type_of q) then AFunction else
    if outside then AGlobal else
    if is_extern b.storage then AnExtern else
    if is_static b.storage then AStatic else
    ALocal

-- 6.1.2.2
abbrev pub asking_of : Sort → Specified → Asking
asking_of AGlobal b =
    if is_static b.storage then AsInternal else
    if is_extern b.storage then AsBefore else
    AsExternal
asking_of _ b = if is_static b.storage then AsInternal else AsBefore

-- an object of no linkage is complete, or an array that gets its length from its initialiser
abbrev pub object_point : List RecordValue → Spot → Bool → QType → Point
object_point records spot true q = if is_open_array (type_of q) then [] else completed records spot InitialisedKind (type_of q) ∷ []
object_point records spot false q = completed records spot CompleteObject (type_of q) ∷ []

-- One with linkage may be completed later, unless it is void, or static where it is defined tentatively (6.7.2).
abbrev pub global_point : List RecordValue → Spot → Bool → Specified → QType → Point
global_point records spot initialised b q =
    if initialised || is_static b.storage then object_point records spot initialised q
    else needs CompleteObject spot.token (not (is_void (type_of q))) ∷ []

abbrev pub definition_point : State → Word → Bool → Point
definition_point s w true = undefined_yet s w.text w.token ∷ []
definition_point s w false = []

-- a function in a block has no storage class but `extern`
abbrev pub function_point : State → Specified → ℕ → Bool → Point
function_point s b token initialised =
    needs BlockFunction token (is_file_scope s || is_none b.storage || is_extern b.storage)
    ∷ needs InitialisedKind token (not initialised)
    ∷ []

-- what a declaration asks of its name and its type
abbrev pub sort_point : State → Sort → Spot → Word → Bool → Specified → QType → Point
sort_point s ATypedef spot w initialised b q =
    fresh_name s w.text w.token ∷ needs InitialisedKind w.token (not initialised) ∷ []
sort_point s AFunction spot w initialised b q =
    linkage_point s w.text w.token (is_internal_by s w.text (asking_of AFunction b)) q ++ function_point s b w.token initialised
sort_point s AGlobal spot w initialised b q =
    linkage_point s w.text w.token (is_internal_by s w.text (asking_of AGlobal b)) q
    ++ (definition_point s w initialised ++ global_point (records_in s) spot initialised b q)
sort_point s AnExtern spot w initialised b q =
    linkage_point s w.text w.token (is_internal_by s w.text AsBefore) q
    ++ (needs InitialisedHere w.token (not initialised)
    ∷ needs CompleteObject w.token (not (is_void (type_of q)))
    ∷ [])
sort_point s _ spot w initialised b q =
    fresh_name s w.text w.token ∷ object_point (records_in s) spot initialised q

unfoldable pub name_rule : Sort → Spot → Word → Bool → Specified → QType → Rule (Unit {0})
name_rule sort spot w initialised b q =
    asks (λ s. s) >>= λ s.
    meets (
    sort_point s sort spot w initialised b q ++
    (name_within w.token w.text ∷ type_within (records_in s) w.token q))

-- ---- what it makes

abbrev pub hidden_of : QType → List PlacedItem → Bool → HiddenObject
hidden_of q items writable = record { ty = q; writable = writable; items = items }

abbrev pub local_of : Word → QType → LocalValue
local_of w q = record { name = w.text; ty = q; writable = not (is_const_object q) }

abbrev pub is_tentative : Specified → Bool
is_tentative b = is_none b.storage || is_static b.storage

-- a limit on the type that an initialiser completes
unfoldable pub completed_rule : Word → QType → Rule (Unit {0})
completed_rule w q = asks records_in >>= λ records. meets (type_within records w.token q)

-- the same of an object with linkage, whose declarations are to agree on the type
unfoldable pub fitting_rule : Word → ℕ → QType → Rule (Unit {0})
fitting_rule w place q = asks (λ s. s) >>= λ s. meets (fitting s place w.token q ∷ type_within (records_in s) w.token q)

abbrev pub context_of : Word → Bool → ℕ → Context
context_of w constant hidden = record { token = w.token; constant = constant; hidden = hidden }

abbrev pub place_here : State → List ℕ → ℕ
place_here s name = option_map_or (λ e. e.place) (entry_here s name) 0

-- a global, or the declaration of one
unfoldable pub global_rule : Word → Specified → Spot → QType → Option Initializer → Rule (List Initialiser)
global_rule w b spot q None =
    declare_linked w.text w.token b.tag (asking_of AGlobal b) q >>= λ place.
    change (λ s. if is_tentative b then define_tentatively place s else s) >>
    pure []
global_rule w b spot q (Some i) =
    declare_linked w.text w.token b.tag (asking_of AGlobal b) q >>= λ place.
    change (define_object place) >>
    asks (λ s. named_type s w.text q) >>= λ ty.
    object_rule (context_of w true 0) ty i.init >>= λ o.
    fitting_rule w place o.ty >>
    change (initialise_linked place o.ty o.filled.items) >>
    change (note_here w.text place o.ty) >>
    pure []

-- a static local is a hidden object
unfoldable pub static_rule : Word → QType → Option Initializer → Rule (List Initialiser)
static_rule w q None =
    asks next_hidden >>= λ k.
    change (add_hidden (hidden_of q [] (not (is_const_object q)))) >>
    change (enter w.text (StaticObject k q)) >>
    pure []
static_rule w q (Some i) =
    asks next_hidden >>= λ k.
    change (add_hidden (hidden_of q [] (not (is_const_object q)))) >>
    change (enter w.text (StaticObject k q)) >>
    asks (λ s. place_here s w.text) >>= λ place.
    object_rule (context_of w true k) q i.init >>= λ o.
    completed_rule w o.ty >>
    change (put_hidden k (hidden_of o.ty o.filled.items (not (is_const_object q)))) >>
    change (put_entity place (StaticObject k o.ty)) >>
    pure []

abbrev pub put_local : ℕ → LocalValue → State → State
put_local k local = with_body (λ b. record b { locals = put_at k local b.locals })

abbrev pub first_part : List Expression → List Initialiser → (Expression → Initialiser) → List Initialiser
first_part [] otherwise make = otherwise
first_part (e ∷ rest) otherwise make = make e ∷ []

-- by the bytes of a hidden object, which is made before what is in it
unfoldable pub bytes_rule : Word → ℕ → QType → Init → Rule (QType × List Initialiser)
bytes_rule w k q init =
    asks next_hidden >>= λ h.
    change (add_hidden (hidden_of q [] false)) >>
    object_rule (context_of w true h) q init >>= λ o.
    completed_rule w o.ty >>
    change (put_hidden h (hidden_of o.ty o.filled.items false)) >>
    pure (o.ty, T.Bytes k h o.filled.parts ∷ [])

-- by one expression
unfoldable pub single_rule : Word → ℕ → QType → Init → Rule (QType × List Initialiser)
single_rule w k q init =
    object_rule (context_of w false 0) q init >>= λ o.
    pure (q, first_part o.filled.parts [] (λ e. T.Value k e))

unfoldable pub local_initialiser : Bool → Word → ℕ → QType → Init → Rule (QType × List Initialiser)
local_initialiser true w k q init = bytes_rule w k q init
local_initialiser false w k q init = single_rule w k q init

unfoldable pub local_rule : Word → Specified → QType → Option Initializer → Rule (List Initialiser)
local_rule w b q None =
    asks next_local >>= λ k.
    change (add_local (local_of w q)) >>
    change (enter w.text (LocalObject k q (is_register b.storage))) >>
    pure []
local_rule w b q (Some i) =
    asks next_local >>= λ k.
    change (add_local (local_of w q)) >>
    change (enter w.text (LocalObject k q (is_register b.storage))) >>
    asks (λ s. place_here s w.text) >>= λ place.
    local_initialiser (is_by_bytes (type_of q) i.init) w k q i.init >>= λ o.
    change (put_local k (local_of w o.0)) >>
    change (put_entity place (LocalObject k o.0 (is_register b.storage))) >>
    pure o.1

unfoldable pub declare_rule : Sort → Word → Specified → Spot → QType → Option Initializer → Rule (List Initialiser)
declare_rule ATypedef w b spot q i = change (enter w.text (TypeName q)) >> pure []
declare_rule AFunction w b spot q i = declare_linked w.text w.token b.tag (asking_of AFunction b) q >>= λ place. pure []
declare_rule AGlobal w b spot q i = global_rule w b spot q i
declare_rule AnExtern w b spot q i = declare_linked w.text w.token b.tag AsBefore q >>= λ place. pure []
declare_rule AStatic w b spot q i = static_rule w q i
declare_rule ALocal w b spot q i = local_rule w b q i

-- ---- declarations

-- the grammar gives each declarator of a declaration a name
abbrev pub name_of : Declared → Word
name_of d = unwrap_or d.name (record { token = 0; text = [] })

unfoldable pub init_declarator_rule : Specified → InitDeclarator → Rule (List Initialiser)
init_declarator_rule b d =
    declarator_rule d.declarator >>= λ c.
    built (spot_of c.name b.first b.tag) c.derivations b.ty >>= λ q.
    asks (λ s. sort_of (is_file_scope s) b q) >>= λ sort.
    name_rule sort (spot_of c.name b.first b.tag) (name_of c) (is_some d.initializer) b q >>
    declare_rule sort (name_of c) b (spot_of c.name b.first b.tag) q d.initializer

unfoldable pub init_declarators_rule : Specified → List InitDeclarator → Rule (List Initialiser)
init_declarators_rule b [] = pure []
init_declarators_rule b (d ∷ rest) =
    init_declarator_rule b d >>= λ is.
    init_declarators_rule b rest >>= λ more.
    pure (is ++ more)

-- at file scope nothing is `auto` or `register` (6.7)
unfoldable pub storage_rule : Specified → Rule (Unit {0})
storage_rule b =
    asks is_file_scope >>= λ outside.
    meets (needs LawfulStorage b.first (not (outside && (is_auto b.storage || is_register b.storage))) ∷ [])

-- a tag or the members of an enumeration (6.5)
unfoldable pub declares_something : Specifiers → Bool
declares_something S.NoSpecifier = false
declares_something (S.Storage t c rest) = declares_something rest
declares_something (S.Qualified t q rest) = declares_something rest
declares_something (S.Basic t b rest) = declares_something rest
declares_something (S.TypedefName w rest) = declares_something rest
declares_something (S.RecordTag t k w rest) = true
declares_something (S.Record t k w ms rest) = is_some w || declares_something rest
declares_something (S.EnumTag t w rest) = true
declares_something (S.Enum t w es rest) = true

unfoldable pub specified_rule : Specifiers → ℕ → Rule Specified
specified_rule specifiers first = specifiers_rule specifiers first nothing_gathered >>= λ g. specified first g

unfoldable pub bare_rule : Specifiers → Rule (List Initialiser)
bare_rule (S.RecordTag t kind w S.NoSpecifier) = alone_rule (record_kind kind) w >> pure []
bare_rule specifiers =
    specified_rule specifiers (first_of_list specifiers) >>= λ b.
    storage_rule b >>
    meets (needs DeclaresSomething b.first (declares_something specifiers) ∷ []) >>
    pure []

unfoldable pub declarators_rule : Specifiers → List InitDeclarator → Rule (List Initialiser)
declarators_rule specifiers [] = bare_rule specifiers
declarators_rule specifiers (d ∷ rest) =
    specified_rule specifiers (first_of_list specifiers) >>= λ b.
    storage_rule b >>
    init_declarators_rule b (d ∷ rest)

unfoldable pub decl_rule : Decl → Rule (List Initialiser)
decl_rule d = declarators_rule d.specifiers d.declarators

-- the declarations of a block, with the initialisers of its locals
unfoldable pub decls_rule : List Decl → Rule (List Initialiser)
decls_rule [] = pure []
decls_rule (d ∷ rest) =
    decl_rule d >>= λ is.
    decls_rule rest >>= λ more.
    pure (is ++ more)
