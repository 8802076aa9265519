-- Declarations of names (ISO C90 6.1.2.2, 6.5, 6.7): what a declaration makes of its name, and what else the name may be in the
-- same scope and in others.
use Rattle.std.specs.Prelude.{ℕ, Bool, true, false, not, ◌||◌, if◌then◌else◌, Option, None, is_none, unwrap_or, option_map, option_and_then, List, [], ◌∷◌, length}
use Rattle.std.specs.Option.{option_map_or}
use Rattle.pw_types.specs.TypeTrees.{QType}
use Rattle.pw_types.specs.TypedTrees.{Symbol, External, Internal, PlacedItem}
use Rattle.pw_check_walk.specs.Causes.{Point, Cause, needs, OneMeaning, OneType, OneLinkage, OneDefinition}
use Rattle.pw_check_walk.specs.Walks.{pure, asks, change, ◌>>=◌, ◌>>◌}
use Rattle.pw_check_rules.specs.Compatible.{compatible, composite}
use Rattle.pw_check_rules.specs.States.{Rule, State, Entity, TypeName, Linked, LinkedName, entity_here, entry_here, entity_of, place_of_linked, linked_at, put_entity, put_linked, add_linked, add_slot, enter, linked_in}
use Rattle.pw_check_rules.specs.declared.names.Slot.TheVariants as slot

-- ---- names without linkage: typedef names, enumeration constants, parameters, locals

-- such a name is declared once in its scope
abbrev pub fresh_name : State → List ℕ → ℕ → Cause
fresh_name s name token = needs OneMeaning token (is_none (entry_here s name))

-- ---- names with linkage

-- how a declaration asks for it: `static` at file scope; as an earlier one has it, where there is a visible one; external
pub data Asking : Type 0 where
  AsInternal : Asking
  AsBefore : Asking
  AsExternal : Asking

abbrev pub internal_of_entity : State → Entity → Option Bool
internal_of_entity s (Linked n ty) = option_map (λ l. l.internal) (linked_at s n)
internal_of_entity s _ = None

-- the linkage of the declaration that is visible
abbrev pub visible_linkage : State → List ℕ → Option Bool
visible_linkage s name = option_and_then (internal_of_entity s) (entity_of s name)

-- whether the declaration gives internal linkage (6.1.2.2)
abbrev pub is_internal_by : State → List ℕ → Asking → Bool
is_internal_by s name AsInternal = true
is_internal_by s name AsBefore = unwrap_or (visible_linkage s name) false
is_internal_by s name AsExternal = false

abbrev pub linked_before : State → List ℕ → Option LinkedName
linked_before s name = option_and_then (linked_at s) (place_of_linked s name)

abbrev pub is_linked : Entity → Bool
is_linked (Linked n ty) = true
is_linked _ = false

abbrev pub same_linkage : Bool → LinkedName → Bool
same_linkage internal l = if l.internal then internal else not internal

-- in one scope a name with linkage may be declared again, with a compatible type and the same linkage; so between scopes
abbrev pub linkage_point : State → List ℕ → ℕ → Bool → QType → Point
linkage_point s name token internal ty =
    needs OneMeaning token (option_map_or is_linked (entity_here s name) true)
    ∷ needs OneLinkage token (option_map_or (same_linkage internal) (linked_before s name) true)
    ∷ needs OneType token (option_map_or (λ l. compatible l.ty ty) (linked_before s name) true)
    ∷ []

-- the name with all that its declarations say so far
abbrev pub linked_anew : List ℕ → Bool → QType → ℕ → Option ℕ → LinkedName
linked_anew name internal ty token tag =
    record { name = name; internal = internal; ty = ty; tentative = false; defined = false; items = []; token = token; tag = tag }

abbrev pub linked_again : QType → LinkedName → LinkedName
linked_again ty l = record l { ty = composite l.ty ty }

-- the place that it has or gets
abbrev pub place_for : State → List ℕ → ℕ
place_for s name = unwrap_or (place_of_linked s name) (length (linked_in s))

abbrev pub note_linked : List ℕ → Bool → QType → ℕ → Option ℕ → State → State
note_linked name internal ty token tag s =
    option_map_or (λ l. put_linked (place_for s name) (linked_again ty l) s) (linked_before s name)
    (add_linked (linked_anew name internal ty token tag) s)

-- In its scope the name has the composite of the types that it is declared with there (6.1.2.6).
abbrev pub type_here : QType → Entity → QType
type_here ty (Linked n before) = composite before ty
type_here ty _ = ty

-- the type that a name with linkage has by its declarations in the scope (6.1.2.6)
abbrev pub type_now : QType → Entity → QType
type_now q (Linked n ty) = ty
type_now q _ = q

abbrev pub named_type : State → List ℕ → QType → QType
named_type s name q = option_map_or (type_now q) (entity_here s name) q

abbrev pub note_here : List ℕ → ℕ → QType → State → State
note_here name place ty s =
    option_map_or (λ e. put_entity e.place (Linked place (type_here ty (unwrap_or (entity_here s name) (TypeName ty)))) s)
    (entry_here s name)
    (enter name (Linked place ty) s)

-- a declaration of a name with linkage; the answer is its place
unfoldable pub declare_linked : List ℕ → ℕ → Option ℕ → Asking → QType → Rule ℕ
declare_linked name token tag asking ty =
    asks (λ s. place_for s name) >>= λ place.
    asks (λ s. is_internal_by s name asking) >>= λ internal.
    change (note_linked name internal ty token tag) >>
    change (note_here name place ty) >>
    pure place

-- ---- definitions

-- there is one definition (6.7)
abbrev pub undefined_yet : State → List ℕ → ℕ → Cause
undefined_yet s name token = needs OneDefinition token (not (option_map_or (λ l. l.defined) (linked_before s name) false))

abbrev pub change_linked : ℕ → (LinkedName → LinkedName) → State → State
change_linked place f s = option_map_or (λ l. put_linked place (f l) s) (linked_at s place) s

-- an object stands at its first definition, tentative or not
abbrev pub has_slot : State → ℕ → Bool
has_slot s place = option_map_or (λ l. l.tentative || l.defined) (linked_at s place) false

abbrev pub slot_for : ℕ → State → State
slot_for place s = if has_slot s place then s else add_slot (slot.Named place) s

-- 6.7.2
abbrev pub define_tentatively : ℕ → State → State
define_tentatively place s = change_linked place (λ l. record l { tentative = true }) (slot_for place s)

abbrev pub define_object : ℕ → State → State
define_object place s = change_linked place (λ l. record l { defined = true }) (slot_for place s)

abbrev pub define_function : ℕ → State → State
define_function place = change_linked place (λ l. record l { defined = true })

-- its first bytes, and its type where the initialiser gives the length
abbrev pub initialise_linked : ℕ → QType → List PlacedItem → State → State
initialise_linked place ty items = change_linked place (λ l. record l { ty = composite l.ty ty; items = items })

-- the type that an initialiser gives fits the one that the name has by all its declarations (6.5)
abbrev pub fitting : State → ℕ → ℕ → QType → Cause
fitting s place token ty = needs OneType token (option_map_or (λ l. compatible l.ty ty) (linked_at s place) true)

-- how a module speaks of it
abbrev pub symbol_of_linked : LinkedName → Symbol
symbol_of_linked l = if l.internal then Internal l.name else External l.name

abbrev pub symbol_at : State → ℕ → Symbol
symbol_at s place = option_map_or symbol_of_linked (linked_at s place) (External [])
