-- What is known while a module is checked: its types and the names that have linkage, the names in scope (ISO C90 6.1.2.1,
-- 6.1.2.3), what was made, and the function that is read.
use Rattle.std.specs.Prelude.{ℕ, zero, suc, ◌+◌, ◌-◌, ◌==◌, nat_lt, filter, Bool, true, false, if◌then◌else◌, Option, None, Some, option_map, option_and_then, List, [], ◌∷◌, ◌++◌, length, position, slice_get}
use Rattle.std.specs.Str.{bytes_eq}
use Rattle.pw_scope.specs.Visible.{visible}
use Rattle.pw_types.specs.declared.kind.IntKind.{IntKind}
use Rattle.pw_types.specs.TypeTrees.{QType, RecordValue}
use Rattle.pw_types.specs.TypedTrees.{CaseValue, FunctionValue, LocalValue, PlacedItem}
use Rattle.pw_check_walk.specs.Walks.{RuleOver, pure, change, asks, ◌>>=◌, ◌>>◌}
use Rattle.pw_check_rules.specs.Kinds.{int_type}
use Rattle.pw_check_rules.specs.declared.names.Entry.{Entry}
use Rattle.pw_check_rules.specs.declared.names.Tag.{Tag}
use Rattle.pw_check_rules.specs.declared.names.TagEntry.{TagEntry}
use Rattle.pw_check_rules.specs.declared.names.Slot.{Slot}
use Rattle.pw_check_rules.specs.declared.names.Slot.TheVariants as slot

-- ---- names

-- what an identifier of the ordinary name space is declared as
pub data Entity : Type 0 where
  TypeName : QType → Entity
  -- its value as an int
  EnumerationConstant : ℕ → Entity
  -- a parameter or local: its place among the function's locals, its type, whether it is declared `register`
  LocalObject : ℕ → QType → Bool → Entity
  -- a static local: the number of its hidden object, its type
  StaticObject : ℕ → QType → Entity
  -- its place among the names with linkage, and the type that it has in this scope
  Linked : ℕ → QType → Entity

-- An object or function with linkage (6.1.2.2): its type by all its declarations so far; whether it is tentatively
-- defined, and whether it is defined; its first bytes; the token of its first declaration, and that of the tag that this
-- declaration brought in.
pub record LinkedName : Type 0 where
  pub name : List ℕ
  pub internal : Bool
  pub ty : QType
  pub tentative : Bool
  pub defined : Bool
  pub items : List PlacedItem
  pub token : ℕ
  pub tag : Option ℕ

-- ---- what was made

-- an object of static lifetime without a name of its own
pub record HiddenObject : Type 0 where
  pub ty : QType
  pub writable : Bool
  pub items : List PlacedItem

-- ---- the function that is read

-- a switch around: the type of its value, its cases so far, and its default
pub record SwitchState : Type 0 where
  pub kind : IntKind
  pub cases : List CaseValue
  pub default : Option ℕ

-- Its result, its parameters and locals so far, the names of its labels in the order of the text, those that were met,
-- how many labels there are, the switches around and how many loops.
pub record BodyState : Type 0 where
  pub result : QType
  pub locals : List LocalValue
  pub names : List (List ℕ)
  pub met : List (List ℕ)
  pub labels : ℕ
  pub switches : List SwitchState
  pub loops : ℕ

-- ---- the state

-- `opened` says of each record whether its members were begun
pub record TypeState : Type 0 where
  pub records : List RecordValue
  pub opened : List Bool
  pub linked : List LinkedName

pub record ScopeState : Type 0 where
  pub ordinary : List (List ℕ × Entry)
  pub tags : List (List ℕ × TagEntry)
  pub entities : List Entity
  pub depth : ℕ

-- `counting` is false in an operand of `sizeof`, where a string is no object
pub record MadeState : Type 0 where
  -- the objects of static lifetime in the order of their first definitions
  pub slots : List Slot
  pub hidden : List HiddenObject
  pub functions : List FunctionValue
  pub counting : Bool

pub record State : Type 0 where
  pub types : TypeState
  pub scopes : ScopeState
  pub made : MadeState
  pub body : BodyState

abbrev pub Rule : Type 0 → Type 0
Rule A = RuleOver State A

abbrev pub no_body : BodyState
no_body =
    record { result = int_type; locals = []; names = []; met = []; labels = 0; switches = []; loops = 0 }

-- at the start of a module nothing is declared
abbrev pub start : State
start =
    record {
      types = record { records = []; opened = []; linked = [] };
      scopes = record { ordinary = []; tags = []; entities = []; depth = 0 };
      made = record { slots = []; hidden = []; functions = []; counting = true };
      body = no_body;
    }

-- ---- lists

-- the list with this at the place
abbrev pub put_at : {X : Type 0} → ℕ → X → List X → List X
put_at n x [] = []
put_at zero x (y ∷ rest) = x ∷ rest
put_at (suc n) x (y ∷ rest) = y ∷ put_at n x rest

-- ---- what the state says

abbrev pub records_in : State → List RecordValue
records_in s = s.types.records

abbrev pub linked_in : State → List LinkedName
linked_in s = s.types.linked

-- at file scope (6.1.2.1)
abbrev pub is_file_scope : State → Bool
is_file_scope s = s.scopes.depth == 0

abbrev pub entry_of : State → List ℕ → Option Entry
entry_of s name = visible s.scopes.ordinary name

abbrev pub entity_at : State → Entry → Option Entity
entity_at s e = slice_get s.scopes.entities e.place

-- what the name stands for
abbrev pub entity_of : State → List ℕ → Option Entity
entity_of s name = option_and_then (entity_at s) (entry_of s name)

abbrev pub if_here : ℕ → Entry → Option Entry
if_here depth e = if e.depth == depth then Some e else None

-- its declaration in the scope that is read, if there is one
abbrev pub entry_here : State → List ℕ → Option Entry
entry_here s name = option_and_then (if_here s.scopes.depth) (entry_of s name)

abbrev pub entity_here : State → List ℕ → Option Entity
entity_here s name = option_and_then (entity_at s) (entry_here s name)

abbrev pub tag_of : State → List ℕ → Option Tag
tag_of s name = option_map (λ e. e.tag) (visible s.scopes.tags name)

abbrev pub tag_if_here : ℕ → TagEntry → Option Tag
tag_if_here depth e = if e.depth == depth then Some e.tag else None

abbrev pub tag_here : State → List ℕ → Option Tag
tag_here s name = option_and_then (tag_if_here s.scopes.depth) (visible s.scopes.tags name)

abbrev pub place_of_linked : State → List ℕ → Option ℕ
place_of_linked s name = position (λ l. bytes_eq l.name name) s.types.linked

abbrev pub linked_at : State → ℕ → Option LinkedName
linked_at s n = slice_get s.types.linked n

-- ---- changes of its parts

abbrev pub with_types : (TypeState → TypeState) → State → State
with_types f s = record s { types = f s.types }

abbrev pub with_scopes : (ScopeState → ScopeState) → State → State
with_scopes f s = record s { scopes = f s.scopes }

abbrev pub with_made : (MadeState → MadeState) → State → State
with_made f s = record s { made = f s.made }

abbrev pub with_body : (BodyState → BodyState) → State → State
with_body f s = record s { body = f s.body }

-- the name stands for this from here on
abbrev pub enter : List ℕ → Entity → State → State
enter name entity =
    with_scopes (λ c. record c {
      ordinary = c.ordinary ++ (name, record { place = length c.entities; depth = c.depth }) ∷ [];
      entities = c.entities ++ entity ∷ [];
    })

abbrev pub enter_tag : List ℕ → Tag → State → State
enter_tag name tag = with_scopes (λ c. record c { tags = c.tags ++ (name, record { tag = tag; depth = c.depth }) ∷ [] })

-- an entity is another from here on, in its own scope
abbrev pub put_entity : ℕ → Entity → State → State
put_entity place entity = with_scopes (λ c. record c { entities = put_at place entity c.entities })

abbrev pub put_linked : ℕ → LinkedName → State → State
put_linked place l = with_types (λ t. record t { linked = put_at place l t.linked })

abbrev pub add_linked : LinkedName → State → State
add_linked l = with_types (λ t. record t { linked = t.linked ++ l ∷ [] })

abbrev pub add_record : RecordValue → State → State
add_record r = with_types (λ t. record t { records = t.records ++ r ∷ []; opened = t.opened ++ false ∷ [] })

abbrev pub put_record : ℕ → RecordValue → State → State
put_record place r = with_types (λ t. record t { records = put_at place r t.records })

-- a hidden object more, with its slot; its number is how many there were
abbrev pub add_hidden : HiddenObject → State → State
add_hidden h =
    with_made (λ m. record m { slots = m.slots ++ slot.Hidden (length m.hidden) ∷ []; hidden = m.hidden ++ h ∷ [] })

abbrev pub put_hidden : ℕ → HiddenObject → State → State
put_hidden place h = with_made (λ m. record m { hidden = put_at place h m.hidden })

abbrev pub next_hidden : State → ℕ
next_hidden s = length s.made.hidden

abbrev pub add_slot : Slot → State → State
add_slot more = with_made (λ m. record m { slots = m.slots ++ more ∷ [] })

abbrev pub add_local : LocalValue → State → State
add_local local = with_body (λ b. record b { locals = b.locals ++ local ∷ [] })

abbrev pub next_local : State → ℕ
next_local s = length s.body.locals

-- ---- scopes

abbrev pub one_deeper : State → State
one_deeper = with_scopes (λ c. record c { depth = c.depth + 1 })

-- at a scope's end its names are gone, and what they hid is visible again
abbrev pub leave_scope : State → State
leave_scope =
    with_scopes (λ c. record c {
      ordinary = filter (λ e. nat_lt e.1.depth c.depth) c.ordinary;
      tags = filter (λ e. nat_lt e.1.depth c.depth) c.tags;
      depth = c.depth - 1;
    })

-- in a scope of its own
unfoldable pub scoped : {A : Type 0} → Rule A → Rule A
scoped inside =
    change one_deeper >>
    inside >>= λ a.
    change leave_scope >>
    pure a

-- not counted: in an operand of `sizeof` (6.3.3.4)
unfoldable pub uncounted : {A : Type 0} → Rule A → Rule A
uncounted inside =
    asks (λ s. s.made.counting) >>= λ before.
    change (with_made (λ m. record m { counting = false })) >>
    inside >>= λ a.
    change (with_made (λ m. record m { counting = before })) >>
    pure a
