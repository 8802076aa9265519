-- Parts of the rules of declared objects that the code has as functions of their own.
use Rattle.std.specs.Prelude.{ℕ, Bool, true, not, List, []}
use Rattle.pw_tree.specs.Trees.{Word, Init}
use Rattle.pw_types.specs.TypeTrees.{QType, type_of}
use Rattle.pw_types.specs.TypedTrees.{Initialiser}
use Rattle.pw_check_walk.specs.Walks.{pure, asks, change, ◌>>=◌, ◌>>◌}
use Rattle.pw_check_rules.specs.Kinds.{is_const_object}
use Rattle.pw_check_rules.specs.States.{Rule, State, LocalObject, StaticObject, add_hidden, add_local, enter, put_entity, put_hidden}
use Rattle.pw_check_rules.specs.SpecifierLists.{Specified, is_register}
use Rattle.pw_check_rules.specs.Linkage.{Asking, declare_linked, define_object, initialise_linked, named_type, note_here}
use Rattle.pw_check_rules.specs.Initialisers.{Context, Initialised, object_rule, is_by_bytes}
use Rattle.pw_check_rules.specs.Declarations.{completed_rule, context_of, fitting_rule, hidden_of, local_of, local_initialiser, place_here, put_local}

-- a declaration that gives a name linkage, and no more
unfoldable pub linked_only : Word → Specified → Asking → QType → Rule (List Initialiser)
linked_only w b asking q = declare_linked w.text w.token b.tag asking q >>= λ place. pure []

-- the initialiser of an object, whose type it may complete
unfoldable pub object_completed : Word → Context → QType → Init → Rule Initialised
object_completed w cx q i =
    object_rule cx q i >>= λ o.
    completed_rule w o.ty >>
    pure o

-- a static local before its initialiser
abbrev pub static_begun : Word → ℕ → QType → State → State
static_begun w k q s = enter w.text (StaticObject k q) (add_hidden (hidden_of q [] (not (is_const_object q))) s)

-- and with it
abbrev pub static_filled : ℕ → ℕ → Bool → Initialised → State → State
static_filled place k writable o s =
    put_entity place (StaticObject k o.ty) (put_hidden k (hidden_of o.ty o.filled.items writable) s)

-- its initialiser
unfoldable pub static_rest : Word → ℕ → QType → Init → Rule (List Initialiser)
static_rest w k q i =
    asks (λ s. place_here s w.text) >>= λ place.
    object_completed w (context_of w true k) q i >>= λ o.
    change (static_filled place k (not (is_const_object q)) o) >>
    pure []

-- a local of automatic storage duration before its initialiser
abbrev pub local_begun : Word → Specified → ℕ → QType → State → State
local_begun w b k q s = enter w.text (LocalObject k q (is_register b.storage)) (add_local (local_of w q) s)

-- and with it
abbrev pub local_filled : Word → Specified → ℕ → ℕ → QType → State → State
local_filled w b place k q s = put_entity place (LocalObject k q (is_register b.storage)) (put_local k (local_of w q) s)

-- its initialiser
unfoldable pub local_rest : Word → Specified → ℕ → QType → Init → Rule (List Initialiser)
local_rest w b k q i =
    asks (λ s. place_here s w.text) >>= λ place.
    local_initialiser (is_by_bytes (type_of q) i) w k q i >>= λ o.
    change (local_filled w b place k o.0) >>
    pure o.1

-- an object with linkage, with its initialiser
abbrev pub global_filled : Word → ℕ → Initialised → State → State
global_filled w place o s = note_here w.text place o.ty (initialise_linked place o.ty o.filled.items s)

-- the initialiser of an object with linkage, whose type it may complete
unfoldable pub object_fitted : Word → ℕ → Context → QType → Init → Rule Initialised
object_fitted w place cx q i =
    object_rule cx q i >>= λ o.
    fitting_rule w place o.ty >>
    pure o

-- the definition of an object with linkage, by its initialiser
unfoldable pub global_rest : Word → ℕ → QType → Init → Rule (List Initialiser)
global_rest w place q i =
    change (define_object place) >>
    asks (λ s. named_type s w.text q) >>= λ ty.
    object_fitted w place (context_of w true 0) ty i >>= λ o.
    change (global_filled w place o) >>
    pure []
