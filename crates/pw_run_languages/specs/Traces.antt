-- What runs below the flow graphs note: calls and returns, each with where the global objects stand and what the
-- registers hold that a callee keeps; and the loads and stores of the globals that a register may hold.
use Rattle.std.specs.Prelude.{ℕ, ◌≡◌, ◌≤◌, ◌+◌, ◌-◌, ◌&&◌, nat_lt, Bool, false, not, if◌then◌else◌, Option, Some, None, List, [], ◌∷◌, slice_get, Contains}
use Rattle.std.specs.List.{list_any}
use Rattle.std.specs.Str.{bytes_eq}
use Rattle.pw_value.specs.ProgramNames.{start_name, library_functions}
use Rattle.pw_inst.specs.Computing.{Action, Loads, Stores, bytes_of_width}
use Rattle.pw_db.specs.Limits.{first_register, last_register}
use Rattle.pw_db.specs.declared.database.Web.{Web}
use Rattle.pw_db.specs.declared.database.Role.TheVariants.{Member}
use Rattle.pw_db.specs.declared.database.Directives.{Directives}
use Rattle.pw_run.specs.Runs.{Stage, Going, Over, Wrong, AreAlike}
use Rattle.pw_db_sound.specs.Sound.{Has}

-- A global object stands in memory, or what it holds stands in a register or in the word where that was saved.
pub data Standing (B V : Type 0) : Type 0 where
  InMemory : List B → Standing B V
  InPlace : V → Standing B V

-- what a run notes, where bytes of memory and contents of registers are of these types
pub data Event (B V : Type 0) : Type 0 where
  -- The global objects stand in the order of linking, the registers from the first that a callee keeps to the last.
  Called : (f : List ℕ) (globals : List (Standing B V)) (registers : List V) → Event B V
  -- a call for which there is no stack left
  Refused : (f : List ℕ) → Event B V
  -- a call is active no more, and of those made after it so many still are; the registers at the call, and now
  Returned : (f : List ℕ) (inner : ℕ) (globals : List (Standing B V)) (before after : List V) → Event B V
  Loaded : (v : List ℕ) → Event B V
  Stored : (v : List ℕ) → Event B V

-- ---- likeness: the same events in the same order, each global in the like place with the like contents

pub data StandAlike {B C V W : Type 0} (Byte : B → C → Type 0) (Word : V → W → Type 0) : Standing B V → Standing C W → Type 0 where
  in_memory : (bs : List B) (cs : List C) → AreAlike Byte bs cs → StandAlike Byte Word (InMemory bs) (InMemory cs)
  in_place : (v : V) (w : W) → Word v w → StandAlike Byte Word (InPlace v) (InPlace w)

pub data EventAlike {B C V W : Type 0} (Byte : B → C → Type 0) (Word : V → W → Type 0) : Event B V → Event C W → Type 0 where
  called : (f : List ℕ) (gs : List (Standing B V)) (hs : List (Standing C W)) (rs : List V) (ss : List W)
      → AreAlike (StandAlike Byte Word) gs hs → EventAlike Byte Word (Called f gs rs) (Called f hs ss)
  refused : (f : List ℕ) → EventAlike Byte Word (Refused f) (Refused f)
  returned : (f : List ℕ) (inner : ℕ) (gs : List (Standing B V)) (hs : List (Standing C W)) (rs ss : List V) (ts us : List W)
      → AreAlike (StandAlike Byte Word) gs hs → EventAlike Byte Word (Returned f inner gs rs ss) (Returned f inner hs ts us)
  loaded : (v : List ℕ) → EventAlike Byte Word (Loaded v) (Loaded v)
  stored : (v : List ℕ) → EventAlike Byte Word (Stored v) (Stored v)

-- the same event, wherever globals stand and whatever registers hold
pub data SameKind {B C V W : Type 0} : Event B V → Event C W → Type 0 where
  call : (f : List ℕ) (gs : List (Standing B V)) (hs : List (Standing C W)) (rs : List V) (ss : List W) → SameKind (Called f gs rs) (Called f hs ss)
  refusal : (f : List ℕ) → SameKind (Refused f) (Refused f)
  return : (f : List ℕ) (inner : ℕ) (gs : List (Standing B V)) (hs : List (Standing C W)) (rs ss : List V) (ts us : List W)
      → SameKind (Returned f inner gs rs ss) (Returned f inner hs ts us)
  load : (v : List ℕ) → SameKind (Loaded v) (Loaded v)
  store : (v : List ℕ) → SameKind (Stored v) (Stored v)

-- ---- runs of which less is shown

abbrev pub shown_by : {M N : Type 0} → (List M → List N) → Stage M → Stage N
shown_by f (Going v) = Going (record { output = v.output; read = v.read; events = v.events; log = f v.log })
shown_by f (Over end v) = Over end (record { output = v.output; read = v.read; events = v.events; log = f v.log })
shown_by f Wrong = Wrong

-- a function that a module of the source defines
abbrev pub is_of_source : List ℕ → Bool
is_of_source f = not (list_any (bytes_eq f) (start_name ∷ library_functions))

-- the calls of such functions, and the returns from them
abbrev pub is_shown : {B V : Type 0} → Event B V → Bool
is_shown (Called f globals registers) = is_of_source f
is_shown (Returned f inner globals before after) = is_of_source f
is_shown e = false

abbrev pub calls_alone : {B V : Type 0} → List (Event B V) → List (Event B V)
calls_alone [] = []
calls_alone (e ∷ l) = if is_shown e then e ∷ calls_alone l else calls_alone l

abbrev pub calls_of : {B V : Type 0} → (ℕ → Stage (Event B V)) → ℕ → Stage (Event B V)
calls_of run n = shown_by calls_alone (run n)

-- what holds of what a stage has noted
abbrev pub Notes : {M : Type 0} → (List M → Type 0) → Stage M → Type 0
Notes Holds (Going v) = Holds v.log
Notes Holds (Over end v) = Holds v.log
Notes Holds Wrong = Unit {0}

-- where the stack is full, the last call is one that was refused
abbrev pub with_refusal : {B V : Type 0} → List (Event B V) → List (Event B V)
with_refusal (Called f globals registers ∷ l) = Refused f ∷ l
with_refusal l = l

-- ---- accesses

-- what an action loads, or stores: the address and the number of bytes
abbrev pub load_of : Action → Option (ℕ × ℕ)
load_of (Loads width a t) = Some (a, bytes_of_width width)
load_of other = None

abbrev pub store_of : Action → Option (ℕ × ℕ)
store_of (Stores width a word) = Some (a, bytes_of_width width)
store_of other = None

-- an access has a byte in common with so many bytes from an address on
abbrev pub touches : Option (ℕ × ℕ) → ℕ → ℕ → Bool
touches None a size = false
touches (Some x) a size = nat_lt x.0 (a + size) && nat_lt a (x.0 + x.1)

-- ---- registers that are kept

-- the register of a web in which a function is a member
pub record IsMembers (d : List (List ℕ × Directives)) (f : List ℕ) (r : ℕ) : Type 0 where
  pub web : Web
  pub has : Has d f web Member
  pub is : web.reg ≡ r

-- A register that a callee may leave with something else in it: that of a web in which it is a member, or one that it is
-- free to use.
pub data MayChange (d : List (List ℕ × Directives)) (f : List ℕ) (r : ℕ) : Type 0 where
  member : IsMembers d f r → MayChange d f r
  free : (directives : Directives) → Contains d (f, directives) → Contains directives.free r → MayChange d f r

-- On the return from a function each register that a callee keeps holds what it held at the call, but those that the
-- function may change.
abbrev pub KeepsRegisters : {B V : Type 0} → List (List ℕ × Directives) → Event B V → Type 0
KeepsRegisters d (Returned f inner gs before after) =
    (r : ℕ) → first_register ≤ r → r ≤ last_register → ¬ MayChange d f r → slice_get after (r - first_register) ≡ slice_get before (r - first_register)
KeepsRegisters d _ = Unit {0}

abbrev pub KeepRegisters : {B V : Type 0} → List (List ℕ × Directives) → List (Event B V) → Type 0
KeepRegisters d [] = Unit {0}
KeepRegisters d (e ∷ l) = KeepsRegisters d e × KeepRegisters d l
