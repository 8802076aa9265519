-- The region of a global, and its webs, the connected parts of it (after the interprocedural register
-- allocation of 1990; the rules are this compiler's own).
use Rattle.std.specs.Prelude.{ℕ, ◌≡◌, ◌<◌, ◌≤◌, ◌+◌, ◌*◌, ◌⊎◌, ◌↔◌, ◌==◌, if◌then◌else◌, Bool, true, false, Some, List, length, Contains, slice_get, IsTrue}
use Rattle.std.specs.List.{sum_by}
use Rattle.std.specs.Prelude.{pos, ◌+ℤ◌, slice_index_or, []}
use Rattle.pw_fix.specs.Row.{Holds, members as numbers}
use Rattle.pw_fix.specs.declared.bit_row.BitRow.{BitRow}
use Rattle.pw_graph.specs.declared.graph.CallGraph.{CallGraph}
use Rattle.pw_graph.specs.CallGraph.{Calls, Path, References, Writes}
use Rattle.pw_webs.specs.declared.web.RawWeb.{RawWeb}

-- the least set that has each function that refers to v; each that stands on a path of calls from one of the
-- set to one of the set; and each caller of one of the set that also has a caller in the set
pub data Region (g : CallGraph) (v : ℕ) : ℕ → Type 0 where
  refers : (f : ℕ) → References g f v → Region g v f
  between : (a f b : ℕ) → Region g v a → Path g a f → Path g f b → Region g v b → Region g v f
  outside : (a m f : ℕ) → Region g v a → Calls g a m → Region g v m → Calls g f m → Region g v f

-- connected within the region, by calls in either direction
pub data Joined (g : CallGraph) (v : ℕ) : ℕ → ℕ → Type 0 where
  self : (a : ℕ) → Region g v a → Joined g v a a
  forth : (a b c : ℕ) → Joined g v a b → Calls g b c → Region g v c → Joined g v a c
  back : (a b c : ℕ) → Joined g v a b → Calls g c b → Region g v c → Joined g v a c

-- f has a caller in the region
pub record HasCaller (g : CallGraph) (v f : ℕ) : Type 0 where
  pub caller : ℕ
  pub calls : Calls g caller f
  pub within : Region g v caller

-- a connected part of the region, with its entries, which have no caller in the region
pub record IsWeb (g : CallGraph) (v : ℕ) (members entries : List ℕ) : Type 0 where
  pub root : ℕ
  pub within : Region g v root
  pub of : (f : ℕ) → Contains members f ↔ Joined g v root f
  pub entries_within : (f : ℕ) → Contains entries f → Contains members f
  pub entry : (f : ℕ) → Contains entries f → ¬ HasCaller g v f
  pub others : (f : ℕ) → Contains members f → Contains entries f ⊎ HasCaller g v f

-- ---- what directives need of a web

pub record IsClosed (g : CallGraph) (v : ℕ) (members entries : List ℕ) : Type 0 where
  pub callers : (a f : ℕ) → Contains members f → ¬ Contains entries f → Calls g a f → Contains members a
  pub entered : (a f : ℕ) → Contains entries f → Calls g a f → ¬ Contains members a
  pub users : (a f : ℕ) → Contains members a → Path g a f → References g f v → Contains members f
  pub between_members : (a f b : ℕ) → Contains members a → Contains members b → Path g a f → Path g f b → Contains members f

-- ---- the webs of a program

-- the weighted reads and weighted writes of v in f
abbrev pub weight : CallGraph → ℕ → ℕ → ℕ
weight g v f = sum_by (λ r. if r.0 == v then r.1 + r.2 else 0) (slice_index_or g.refs f [])

-- two memory accesses at each entry where the web writes, and else one
abbrev pub entry_cost : Bool → ℕ
entry_cost true = 2
entry_cost false = 1

-- a web of its global, whether it writes, and what it saves
pub record IsRawWeb (g : CallGraph) (w : RawWeb) : Type 0 where
  pub global : w.global < length g.globals
  pub member_places : w.members.len ≡ length g.functions
  pub entry_places : w.entries.len ≡ length g.functions
  pub web : IsWeb g w.global (numbers w.members) (numbers w.entries)
  pub writes : IsTrue w.writes ↔ ((f : ℕ) × Holds w.members f × Writes g f w.global)
  pub priority : w.priority +ℤ pos (entry_cost w.writes * length (numbers w.entries)) ≡ pos (sum_by (weight g w.global) (numbers w.members))

-- f is the least function of the web
pub record IsLeastMember (w : RawWeb) (f : ℕ) : Type 0 where
  pub is : Holds w.members f
  pub least : (other : ℕ) → Holds w.members other → f ≤ other

-- one stands before another: its global does, or the globals are one and its least member does
abbrev pub StandsBefore : RawWeb → RawWeb → Type 0
StandsBefore a b = (a.global < b.global) ⊎ ((a.global ≡ b.global) × ((f h : ℕ) → IsLeastMember a f → IsLeastMember b h → f < h))

-- all webs, in order
pub record AreWebs (g : CallGraph) (ws : List RawWeb) : Type 0 where
  pub each : (i : ℕ) (w : RawWeb) → slice_get ws i ≡ Some w → IsRawWeb g w
  pub order : (i j : ℕ) (w u : RawWeb) → i < j → slice_get ws i ≡ Some w → slice_get ws j ≡ Some u → StandsBefore w u
  pub all : (v f : ℕ) → v < length g.globals → Region g v f → (w : RawWeb) × Contains ws w × (w.global ≡ v) × Holds w.members f

abbrev pub IsSameWeb : RawWeb → RawWeb → Type 0
IsSameWeb a b = (a.global ≡ b.global) × ((f : ℕ) → Holds a.members f ↔ Holds b.members f)

-- two webs share a function and are not one web
pub record Interfere (a b : RawWeb) : Type 0 where
  pub function : ℕ
  pub in_one : Holds a.members function
  pub in_other : Holds b.members function
  pub differ : ¬ IsSameWeb a b

-- ---- the webs of one global

pub record IsWebAt (g : CallGraph) (v : ℕ) (w : RawWeb) : Type 0 where
  pub raw : IsRawWeb g w
  pub its : w.global ≡ v

-- a web with this function, which is in none that is done
pub record IsNextWeb (g : CallGraph) (v : ℕ) (done : BitRow) (root : ℕ) (w : RawWeb) : Type 0 where
  pub web : IsWebAt g v w
  pub of : (f : ℕ) → Holds w.members f ↔ Joined g v root f
  pub free : ¬ Holds done root
  pub within : Region g v root

pub record AreWebsAt (g : CallGraph) (v : ℕ) (ws : List RawWeb) : Type 0 where
  pub each : (i : ℕ) (w : RawWeb) → slice_get ws i ≡ Some w → IsWebAt g v w
  pub order : (i j : ℕ) (w u : RawWeb) → i < j → slice_get ws i ≡ Some w → slice_get ws j ≡ Some u → (f h : ℕ) → IsLeastMember w f → IsLeastMember u h → f < h
  pub all : (f : ℕ) → Region g v f → (w : RawWeb) × Contains ws w × Holds w.members f
