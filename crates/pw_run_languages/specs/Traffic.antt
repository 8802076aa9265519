-- The traffic of globals that registers hold: the memory is loaded from and stored to by entries of their webs
-- alone, once a call, and nothing is called behind the store.
use Rattle.std.specs.Prelude.{ℕ, zero, suc, ◌≡◌, true, List, [], ◌∷◌, map, Contains}
use Rattle.pw_value.specs.declared.value.Kind.{Kind}
use Rattle.pw_db.specs.declared.database.Web.{Web}
use Rattle.pw_db.specs.declared.database.Role.TheVariants.{Entry}
use Rattle.pw_db.specs.declared.database.Directives.{Directives}
use Rattle.pw_db_sound.specs.CallGraphs.{Graph, References}
use Rattle.pw_db_sound.specs.Sound.{Has, In}
use Rattle.pw_run_languages.specs.Traces.{Event, Called, Refused, Returned, Loaded, Stored}

-- ---- calls that are active

-- a call, and what was noted in it, the latest first
pub record Open (B V : Type 0) : Type 0 where
  pub function : List ℕ
  pub inside : List (Event B V)

abbrev pub with_event : {B V : Type 0} → Event B V → Open B V → Open B V
with_event e c = record c { inside = e ∷ c.inside }

-- without the one behind so many
abbrev pub without : {X : Type 0} → ℕ → List X → List X
without n [] = []
without zero (x ∷ xs) = xs
without (suc n) (x ∷ xs) = x ∷ without n xs

-- the calls that are active after what was noted, the innermost first
abbrev pub active : {B V : Type 0} → List (Event B V) → List (Open B V)
active [] = []
active (Called f gs rs ∷ l) = record { function = f; inside = [] } ∷ map (with_event (Called f gs rs)) (active l)
active (Returned f inner gs rs ss ∷ l) = map (with_event (Returned f inner gs rs ss)) (without inner (active l))
active (e ∷ l) = map (with_event e) (active l)

-- ---- the law

-- a function is an entry of the web
pub record Enters (d : List (List ℕ × Directives)) (w : Web) (v f : List ℕ) : Type 0 where
  pub has : Has d f w Entry
  pub global : w.global ≡ v

-- a function is in a web of the global
pub record KeepsIt (d : List (List ℕ × Directives)) (v f : List ℕ) : Type 0 where
  pub web : Web
  pub within : In d web f
  pub global : web.global ≡ v

-- an eligible global of which every function that refers to it is in a web
pub record IsCovered (g : Graph) (d : List (List ℕ × Directives)) (v : List ℕ) : Type 0 where
  pub kind : Kind
  pub eligible : Contains g.eligible (v, kind)
  pub each : (f : List ℕ) → References g f v → KeepsIt d v f

-- it stands in an active call of an entry of one of the global's webs, and in each such call it is the first
pub record StandsInEntry {B V : Type 0} (d : List (List ℕ × Directives)) (v : List ℕ) (e : Event B V) (calls : List (Open B V)) : Type 0 where
  pub call : Open B V
  pub is_active : Contains calls call
  pub web : Web
  pub entry : Enters d web v call.function
  pub once : (c : Open B V) (w : Web) → Contains calls c → Enters d w v c.function → ¬ Contains c.inside e

-- every active call of an entry is one of a web that writes
abbrev pub OnlyWhereWritten : {B V : Type 0} → List (List ℕ × Directives) → List ℕ → List (Open B V) → Type 0
OnlyWhereWritten {B} {V} d v calls = (c : Open B V) (w : Web) → Contains calls c → Enters d w v c.function → w.writes ≡ true

-- no active call of an entry has stored the global
abbrev pub NoneHasStored : {B V : Type 0} → List (List ℕ × Directives) → List ℕ → List (Open B V) → Type 0
NoneHasStored {B} {V} d v calls = (c : Open B V) (w : Web) → Contains calls c → Enters d w v c.function → ¬ Contains c.inside (Stored v)

-- what the law asks of an event where these calls are active, of the globals of which it speaks
abbrev pub ObeysFor : {B V : Type 0} → (List ℕ → Type 0) → List (List ℕ × Directives) → Event B V → List (Open B V) → Type 0
ObeysFor Speaks d (Loaded v) calls = Speaks v → StandsInEntry d v (Loaded v) calls
ObeysFor Speaks d (Stored v) calls = Speaks v → StandsInEntry d v (Stored v) calls × OnlyWhereWritten d v calls
ObeysFor Speaks d (Called f gs rs) calls = (v : List ℕ) → Speaks v → NoneHasStored d v calls
ObeysFor Speaks d (Refused f) calls = (v : List ℕ) → Speaks v → NoneHasStored d v calls
ObeysFor Speaks d (Returned f inner gs rs ss) calls = Unit {0}

-- the law of a trace, the latest event first
abbrev pub ObeysTrafficFor : {B V : Type 0} → (List ℕ → Type 0) → List (List ℕ × Directives) → List (Event B V) → Type 0
ObeysTrafficFor Speaks d [] = Unit {0}
ObeysTrafficFor Speaks d (e ∷ l) = ObeysFor Speaks d e (active l) × ObeysTrafficFor Speaks d l

-- of covered globals
abbrev pub Obeys : {B V : Type 0} → Graph → List (List ℕ × Directives) → Event B V → List (Open B V) → Type 0
Obeys g d = ObeysFor (IsCovered g d) d

abbrev pub ObeysTraffic : {B V : Type 0} → Graph → List (List ℕ × Directives) → List (Event B V) → Type 0
ObeysTraffic g d = ObeysTrafficFor (IsCovered g d) d
