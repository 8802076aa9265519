-- Directives under which functions may keep globals in registers across calls: from the graph of calls and from the
-- directives alone.
use Rattle.std.specs.Prelude.{ℕ, ◌≡◌, ◌≢◌, ◌⊎◌, true, List, Contains}
use Rattle.pw_value.specs.ProgramNames.{start_name}
use Rattle.pw_db.specs.declared.database.Web.{Web}
use Rattle.pw_db.specs.declared.database.Role.{Role}
use Rattle.pw_db.specs.declared.database.Role.TheVariants.{Entry, Member}
use Rattle.pw_db.specs.declared.database.Directives.{Directives}
use Rattle.pw_db_sound.specs.CallGraphs.{Graph, Calls, Path, Writes, References, RootOf, PathBelow}

-- a function is in a web, in this role
pub record Has (d : List (List ℕ × Directives)) (f : List ℕ) (w : Web) (role : Role) : Type 0 where
  pub directives : Directives
  pub there : Contains d (f, directives)
  pub web : Contains directives.webs (w, role)

-- in whatever role
pub record In (d : List (List ℕ × Directives)) (w : Web) (f : List ℕ) : Type 0 where
  pub role : Role
  pub has : Has d f w role

-- a function refers to the global, or is in a web of it
pub data Needs (g : Graph) (d : List (List ℕ × Directives)) (f v : List ℕ) : Type 0 where
  refers : References g f v → Needs g d f v
  keeps : (u : Web) → u.global ≡ v → In d u f → Needs g d f v

-- ---- registers that a root saves for the functions below it

-- a function is free to use the register without saving it
pub record IsFree (d : List (List ℕ × Directives)) (f : List ℕ) (r : ℕ) : Type 0 where
  pub directives : Directives
  pub there : Contains d (f, directives)
  pub register : Contains directives.free r

-- a function saves the register for the functions below it
pub record IsSaver (d : List (List ℕ × Directives)) (f : List ℕ) (r : ℕ) : Type 0 where
  pub directives : Directives
  pub there : Contains d (f, directives)
  pub register : Contains directives.saves r

-- a function keeps nothing in the register over a call
pub record LeavesAlone (d : List (List ℕ × Directives)) (f : List ℕ) (r : ℕ) : Type 0 where
  pub moved : IsFree d f r ⊎ IsSaver d f r
  pub webless : (w : Web) → In d w f → w.reg ≢ r

-- The root of a function saves the register. It, the function, and each function on the calls from the one to the other
-- keep nothing in it over a call.
pub record IsSavedAbove (g : Graph) (d : List (List ℕ × Directives)) (f : List ℕ) (r : ℕ) : Type 0 where
  pub root : List ℕ
  pub is : RootOf g f root
  pub saver : IsSaver d root r
  pub way : (h : List ℕ) → PathBelow g root root h → PathBelow g root h f → LeavesAlone d h r

-- ---- sound directives

pub record Sound (g : Graph) (d : List (List ℕ × Directives)) : Type 0 where
  -- whoever calls a member of a web is in the web, and whoever calls an entry of it is not; nothing calls `$start`
  pub member_callers : (w : Web) (f a : List ℕ) → Has d f w Member → Calls g a f → In d w a
  pub entry_callers : (w : Web) (f a : List ℕ) → Has d f w Entry → Calls g a f → ¬ In d w a
  pub start : (w : Web) → ¬ Has d start_name w Member
  -- whoever is reached from a web by calls, and needs its global, is in it
  pub references : (w : Web) (a f : List ℕ) → In d w a → Path g a f → Needs g d f w.global → In d w f
  -- so is whoever stands on a path of calls from the web to the web
  pub between : (w : Web) (a f b : List ℕ) → In d w a → Path g a f → Path g f b → In d w b → In d w f
  -- two webs that share a function have two registers
  pub registers : (w u : Web) (f : List ℕ) → In d w f → In d u f → w ≢ u → w.reg ≢ u.reg
  -- the global of a web is eligible, and has the web's kind; the web tells where it is written
  pub eligible : (w : Web) (f : List ℕ) → In d w f → Contains g.eligible (w.global, w.kind)
  pub writes : (w : Web) (f : List ℕ) → In d w f → Writes g f w.global → w.writes ≡ true
  -- a register that a function is free to use is saved above it; and one that a function saves for those below it is of no
  -- web in which it is a member
  pub free : (f : List ℕ) (r : ℕ) → IsFree d f r → IsSavedAbove g d f r
  pub saves : (f : List ℕ) (r : ℕ) → IsSaver d f r → (w : Web) → Has d f w Member → w.reg ≢ r
