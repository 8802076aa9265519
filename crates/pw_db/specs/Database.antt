-- The database of directives, as functions each with its directives: which globals each keeps in which registers, and which
-- registers it shares with others.
use Rattle.std.specs.Prelude.{Bool, ℕ, suc, ◌≡◌, ◌≢◌, ◌<◌, ◌≤◌, ◌||◌, List, [], ◌∷◌, length, map, Contains, ◌↔◌, IsTrue, nat_lt}
use Rattle.std.specs.List.{flat_map, AllByRecursion}
use Rattle.pw_files.specs.Rising.{IsRising}
use Rattle.pw_db.specs.Limits.{first_register, last_register}
use Rattle.pw_db.specs.declared.database.Web.{Web}
use Rattle.pw_db.specs.declared.database.Directives.{Directives}
use Rattle.pw_db.specs.declared.database.Database.{Database}

-- ---- the rules

-- what holds of each two items, the earlier one first
abbrev pub EachTwo : {X : Type 0} → (X → X → Type 0) → List X → Type 0
EachTwo Holds [] = Unit {0}
EachTwo Holds (x ∷ xs) = AllByRecursion (Holds x) xs × EachTwo Holds xs

-- its register is one of those that a callee keeps
pub record IsWeb (w : Web) : Type 0 where
  pub low : first_register ≤ w.reg
  pub high : w.reg ≤ last_register

abbrev pub webs_of : Directives → List Web
webs_of d = map (λ w. w.0) d.webs

-- registers that a callee keeps, which rise, the first of them none below this one
abbrev pub AreKeptFrom : ℕ → List ℕ → Type 0
AreKeptFrom least [] = Unit {0}
AreKeptFrom least (r ∷ rs) = (least ≤ r) × (r ≤ last_register) × AreKeptFrom (suc r) rs

-- The numbers of a function's webs rise, and no two have one global or one register. The registers that it is free to use
-- and those that it saves for others are some that a callee keeps, each once, rising, and no register is both.
pub record IsDirectives (d : Directives) : Type 0 where
  pub each : AllByRecursion IsWeb (webs_of d)
  pub numbers : EachTwo (λ a b. a.id < b.id) (webs_of d)
  pub globals : EachTwo (λ a b. a.global ≢ b.global) (webs_of d)
  pub registers : EachTwo (λ a b. a.reg ≢ b.reg) (webs_of d)
  pub free : AreKeptFrom first_register d.free
  pub saves : AreKeptFrom first_register d.saves
  pub apart : AllByRecursion (λ r. ¬ Contains d.free r) d.saves

-- the webs of all functions, in order
abbrev pub all_webs : List (List ℕ × Directives) → List Web
all_webs fs = flat_map (λ f. webs_of f.1) fs

-- webs of one number are one web: they have one global, one kind and one register, and are alike in
-- whether they write
abbrev pub Agree : Web → Web → Type 0
Agree a b = a.id ≡ b.id → a ≡ b

-- the functions stand in byte order without repeats
pub record IsDatabase (fs : List (List ℕ × Directives)) : Type 0 where
  pub functions : IsRising (map (λ f. f.0) fs)
  pub directives : AllByRecursion (λ f. IsDirectives f.1) fs
  pub agree : EachTwo Agree (all_webs fs)

-- ---- the kind and the versions of its file

-- PAWD
abbrev pub kind : ℕ
kind = 0x50415744

-- the versions: in the first no function shares registers with others
abbrev pub first_version : ℕ
first_version = 1

abbrev pub database_version : ℕ
database_version = 2

-- it shares no registers with others
pub record IsUnshared (d : Directives) : Type 0 where
  pub free : d.free ≡ []
  pub saves : d.saves ≡ []

pub record IsVersioned (db : Database) : Type 0 where
  pub not_below : first_version ≤ db.version
  pub not_above : db.version ≤ database_version
  pub functions : IsDatabase db.functions
  pub unshared : db.version ≡ first_version → AllByRecursion (λ f. IsUnshared f.1) db.functions

-- functions as a database of a version, and of the last one
abbrev pub of_version : ℕ → List (List ℕ × Directives) → Database
of_version version fs = record { version = version; functions = fs }

abbrev pub newest : List (List ℕ × Directives) → Database
newest fs = of_version database_version fs

-- ---- what is put into a database

-- directives that hold a web, a register that is free to use, or one to save for others
abbrev pub say_something : Directives → Bool
say_something d = nat_lt 0 (length d.webs) || (nat_lt 0 (length d.free) || nat_lt 0 (length d.saves))

-- a function whose directives do
abbrev pub says_something : List ℕ × Directives → Bool
says_something f = say_something f.1

-- no name stands twice, and the directives are those of a database
pub record CanBeStored (fs : List (List ℕ × Directives)) : Type 0 where
  pub distinct : EachTwo (λ f g. f.0 ≢ g.0) fs
  pub directives : AllByRecursion (λ f. IsDirectives f.1) fs
  pub agree : EachTwo Agree (all_webs fs)

-- the functions whose directives say something, in byte order of their names
pub record IsStored (fs stored : List (List ℕ × Directives)) : Type 0 where
  pub order : IsRising (map (λ f. f.0) stored)
  pub of : (f : List ℕ × Directives) → Contains stored f ↔ (Contains fs f × IsTrue (says_something f))

-- the directives of a function, which are empty where the database lacks it
abbrev pub empty : Directives
empty = record { webs = []; free = []; saves = [] }

-- a function's directives in a database
pub record HasDirectives (fs : List (List ℕ × Directives)) (f : List ℕ × Directives) : Type 0 where
  pub found : Contains (map (λ g. g.0) fs) f.0 → Contains fs f
  pub lacks : ¬ Contains (map (λ g. g.0) fs) f.0 → f.1 ≡ empty
