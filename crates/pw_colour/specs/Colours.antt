-- The order in which webs get registers, the register of each, and the database that says so, with the registers that roots
-- of clusters save for their members.
use Rattle.std.specs.Prelude.{ℕ, suc, ◌≡◌, ◌<◌, ◌≤◌, ◌+◌, ◌⊎◌, ◌↔◌, ◌==◌, if◌then◌else◌, Bool, IsTrue, Option, Some, None, List, [], ◌∷◌, length, map, Contains, slice_get, slice_index_or}
use Rattle.std.specs.Prelude.{pos, ◌<ℤ◌, ◌≤ℤ◌}
use Rattle.std.specs.List.{flat_map, list_any}
use Rattle.std.specs.List.Sorted.{IsPermutation}
use Rattle.pw_value.specs.declared.value.Kind.{Kind}
use Rattle.pw_value.specs.declared.value.Kind.TheVariants.{W32}
use Rattle.pw_files.specs.Rising.{IsRising}
use Rattle.pw_fix.specs.Row.{members as numbers}
use Rattle.pw_fix.specs.declared.bit_row.BitRow.{BitRow}
use Rattle.pw_summary.specs.declared.summary.Summary.{Summary}
use Rattle.pw_db.specs.Database.{EachTwo, says_something}
use Rattle.pw_db.specs.Limits.{first_register}
use Rattle.pw_db.specs.declared.database.Web.{Web}
use Rattle.pw_db.specs.declared.database.Role.{Role}
use Rattle.pw_db.specs.declared.database.Role.TheVariants.{Entry, Member}
use Rattle.pw_db.specs.declared.database.Directives.{Directives}
use Rattle.pw_graph.specs.declared.graph.CallGraph.{CallGraph}
use Rattle.pw_graph.specs.Program.{IsGraphOf}
use Rattle.pw_webs.specs.declared.web.RawWeb.{RawWeb}
use Rattle.pw_webs.specs.Webs.{AreWebs, StandsBefore, Interfere}
use Rattle.pw_clusters.specs.Clusters.{AreRoots}
use Rattle.pw_clusters.specs.Saving.{free_at, saves_at}

-- the web that saves more comes first, and of webs that save the same the one that stands first
abbrev pub ComesFirst : RawWeb → RawWeb → Type 0
ComesFirst a b = (b.priority <ℤ a.priority) ⊎ ((a.priority ≡ b.priority) × StandsBefore a b)

-- ---- the register of a web

-- one of so many registers
abbrev pub IsRegister : ℕ → ℕ → Type 0
IsRegister colours r = (first_register ≤ r) × (r < first_register + colours)

-- no earlier web that interferes has the register
abbrev pub IsFree : List (RawWeb × Option ℕ) → RawWeb → ℕ → Type 0
IsFree earlier w r = (u : RawWeb) → Contains earlier (u, Some r) → ¬ Interfere u w

-- the least register that is free; none where none is, or where the web saves nothing
abbrev pub IsColour : ℕ → List (RawWeb × Option ℕ) → RawWeb → Option ℕ → Type 0
IsColour colours earlier w None = (w.priority ≤ℤ pos 0) ⊎ ((r : ℕ) → IsRegister colours r → ¬ IsFree earlier w r)
IsColour colours earlier w (Some r) = (pos 0 <ℤ w.priority) × IsRegister colours r × IsFree earlier w r × ((q : ℕ) → first_register ≤ q → q < r → ¬ IsFree earlier w q)

-- each web has its register behind those before it
abbrev pub AreColoured : ℕ → List (RawWeb × Option ℕ) → List (RawWeb × Option ℕ) → Type 0
AreColoured colours earlier [] = Unit {0}
AreColoured colours earlier (w ∷ ws) = IsColour colours earlier w.0 w.1 × AreColoured colours (w ∷ earlier) ws

-- ---- the database

-- webs that have a register, numbered from here on
abbrev pub numbered : ℕ → List (RawWeb × Option ℕ) → List (ℕ × RawWeb × ℕ)
numbered n [] = []
numbered n ((w, None) ∷ ws) = numbered n ws
numbered n ((w, Some r) ∷ ws) = (n, w, r) ∷ numbered (suc n) ws

abbrev pub global_of : CallGraph → RawWeb → List ℕ × Kind
global_of g w = slice_index_or g.globals w.global ([], W32)

abbrev pub web_of : CallGraph → ℕ × RawWeb × ℕ → Web
web_of g w = record { id = w.0; global = (global_of g w.1).0; kind = (global_of g w.1).1; reg = w.2; writes = w.1.writes }

abbrev pub has_number : BitRow → ℕ → Bool
has_number row f = list_any (λ n. n == f) (numbers row)

-- the webs of a function, each with its role there
abbrev pub webs_of : CallGraph → List (ℕ × RawWeb × ℕ) → ℕ → List (Web × Role)
webs_of g ws f = flat_map (λ w. if has_number w.1.members f then ((web_of g w, (if has_number w.1.entries f then Entry else Member)) ∷ []) else []) ws

-- with the registers that it shares with its cluster, where each function has this root
abbrev pub directives_of : CallGraph → List ℕ → List (ℕ × RawWeb × ℕ) → ℕ → Directives
directives_of g roots ws f = record { webs = webs_of g ws f; free = free_at roots g.needs f; saves = saves_at roots g.needs f }

-- the database of a program for so many registers: its webs in order, each coloured behind those before it; those with a
-- register numbered in this order; the root of each function; and each function whose directives say something, with these
pub record IsDatabaseOf (ss : List Summary) (colours : ℕ) (db : List (List ℕ × Directives)) : Type 0 where
  pub graph : CallGraph
  pub graph_of : IsGraphOf ss graph
  pub webs : List RawWeb
  pub are_webs : AreWebs graph webs
  pub coloured : List (RawWeb × Option ℕ)
  pub same_webs : IsPermutation webs (map (λ w. w.0) coloured)
  pub order : EachTwo ComesFirst (map (λ w. w.0) coloured)
  pub colours_of : AreColoured colours [] coloured
  pub roots : List ℕ
  pub are_roots : AreRoots ss graph roots
  pub rising : IsRising (map (λ f. f.0) db)
  pub of : (f : List ℕ) (d : Directives) → Contains db (f, d) ↔ ((place : ℕ) × (slice_get graph.functions place ≡ Some f) × (d ≡ directives_of graph roots (numbered 0 coloured) place) × IsTrue (says_something (f, d)))
