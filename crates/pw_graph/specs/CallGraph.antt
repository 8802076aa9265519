-- A call graph: its calls, its paths, and who refers to a global. Functions and globals go by their places
-- in byte order.
use Rattle.std.specs.Prelude.{ℕ, ◌≡◌, ◌<◌, ◌≤◌, ◌+◌, ◌^◌, ◌⊎◌, ◌↔◌, Some, List, length, map, Contains, slice_get, vec_len}
use Rattle.std.specs.List.{AllByRecursion}
use Rattle.std.specs.List.Sorted.{IsStrictlyIncreasing}
use Rattle.pw_value.specs.Limits.{function_limit, global_limit}
use Rattle.pw_summary.specs.Summary.{need_limit}
use Rattle.pw_fix.specs.Table.{HoldsAt}
use Rattle.pw_fix.specs.declared.bit_rows.BitRows.{BitRows}
use Rattle.pw_graph.specs.declared.graph.CallGraph.{CallGraph}
use Rattle.pw_graph.specs.declared.graph.RefSets.{RefSets}

-- a calls b
pub record Calls (g : CallGraph) (a b : ℕ) : Type 0 where
  pub row : List ℕ
  pub at : slice_get g.calls a ≡ Some row
  pub stands : Contains row b

-- at least one call leads from a to b
pub data Path (g : CallGraph) : ℕ → ℕ → Type 0 where
  call : (a b : ℕ) → Calls g a b → Path g a b
  on : (a b c : ℕ) → Calls g a b → Path g b c → Path g a c

-- f has these weighted reads and weighted writes of v
pub record Weighs (g : CallGraph) (f v reads writes : ℕ) : Type 0 where
  pub row : List (ℕ × ℕ × ℕ)
  pub at : slice_get g.refs f ≡ Some row
  pub stands : Contains row (v, reads, writes)

-- f reads or writes v
pub record References (g : CallGraph) (f v : ℕ) : Type 0 where
  pub reads : ℕ
  pub writes : ℕ
  pub weighs : Weighs g f v reads writes
  pub some : (0 < reads) ⊎ (0 < writes)

-- f writes v
pub record Writes (g : CallGraph) (f v : ℕ) : Type 0 where
  pub reads : ℕ
  pub writes : ℕ
  pub weighs : Weighs g f v reads writes
  pub some : 0 < writes

-- each function has a row of calls, a row of references and a need; the rows lead to functions and globals of the graph;
-- there are no more functions and globals than a program has, no weight that does not fit 32 bits, and no need above the limit
pub record IsGraph (g : CallGraph) : Type 0 where
  pub functions : length g.functions ≤ function_limit + 3
  pub globals : length g.globals ≤ global_limit
  pub call_rows : length g.calls ≡ length g.functions
  pub calls_within : (a b : ℕ) → Calls g a b → b < length g.functions
  pub ref_rows : length g.refs ≡ length g.functions
  pub refs_rise : AllByRecursion (λ row. IsStrictlyIncreasing (map (λ r. r.0) row)) g.refs
  pub refs_within : (a v reads writes : ℕ) → Weighs g a v reads writes → v < length g.globals
  pub weights : (a v reads writes : ℕ) → Weighs g a v reads writes → (reads < 2 ^ 32) × (writes < 2 ^ 32)
  pub need_rows : length g.needs ≡ length g.functions
  pub needs : AllByRecursion (λ n. n ≤ need_limit) g.needs

-- some function that refers to v reaches f, and is reached from f
pub record IsReachedFromUser (g : CallGraph) (f v : ℕ) : Type 0 where
  pub user : ℕ
  pub path : Path g user f
  pub refers : References g user v

pub record ReachesUser (g : CallGraph) (f v : ℕ) : Type 0 where
  pub user : ℕ
  pub path : Path g f user
  pub refers : References g user v

-- the table has a row for each function, of exactly these globals
pub record IsTable (g : CallGraph) (Is : ℕ → ℕ → Type 0) (table : BitRows) : Type 0 where
  pub count : vec_len table.rows ≡ length g.functions
  pub width : table.len ≡ length g.globals
  pub of : (f v : ℕ) → HoldsAt table f v ↔ Is f v

pub record AreRefSets (g : CallGraph) (sets : RefSets) : Type 0 where
  pub itself : IsTable g (References g) sets.l_ref
  pub from_callers : IsTable g (IsReachedFromUser g) sets.p_ref
  pub from_callees : IsTable g (ReachesUser g) sets.c_ref
