-- Which functions may work for others alone, by the names that summaries tell.
use Rattle.std.specs.Prelude.{ℕ, ◌≡◌, ◌↔◌, ◌&&◌, not, Bool, List, length, map}
use Rattle.std.specs.List.{flat_map}
use Rattle.std.specs.Str.{bytes_eq}
use Rattle.pw_value.specs.ProgramNames.{start_name}
use Rattle.pw_fields.specs.FieldNames.{is_among}
use Rattle.pw_fix.specs.Row.{Holds}
use Rattle.pw_fix.specs.declared.bit_row.BitRow.{BitRow}
use Rattle.pw_summary.specs.declared.summary.Summary.{Summary}
use Rattle.pw_graph.specs.declared.graph.CallGraph.{CallGraph}
use Rattle.pw_clusters.specs.Clusters.{IsInner}

-- the names of the functions that modules define
abbrev pub all_defined : List Summary → List (List ℕ)
all_defined ss = flat_map (λ s. map (λ f. f.0) s.functions) ss

-- the name allows it: a module defines the function, it is not the start, and no module takes its address
abbrev pub is_named : List (List ℕ) → List (List ℕ) → List (List ℕ) → List ℕ → Bool
is_named defined taken escaped name =
    not (bytes_eq name start_name) && (is_among defined name && (not (is_among taken name) && not (is_among escaped name)))

-- exactly these
pub record AreInner (ss : List Summary) (g : CallGraph) (inner : BitRow) : Type 0 where
  pub width : inner.len ≡ length g.functions
  pub of : (f : ℕ) → Holds inner f ↔ IsInner ss g f
