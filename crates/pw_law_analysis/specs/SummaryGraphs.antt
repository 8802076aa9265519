-- The graph of summaries, which goes by places, as the rules of directives see it, by names.
use Rattle.std.specs.Prelude.{ℕ, zero, suc, Bool, ◌||◌, nat_lt, if◌then◌else◌, List, [], ◌∷◌, map, length, slice_index_or}
use Rattle.std.specs.List.{flat_map, list_any}
use Rattle.std.specs.Str.{bytes_eq}
use Rattle.pw_value.specs.declared.value.Kind.TheVariants.{W32}
use Rattle.pw_flow.specs.declared.flow.FlowModule.{FlowModule}
use Rattle.pw_summary.specs.declared.summary.Summary.{Summary}
use Rattle.pw_summarise.specs.Summarises.{Summarises}
use Rattle.pw_graph.specs.declared.graph.CallGraph.{CallGraph}
use Rattle.pw_db_sound.specs.CallGraphs.{Node, Graph}

-- ---- by names

abbrev pub name_at : CallGraph → ℕ → List ℕ
name_at g n = slice_index_or g.functions n []

abbrev pub global_at : CallGraph → ℕ → List ℕ
global_at g n = (slice_index_or g.globals n ([], W32)).0

abbrev pub is_among : List (List ℕ × List ℕ) → List ℕ → Bool
is_among entries name = list_any (λ e. bytes_eq e.0 name) entries

-- the summary's module takes the address of what has the name
abbrev pub is_addressed_in : Summary → List ℕ → Bool
is_addressed_in s name = is_among s.taken name || list_any (λ e. bytes_eq e name) s.escaped

abbrev pub read_in : CallGraph → ℕ × ℕ × ℕ → List (List ℕ)
read_in g r = if nat_lt 0 r.1 then global_at g r.0 ∷ [] else []

abbrev pub written_in : CallGraph → ℕ × ℕ × ℕ → List (List ℕ)
written_in g r = if nat_lt 0 r.2 then global_at g r.0 ∷ [] else []

-- what the graph says of the function at a place
abbrev pub node_at : List Summary → CallGraph → ℕ → Node
node_at ss g n = record {
  name = name_at g n;
  calls = map (name_at g) (slice_index_or g.calls n []);
  reads = flat_map (read_in g) (slice_index_or g.refs n []);
  writes = flat_map (written_in g) (slice_index_or g.refs n []);
  defined = list_any (λ s. is_among s.functions (name_at g n)) ss;
  taken = list_any (λ s. is_addressed_in s (name_at g n)) ss;
}

-- so many places from one on
abbrev pub nodes_from : List Summary → CallGraph → ℕ → ℕ → List Node
nodes_from ss g n zero = []
nodes_from ss g n (suc more) = node_at ss g n ∷ nodes_from ss g (suc n) more

unfoldable pub named_graph : List Summary → CallGraph → Graph
named_graph ss g = record { eligible = g.globals; nodes = nodes_from ss g 0 (length g.functions) }

-- ---- summaries of modules, one by one

abbrev pub AllSummarise : List FlowModule → List Summary → Type 0
AllSummarise [] [] = Unit {0}
AllSummarise (m ∷ ms) (s ∷ ss) = Summarises m s × AllSummarise ms ss
AllSummarise ms ss = ⊥
