-- Summaries of a program's flow modules say what the flow modules say.
use Rattle.std.proofs.Common.{◌≡◌, ℕ, nat_lt, Bool, true, ◌&&◌, List, map, refl, sym, ap, subst, ◌∙◌, inl, inr}
use Rattle.std.specs.Prelude.{Contains}
use Rattle.std.proofs.lemmas.Bool.{ltb-true, lt-ltb}
use Rattle.pw_value.specs.declared.value.Kind.{Kind}
use Rattle.pw_flow.specs.declared.flow.Op.{Op}
use Rattle.pw_flow.specs.declared.flow.Op.TheVariants.{Call, CallInd}
use Rattle.pw_flow.specs.declared.flow.FlowFn.{FlowFn}
use Rattle.pw_run_languages.specs.Programs.{Program as FlowProgram, functions_of, names_of, shape_of}
use Rattle.pw_files.proofs.Standing.{Has, has_by, contains_by, has_map, has_map_back, has_flat, has_flat_back}
use Rattle.pw_summary.specs.declared.summary.Summary.{Summary}
use Rattle.pw_summarise.specs.Summarises as s
use Rattle.pw_graph.specs.declared.graph.CallGraph.{CallGraph}
use Rattle.pw_graph.specs.Program.{IsCall, by_name, through_value, IsGraphOf}
use Rattle.pw_graph.specs.Program as summaries
use Rattle.pw_db_sound.specs.CallGraphs.{Node, Calls, Reads, Writes, SayTheSame}
use Rattle.pw_run_languages.specs.LawfulPrograms.{IsProgram, NamesRightly, ops_of, has_name, has_shape, taken_names, called, eligible_of, read_by, written_by, node_of, graph_of}
use Rattle.pw_law_analysis.specs.SummaryLaws.{HaveShapes}
use Rattle.pw_law_analysis.specs.SummaryGraphs.{AllSummarise, named_graph}
use Rattle.pw_law_analysis.proofs.Lists.{both, both_back, has_filter, has_filter_back, named_has}
use Rattle.pw_law_analysis.proofs.Addresses.{at_op, by_op, function_taken}
use Rattle.pw_law_analysis.proofs.Movable.{is_taken, movable_to, movable_from}
use Rattle.pw_law_analysis.proofs.Places.{Refers, call_forth, call_back, read_forth, read_back, write_forth, write_back, eligible_named, named_eligible}
use Rattle.pw_law_analysis.proofs.Shapes.{shape_forth, shape_back, name_listed}
use Rattle.pw_law_analysis.proofs.Used.{use_forth, use_back, reading, writing, read_weighed, write_weighed}
use Rattle.pw_law_analysis.proofs.Eligible.{eligible_forth, eligible_back}
use Rattle.pw_law_analysis.proofs.Eligible as own

-- ---- operations that call

by_name_called : (o : Op) (name : List ℕ) (q : FlowProgram) → Has name (s.called o) → Has name (called q o)
by_name_called (Call t f args) name q h = h
by_name_called _ name q h = absurd h

module _ (q : FlowProgram) (program : IsProgram q) (shapes : HaveShapes q) (ss : List Summary) (all : AllSummarise q.modules ss) where
  -- the test for the functions that a call of this shape may call
  abbrev may_be : List ℕ → List ℕ → Bool
  may_be shape name = has_name (taken_names q) name && has_shape (shape_of q name) shape

  by_value_called : (o : Op) (shape name : List ℕ) → Has shape (s.called_shape o) → Has name (names_of q) → may_be shape name ≡ true → Has name (called q o)
  by_value_called (CallInd t a own args) shape name (inl e) h may =
      has_filter (may_be own) name (names_of q) h (subst (λ (x : List ℕ). may_be x name ≡ true) (sym e) may)
  by_value_called (CallInd t a own args) shape name (inr k) h may = absurd k
  by_value_called _ shape name k h may = absurd k

  -- ---- calls

  call_to : (a b : List ℕ) → IsCall ss a b → Calls (graph_of q) a b
  unfolding graph_of
  call_to a b (by_name u of call) =
      let f = use_forth q program ss all a u of in
      let o = at_op s.called f.function b (has_by b (s.in_function s.called f.function) ((f.uses.calls.of b).0 call)) in
      record {
        node = node_of q f.function;
        there = contains_by (node_of q f.function) (map (node_of q) (functions_of q)) (has_map (node_of q) f.function (functions_of q) f.there);
        name = f.name;
        call = contains_by b (node_of q f.function).calls (has_flat (called q) o.0 b (ops_of f.function) o.1 (by_name_called o.0 b q o.2));
      }
  call_to a b (through_value u shape of stands function taken) =
      let f = use_forth q program ss all a u of in
      let o = at_op s.called_shape f.function shape (has_by shape (s.in_function s.called_shape f.function) ((f.uses.shapes.of shape).0 stands)) in
      let h = shape_forth q program ss all (b, shape) (has_by (b, shape) (summaries.functions_of ss) function) in
      let may = both (has_name (taken_names q) b) (has_shape (shape_of q b) shape) (is_taken q program shapes ss all b taken) h.1 in
      record {
        node = node_of q f.function;
        there = contains_by (node_of q f.function) (map (node_of q) (functions_of q)) (has_map (node_of q) f.function (functions_of q) f.there);
        name = f.name;
        call = contains_by b (node_of q f.function).calls (has_flat (called q) o.0 b (ops_of f.function) o.1 (by_value_called o.0 shape b o.2 h.0 may));
      }

  -- by the operation that calls
  call_by : (f : FlowFn) (o : Op) (b : List ℕ) → Has f (functions_of q) → Has o (ops_of f) → Has b (called q o) → IsCall ss f.name b
  call_by f (Call t g args) b there at h =
      let u = use_back q program ss all f there in
      by_name u.0 u.1 ((u.2.calls.of b).1 (contains_by b (s.in_function s.called f) (by_op s.called f (Call t g args) b at h)))
  call_by f (CallInd t a shape args) b there at h =
      let u = use_back q program ss all f there in
      let r = has_filter_back (may_be shape) b (names_of q) h in
      let tests = both_back (has_name (taken_names q) b) (has_shape (shape_of q b) shape) r.1 in
      let function = shape_back q program ss all b shape r.0 tests.1 in
      through_value u.0 shape u.1 ((u.2.shapes.of shape).1 (contains_by shape (s.in_function s.called_shape f) (by_op s.called_shape f (CallInd t a shape args) shape at (inl refl))))
      (contains_by (b, shape) (summaries.functions_of ss) function)
      (function_taken q shapes ss all b r.0 (named_has (taken_names q) b tests.0))
  call_by f _ b there at h = absurd h

  call_from : (a b : List ℕ) → Calls (graph_of q) a b → IsCall ss a b
  unfolding graph_of
  call_from a b c =
      let f = has_map_back (node_of q) c.node (functions_of q) (has_by c.node (map (node_of q) (functions_of q)) c.there) in
      let h : Has b (node_of q f.0).calls = subst (λ (x : Node). Has b x.calls) (sym f.2) (has_by b c.node.calls c.call) in
      let o = has_flat_back (called q) b (ops_of f.0) h in
      subst (λ (n : List ℕ). IsCall ss n b) (ap (λ (x : Node). x.name) f.2 ∙ c.name) (call_by f.0 o.0 b f.1 o.1 o.2)

  called_there : (o : Op) (b : List ℕ) → NamesRightly q o → Has b (called q o) → Has b (names_of q)
  called_there (Call t f args) b named (inl e) = subst (λ (n : List ℕ). Has n (names_of q)) e (has_by f (names_of q) named)
  called_there (Call t f args) b named (inr h) = absurd h
  called_there (CallInd t a shape args) b named h = (has_filter_back (may_be shape) b (names_of q) h).0
  called_there _ b named h = absurd h

  -- whoever is called is a function of the program
  callee_there : (a b : List ℕ) → Calls (graph_of q) a b → Has b (names_of q)
  unfolding graph_of
  callee_there a b c =
      let f = has_map_back (node_of q) c.node (functions_of q) (has_by c.node (map (node_of q) (functions_of q)) c.there) in
      let h : Has b (node_of q f.0).calls = subst (λ (x : Node). Has b x.calls) (sym f.2) (has_by b c.node.calls c.call) in
      let o = has_flat_back (called q) b (ops_of f.0) h in
      called_there o.0 b (program.ops f.0 o.0 (contains_by f.0 (functions_of q) f.1) (contains_by o.0 (ops_of f.0) o.1)) o.2

  -- ---- references

  read_to : (f v : List ℕ) → Refers ss (λ reads writes. nat_lt 0 reads) f v → Reads (graph_of q) f v
  unfolding graph_of
  read_to f v r =
      let x = reading q program ss all f v r.reads r.writes r.weighs (ltb-true 0 r.reads r.some) (own.named_eligible q ss all v r.kind r.eligible) in
      record {
        node = node_of q x.function;
        there = contains_by (node_of q x.function) (map (node_of q) (functions_of q)) (has_map (node_of q) x.function (functions_of q) x.there);
        name = x.name;
        read = contains_by v (node_of q x.function).reads (has_flat (read_by q) x.op v (ops_of x.function) x.at x.read);
      }

  read_from : (f v : List ℕ) → Reads (graph_of q) f v → Refers ss (λ reads writes. nat_lt 0 reads) f v
  unfolding graph_of
  read_from f v c =
      let x = has_map_back (node_of q) c.node (functions_of q) (has_by c.node (map (node_of q) (functions_of q)) c.there) in
      let h : Has v (node_of q x.0).reads = subst (λ (x : Node). Has v x.reads) (sym x.2) (has_by v c.node.reads c.read) in
      let o = has_flat_back (read_by q) v (ops_of x.0) h in
      let w = read_weighed q program ss all x.0 o.0 v x.1 o.1 o.2 in
      let e = own.eligible_named q ss all v w.2 in
      let name : x.0.name ≡ f = ap (λ (x : Node). x.name) x.2 ∙ c.name in
      record {
        reads = s.weighted (s.is_read v) x.0;
        writes = s.weighted (s.is_write v) x.0;
        kind = e.0;
        weighs = subst (λ (n : List ℕ). summaries.HasWeights ss n v (s.weighted (s.is_read v) x.0) (s.weighted (s.is_write v) x.0)) name w.1;
        some = lt-ltb 0 (s.weighted (s.is_read v) x.0) w.0;
        eligible = e.1;
      }

  write_to : (f v : List ℕ) → Refers ss (λ reads writes. nat_lt 0 writes) f v → Writes (graph_of q) f v
  unfolding graph_of
  write_to f v r =
      let x = writing q program ss all f v r.reads r.writes r.weighs (ltb-true 0 r.writes r.some) (own.named_eligible q ss all v r.kind r.eligible) in
      record {
        node = node_of q x.function;
        there = contains_by (node_of q x.function) (map (node_of q) (functions_of q)) (has_map (node_of q) x.function (functions_of q) x.there);
        name = x.name;
        written = contains_by v (node_of q x.function).writes (has_flat (written_by q) x.op v (ops_of x.function) x.at x.written);
      }

  write_from : (f v : List ℕ) → Writes (graph_of q) f v → Refers ss (λ reads writes. nat_lt 0 writes) f v
  unfolding graph_of
  write_from f v c =
      let x = has_map_back (node_of q) c.node (functions_of q) (has_by c.node (map (node_of q) (functions_of q)) c.there) in
      let h : Has v (node_of q x.0).writes = subst (λ (x : Node). Has v x.writes) (sym x.2) (has_by v c.node.writes c.written) in
      let o = has_flat_back (written_by q) v (ops_of x.0) h in
      let w = write_weighed q program ss all x.0 o.0 v x.1 o.1 o.2 in
      let e = own.eligible_named q ss all v w.2 in
      let name : x.0.name ≡ f = ap (λ (x : Node). x.name) x.2 ∙ c.name in
      record {
        reads = s.weighted (s.is_read v) x.0;
        writes = s.weighted (s.is_write v) x.0;
        kind = e.0;
        weighs = subst (λ (n : List ℕ). summaries.HasWeights ss n v (s.weighted (s.is_read v) x.0) (s.weighted (s.is_write v) x.0)) name w.1;
        some = lt-ltb 0 (s.weighted (s.is_write v) x.0) w.0;
        eligible = e.1;
      }

  eligible_to : (v : List ℕ) (k : Kind) → summaries.IsEligible ss v k → Contains (graph_of q).eligible (v, k)
  unfolding graph_of
  eligible_to v k h = contains_by (v, k) (eligible_of q) (eligible_forth q ss all v k h)

  eligible_from : (v : List ℕ) (k : Kind) → Contains (graph_of q).eligible (v, k) → summaries.IsEligible ss v k
  unfolding graph_of
  eligible_from v k h = eligible_back q ss all v k (has_by (v, k) (eligible_of q) h)

  pub same : (g : CallGraph) → IsGraphOf ss g → SayTheSame (named_graph ss g) (graph_of q)
  same g is =
      record {
        calls = λ a b. (
          λ c. call_to a b (call_forth ss g is a b c),
          λ c. call_back ss g is a b (call_from a b c) (name_listed q program ss all b (callee_there a b c)),
        );
        reads = λ f v. (λ r. read_to f v (read_forth ss g is f v r), λ r. read_back ss g is f v (read_from f v r));
        writes = λ f v. (λ r. write_to f v (write_forth ss g is f v r), λ r. write_back ss g is f v (write_from f v r));
        eligible = λ v k. (λ h. eligible_to v k (eligible_named ss g is v k h), λ h. named_eligible ss g is v k (eligible_from v k h));
        movable = λ f. (movable_to q program shapes ss all g is f, movable_from q program shapes ss all g is f);
      }
