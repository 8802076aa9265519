-- The graph of summaries by names says what their call graph says by places.
use Rattle.std.proofs.Common.{◌≡◌, ℕ, zero, suc, ◌+◌, ◌<◌, ◌≤◌, nat_lt, Bool, true, false, if◌then◌else◌, List, [], ◌∷◌, length, map, refl, sym, ap, subst, ◌∙◌, arith, inl, inr}
use Rattle.std.specs.Prelude.{◌↔◌, Contains, Some, slice_get, slice_index_or}
use Rattle.std.specs.List.{flat_map}
use Rattle.std.proofs.lemmas.Bool.{cases_lt, ltb-true, lt-ltb}
use Rattle.std.proofs.lemmas.Option.{get_or_from_slice_get, slice_get-get_or, slice_get_within}
use Rattle.pw_value.specs.declared.value.Kind.{Kind}
use Rattle.pw_value.specs.declared.value.Kind.TheVariants.{W32}
use Rattle.pw_summary.specs.declared.summary.Summary.{Summary}
use Rattle.pw_files.proofs.Standing.{Has, has_by, contains_by, has_map, has_map_back, has_flat, has_flat_back}
use Rattle.pw_graph.specs.declared.graph.CallGraph.{CallGraph}
use Rattle.pw_graph.specs.CallGraph.{Calls, Weighs, References, Writes}
use Rattle.pw_graph.specs.Program.{IsGraphOf}
use Rattle.pw_db_sound.specs.CallGraphs.{Node}
use Rattle.pw_db_sound.specs.CallGraphs as Named
use Rattle.pw_clusters.specs.ByName.{CallsByName, IsByName, IsNamed}
use Rattle.pw_law_analysis.specs.SummaryGraphs.{name_at, global_at, node_at, nodes_from, named_graph}

-- one name, where a test says so
single : (b : Bool) (x v : List ℕ) → Has v (if b then x ∷ [] else []) → (b ≡ true) × (x ≡ v)
single true x v (inl e) = (refl, e)
single true x v (inr h) = absurd h
single false x v h = absurd h

single_has : (b : Bool) (x : List ℕ) → b ≡ true → Has x (if b then x ∷ [] else [])
single_has true x e = inl refl
single_has false x e = absurd cc

module _ (ss : List Summary) (g : CallGraph) (is : IsGraphOf ss g) where
  -- ---- the nodes

  node_back : (n more : ℕ) (x : Node) → Has x (nodes_from ss g n more) → (i : ℕ) × (i < n + more) × (node_at ss g i ≡ x)
  node_back n zero x h = absurd h
  node_back n (suc more) x (inl e) = (n, omega arith, e)
  node_back n (suc more) x (inr h) = let r = node_back (suc n) more x h in (r.0, omega (arith, r.1), r.2)

  node_there : (n more i : ℕ) → n ≤ i → i < n + more → Has (node_at ss g i) (nodes_from ss g n more)
  node_there n zero i low high = absurd (omega (arith, low, high))
  node_there n (suc more) i low high = elim (cases_lt n i) [
    | inl lt ↦ inr (node_there (suc n) more i (omega (arith, lt)) (omega (arith, high)))
    | inr le ↦ let e : n ≡ i = omega (arith, low, le) in inl (ap (λ (k : ℕ). node_at ss g k) e)
  ]

  at_name : (i : ℕ) (f : List ℕ) → i < length g.functions → name_at g i ≡ f → slice_get g.functions i ≡ Some f
  at_name i f lt e = slice_get-get_or g.functions i [] lt ∙ ap Some e

  name_of : (i : ℕ) (f : List ℕ) → slice_get g.functions i ≡ Some f → name_at g i ≡ f
  name_of i f e = get_or_from_slice_get g.functions i f [] e

  there_at : (i : ℕ) (f : List ℕ) → slice_get g.functions i ≡ Some f → Contains (nodes_from ss g 0 (length g.functions)) (node_at ss g i)
  there_at i f e = contains_by (node_at ss g i) (nodes_from ss g 0 (length g.functions)) (node_there 0 (length g.functions) i (omega arith) (omega (arith, slice_get_within g.functions i f e)))

  -- ---- calls

  call_to : (a b : List ℕ) → Named.Calls (named_graph ss g) a b → CallsByName g a b
  unfolding named_graph
  call_to a b c =
      let n = node_back 0 (length g.functions) c.node (has_by c.node (nodes_from ss g 0 (length g.functions)) c.there) in
      let lt : n.0 < length g.functions = omega (arith, n.1) in
      let row = slice_index_or g.calls n.0 [] in
      let h : Has b (map (name_at g) row) = subst (λ (x : Node). Has b x.calls) (sym n.2) (has_by b c.node.calls c.call) in
      let callee = has_map_back (name_at g) b row h in
      let calls : Calls g n.0 callee.0 = record { row = row; at = slice_get-get_or g.calls n.0 [] (omega (arith, lt, is.call_rows)); stands = contains_by callee.0 row callee.1 } in
      record {
        caller = n.0;
        callee = callee.0;
        at_caller = at_name n.0 a lt (ap (λ (x : Node). x.name) n.2 ∙ c.name);
        at_callee = at_name callee.0 b (is.calls_within n.0 callee.0 calls) callee.2;
        calls = calls;
      }

  call_from : (a b : List ℕ) → CallsByName g a b → Named.Calls (named_graph ss g) a b
  unfolding named_graph
  call_from a b c =
      let row : slice_index_or g.calls c.caller [] ≡ c.calls.row = get_or_from_slice_get g.calls c.caller c.calls.row [] c.calls.at in
      let own : Has (name_at g c.callee) (map (name_at g) c.calls.row) = has_map (name_at g) c.callee c.calls.row (has_by c.callee c.calls.row c.calls.stands) in
      let named : Has b (map (name_at g) (slice_index_or g.calls c.caller [])) =
      subst (λ (ks : List ℕ). Has b (map (name_at g) ks)) (sym row) (subst (λ (n : List ℕ). Has n (map (name_at g) c.calls.row)) (name_of c.callee b c.at_callee) own) in
      record {
        node = node_at ss g c.caller;
        there = there_at c.caller a c.at_caller;
        name = name_of c.caller a c.at_caller;
        call = contains_by b (map (name_at g) (slice_index_or g.calls c.caller [])) named;
      }

  -- ---- references

  -- the globals of a row with weights that pass a test
  abbrev passed : (ℕ → ℕ → Bool) → ℕ × ℕ × ℕ → List (List ℕ)
  passed test r = if test r.1 r.2 then global_at g r.0 ∷ [] else []

  -- a function refers by place to a global with weights that pass a test
  record Refers (test : ℕ → ℕ → Bool) (f v : List ℕ) : Type 0 where
    function : ℕ
    global : ℕ
    kind : Kind
    at_function : slice_get g.functions function ≡ Some f
    at_global : slice_get g.globals global ≡ Some (v, kind)
    reads : ℕ
    writes : ℕ
    weighs : Weighs g function global reads writes
    some : test reads writes ≡ true

  refer_to : (test : ℕ → ℕ → Bool) (i : ℕ) (f v : List ℕ) → i < length g.functions → name_at g i ≡ f → Has v (flat_map (passed test) (slice_index_or g.refs i [])) → Refers test f v
  refer_to test i f v lt name h =
      let row = slice_index_or g.refs i [] in
      let r = has_flat_back (passed test) v row h in
      let one = single (test r.0.1 r.0.2) (global_at g r.0.0) v r.2 in
      let weighs : Weighs g i r.0.0 r.0.1 r.0.2 = record { row = row; at = slice_get-get_or g.refs i [] (omega (arith, lt, is.ref_rows)); stands = contains_by r.0 row r.1 } in
      let global : List ℕ × Kind = slice_index_or g.globals r.0.0 ([], W32) in
      let at : slice_get g.globals r.0.0 ≡ Some (global.0, global.1) = slice_get-get_or g.globals r.0.0 ([], W32) (is.refs_within i r.0.0 r.0.1 r.0.2 weighs) in
      record {
        function = i;
        global = r.0.0;
        kind = global.1;
        at_function = at_name i f lt name;
        at_global = subst (λ (n : List ℕ). slice_get g.globals r.0.0 ≡ Some (n, global.1)) one.1 at;
        reads = r.0.1;
        writes = r.0.2;
        weighs = weighs;
        some = one.0;
      }

  refer_from : (test : ℕ → ℕ → Bool) (f v : List ℕ) (r : Refers test f v) → Has v (flat_map (passed test) (slice_index_or g.refs r.function []))
  refer_from test f v r =
      let row : slice_index_or g.refs r.function [] ≡ r.weighs.row = get_or_from_slice_get g.refs r.function r.weighs.row [] r.weighs.at in
      let name : global_at g r.global ≡ v = ap (λ (x : List ℕ × Kind). x.0) (get_or_from_slice_get g.globals r.global (v, r.kind) ([], W32) r.at_global) in
      let one : Has v (passed test (r.global, r.reads, r.writes)) = subst (λ (n : List ℕ). Has n (passed test (r.global, r.reads, r.writes))) name (single_has (test r.reads r.writes) (global_at g r.global) r.some) in
      subst (λ (rs : List (ℕ × ℕ × ℕ)). Has v (flat_map (passed test) rs)) (sym row)
      (has_flat (passed test) (r.global, r.reads, r.writes) v r.weighs.row (has_by (r.global, r.reads, r.writes) r.weighs.row r.weighs.stands) one)

  read_to : (f v : List ℕ) → Named.Reads (named_graph ss g) f v → Refers (λ reads writes. nat_lt 0 reads) f v
  unfolding named_graph
  read_to f v c =
      let n = node_back 0 (length g.functions) c.node (has_by c.node (nodes_from ss g 0 (length g.functions)) c.there) in
      refer_to (λ reads writes. nat_lt 0 reads) n.0 f v (omega (arith, n.1)) (ap (λ (x : Node). x.name) n.2 ∙ c.name) (subst (λ (x : Node). Has v x.reads) (sym n.2) (has_by v c.node.reads c.read))

  read_from : (f v : List ℕ) → Refers (λ reads writes. nat_lt 0 reads) f v → Named.Reads (named_graph ss g) f v
  unfolding named_graph
  read_from f v r = record {
    node = node_at ss g r.function;
    there = there_at r.function f r.at_function;
    name = name_of r.function f r.at_function;
    read = contains_by v (node_at ss g r.function).reads (refer_from (λ reads writes. nat_lt 0 reads) f v r);
  }

  write_to : (f v : List ℕ) → Named.Writes (named_graph ss g) f v → Refers (λ reads writes. nat_lt 0 writes) f v
  unfolding named_graph
  write_to f v c =
      let n = node_back 0 (length g.functions) c.node (has_by c.node (nodes_from ss g 0 (length g.functions)) c.there) in
      refer_to (λ reads writes. nat_lt 0 writes) n.0 f v (omega (arith, n.1)) (ap (λ (x : Node). x.name) n.2 ∙ c.name) (subst (λ (x : Node). Has v x.writes) (sym n.2) (has_by v c.node.writes c.written))

  write_from : (f v : List ℕ) → Refers (λ reads writes. nat_lt 0 writes) f v → Named.Writes (named_graph ss g) f v
  unfolding named_graph
  write_from f v r = record {
    node = node_at ss g r.function;
    there = there_at r.function f r.at_function;
    name = name_of r.function f r.at_function;
    written = contains_by v (node_at ss g r.function).writes (refer_from (λ reads writes. nat_lt 0 writes) f v r);
  }

  -- weights that pass a test make a reference, or a write
  by_name : {Is : ℕ → ℕ → Type 0} (test : ℕ → ℕ → Bool) (f v : List ℕ) (r : Refers test f v) → Is r.function r.global → IsByName g Is f v
  by_name test f v r is_so = record { function = r.function; global = r.global; kind = r.kind; at_function = r.at_function; at_global = r.at_global; is = is_so }

  references_to : (f v : List ℕ) → Named.References (named_graph ss g) f v → IsByName g (References g) f v
  references_to f v (inl c) =
      let r = read_to f v c in
      by_name (λ reads writes. nat_lt 0 reads) f v r (record { reads = r.reads; writes = r.writes; weighs = r.weighs; some = inl (ltb-true 0 r.reads r.some) })
  references_to f v (inr c) =
      let r = write_to f v c in
      by_name (λ reads writes. nat_lt 0 writes) f v r (record { reads = r.reads; writes = r.writes; weighs = r.weighs; some = inr (ltb-true 0 r.writes r.some) })

  references_from : (f v : List ℕ) → IsByName g (References g) f v → Named.References (named_graph ss g) f v
  references_from f v r = elim r.is.some [
    | inl lt ↦ inl (read_from f v (record {
      function = r.function;
      global = r.global;
      kind = r.kind;
      at_function = r.at_function;
      at_global = r.at_global;
      reads = r.is.reads;
      writes = r.is.writes;
      weighs = r.is.weighs;
      some = lt-ltb 0 r.is.reads lt;
    }))
    | inr lt ↦ inr (write_from f v (record {
      function = r.function;
      global = r.global;
      kind = r.kind;
      at_function = r.at_function;
      at_global = r.at_global;
      reads = r.is.reads;
      writes = r.is.writes;
      weighs = r.is.weighs;
      some = lt-ltb 0 r.is.writes lt;
    }))
  ]

  writes_to : (f v : List ℕ) → Named.Writes (named_graph ss g) f v → IsByName g (Writes g) f v
  writes_to f v c =
      let r = write_to f v c in
      by_name (λ reads writes. nat_lt 0 writes) f v r (record { reads = r.reads; writes = r.writes; weighs = r.weighs; some = ltb-true 0 r.writes r.some })

  writes_from : (f v : List ℕ) → IsByName g (Writes g) f v → Named.Writes (named_graph ss g) f v
  writes_from f v r = write_from f v (record {
    function = r.function;
    global = r.global;
    kind = r.kind;
    at_function = r.at_function;
    at_global = r.at_global;
    reads = r.is.reads;
    writes = r.is.writes;
    weighs = r.is.weighs;
    some = lt-ltb 0 r.is.writes r.is.some;
  })

  eligible : (v : List ℕ × Kind) → Contains (named_graph ss g).eligible v ↔ Contains g.globals v
  unfolding named_graph
  eligible v = (λ h. h, λ h. h)

  pub named : IsNamed g (named_graph ss g)
  named = record {
    calls = λ a b. (call_to a b, call_from a b);
    references = λ f v. (references_to f v, references_from f v);
    writes = λ f v. (writes_to f v, writes_from f v);
    eligible = eligible;
  }
