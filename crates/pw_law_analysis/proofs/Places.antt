-- The graph of summaries by names says what the summaries say.
use Rattle.std.proofs.Common.{◌≡◌, ℕ, zero, suc, ◌+◌, ◌<◌, ◌≤◌, nat_lt, Bool, true, false, if◌then◌else◌, List, [], ◌∷◌, length, map, refl, sym, ap, subst, ◌∙◌, arith, inl, inr}
use Rattle.std.specs.Prelude.{Contains, Some, slice_get, slice_index_or}
use Rattle.std.specs.List.{flat_map}
use Rattle.std.proofs.lemmas.Bool.{cases_lt}
use Rattle.std.proofs.lemmas.Option.{get_or_from_slice_get, slice_get-get_or}
use Rattle.pw_value.specs.declared.value.Kind.{Kind}
use Rattle.pw_value.specs.declared.value.Kind.TheVariants.{W32}
use Rattle.pw_link_rules.specs.Linking.{library_declarations}
use Rattle.pw_summary.specs.declared.summary.Summary.{Summary}
use Rattle.pw_summary.specs.declared.summary.Uses.{Uses}
use Rattle.pw_files.proofs.Standing.{Has, has_by, contains_by, has_right, has_map, has_map_back, has_flat, has_flat_back}
use Rattle.pw_graph.specs.declared.graph.CallGraph.{CallGraph}
use Rattle.pw_graph.specs.CallGraph.{Calls, Weighs}
use Rattle.pw_graph.specs.Program.{functions_of, IsUseOf, IsCall, by_name, through_value, HasWeights, IsEligible, IsGraphOf}
use Rattle.pw_graph.proofs.Lists.{has_at, at_has}
use Rattle.pw_db_sound.specs.CallGraphs.{Node}
use Rattle.pw_db_sound.specs.CallGraphs as Named
use Rattle.pw_law_analysis.specs.SummaryGraphs.{name_at, global_at, node_at, nodes_from, named_graph}

at_below : {X : Type 0} (xs : List X) (i : ℕ) (x : X) → slice_get xs i ≡ Some x → i < length xs
at_below [] i x e = absurd cc
at_below (y ∷ ys) zero x e = omega arith
at_below (y ∷ ys) (suc i) x e = omega (arith, at_below ys i x e)

-- who uses something is one of the functions
user_there : (ss : List Summary) (f : List ℕ) (u : Uses) → IsUseOf ss f u → Has f (map (λ h. h.0) (functions_of ss))
user_there ss f u is =
    let own = has_at is.summary.functions is.place (f, is.shape) is.at in
    let all = has_right (f, is.shape) library_declarations (flat_map (λ (s : Summary). s.functions) ss) (has_flat (λ (s : Summary). s.functions) is.summary (f, is.shape) ss (has_by is.summary ss is.stands) own) in
    has_map (λ (h : List ℕ × List ℕ). h.0) (f, is.shape) (functions_of ss) all

caller_there : (ss : List Summary) (a b : List ℕ) → IsCall ss a b → Has a (map (λ h. h.0) (functions_of ss))
caller_there ss a b (by_name u of called) = user_there ss a u of
caller_there ss a b (through_value u shape of called function taken) = user_there ss a u of

-- a function refers to an eligible global, with weights of which something holds
pub record Refers (ss : List Summary) (test : ℕ → ℕ → Bool) (f v : List ℕ) : Type 0 where
  pub reads : ℕ
  pub writes : ℕ
  pub kind : Kind
  pub weighs : HasWeights ss f v reads writes
  pub some : test reads writes ≡ true
  pub eligible : IsEligible ss v kind

single : (b : Bool) (x v : List ℕ) → Has v (if b then x ∷ [] else []) → (b ≡ true) × (x ≡ v)
single true x v (inl e) = (refl, e)
single true x v (inr h) = absurd h
single false x v h = absurd h

single_has : (b : Bool) (x : List ℕ) → b ≡ true → Has x (if b then x ∷ [] else [])
single_has true x e = inl refl
single_has false x e = absurd cc

module _ (ss : List Summary) (g : CallGraph) (is : IsGraphOf ss g) where
  -- ---- the nodes

  pub node_back : (n more : ℕ) (x : Node) → Has x (nodes_from ss g n more) → (i : ℕ) × (i < n + more) × (node_at ss g i ≡ x)
  node_back n zero x h = absurd h
  node_back n (suc more) x (inl e) = (n, omega arith, e)
  node_back n (suc more) x (inr h) = let r = node_back (suc n) more x h in (r.0, omega (arith, r.1), r.2)

  node_there : (n more i : ℕ) → n ≤ i → i < n + more → Has (node_at ss g i) (nodes_from ss g n more)
  node_there n zero i low high = absurd (omega (arith, low, high))
  node_there n (suc more) i low high = elim (cases_lt n i) [
    | inl lt ↦ inr (node_there (suc n) more i (omega (arith, lt)) (omega (arith, high)))
    | inr le ↦ let e : n ≡ i = omega (arith, low, le) in inl (ap (λ (k : ℕ). node_at ss g k) e)
  ]

  at_name : (i : ℕ) (f : List ℕ) → i < length g.functions → name_at g i ≡ f → slice_get g.functions i ≡ Some f
  at_name i f lt e = slice_get-get_or g.functions i [] lt ∙ ap Some e

  pub name_of : (i : ℕ) (f : List ℕ) → slice_get g.functions i ≡ Some f → name_at g i ≡ f
  name_of i f e = get_or_from_slice_get g.functions i f [] e

  pub place_of : (f : List ℕ) → Has f (map (λ h. h.0) (functions_of ss)) → (i : ℕ) × (slice_get g.functions i ≡ Some f)
  place_of f h = at_has g.functions f (has_by f g.functions ((is.each_function f).1 (contains_by f (map (λ h. h.0) (functions_of ss)) h)))

  pub there_at : (i : ℕ) (f : List ℕ) → slice_get g.functions i ≡ Some f → Contains (nodes_from ss g 0 (length g.functions)) (node_at ss g i)
  there_at i f e = contains_by (node_at ss g i) (nodes_from ss g 0 (length g.functions)) (node_there 0 (length g.functions) i (omega arith) (omega (arith, at_below g.functions i f e)))

  -- ---- calls

  pub call_forth : (a b : List ℕ) → Named.Calls (named_graph ss g) a b → IsCall ss a b
  unfolding named_graph
  call_forth a b c =
      let n = node_back 0 (length g.functions) c.node (has_by c.node (nodes_from ss g 0 (length g.functions)) c.there) in
      let lt : n.0 < length g.functions = omega (arith, n.1) in
      let name : name_at g n.0 ≡ a = ap (λ (x : Node). x.name) n.2 ∙ c.name in
      let row = slice_index_or g.calls n.0 [] in
      let h : Has b (map (name_at g) row) = subst (λ (x : Node). Has b x.calls) (sym n.2) (has_by b c.node.calls c.call) in
      let callee = has_map_back (name_at g) b row h in
      let calls : Calls g n.0 callee.0 = record { row = row; at = slice_get-get_or g.calls n.0 [] (omega (arith, lt, is.call_rows)); stands = contains_by callee.0 row callee.1 } in
      (is.calls n.0 callee.0 a b (at_name n.0 a lt name) (at_name callee.0 b (is.calls_within n.0 callee.0 calls) callee.2)).0 calls

  pub call_back : (a b : List ℕ) → IsCall ss a b → Has b (map (λ h. h.0) (functions_of ss)) → Named.Calls (named_graph ss g) a b
  unfolding named_graph
  call_back a b c there =
      let i = place_of a (caller_there ss a b c) in
      let j = place_of b there in
      let calls = (is.calls i.0 j.0 a b i.1 j.1).1 c in
      let row : slice_index_or g.calls i.0 [] ≡ calls.row = get_or_from_slice_get g.calls i.0 calls.row [] calls.at in
      let own : Has (name_at g j.0) (map (name_at g) calls.row) = has_map (name_at g) j.0 calls.row (has_by j.0 calls.row calls.stands) in
      let named : Has b (map (name_at g) (slice_index_or g.calls i.0 [])) = subst (λ (ks : List ℕ). Has b (map (name_at g) ks)) (sym row) (subst (λ (n : List ℕ). Has n (map (name_at g) calls.row)) (name_of j.0 b j.1) own) in
      record {
        node = node_at ss g i.0;
        there = there_at i.0 a i.1;
        name = name_of i.0 a i.1;
        call = contains_by b (map (name_at g) (slice_index_or g.calls i.0 [])) named;
      }

  -- ---- references

  -- the globals of a row with weights of which something holds
  abbrev passed : (ℕ → ℕ → Bool) → ℕ × ℕ × ℕ → List (List ℕ)
  passed test r = if test r.1 r.2 then global_at g r.0 ∷ [] else []

  refer_forth : (test : ℕ → ℕ → Bool) (i : ℕ) (f v : List ℕ) → i < length g.functions → name_at g i ≡ f → Has v (flat_map (passed test) (slice_index_or g.refs i [])) → Refers ss test f v
  refer_forth test i f v lt name h =
      let row = slice_index_or g.refs i [] in
      let r = has_flat_back (passed test) v row h in
      let one = single (test r.0.1 r.0.2) (global_at g r.0.0) v r.2 in
      let weighs : Weighs g i r.0.0 r.0.1 r.0.2 = record { row = row; at = slice_get-get_or g.refs i [] (omega (arith, lt, is.ref_rows)); stands = contains_by r.0 row r.1 } in
      let below = is.refs_within i r.0.0 r.0.1 r.0.2 weighs in
      let global : List ℕ × Kind = slice_index_or g.globals r.0.0 ([], W32) in
      let at = slice_get-get_or g.globals r.0.0 ([], W32) below in
      let has = (is.refs i r.0.0 r.0.1 r.0.2 f global (at_name i f lt name) at).0 weighs in
      let eligible = (is.each_global global.0 global.1).0 (contains_by global g.globals (has_at g.globals r.0.0 global at)) in
      record {
        reads = r.0.1;
        writes = r.0.2;
        kind = global.1;
        weighs = subst (λ (n : List ℕ). HasWeights ss f n r.0.1 r.0.2) one.1 has;
        some = one.0;
        eligible = subst (λ (n : List ℕ). IsEligible ss n global.1) one.1 eligible;
      }

  record Referring (test : ℕ → ℕ → Bool) (f v : List ℕ) : Type 0 where
    place : ℕ
    at : slice_get g.functions place ≡ Some f
    has : Has v (flat_map (passed test) (slice_index_or g.refs place []))

  refer_back : (test : ℕ → ℕ → Bool) (f v : List ℕ) → Refers ss test f v → Referring test f v
  refer_back test f v r =
      let i = place_of f (user_there ss f r.weighs.u r.weighs.uses) in
      let global : List ℕ × Kind = (v, r.kind) in
      let k = at_has g.globals global (has_by global g.globals ((is.each_global v r.kind).1 r.eligible)) in
      let weighs = (is.refs i.0 k.0 r.reads r.writes f global i.1 k.1).1 r.weighs in
      let row : slice_index_or g.refs i.0 [] ≡ weighs.row = get_or_from_slice_get g.refs i.0 weighs.row [] weighs.at in
      let name : global_at g k.0 ≡ v = ap (λ (x : List ℕ × Kind). x.0) (get_or_from_slice_get g.globals k.0 global ([], W32) k.1) in
      let one : Has v (passed test (k.0, r.reads, r.writes)) = subst (λ (n : List ℕ). Has n (passed test (k.0, r.reads, r.writes))) name (single_has (test r.reads r.writes) (global_at g k.0) r.some) in
      record {
        place = i.0;
        at = i.1;
        has = subst (λ (rs : List (ℕ × ℕ × ℕ)). Has v (flat_map (passed test) rs)) (sym row) (has_flat (passed test) (k.0, r.reads, r.writes) v weighs.row (has_by (k.0, r.reads, r.writes) weighs.row weighs.stands) one);
      }

  pub read_forth : (f v : List ℕ) → Named.Reads (named_graph ss g) f v → Refers ss (λ reads writes. nat_lt 0 reads) f v
  unfolding named_graph
  read_forth f v c =
      let n = node_back 0 (length g.functions) c.node (has_by c.node (nodes_from ss g 0 (length g.functions)) c.there) in
      refer_forth (λ reads writes. nat_lt 0 reads) n.0 f v (omega (arith, n.1)) (ap (λ (x : Node). x.name) n.2 ∙ c.name) (subst (λ (x : Node). Has v x.reads) (sym n.2) (has_by v c.node.reads c.read))

  pub read_back : (f v : List ℕ) → Refers ss (λ reads writes. nat_lt 0 reads) f v → Named.Reads (named_graph ss g) f v
  unfolding named_graph
  read_back f v r =
      let b = refer_back (λ reads writes. nat_lt 0 reads) f v r in
      record { node = node_at ss g b.place; there = there_at b.place f b.at; name = name_of b.place f b.at; read = contains_by v (node_at ss g b.place).reads b.has }

  pub write_forth : (f v : List ℕ) → Named.Writes (named_graph ss g) f v → Refers ss (λ reads writes. nat_lt 0 writes) f v
  unfolding named_graph
  write_forth f v c =
      let n = node_back 0 (length g.functions) c.node (has_by c.node (nodes_from ss g 0 (length g.functions)) c.there) in
      refer_forth (λ reads writes. nat_lt 0 writes) n.0 f v (omega (arith, n.1)) (ap (λ (x : Node). x.name) n.2 ∙ c.name) (subst (λ (x : Node). Has v x.writes) (sym n.2) (has_by v c.node.writes c.written))

  pub write_back : (f v : List ℕ) → Refers ss (λ reads writes. nat_lt 0 writes) f v → Named.Writes (named_graph ss g) f v
  unfolding named_graph
  write_back f v r =
      let b = refer_back (λ reads writes. nat_lt 0 writes) f v r in
      record { node = node_at ss g b.place; there = there_at b.place f b.at; name = name_of b.place f b.at; written = contains_by v (node_at ss g b.place).writes b.has }

  pub eligible_named : (v : List ℕ) (k : Kind) → Contains (named_graph ss g).eligible (v, k) → IsEligible ss v k
  unfolding named_graph
  eligible_named v k h = (is.each_global v k).0 h

  pub named_eligible : (v : List ℕ) (k : Kind) → IsEligible ss v k → Contains (named_graph ss g).eligible (v, k)
  unfolding named_graph
  named_eligible v k h = (is.each_global v k).1 h
