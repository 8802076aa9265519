-- Roots by places are roots by names, and so are the registers that roots save.
use Rattle.std.proofs.Common.{◌≡◌, ℕ, ◌<◌, List, [], length, get_or, refl, sym, ap, subst, ◌∙◌, inl, inr}
use Rattle.std.specs.Prelude.{◌↔◌, Some, slice_get, slice_index, Contains}
use Rattle.std.proofs.lemmas.Option.{same_Some, slice_get-get_or, slice_get_within}
use Rattle.pw_files.specs.Rising.{IsRising}
use Rattle.pw_summary.specs.declared.summary.Summary.{Summary}
use Rattle.pw_graph.specs.declared.graph.CallGraph.{CallGraph}
use Rattle.pw_graph.specs.CallGraph.{Calls, Path, call, on}
use Rattle.pw_graph.specs.Program.{IsGraphOf, IsTaken, IsEscaped}
use Rattle.pw_db_sound.specs.CallGraphs as Named
use Rattle.pw_db_sound.specs.CallGraphs.{Graph, RootOf}
use Rattle.pw_db_sound.specs.CallGraphs.{call as named_call, on as named_on, outer, of_callers, of_two, here as named_here, further as named_further}
use Rattle.pw_clusters.specs.ByName.{CallsByName}
use Rattle.pw_clusters.specs.Clusters.{IsDefined, IsInner, HaveRoot, AreRoots}
use Rattle.pw_clusters.specs.Saving.{free_at}
use Rattle.pw_clusters.specs.Sharing.{PathBelow, here, further}
use Rattle.pw_clusters.specs.Naming.{TellsMovable, IsSavedAboveNamed}
use Rattle.pw_clusters.proofs.Once.{map_same, once_there}
use Rattle.pw_clusters.proofs.Callers.{search}
use Rattle.pw_clusters.proofs.Climbing.{caller_within, everywhere}
use Rattle.pw_clusters.proofs.Telling.{AreTold}
use Rattle.pw_clusters.proofs.Roots.{each_is_within}
use Rattle.pw_clusters.proofs.Sharing.{saved_above}

module _ (ss : List Summary) (g : CallGraph) (roots : List ℕ) (n : Graph) (of : IsGraphOf ss g) (are : AreRoots ss g roots)
    (named : (a b : List ℕ) → Named.Calls n a b ↔ CallsByName g a b) (movable : TellsMovable ss n) (told : AreTold ss g) where
  abbrev name : ℕ → List ℕ
  name i = get_or g.functions i []

  name_at : (i : ℕ) → i < length g.functions → slice_get g.functions i ≡ Some (name i)
  name_at i lt = slice_get-get_or g.functions i [] lt

  one_place : (i j : ℕ) (f : List ℕ) → slice_get g.functions i ≡ Some f → slice_get g.functions j ≡ Some f → i ≡ j
  one_place i j f ei ej = once_there (λ x. x) g.functions (subst IsRising (sym (map_same g.functions)) of.functions) i j f f ei ej refl

  by_name : (a b : ℕ) → Calls g a b → Named.Calls n (name a) (name b)
  by_name a b c = (named (name a) (name b)).1 (record {
    caller = a;
    callee = b;
    at_caller = name_at a (caller_within g of.call_rows a b c);
    at_callee = name_at b (of.calls_within a b c);
    calls = c;
  })

  path_by_name : {a b : ℕ} → Path g a b → Named.Path n (name a) (name b)
  path_by_name (call a b c) = named_call (name a) (name b) (by_name a b c)
  path_by_name (on a b d c path) = named_on (name a) (name b) (name d) (by_name a b c) (path_by_name path)

  path_by_place : {a f : List ℕ} → Named.Path n a f → (i j : ℕ) → slice_get g.functions i ≡ Some a → slice_get g.functions j ≡ Some f → Path g i j
  path_by_place (named_call a b calls) i j at to =
      let c = (named a b).0 calls in
      let first : Path g c.caller j = subst (λ k. Path g c.caller k) (one_place c.callee j b c.at_callee to) (call c.caller c.callee c.calls) in
      subst (λ k. Path g k j) (one_place c.caller i a c.at_caller at) first
  path_by_place (named_on a b f calls path) i j at to =
      let c = (named a b).0 calls in
      subst (λ k. Path g k j) (one_place c.caller i a c.at_caller at) (on c.caller c.callee j c.calls (path_by_place path c.callee j c.at_callee to))

  -- who calls the function at a place by name calls it by place
  caller_at : (a : List ℕ) (f : ℕ) → f < length g.functions → (c : CallsByName g a (name f)) → Calls g c.caller f
  caller_at a f lt c = subst (λ k. Calls g c.caller k) (one_place c.callee f (name f) c.at_callee (name_at f lt)) c.calls

  -- ---- inner functions

  inner_by_name : (f : ℕ) → f < length g.functions → IsInner ss g f → Named.IsInner n (name f)
  inner_by_name f lt i =
      let same : i.name ≡ name f = same_Some i.name (name f) (sym i.at ∙ name_at f lt) in
      record {
        movable = (movable (name f)).1 (subst (λ k. IsDefined ss k × (¬ IsTaken ss k) × (¬ IsEscaped ss k)) same (i.defined, i.not_taken, i.not_escaped));
        other = λ e. i.no_start (same ∙ e);
        once = λ path. i.no_cycle (path_by_place path f f (name_at f lt) (name_at f lt));
        caller = name i.caller;
        called = by_name i.caller f i.called;
      }

  inner_by_place : (f : ℕ) → f < length g.functions → Named.IsInner n (name f) → IsInner ss g f
  inner_by_place f lt k =
      let m = (movable (name f)).0 k.movable in
      let c = (named k.caller (name f)).0 k.called in
      record {
        name = name f;
        at = name_at f lt;
        defined = m.0;
        no_start = k.other;
        no_cycle = λ path. k.once (path_by_name path);
        not_taken = m.1;
        not_escaped = m.2;
        caller = c.caller;
        called = caller_at k.caller f lt c;
      }

  -- ---- roots

  outer_root : (f : ℕ) → f < length g.functions → (IsInner ss g f → ⊥) → RootOf n (name f) (name (slice_index roots f))
  outer_root f lt out =
      subst (λ k. RootOf n (name f) (name k)) (sym (are.itself f lt (λ r inner have. out inner))) (outer (name f) (λ i. out (inner_by_place f lt i)))

  from_caller : (f r : ℕ) → f < length g.functions → HaveRoot g roots f r → ((c : ℕ) → Calls g c f → RootOf n (name c) (name (slice_index roots c))) → (a : List ℕ) → Named.Calls n a (name f) → RootOf n a (name r)
  from_caller f r lt have all a calls =
      let c = (named a (name f)).0 calls in
      let there = caller_at a f lt c in
      let same : name c.caller ≡ a = same_Some (name c.caller) a (sym (name_at c.caller (caller_within g of.call_rows c.caller f there)) ∙ c.at_caller) in
      subst (λ k. RootOf n k (name r)) same (subst (λ k. RootOf n (name c.caller) (name k)) (have c.caller there) (all c.caller there))

  two_names : (a b : ℕ) → a < length g.functions → b < length g.functions → (b ≡ a → ⊥) → name a ≡ name b → ⊥
  two_names a b la lb other e = other (sym (one_place a b (name b) (name_at a la ∙ ap Some e) (name_at b lb)))

  inner_root : (f : ℕ) → f < length g.functions → IsInner ss g f → ((c : ℕ) → Calls g c f → RootOf n (name c) (name (slice_index roots c))) → RootOf n (name f) (name (slice_index roots f))
  inner_root f lt inner all =
      elim (search g (slice_index roots) f (slice_index roots inner.caller) (length g.functions)) [
        | inl each ↦
            let have : HaveRoot g roots f (slice_index roots inner.caller) = λ c calls. each c (caller_within g of.call_rows c f calls) calls in
            subst (λ k. RootOf n (name f) (name k)) (sym (are.of_callers f (slice_index roots inner.caller) inner have))
            (of_callers (name f) (name (slice_index roots inner.caller)) (inner_by_name f lt inner) (from_caller f (slice_index roots inner.caller) lt have all))
        | inr o ↦
            let none : (s : ℕ) → IsInner ss g f → HaveRoot g roots f s → ⊥ = λ s i have. o.differs (have o.caller o.calls ∙ sym (have inner.caller inner.called)) in
            let one = each_is_within ss g roots are of inner.caller (caller_within g of.call_rows inner.caller f inner.called) in
            let two = each_is_within ss g roots are of o.caller (caller_within g of.call_rows o.caller f o.calls) in
            subst (λ k. RootOf n (name f) (name k)) (sym (are.itself f lt none))
            (of_two (name f) (name inner.caller) (name o.caller) (name (slice_index roots inner.caller)) (name (slice_index roots o.caller)) (inner_by_name f lt inner)
            (by_name inner.caller f inner.called) (by_name o.caller f o.calls) (all inner.caller inner.called) (all o.caller o.calls)
            (two_names (slice_index roots inner.caller) (slice_index roots o.caller) one two o.differs))
      ]

  root_named : (f : ℕ) → f < length g.functions → RootOf n (name f) (name (slice_index roots f))
  root_named = everywhere g of.call_rows (λ f. RootOf n (name f) (name (slice_index roots f))) (record {
    once = λ f lt. elim (told f lt) [ inl inner ↦ inr inner.no_cycle | inr out ↦ inl (outer_root f lt out) ];
    from_callers = λ f lt all. elim (told f lt) [ inl inner ↦ inner_root f lt inner all | inr out ↦ outer_root f lt out ];
  })

  -- ---- paths below a root

  record Below (r : ℕ) (h : List ℕ) (f : ℕ) : Type 0 where
    place : ℕ
    at : slice_get g.functions place ≡ Some h
    path : PathBelow g r place f

  below_at : (r : ℕ) (h : List ℕ) → r < length g.functions → {f : List ℕ} → Named.PathBelow n (name r) h f → (j : ℕ) → slice_get g.functions j ≡ Some f → Below r h j
  below_at r h lt named_here j at = record { place = j; at = at; path = here }
  below_at r h lt (named_further b c path calls other) j at =
      let k = (named b c).0 calls in
      let rest = below_at r h lt path k.caller k.at_caller in
      let there : Calls g k.caller j = subst (λ q. Calls g k.caller q) (one_place k.callee j c k.at_callee at) k.calls in
      record {
        place = rest.place;
        at = rest.at;
        path = further k.caller j rest.path there (λ e. other (same_Some c (name r) (sym at ∙ ap (slice_get g.functions) e ∙ name_at r lt)));
      }

  pub saved_named : (needs : List ℕ) (f : ℕ) (h : List ℕ) (q : ℕ) → slice_get g.functions f ≡ Some h → Contains (free_at roots needs f) q → IsSavedAboveNamed g n roots needs h q
  saved_named needs f h q at free =
      let lt = slice_get_within g.functions f h at in
      let same : name f ≡ h = same_Some (name f) h (sym (name_at f lt) ∙ at) in
      let within = each_is_within ss g roots are of f lt in
      let saved = saved_above ss g roots needs of are f q lt free in
      record {
        root = name (slice_index roots f);
        is = subst (λ k. RootOf n k (name (slice_index roots f))) same (root_named f lt);
        saver = record { place = slice_index roots f; at = name_at (slice_index roots f) within; saves = saved.saver };
        way = λ k path. let b = below_at (slice_index roots f) k within path f at in record { place = b.place; at = b.at; shares = saved.way b.place b.path };
      }
