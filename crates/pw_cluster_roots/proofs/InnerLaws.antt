-- The functions that may work for others alone, by names, callers and cycles.
use Rattle.std.specs.Prelude.{ℕ, ◌≡◌, ◌≢◌, ◌<◌, ◌≤◌, ◌+◌, ◌⊎◌, ◌↔◌, ◌&&◌, not, Bool, true, false, Some, List, [], ◌∷◌, length, map, slice_get, Contains}
use Rattle.std.proofs.Common.{arith, refl, sym, ap, subst, ◌∙◌, inl, inr}
use Rattle.std.specs.List.{flat_map}
use Rattle.std.specs.Str.{bytes_eq}
use Rattle.std.proofs.lemmas.Option.{same_Some, slice_get_within}
use Rattle.std.proofs.lemmas.Slice.Eq.{bytes_eq-Decides}
use Rattle.pw_value.specs.ProgramNames.{start_name}
use Rattle.pw_files.proofs.Standing.{Has, has_by, contains_by, has_map, has_map_back, has_flat, has_flat_back}
use Rattle.pw_fields.specs.FieldNames.{IsTableOf, is_among}
use Rattle.pw_fields.proofs.NameLaws.{among_contains, contains_among}
use Rattle.pw_fix.specs.Row.{Holds}
use Rattle.pw_fix.specs.declared.bit_row.BitRow.{BitRow}
use Rattle.pw_summary.specs.declared.summary.Summary.{Summary}
use Rattle.pw_graph.specs.declared.graph.CallGraph.{CallGraph}
use Rattle.pw_graph.specs.CallGraph.{Calls, Path}
use Rattle.pw_graph.specs.Making.{all_taken, all_escaped}
use Rattle.pw_graph.specs.Program.{IsTaken, IsEscaped}
use Rattle.pw_graph.proofs.IsGraph.{among_taken, taken_among, among_escaped, escaped_among}
use Rattle.pw_graph_refs.proofs.OwnFlows.{some_more}
use Rattle.pw_webs.specs.Walking.{Leads}
use Rattle.pw_clusters.specs.Clusters.{IsDefined, IsInner}
use Rattle.pw_cluster_roots.specs.Inner.{all_defined, is_named, AreInner}

both : (a b : Bool) → (a && b) ≡ true → (a ≡ true) × (b ≡ true)
both true b e = (refl, e)
both false b e = absurd cc

with_both : (a b : Bool) → a ≡ true → b ≡ true → (a && b) ≡ true
with_both true b e f = f
with_both false b e f = absurd cc

negated : (b : Bool) → not b ≡ true → b ≡ true → ⊥
negated true e f = cc
negated false e f = cc

pub clash : (b : Bool) → b ≡ false → b ≡ true → ⊥
clash true x y = cc
clash false x y = cc

with_negated : (b : Bool) → (b ≡ true → ⊥) → not b ≡ true
with_negated true out = absurd (out refl)
with_negated false out = refl

-- ---- names

defined_so : (ss : List Summary) (name : List ℕ) → Contains (all_defined ss) name → IsDefined ss name
defined_so ss name c =
    let p = has_flat_back (λ s. map (λ f. f.0) s.functions) name ss (has_by name (all_defined ss) c) in
    let q = has_map_back (λ f. f.0) name p.0.functions p.2 in
    contains_by name (map (λ f. f.0) (flat_map (λ s. s.functions) ss))
    (subst (λ (n : List ℕ). Has n (map (λ f. f.0) (flat_map (λ s. s.functions) ss))) q.2 (has_map (λ f. f.0) q.0 (flat_map (λ s. s.functions) ss) (has_flat (λ s. s.functions) p.0 q.0 ss p.1 q.1)))

so_defined : (ss : List Summary) (name : List ℕ) → IsDefined ss name → Contains (all_defined ss) name
so_defined ss name c =
    let q = has_map_back (λ f. f.0) name (flat_map (λ s. s.functions) ss) (has_by name (map (λ f. f.0) (flat_map (λ s. s.functions) ss)) c) in
    let p = has_flat_back (λ s. s.functions) q.0 ss q.1 in
    contains_by name (all_defined ss)
    (has_flat (λ s. map (λ f. f.0) s.functions) p.0 name ss p.1 (subst (λ (n : List ℕ). Has n (map (λ f. f.0) p.0.functions)) q.2 (has_map (λ f. f.0) q.0 p.0.functions p.2)))

module _ (ss : List Summary) (defined taken escaped : List (List ℕ)) (of_defined : IsTableOf defined (all_defined ss)) (of_taken : IsTableOf taken (all_taken ss)) (of_escaped : IsTableOf escaped (all_escaped ss)) where
  -- what the name has to be
  record Named (name : List ℕ) : Type 0 where
    is_defined : IsDefined ss name
    no_start : name ≢ start_name
    not_taken : ¬ IsTaken ss name
    not_escaped : ¬ IsEscaped ss name

  named_so : (name : List ℕ) → is_named defined taken escaped name ≡ true → Named name
  named_so name e =
      let one = both (not (bytes_eq name start_name)) (is_among defined name && (not (is_among taken name) && not (is_among escaped name))) e in
      let two = both (is_among defined name) (not (is_among taken name) && not (is_among escaped name)) one.1 in
      let three = both (not (is_among taken name)) (not (is_among escaped name)) two.1 in
      record {
        is_defined = defined_so ss name ((of_defined.of name).0 (among_contains defined name two.0));
        no_start = λ same. negated (bytes_eq name start_name) one.0 ((bytes_eq-Decides name start_name).1 same);
        not_taken = λ t. negated (is_among taken name) three.0 (among_taken ss taken of_taken name t);
        not_escaped = λ t. negated (is_among escaped name) three.1 (among_escaped ss escaped of_escaped name t);
      }

  so_named : (name : List ℕ) → Named name → is_named defined taken escaped name ≡ true
  so_named name n =
      let c = (of_defined.of name).1 (so_defined ss name n.is_defined) in
      with_both (not (bytes_eq name start_name)) (is_among defined name && (not (is_among taken name) && not (is_among escaped name)))
      (with_negated (bytes_eq name start_name) (λ e. n.no_start ((bytes_eq-Decides name start_name).0 e)))
      (with_both (is_among defined name) (not (is_among taken name) && not (is_among escaped name)) (contains_among defined name c.0 c.1 c.2)
      (with_both (not (is_among taken name)) (not (is_among escaped name))
      (with_negated (is_among taken name) (λ e. n.not_taken (taken_among ss taken of_taken name e)))
      (with_negated (is_among escaped name) (λ e. n.not_escaped (escaped_among ss escaped of_escaped name e)))))

  -- ---- a function

  some_caller : (row : List ℕ) → (row ≡ [] → ⊥) → (c : ℕ) × Contains row c
  some_caller [] some = absurd (some refl)
  some_caller (c ∷ row) some = (c, contains_by c (c ∷ row) (inl refl))

  none_empty : (row : List ℕ) (c : ℕ) → Contains row c → row ≡ [] → ⊥
  none_empty row c h e = let k = subst (λ (l : List ℕ). Contains l c) e h in let lt = k.1 in omega (arith, lt)

  pub inner_here : (g : CallGraph) (callers : List (List ℕ)) (cycles : BitRow) (f : ℕ) (row : List ℕ) (name : List ℕ) → ((a b : ℕ) → Leads callers a b ↔ Calls g b a) → ((q : ℕ) → Holds cycles q ↔ Path g q q)
      → slice_get g.functions f ≡ Some name → slice_get callers f ≡ Some row
      → ((¬ (row ≡ [])) × (¬ Holds cycles f) × (is_named defined taken escaped name ≡ true)) ↔ IsInner ss g f
  inner_here g callers cycles f row name calls cycle at there = (
    λ k.
        let c = some_caller row k.0 in
        let n = named_so name k.2 in
        record {
          name = name;
          at = at;
          defined = n.is_defined;
          no_start = n.no_start;
          no_cycle = λ path. k.1 ((cycle f).1 path);
          not_taken = n.not_taken;
          not_escaped = n.not_escaped;
          caller = c.0;
          called = (calls f c.0).0 (record { row = row; at = there; stands = c.1 });
        },
    λ i.
        let same : i.name ≡ name = same_Some i.name name (sym i.at ∙ at) in
        let leads = (calls f i.caller).1 i.called in
        let one : leads.row ≡ row = same_Some leads.row row (sym leads.at ∙ there) in (
          none_empty row i.caller (subst (λ (l : List ℕ). Contains l i.caller) one leads.stands),
          λ h. i.no_cycle ((cycle f).0 h),
          so_named name (subst Named same (record { is_defined = i.defined; no_start = i.no_start; not_taken = i.not_taken; not_escaped = i.not_escaped })),
        ),
  )

-- ---- place by place

-- a function that is one of them is put among them
pub one_put : (P : ℕ → Type 0) (i : ℕ) (now new : BitRow) → P i → ((k : ℕ) → Holds new k ↔ ((k ≡ i) ⊎ Holds now k)) → ((f : ℕ) → Holds now f ↔ ((f < i) × P f)) → (f : ℕ) → Holds new f ↔ ((f < i + 1) × P f)
one_put P i now new is after before =
    some_more P i now new before (λ f. (
      λ h. elim ((after f).0 h) [ inl e ↦ inr (e, is) | inr k ↦ inl k ],
      λ w. (after f).1 (elim w [ inl k ↦ inr k | inr e ↦ inl e.0 ]),
    ))

-- another one is left
pub one_left : (P : ℕ → Type 0) (i : ℕ) (now : BitRow) → (P i → ⊥) → ((f : ℕ) → Holds now f ↔ ((f < i) × P f)) → (f : ℕ) → Holds now f ↔ ((f < i + 1) × P f)
one_left P i now none before = some_more P i now now before (λ f. (λ h. inl h, λ w. elim w [ inl k ↦ k | inr e ↦ absurd (none e.1) ]))

-- all of them
pub all_inner : (ss : List Summary) (g : CallGraph) (i : ℕ) (inner : BitRow) → inner.len ≡ length g.functions → length g.functions ≤ i → ((f : ℕ) → Holds inner f ↔ ((f < i) × IsInner ss g f)) → AreInner ss g inner
all_inner ss g i inner width past holds = record {
  width = width;
  of = λ f. (λ h. ((holds f).0 h).1, λ is. let lt = slice_get_within g.functions f is.name is.at in (holds f).1 (omega (arith, lt, past), is));
}
