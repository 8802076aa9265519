-- The call graph by places: what stands in its rows.
use Rattle.std.proofs.Common.{◌≡◌, ℕ, ◌+◌, ◌<◌, ◌≤◌, ◌^◌, Bool, true, List, [], ◌∷◌, length, map, refl, sym, ap, subst, ◌∙◌, arith, inl, inr, All}
use Rattle.std.specs.Prelude.{Result, Ok, Err, IfOk, Option, Some, None, option_map, slice_get, Contains, ◌↔◌, if◌then◌else◌}
use Rattle.std.specs.List.{filter_map, cons_option, flat_map, AllByRecursion, AllZip}
use Rattle.std.specs.List.Sorted.{IsStrictlyIncreasing}
use Rattle.std.specs.Str.{bytes_eq}
use Rattle.std.specs.Ordering.{nat_cmp}
use Rattle.std.specs.Cmp.Lexicographic.{slice_cmp}
use Rattle.std.specs.declared.cmp.Ordering.TheVariants.{Less}
use Rattle.std.proofs.lemmas.Slice.Eq.{bytes_eq-Decides}
use Rattle.std.proofs.lemmas.Option.{slice_get_within, same_Some}
use Rattle.std.proofs.lemmas.List.Elements.{recursion_from_All}
use Rattle.pw_value.specs.declared.value.Kind.{Kind}
use Rattle.pw_value.specs.Limits.{function_limit, global_limit}
use Rattle.pw_fields.specs.FieldNames.{is_among, IsRisingFrom, IsTableOf}
use Rattle.pw_files.specs.Rising.{IsRising, IsRisingBehind}
use Rattle.pw_files.proofs.Standing.{Has, has_by, contains_by, each_by, has_each, has_map, has_map_back, has_left, has_right, has_split, has_flat, has_flat_back}
use Rattle.pw_files.proofs.ByteOrder.{table_rises, one_rising, behind}
use Rattle.pw_summary.specs.declared.summary.Summary.{Summary}
use Rattle.pw_summary.specs.declared.summary.Uses.{Uses}
use Rattle.pw_summary.specs.Summary.{need_limit, IsSummary, IsUses}
use Rattle.pw_graph.specs.declared.graph.CallGraph.{CallGraph}
use Rattle.pw_graph.specs.CallGraph.{Calls, Weighs, IsGraph}
use Rattle.pw_graph.proofs.Counts.{few_homes, few_scalars}
use Rattle.std.proofs.lemmas.List.{length-map}
use Rattle.pw_graph.specs.Program.{AreLinked, functions_of, IsUseOf, IsCall, by_name, through_value, HasWeights, HasNeed, IsEligible, IsGraphOf}
use Rattle.pw_graph.specs.Making.{IsOrdered, all_homes, all_taken, all_escaped, all_eligible, place_in, targets_from, place_if, of_shape, callees, IsCallRow, with_weights, placed, ref_row, HasRefs, need_of}
use Rattle.pw_graph.proofs.Lists.{has_at, at_has, mapped_at, at_mapped, zip_at, at_zip, zip_length, zip_each, has_filtered, has_filtered_back}
use Rattle.pw_graph.proofs.Members.{Ups, increasing}
use Rattle.pw_graph.proofs.Placing.{one_place, lesser_place, name_at_place, place_of_name}
use Rattle.pw_graph.proofs.Steps.{targets_within}
use Rattle.pw_graph.proofs.IsGraph.{Entry, use_forth, use_back, functions_forth, functions_back, among_taken, taken_among, eligible_forth, eligible_back, target_back, target_there, shape_if, map_id}

-- ---- the names of a list in order

pub names_one : {X : Type 0} (key : X → List ℕ) (names : List (List ℕ)) (xs : List X) → IsRising (map key xs) → IsTableOf names (map key xs) → names ≡ map key xs
names_one key names xs up table = one_rising (λ n. n) names (map key xs) (subst IsRising (sym (map_id names)) (table_rises names table.rising)) (subst IsRising (sym (map_id (map key xs))) up) table.of

-- ---- weights

record PlacedRef (globals : List (List ℕ)) (u : Uses) (v r w : ℕ) : Type 0 where
  name : List ℕ
  stands : Has (name, r, w) u.refs
  place : place_in globals name ≡ Some v

some_mapped : {X Y : Type 0} (h : X → Y) (o : Option X) (y : Y) → option_map h o ≡ Some y → (x : X) × (o ≡ Some x) × (h x ≡ y)
some_mapped h None y e = absurd cc
some_mapped h (Some x) y e = (x, refl, same_Some (h x) y e)

mapped_some : {X Y : Type 0} (h : X → Y) (o : Option X) (x : X) → o ≡ Some x → option_map h o ≡ Some (h x)
mapped_some h None x e = absurd cc
mapped_some h (Some z) x e = ap (λ y. Some (h y)) (same_Some z x e)

placed_back : (globals : List (List ℕ)) (u : Uses) (v r w : ℕ) → Has (v, r, w) (filter_map (placed globals) u.refs) → PlacedRef globals u v r w
placed_back globals u v r w h =
    let q = has_filtered_back (placed globals) u.refs (v, r, w) h in
    let x = q.0 in
    let p = some_mapped (with_weights x) (place_in globals x.0) (v, r, w) q.2 in
    let place : p.0 ≡ v = ap (λ (t : ℕ × ℕ × ℕ). t.0) p.2 in
    let reads : x.1 ≡ r = ap (λ (t : ℕ × ℕ × ℕ). t.1) p.2 in
    let writes : x.2 ≡ w = ap (λ (t : ℕ × ℕ × ℕ). t.2) p.2 in
    let same : x ≡ (x.0, r, w) = ap (λ m. (x.0, m, x.2)) reads ∙ ap (λ m. (x.0, r, m)) writes in
    record { name = x.0; stands = subst (λ (y : List ℕ × ℕ × ℕ). Has y u.refs) same q.1; place = p.1 ∙ ap Some place }

placed_there : (globals : List (List ℕ)) (u : Uses) (name : List ℕ) (v r w : ℕ) → Has (name, r, w) u.refs → place_in globals name ≡ Some v → Has (v, r, w) (filter_map (placed globals) u.refs)
placed_there globals u name v r w h e = has_filtered (placed globals) u.refs (name, r, w) (v, r, w) h (mapped_some (with_weights (name, r, w)) (place_in globals name) v e)

row_back : (globals : List (List ℕ)) (o : Option Uses) (v r w : ℕ) → Has (v, r, w) (ref_row globals o) → (u : Uses) × (o ≡ Some u) × PlacedRef globals u v r w
row_back globals None v r w h = absurd h
row_back globals (Some u) v r w h = (u, refl, placed_back globals u v r w h)

cons_up : (o : Option (ℕ × ℕ × ℕ)) (ys : List (ℕ × ℕ × ℕ)) → ((p : ℕ × ℕ × ℕ) → o ≡ Some p → AllByRecursion (λ y. p.0 < y) (map (λ t. t.0) ys)) → Ups (map (λ t. t.0) ys) → Ups (map (λ t. t.0) (cons_option o ys))
cons_up None ys low ups = ups
cons_up (Some p) ys low ups = (low p refl, ups)

placed_place : (globals : List (List ℕ)) (r : List ℕ × ℕ × ℕ) (p : ℕ × ℕ × ℕ) → placed globals r ≡ Some p → place_in globals r.0 ≡ Some p.0
placed_place globals r p e =
    let q = some_mapped (with_weights r) (place_in globals r.0) p e in
    q.1 ∙ ap (λ (t : ℕ × ℕ × ℕ). Some t.0) q.2

lesser : (globals : List (List ℕ)) → IsRisingFrom [] globals → (a b : List ℕ) (i j : ℕ) → slice_cmp nat_cmp a b ≡ Less → place_in globals a ≡ Some i → place_in globals b ≡ Some j → i < j
lesser globals rising a b i j less one two =
    lesser_place (λ n. n) globals (subst IsRising (sym (map_id globals)) (table_rises globals rising)) i j a b (name_at_place globals a i one) (name_at_place globals b j two) less

row_ups : (globals : List (List ℕ)) → IsRisingFrom [] globals → (before : Option (List ℕ)) (refs : List (List ℕ × ℕ × ℕ)) → IsRisingBehind before (map (λ r. r.0) refs) → Ups (map (λ t. t.0) (filter_map (placed globals) refs))
row_ups globals rising before [] up = tt
row_ups globals rising before (r ∷ refs) up =
    cons_up (placed globals r) (filter_map (placed globals) refs)
    (λ p e. each_by (λ y. p.0 < y) (map (λ t. t.0) (filter_map (placed globals) refs)) (λ y h.
    let k = has_map_back (λ (t : ℕ × ℕ × ℕ). t.0) y (filter_map (placed globals) refs) h in
    let q = has_filtered_back (placed globals) refs k.0 k.1 in
    let less = behind r.0 (map (λ s. s.0) refs) q.0.0 up.1 (has_map (λ s. s.0) q.0 refs q.1) in
    subst (λ m. p.0 < m) k.2 (lesser globals rising r.0 q.0.0 p.0 k.0.0 less (placed_place globals r p e) (placed_place globals q.0 k.0 q.2))))
    (row_ups globals rising (Some r.0) refs up.1)

row_rises : (globals : List (List ℕ)) → IsRisingFrom [] globals → (o : Option Uses) → ((u : Uses) → o ≡ Some u → IsUses u) → IsStrictlyIncreasing (map (λ t. t.0) (ref_row globals o))
row_rises globals rising None lawful = increasing [] tt
row_rises globals rising (Some u) lawful = increasing (map (λ t. t.0) (filter_map (placed globals) u.refs)) (row_ups globals rising None u.refs (lawful u refl).refs)

-- ---- callees

data Callee (names : List (List ℕ)) (targets : List (List ℕ × ℕ)) (u : Uses) (b : ℕ) : Type 0 where
  named : (n : List ℕ) → Has n u.calls → place_in names n ≡ Some b → Callee names targets u b
  valued : (shape : List ℕ) → Has shape u.shapes → Has (shape, b) targets → Callee names targets u b

of_shape_back : (targets : List (List ℕ × ℕ)) (shape : List ℕ) (b : ℕ) → Has b (of_shape targets shape) → Has (shape, b) targets
of_shape_back targets shape b h =
    let q = has_filtered_back (place_if shape) targets b h in
    let p = shape_if (bytes_eq q.0.0 shape) q.0.1 b q.2 in
    let same : q.0.0 ≡ shape = (bytes_eq-Decides q.0.0 shape).0 p.0 in
    subst (λ (t : List ℕ × ℕ). Has t targets) (ap (λ (s : List ℕ). (s, q.0.1)) same ∙ ap (λ m. (shape, m)) p.1) q.1

of_shape_there : (targets : List (List ℕ × ℕ)) (shape : List ℕ) (b : ℕ) → Has (shape, b) targets → Has b (of_shape targets shape)
of_shape_there targets shape b h =
    has_filtered (place_if shape) targets (shape, b) b h (ap (λ (t : Bool). if t then Some b else None) ((bytes_eq-Decides shape shape).1 refl))

callee_back : (names : List (List ℕ)) (targets : List (List ℕ × ℕ)) (o : Option Uses) (b : ℕ) → Has b (callees names targets o) → (u : Uses) × (o ≡ Some u) × Callee names targets u b
callee_back names targets None b h = absurd h
callee_back names targets (Some u) b h = (
  u,
  refl,
  elim (has_split b (filter_map (place_in names) u.calls) (flat_map (of_shape targets) u.shapes) h) [
    | inl k ↦ let q = has_filtered_back (place_in names) u.calls b k in named q.0 q.1 q.2
    | inr k ↦ let q = has_flat_back (of_shape targets) b u.shapes k in valued q.0 q.1 (of_shape_back targets q.0 b q.2)
  ],
)

callee_there : (names : List (List ℕ)) (targets : List (List ℕ × ℕ)) (u : Uses) (b : ℕ) → Callee names targets u b → Has b (callees names targets (Some u))
callee_there names targets u b (named n h e) = has_left b (filter_map (place_in names) u.calls) (flat_map (of_shape targets) u.shapes) (has_filtered (place_in names) u.calls n b h e)
callee_there names targets u b (valued shape h t) = has_right b (filter_map (place_in names) u.calls) (flat_map (of_shape targets) u.shapes) (has_flat (of_shape targets) shape b u.shapes h (of_shape_there targets shape b t))

-- ---- the graph

module _ (ss : List Summary) (lawful : All IsSummary ss) (H : List Entry) (names taken escaped : List (List ℕ)) (G : List (List ℕ × Kind)) (globals : List (List ℕ))
    (homes : IsOrdered (λ h. h.0) (all_homes ss) H) (of_names : IsTableOf names (map (λ h. h.0) H))
    (of_taken : IsTableOf taken (all_taken ss)) (of_escaped : IsTableOf escaped (all_escaped ss))
    (scalars : IsOrdered (λ v. v.0) (all_eligible taken escaped ss) G) (of_globals : IsTableOf globals (map (λ v. v.0) G))
    (rows : List (List ℕ)) (are_rows : AllZip (IsCallRow names (targets_from taken 0 H)) H rows) where
  abbrev targets : List (List ℕ × ℕ)
  targets = targets_from taken 0 H

  abbrev graph : CallGraph
  graph = record { functions = names; globals = G; calls = rows; refs = map (λ h. ref_row globals h.2) H; needs = map (λ h. need_of h.2) H }

  names_are : names ≡ map (λ h. h.0) H
  names_are = names_one (λ h. h.0) names H homes.0 of_names

  globals_are : globals ≡ map (λ v. v.0) G
  globals_are = names_one (λ v. v.0) globals G scalars.0 of_globals

  in_order : (e : Entry) → Has e (all_homes ss) → Has e H
  in_order e h = has_by e H ((homes.1 e).1 (contains_by e (all_homes ss) h))

  in_all : (e : Entry) → Has e H → Has e (all_homes ss)
  in_all e h = has_by e (all_homes ss) ((homes.1 e).0 (contains_by e H h))

  entry_at : (a : ℕ) (f : List ℕ) → slice_get names a ≡ Some f → (e : Entry) × (slice_get H a ≡ Some e) × (e.0 ≡ f)
  entry_at a f e = mapped_at (λ h. h.0) H a f (subst (λ (ns : List (List ℕ)). slice_get ns a ≡ Some f) names_are e)

  name_of : (a : ℕ) (e : Entry) → slice_get H a ≡ Some e → slice_get names a ≡ Some e.0
  name_of a e at = subst (λ (ns : List (List ℕ)). slice_get ns a ≡ Some e.0) (sym names_are) (at_mapped (λ h. h.0) H a e at)

  one_entry : (a : ℕ) (e x : Entry) → slice_get H a ≡ Some e → Has x H → x.0 ≡ e.0 → x ≡ e
  one_entry a e x at h same =
      let p = at_has H x h in
      let place : p.0 ≡ a = one_place (λ (y : Entry). y.0) H homes.0 p.0 a x e p.1 at same in
      same_Some x e (sym (subst (λ k. slice_get H k ≡ Some x) place p.1) ∙ at)

  -- the uses of the function at a place
  use_at : (a : ℕ) (e : Entry) (u : Uses) → slice_get H a ≡ Some e → IsUseOf ss e.0 u → e.2 ≡ Some u
  use_at a e u at of = sym (ap (λ (x : Entry). x.2) (one_entry a e (e.0, of.shape, Some u) at (in_order (e.0, of.shape, Some u) (use_back ss e.0 u of)) refl))

  use_of : (a : ℕ) (e : Entry) (u : Uses) → slice_get H a ≡ Some e → e.2 ≡ Some u → IsUseOf ss e.0 u
  use_of a e u at same = use_forth ss e u (in_all e (has_at H a e at)) same

  -- ---- calls

  call_forth : (a b : ℕ) (e x : Entry) → slice_get H a ≡ Some e → slice_get H b ≡ Some x → (u : Uses) → e.2 ≡ Some u → Callee names targets u b → IsCall ss e.0 x.0
  call_forth a b e x at_a at_b u same (named n h place) =
      let one : n ≡ x.0 = same_Some n x.0 (sym (name_at_place names n b place) ∙ name_of b x at_b) in
      by_name u (use_of a e u at_a same) (contains_by x.0 u.calls (subst (λ (m : List ℕ). Has m u.calls) one h))
  call_forth a b e x at_a at_b u same (valued shape h t) =
      let r = target_back taken 0 H (shape, b) t in
      let place : r.place ≡ b = omega (arith, r.counted) in
      let y : r.entry ≡ x = same_Some r.entry x (sym (subst (λ k. slice_get H k ≡ Some r.entry) place r.at) ∙ at_b) in
      let function = functions_forth ss x (in_all x (has_at H b x at_b)) in
      let its : x.1 ≡ shape = ap (λ (z : Entry). z.1) (sym y) ∙ r.shape in
      through_value u shape (use_of a e u at_a same) (contains_by shape u.shapes h)
      (contains_by (x.0, shape) (functions_of ss) (subst (λ (s : List ℕ). Has (x.0, s) (functions_of ss)) its function))
      (taken_among ss taken of_taken x.0 (subst (λ (z : Entry). is_among taken z.0 ≡ true) y r.taken_there))

  callee_of : (a b : ℕ) (e x : Entry) → slice_get H a ≡ Some e → slice_get H b ≡ Some x → IsCall ss e.0 x.0 → (u : Uses) × (e.2 ≡ Some u) × Callee names targets u b
  callee_of a b e x at_a at_b (by_name u of calls) =
      (u, use_at a e u at_a of, named x.0 (has_by x.0 u.calls calls) (place_of_name names x.0 b of_names.rising (name_of b x at_b)))
  callee_of a b e x at_a at_b (through_value u shape of shapes function takes) =
      let r = functions_back ss (x.0, shape) (has_by (x.0, shape) (functions_of ss) function) in
      let y : (x.0, shape, r.0) ≡ x = one_entry b x (x.0, shape, r.0) at_b (in_order (x.0, shape, r.0) r.1) refl in
      let its : x.1 ≡ shape = ap (λ (z : Entry). z.1) (sym y) in
      let t = target_there taken 0 H b x at_b (among_taken ss taken of_taken x.0 takes) in
      let place : 0 + b ≡ b = omega arith in
      (u, use_at a e u at_a of, valued shape (has_by shape u.shapes shapes) (subst (λ (p : List ℕ × ℕ). Has p targets) (ap (λ (s : List ℕ). (s, 0 + b)) its ∙ ap (λ m. (shape, m)) place) t))

  calls_are : (a b : ℕ) (f h : List ℕ) → slice_get names a ≡ Some f → slice_get names b ≡ Some h → Calls graph a b ↔ IsCall ss f h
  calls_are a b f h at_a at_b =
      let e = entry_at a f at_a in
      let x = entry_at b h at_b in (
        λ c. let z = zip_at (IsCallRow names targets) H rows are_rows a c.row c.at in
            let same : z.0 ≡ e.0 = same_Some z.0 e.0 (sym z.1 ∙ e.1) in
            let k = callee_back names targets z.0.2 b (has_by b (callees names targets z.0.2) ((z.2.1 b).0 c.stands)) in
            subst (λ (m : List ℕ). IsCall ss m h) e.2 (subst (λ (m : List ℕ). IsCall ss e.0.0 m) x.2
            (call_forth a b e.0 x.0 e.1 x.1 k.0 (ap (λ (y : Entry). y.2) (sym same) ∙ k.1) k.2)),
        λ c. let k = callee_of a b e.0 x.0 e.1 x.1 (subst (λ (m : List ℕ). IsCall ss m x.0.0) (sym e.2) (subst (λ (m : List ℕ). IsCall ss f m) (sym x.2) c)) in
            let z = at_zip (IsCallRow names targets) H rows are_rows a e.0 e.1 in
            record { row = z.0; at = z.1; stands = (z.2.1 b).1 (contains_by b (callees names targets e.0.2) (subst (λ (o : Option Uses). Has b (callees names targets o)) (sym k.1) (callee_there names targets k.0 b k.2))) },
      )

  callee_within : (u : Uses) (b : ℕ) → Callee names targets u b → b < length names
  callee_within u b (named n h place) = slice_get_within names b n (name_at_place names n b place)
  callee_within u b (valued shape h t) =
      let r = target_back taken 0 H (shape, b) t in
      let lt = slice_get_within H r.place r.entry r.at in
      omega (arith, r.counted, lt, ap length names_are, length-map H (λ (y : Entry). y.0))

  calls_within : (a b : ℕ) → Calls graph a b → b < length names
  calls_within a b c =
      let z = zip_at (IsCallRow names targets) H rows are_rows a c.row c.at in
      let k = callee_back names targets z.0.2 b (has_by b (callees names targets z.0.2) ((z.2.1 b).0 c.stands)) in
      callee_within k.0 b k.2

  -- ---- references

  global_at : (v : ℕ) (name : List ℕ) → slice_get globals v ≡ Some name → (g : List ℕ × Kind) × (slice_get G v ≡ Some g) × (g.0 ≡ name)
  global_at v name e = mapped_at (λ g. g.0) G v name (subst (λ (ns : List (List ℕ)). slice_get ns v ≡ Some name) globals_are e)

  refs_are : (a v reads writes : ℕ) (f : List ℕ) (g : List ℕ × Kind) → slice_get names a ≡ Some f → slice_get G v ≡ Some g → Weighs graph a v reads writes ↔ HasWeights ss f g.0 reads writes
  refs_are a v reads writes f g at_a at_v =
      let e = entry_at a f at_a in
      let there : slice_get globals v ≡ Some g.0 = subst (λ (ns : List (List ℕ)). slice_get ns v ≡ Some g.0) (sym globals_are) (at_mapped (λ (h : List ℕ × Kind). h.0) G v g at_v) in (
        λ c. let m = mapped_at (λ (h : Entry). ref_row globals h.2) H a c.row c.at in
            let same : m.0 ≡ e.0 = same_Some m.0 e.0 (sym m.1 ∙ e.1) in
            let k = row_back globals m.0.2 v reads writes (subst (λ (row : List (ℕ × ℕ × ℕ)). Has (v, reads, writes) row) (sym m.2) (has_by (v, reads, writes) c.row c.stands)) in
            let name : k.2.name ≡ g.0 = same_Some k.2.name g.0 (sym (name_at_place globals k.2.name v k.2.place) ∙ there) in
            record {
              u = k.0;
              uses = subst (λ (n : List ℕ). IsUseOf ss n k.0) e.2 (use_of a e.0 k.0 e.1 (ap (λ (y : Entry). y.2) (sym same) ∙ k.1));
              stands = contains_by (g.0, reads, writes) k.0.refs (subst (λ (n : List ℕ). Has (n, reads, writes) k.0.refs) name k.2.stands);
            },
        λ w. let of = use_at a e.0 w.u e.1 (subst (λ (n : List ℕ). IsUseOf ss n w.u) (sym e.2) w.uses) in
            let stands = placed_there globals w.u g.0 v reads writes (has_by (g.0, reads, writes) w.u.refs w.stands) (place_of_name globals g.0 v of_globals.rising there) in
            record {
              row = ref_row globals e.0.2;
              at = at_mapped (λ (h : Entry). ref_row globals h.2) H a e.0 e.1;
              stands = contains_by (v, reads, writes) (ref_row globals e.0.2) (subst (λ (o : Option Uses). Has (v, reads, writes) (ref_row globals o)) (sym of) stands);
            },
      )

  refs_within : (a v reads writes : ℕ) → Weighs graph a v reads writes → v < length G
  refs_within a v reads writes c =
      let m = mapped_at (λ (h : Entry). ref_row globals h.2) H a c.row c.at in
      let k = row_back globals m.0.2 v reads writes (subst (λ (row : List (ℕ × ℕ × ℕ)). Has (v, reads, writes) row) (sym m.2) (has_by (v, reads, writes) c.row c.stands)) in
      let g = global_at v k.2.name (name_at_place globals k.2.name v k.2.place) in
      slice_get_within G v g.0 g.1

  lawful_uses : (f : List ℕ) (u : Uses) → IsUseOf ss f u → IsUses u
  lawful_uses f u of =
      has_each IsUses of.summary.uses u (has_each IsSummary ss of.summary (recursion_from_All IsSummary ss lawful) (has_by of.summary ss of.stands)).uses (has_at of.summary.uses of.place u of.uses)

  entry_rises : (e : Entry) → Has e H → IsStrictlyIncreasing (map (λ t. t.0) (ref_row globals e.2))
  entry_rises e h = row_rises globals of_globals.rising e.2 (λ u same. lawful_uses e.0 u (use_forth ss e u (in_all e h) same))

  refs_rise : (hs : List Entry) → ((e : Entry) → Has e hs → Has e H) → AllByRecursion (λ row. IsStrictlyIncreasing (map (λ t. t.0) row)) (map (λ h. ref_row globals h.2) hs)
  refs_rise [] sub = tt
  refs_rise (e ∷ hs) sub = (entry_rises e (sub e (inl refl)), refs_rise hs (λ x h. sub x (inr h)))

  -- ---- needs

  told_need : (e : Entry) (n : ℕ) (u : Uses) → need_of e.2 ≡ n → e.2 ≡ Some u → n ≡ u.need
  told_need e n u is same = sym is ∙ ap need_of same

  untold_need : (f : List ℕ) (o : Option Uses) (n : ℕ) → need_of o ≡ n → ((u : Uses) → o ≡ Some u → IsUseOf ss f u) → ((u : Uses) → IsUseOf ss f u → ⊥) → n ≡ 0
  untold_need f None n is of none = sym is
  untold_need f (Some u) n is of none = absurd (none u (of u refl))

  needs_are : (a n : ℕ) (f : List ℕ) → slice_get names a ≡ Some f → slice_get (map (λ (h : Entry). need_of h.2) H) a ≡ Some n → HasNeed ss f n
  needs_are a n f at_a at_n =
      let e = entry_at a f at_a in
      let m = mapped_at (λ (h : Entry). need_of h.2) H a n at_n in
      let same : m.0 ≡ e.0 = same_Some m.0 e.0 (sym m.1 ∙ e.1) in
      let is : need_of e.0.2 ≡ n = subst (λ (x : Entry). need_of x.2 ≡ n) same m.2 in
      record {
        told = λ u of. told_need e.0 n u is (use_at a e.0 u e.1 (subst (λ (k : List ℕ). IsUseOf ss k u) (sym e.2) of));
        untold = untold_need f e.0.2 n is (λ u there. subst (λ (k : List ℕ). IsUseOf ss k u) e.2 (use_of a e.0 u e.1 there));
      }

  need_fits : (o : Option Uses) → ((u : Uses) → o ≡ Some u → IsUses u) → need_of o ≤ need_limit
  need_fits None all = omega arith
  need_fits (Some u) all = (all u refl).need

  needs_fit : (hs : List Entry) → ((e : Entry) → Has e hs → Has e H) → AllByRecursion (λ n. n ≤ need_limit) (map (λ (h : Entry). need_of h.2) hs)
  needs_fit [] sub = tt
  needs_fit (e ∷ hs) sub = (
    need_fits e.2 (λ u same. lawful_uses e.0 u (use_forth ss e u (in_all e (sub e (inl refl))) same)),
    needs_fit hs (λ x h. sub x (inr h)),
  )

  -- ---- names

  each_function : (f : List ℕ) → Contains names f ↔ Contains (map (λ h. h.0) (functions_of ss)) f
  each_function f = (
    λ c. let p = has_map_back (λ (h : Entry). h.0) f H (has_by f (map (λ h. h.0) H) ((of_names.of f).0 c)) in
        contains_by f (map (λ h. h.0) (functions_of ss)) (subst (λ (n : List ℕ). Has n (map (λ h. h.0) (functions_of ss))) p.2 (has_map (λ h. h.0) (p.0.0, p.0.1) (functions_of ss) (functions_forth ss p.0 (in_all p.0 p.1)))),
    λ c. let p = has_map_back (λ (h : List ℕ × List ℕ). h.0) f (functions_of ss) (has_by f (map (λ h. h.0) (functions_of ss)) c) in
        let r = functions_back ss p.0 p.1 in
        (of_names.of f).1 (contains_by f (map (λ h. h.0) H) (subst (λ (n : List ℕ). Has n (map (λ h. h.0) H)) p.2 (has_map (λ h. h.0) (p.0.0, p.0.1, r.0) H (in_order (p.0.0, p.0.1, r.0) r.1)))),
  )

  each_global : (v : List ℕ) (kind : Kind) → Contains G (v, kind) ↔ IsEligible ss v kind
  each_global v kind = (
    λ c. eligible_forth ss taken escaped of_taken of_escaped v kind (has_by (v, kind) (all_eligible taken escaped ss) ((scalars.1 (v, kind)).0 c)),
    λ e. (scalars.1 (v, kind)).1 (contains_by (v, kind) (all_eligible taken escaped ss) (eligible_back ss taken escaped of_taken of_escaped v kind e)),
  )

  weights_fit : (a v reads writes : ℕ) → Weighs graph a v reads writes → (reads < 2 ^ 32) × (writes < 2 ^ 32)
  weights_fit a v reads writes c =
      let m = mapped_at (λ (h : Entry). ref_row globals h.2) H a c.row c.at in
      let k = row_back globals m.0.2 v reads writes (subst (λ (row : List (ℕ × ℕ × ℕ)). Has (v, reads, writes) row) (sym m.2) (has_by (v, reads, writes) c.row c.stands)) in
      has_each (λ r. (r.1 < 2 ^ 32) × (r.2 < 2 ^ 32)) k.0.refs (k.2.name, reads, writes) (lawful_uses m.0.0 k.0 (use_of a m.0 k.0 m.1 k.1)).weights k.2.stands

  size : length names ≡ length H
  size = ap length names_are ∙ length-map H (λ (y : Entry). y.0)

  pub well_made : length H ≤ function_limit + 3 → length G ≤ global_limit → IsGraph graph
  well_made few_functions few_globals = record {
    functions = omega (arith, size, few_functions);
    globals = few_globals;
    call_rows = zip_length (IsCallRow names targets) H rows are_rows ∙ sym size;
    calls_within = calls_within;
    ref_rows = length-map H (λ (h : Entry). ref_row globals h.2) ∙ sym size;
    refs_rise = refs_rise H (λ e h. h);
    refs_within = refs_within;
    weights = weights_fit;
    need_rows = length-map H (λ (h : Entry). need_of h.2) ∙ sym size;
    needs = needs_fit H (λ e h. h);
  }

  pub is_graph : IsGraphOf ss graph
  is_graph = record {
    functions = table_rises names of_names.rising;
    each_function = each_function;
    globals = scalars.0;
    each_global = each_global;
    call_rows = zip_length (IsCallRow names targets) H rows are_rows ∙ sym size;
    calls_rise = zip_each (IsCallRow names targets) IsStrictlyIncreasing (λ h row is. is.0) H rows are_rows;
    calls_within = calls_within;
    calls = calls_are;
    ref_rows = length-map H (λ (h : Entry). ref_row globals h.2) ∙ sym size;
    refs_rise = refs_rise H (λ e h. h);
    refs_within = refs_within;
    refs = refs_are;
    need_rows = length-map H (λ (h : Entry). need_of h.2) ∙ sym size;
    needs = needs_are;
  }

-- ---- the lists that are made

pub few_names : (ss : List Summary) → AreLinked ss → (H : List Entry) (names : List (List ℕ)) → IsOrdered (λ h. h.0) (all_homes ss) H → length H ≡ length (all_homes ss) → IsTableOf names (map (λ h. h.0) H) → (length names ≤ function_limit + 3) × (length H ≤ length names)
few_names ss linked H names homes count table =
    let few = few_homes ss linked in
    let same : length names ≡ length H = ap length (names_one (λ h. h.0) names H homes.0 table) ∙ length-map H (λ (y : Entry). y.0) in
    (omega (arith, few, count, same), omega (arith, same))

pub few_globals : (ss : List Summary) → AreLinked ss → (taken escaped : List (List ℕ)) (G : List (List ℕ × Kind)) (globals : List (List ℕ)) → IsOrdered (λ v. v.0) (all_eligible taken escaped ss) G → length G ≡ length (all_eligible taken escaped ss) → IsTableOf globals (map (λ v. v.0) G) → length globals ≤ global_limit
few_globals ss linked taken escaped G globals scalars count table =
    let few = few_scalars taken escaped ss linked in
    let same : length globals ≡ length G = ap length (names_one (λ v. v.0) globals G scalars.0 table) ∙ length-map G (λ (y : List ℕ × Kind). y.0) in
    omega (arith, few, count, same)

pub targets_fit : (taken : List (List ℕ)) (H : List Entry) (ts : List (List ℕ × ℕ)) (n : ℕ) → ts ≡ targets_from taken 0 H → length H ≤ n → AllByRecursion (λ t. t.1 < n) ts
targets_fit taken H ts n same le = subst (λ (xs : List (List ℕ × ℕ)). AllByRecursion (λ t. t.1 < n) xs) (sym same) (targets_within taken 0 n H (omega (arith, le)))

pub made : (ss : List Summary) → All IsSummary ss → AreLinked ss → (H : List Entry) (names taken escaped : List (List ℕ)) (G : List (List ℕ × Kind)) (globals : List (List ℕ))
    → IsOrdered (λ h. h.0) (all_homes ss) H → length H ≡ length (all_homes ss) → IsTableOf names (map (λ h. h.0) H)
    → IsTableOf taken (all_taken ss) → IsTableOf escaped (all_escaped ss)
    → IsOrdered (λ v. v.0) (all_eligible taken escaped ss) G → length G ≡ length (all_eligible taken escaped ss) → IsTableOf globals (map (λ v. v.0) G)
    → (ts : List (List ℕ × ℕ)) → ts ≡ targets_from taken 0 H → (rows : List (List ℕ)) → AllZip (IsCallRow names ts) H rows
    → (functions : List (List ℕ)) → functions ≡ names → (scalars : List (List ℕ × Kind)) → scalars ≡ G → (refs : List (List (ℕ × ℕ × ℕ))) → refs ≡ map (λ h. ref_row globals h.2) H
    → (needs : List ℕ) → needs ≡ map (λ h. need_of h.2) H
    → IsGraphOf ss (record { functions = functions; globals = scalars; calls = rows; refs = refs; needs = needs }) × IsGraph (record { functions = functions; globals = scalars; calls = rows; refs = refs; needs = needs })
made ss lawful linked H names taken escaped G globals homes count of_names of_taken of_escaped ordered count_globals of_globals ts targets_are rows are_rows functions functions_are scalars scalars_are refs refs_are needs needs_are =
    let zipped = subst (λ (xs : List (List ℕ × ℕ)). AllZip (IsCallRow names xs) H rows) targets_are are_rows in
    let few = few_homes ss linked in
    let few_g = few_scalars taken escaped ss linked in
    subst (λ (fs : List (List ℕ)). IsGraphOf ss (record { functions = fs; globals = scalars; calls = rows; refs = refs; needs = needs }) × IsGraph (record { functions = fs; globals = scalars; calls = rows; refs = refs; needs = needs })) (sym functions_are)
    (subst (λ (gs : List (List ℕ × Kind)). IsGraphOf ss (record { functions = names; globals = gs; calls = rows; refs = refs; needs = needs }) × IsGraph (record { functions = names; globals = gs; calls = rows; refs = refs; needs = needs })) (sym scalars_are)
    (subst (λ (rs : List (List (ℕ × ℕ × ℕ))). IsGraphOf ss (record { functions = names; globals = G; calls = rows; refs = rs; needs = needs }) × IsGraph (record { functions = names; globals = G; calls = rows; refs = rs; needs = needs })) (sym refs_are)
    (subst (λ (ns : List ℕ). IsGraphOf ss (record { functions = names; globals = G; calls = rows; refs = map (λ h. ref_row globals h.2) H; needs = ns }) × IsGraph (record { functions = names; globals = G; calls = rows; refs = map (λ h. ref_row globals h.2) H; needs = ns })) (sym needs_are) (
      is_graph ss lawful H names taken escaped G globals homes of_names of_taken of_escaped ordered of_globals rows zipped,
      well_made ss lawful H names taken escaped G globals homes of_names of_taken of_escaped ordered of_globals rows zipped (omega (arith, few, count)) (omega (arith, few_g, count_globals)),
    ))))

pub few_scalars_of : (ss : List Summary) → AreLinked ss → (taken escaped : List (List ℕ)) (G : List (List ℕ × Kind)) → length G ≡ length (all_eligible taken escaped ss) → length G ≤ global_limit
few_scalars_of ss linked taken escaped G count = let few = few_scalars taken escaped ss linked in omega (arith, few, count)

pub graph_result : {E : Type 0} (ss : List Summary) → All IsSummary ss → AreLinked ss → (H : List Entry) (names taken escaped : List (List ℕ)) (G : List (List ℕ × Kind))
    → IsOrdered (λ h. h.0) (all_homes ss) H → length H ≡ length (all_homes ss) → IsTableOf names (map (λ h. h.0) H)
    → IsTableOf taken (all_taken ss) → IsTableOf escaped (all_escaped ss)
    → IsOrdered (λ v. v.0) (all_eligible taken escaped ss) G → length G ≡ length (all_eligible taken escaped ss)
    → (ts : List (List ℕ × ℕ)) → ts ≡ targets_from taken 0 H → (r : Result CallGraph E)
    → IfOk r (λ g. g.functions ≡ names) → IfOk r (λ g. g.globals ≡ G) → IfOk r (λ g. AllZip (IsCallRow names ts) H g.calls) → IfOk r (λ g. HasRefs G H g.refs) → IfOk r (λ g. g.needs ≡ map (λ h. need_of h.2) H)
    → IfOk r (IsGraphOf ss) × IfOk r IsGraph
graph_result ss lawful linked H names taken escaped G homes count of_names of_taken of_escaped ordered countG ts targets_are (Ok g) functions globals calls refs needs =
    made ss lawful linked H names taken escaped G refs.globals homes count of_names of_taken of_escaped ordered countG refs.table ts targets_are g.calls calls g.functions functions g.globals globals g.refs refs.rows g.needs needs
graph_result ss lawful linked H names taken escaped G homes count of_names of_taken of_escaped ordered countG ts targets_are (Err e) functions globals calls refs needs = (tt, tt)
