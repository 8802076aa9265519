-- The objects of a program whose directives are those of its database.
use Rattle.std.proofs.Common.{◌≡◌, ◌⊎◌, ℕ, suc, Bool, true, false, if◌then◌else◌, List, [], ◌∷◌, map, refl, ap, subst, inl, inr}
use Rattle.std.specs.Prelude.{Contains, All, Option, Some, None, slice_index_or}
use Rattle.std.specs.List.{AllByRecursion}
use Rattle.std.proofs.lemmas.List.Elements.{All-contains, Contains-get_or}
use Rattle.std.proofs.lemmas.List.Sorted.{IsPermutation-sym, Contains-permutation}
use Rattle.pw_value.specs.declared.value.Kind.{Kind}
use Rattle.pw_value.specs.declared.value.Kind.TheVariants.{W32}
use Rattle.pw_flow.specs.declared.flow.FlowModule.{FlowModule}
use Rattle.pw_flow.specs.FlowGraph.{global_names}
use Rattle.pw_flow.specs.ValidFlow.{IsValid}
use Rattle.pw_files.proofs.Standing.{Has, has_by, contains_by, has_each, has_map, has_map_back, has_flat, has_flat_back, stands_or_not}
use Rattle.pw_summary.specs.declared.summary.Summary.{Summary}
use Rattle.pw_summarise.specs.Summarises.{Summarises}
use Rattle.pw_db.specs.declared.database.Directives.{Directives}
use Rattle.pw_db.specs.declared.database.Web.{Web}
use Rattle.pw_db.specs.declared.database.Role.{Role}
use Rattle.pw_db.specs.declared.database.Role.TheVariants.{Entry, Member}
use Rattle.pw_db.specs.Database.{HasDirectives, all_webs, empty}
use Rattle.pw_db.specs.Database as db
use Rattle.pw_graph.specs.declared.graph.CallGraph.{CallGraph}
use Rattle.pw_graph.specs.Program.{IsEligible}
use Rattle.pw_webs.specs.declared.web.RawWeb.{RawWeb}
use Rattle.pw_colour.specs.Colours.{numbered, global_of, web_of, has_number, webs_of, IsDatabaseOf}
use Rattle.pw_object.specs.declared.object.Object.{Object}
use Rattle.pw_phase_two.specs.Phases.{IsObjectOf}
use Rattle.pw_build_objects.specs.Programs.{DirectivesList, AreSummariesOf, HasDatabase, IsObjectFrom, IsModuleFrom, AreObjectsFrom, Parts}
use Rattle.pw_law_shown.specs.Alike.{globals_of, IsObjectIn, AreObjectsIn}
use Rattle.pw_law_shown.proofs.Twice.{at_has}
use Rattle.pw_law_shown.proofs.Modules.{globals_forth}

-- ---- the webs of a database are of eligible globals

numbered_has : (n : ℕ) (ws : List (RawWeb × Option ℕ)) (t : ℕ × RawWeb × ℕ) → Has t (numbered n ws) → Has t.1 (map (λ w. w.0) ws)
numbered_has n [] t h = absurd h
numbered_has n ((w, None) ∷ ws) t h = inr (numbered_has n ws t h)
numbered_has n ((w, Some r) ∷ ws) t (inl e) = inl (ap (λ (x : ℕ × RawWeb × ℕ). x.1) e)
numbered_has n ((w, Some r) ∷ ws) t (inr h) = inr (numbered_has (suc n) ws t h)

one_web : (g : CallGraph) (t : ℕ × RawWeb × ℕ) (role : Role) (b : Bool) (w : Web × Role) → Has w (if b then ((web_of g t, role) ∷ []) else []) → web_of g t ≡ w.0
one_web g t role true w (inl e) = ap (λ (x : Web × Role). x.0) e
one_web g t role true w (inr h) = absurd h
one_web g t role false w h = absurd h

module _ (ss : List Summary) (colours : ℕ) (database : DirectivesList) (is : IsDatabaseOf ss colours database) where
  raw_eligible : (w : RawWeb) → Has w (map (λ w. w.0) is.coloured) → IsEligible ss (global_of is.graph w).0 (global_of is.graph w).1
  raw_eligible w h =
      let g = is.graph in
      let moved = IsPermutation-sym is.webs (map (λ w. w.0) is.coloured) is.same_webs in
      let there : Contains is.webs w = Contains-permutation (map (λ w. w.0) is.coloured) is.webs w moved (contains_by w (map (λ w. w.0) is.coloured) h) in
      let k = at_has is.webs w (has_by w is.webs there) in
      let raw = is.are_webs.each k.0 w k.1 in
      let listed : Contains g.globals (slice_index_or g.globals w.global ([], W32)) = Contains-get_or g.globals w.global ([], W32) raw.global in
      (is.graph_of.each_global (global_of g w).0 (global_of g w).1).0 listed

  pub web_eligible : (f : List ℕ) (d : Directives) → Contains database (f, d) → (w : Web × Role) → Has w d.webs → IsEligible ss w.0.global w.0.kind
  web_eligible f d h w k =
      let g = is.graph in
      let ws = numbered 0 is.coloured in
      let p = (is.of f d).0 h in
      let there : Has w (webs_of g ws p.0) = subst (λ (x : Directives). Has w x.webs) p.2 k in
      let t = has_flat_back (λ (w : ℕ × RawWeb × ℕ). if has_number w.1.members p.0 then ((web_of g w, (if has_number w.1.entries p.0 then Entry else Member)) ∷ []) else []) w ws there in
      let same : web_of g t.0 ≡ w.0 = one_web g t.0 (if has_number t.0.1.entries p.0 then Entry else Member) (has_number t.0.1.members p.0) w t.2 in
      subst (λ (x : Web). IsEligible ss x.global x.kind) same (raw_eligible t.0.1 (numbered_has 0 is.coloured t.0 t.1))

-- ---- and these are globals of the program

pub record Summarised (flows : List FlowModule) (s : Summary) : Type 0 where
  pub flow : FlowModule
  pub there : Has flow flows
  pub of : Summarises flow s

summarised : (flows : List FlowModule) (ss : List Summary) → AreSummariesOf flows ss → (s : Summary) → Has s ss → Summarised flows s
summarised [] [] sums s h = absurd h
summarised [] (t ∷ ts) sums s h = absurd sums
summarised (m ∷ ms) [] sums s h = absurd h
summarised (m ∷ ms) (t ∷ ts) sums s (inl e) = record { flow = m; there = inl refl; of = subst (Summarises m) e sums.0 }
summarised (m ∷ ms) (t ∷ ts) sums s (inr h) = let r = summarised ms ts sums.1 s h in record { flow = r.flow; there = inr r.there; of = r.of }

eligible_global : (flows : List FlowModule) (ss : List Summary) → AllByRecursion IsValid flows → AreSummariesOf flows ss → (v : List ℕ) (kind : Kind) → IsEligible ss v kind → Has v (globals_of flows)
eligible_global flows ss valid sums v kind e =
    let r = summarised flows ss sums e.summary (has_by e.summary ss e.stands) in
    let listed = has_map (λ g. g.0) (v, e.shape, Some kind, false) e.summary.globals (has_by (v, e.shape, Some kind, false) e.summary.globals e.defined) in
    has_flat global_names r.flow v flows r.there (globals_forth r.flow e.summary (has_each IsValid flows r.flow valid r.there) r.of v listed)

module _ (flows : List FlowModule) (colours : ℕ) (database : DirectivesList) (valid : AllByRecursion IsValid flows) (has : HasDatabase flows colours database) where
  known_by : (f : List ℕ × Directives) → HasDirectives database f → (w : Web × Role) → Has w f.1.webs → Has f.0 (map (λ g. g.0) database) ⊎ (Has f.0 (map (λ g. g.0) database) → ⊥) → Has w.0.global (globals_of flows)
  known_by f is w h (inl k) =
      let there : Contains database f = is.found (contains_by f.0 (map (λ g. g.0) database) k) in
      eligible_global flows has.summaries valid has.of_flows w.0.global w.0.kind (web_eligible has.summaries colours database has.database f.0 f.1 there w h)
  known_by f is w h (inr lacks) =
      let none : f.1 ≡ empty = is.lacks (λ k. lacks (has_by f.0 (map (λ g. g.0) database) k)) in
      absurd (subst (λ (d : Directives). Has w d.webs) none h)

  webs_known : (ds : DirectivesList) → All (HasDirectives database) ds → (w : Web) → Contains (all_webs ds) w → Contains (globals_of flows) w.global
  webs_known ds all w h =
      let f = has_flat_back (λ (f : List ℕ × Directives). db.webs_of f.1) w ds (has_by w (all_webs ds) h) in
      let x = has_map_back (λ (x : Web × Role). x.0) w f.0.1.webs f.2 in
      let own = All-contains (HasDirectives database) ds f.0 all (contains_by f.0 ds f.1) in
      let known = known_by f.0 own x.0 x.1 (stands_or_not f.0.0 (map (λ g. g.0) database)) in
      contains_by w.global (globals_of flows) (subst (λ (y : Web). Has y.global (globals_of flows)) x.2 known)

  -- ---- objects that are made anew

  made_anew : (flow : FlowModule) (ds : DirectivesList) (o : Object) (fresh : Bool) → IsObjectFrom flow ds None o fresh → IsObjectOf flow ds o
  made_anew flow ds o true is = is.1
  made_anew flow ds o false is = let e : None ≡ Some o = is.0 in absurd cc

  pub object_in : (flow : FlowModule) (o : Object) (fresh : Bool) → IsModuleFrom database flow None o fresh → IsObjectIn flows flow o
  object_in flow o fresh is = record {
    directives = is.directives;
    of_module = is.in_database.of_module;
    made = made_anew flow is.directives o fresh is.object;
    webs = webs_known is.directives is.in_database.each;
  }

  pub objects_in : (ms : List FlowModule) (os : List Object) (fresh : List Bool) → AreObjectsFrom database ms [] os fresh → AreObjectsIn flows ms os
  objects_in [] [] [] h = tt
  objects_in [] [] (b ∷ bs) h = absurd h
  objects_in [] (o ∷ os) bs h = absurd h
  objects_in (m ∷ ms) [] bs h = absurd h
  objects_in (m ∷ ms) (o ∷ os) [] h = absurd h
  objects_in (m ∷ ms) (o ∷ os) (b ∷ bs) h = (object_in m o b h.0, objects_in ms os bs h.1)

pub parts_in : (forms : List FlowModule) (colours : ℕ) (parts : Parts) → AllByRecursion IsValid forms → HasDatabase forms colours parts.database → AreObjectsFrom parts.database forms [] parts.objects parts.fresh
    → AreObjectsIn forms forms parts.objects
parts_in forms colours parts valid has are = objects_in forms colours parts.database valid has forms parts.objects parts.fresh are
