-- What a module shows by its flow graph, by its summary and by its object.
use Rattle.std.proofs.Common.{◌≡◌, ◌⊎◌, ℕ, Bool, if◌then◌else◌, List, [], ◌∷◌, ◌++◌, map, refl, sym, ap, subst, ◌∙◌, inl, inr}
use Rattle.std.specs.Prelude.{Some, None, Contains}
use Rattle.std.specs.List.{AllByRecursion, flat_map}
use Rattle.std.specs.Map.{lookup}
use Rattle.std.specs.Str.{bytes_eq}
use Rattle.std.proofs.lemmas.List.Concat.{flat_map-cons}
use Rattle.pw_value.specs.ProgramNames.{main_name}
use Rattle.pw_flow.specs.declared.flow.FlowFn.{FlowFn}
use Rattle.pw_flow.specs.declared.flow.FlowGlobal.{FlowGlobal}
use Rattle.pw_flow.specs.declared.flow.FlowModule.{FlowModule}
use Rattle.pw_flow.specs.FlowGraph.{function_names, global_names, names_in_global, names_in_function, named_in}
use Rattle.pw_flow.specs.ValidFlow.{AreDistinct, IsValid}
use Rattle.pw_flow.proofs.Once.{distinct_left, distinct_right}
use Rattle.pw_files.proofs.Standing.{Has, has_by, contains_by, each_by, has_left, has_right, has_split, has_map, has_map_back, has_flat, stands_or_not}
use Rattle.pw_files.proofs.Views.{seen}
use Rattle.pw_db.specs.declared.database.Directives.{Directives}
use Rattle.pw_db.specs.declared.database.Web.{Web}
use Rattle.pw_db.specs.declared.database.Role.{Role}
use Rattle.pw_db.specs.Database.{webs_of, all_webs}
use Rattle.pw_summary.specs.declared.summary.Summary.{Summary}
use Rattle.pw_summarise.specs.Summarises.{global_entry, function_entry, function_entries, Summarises}
use Rattle.pw_summarise.proofs.Orders.{keys_over, keys_back, one_ordered}
use Rattle.pw_object.specs.declared.object.Object.{Object}
use Rattle.pw_object.specs.declared.functions.ObjectFn.{ObjectFn}
use Rattle.pw_object.specs.Object as object
use Rattle.pw_phase_two.specs.Phases.{compiled, all_compiled}
use Rattle.pw_phase_two.proofs.ObjectLaws.{compiled_names as names_compiled}
use Rattle.pw_link_rules.specs.Linking.{names_in}
use Rattle.pw_link_interface.specs.Interface.{names_of_fixes, main_of, interface}
use Rattle.pw_graph.specs.Program.{main_in, interface_of}
use Rattle.pw_law_shown.specs.Alike.{shown, DeclaresMain, globals_of, IsObjectIn, ShowsModule, named_by}
use Rattle.pw_law_shown.proofs.Names.{same_count, rising_distinct, both_distinct, across_distinct}
use Rattle.pw_law_shown.proofs.Mains.{main_found, main_lacks, lookup_found, any_found, any_lacks}
use Rattle.pw_law_shown.proofs.CodeNames.{compiled_names}
use Rattle.pw_law_shown.proofs.Tests.{Alike, UsesAlike}

-- ---- names in relocations

module _ (P : List ℕ → Type 0) where
  webs_known : (ds : List (List ℕ × Directives)) → ((w : Web) → Has w (all_webs ds) → P w.global) → AllByRecursion (λ d. AllByRecursion (λ w. P w.0.global) d.1.webs) ds
  webs_known ds known =
      each_by (λ (d : List ℕ × Directives). AllByRecursion (λ w. P w.0.global) d.1.webs) ds (λ d h.
      each_by (λ (w : Web × Role). P w.0.global) d.1.webs (λ w k.
      known w.0 (has_flat (λ (f : List ℕ × Directives). webs_of f.1) d w.0 ds h (has_map (λ (w : Web × Role). w.0) w d.1.webs k))))

  used_in_code : (fs : List FlowFn) (ds : List (List ℕ × Directives)) → ((n : List ℕ) → Has n (flat_map names_in_function fs) → P n) → AllByRecursion (λ d. AllByRecursion (λ w. P w.0.global) d.1.webs) ds
      → (n : List ℕ) → Has n (flat_map names_of_fixes (all_compiled fs ds)) → P n
  used_in_code [] ds own known n h = absurd h
  used_in_code (f ∷ fs) [] own known n h = absurd h
  used_in_code (f ∷ fs) (d ∷ ds) own known n h =
      let own_split = λ (n : List ℕ) (h : Has n (names_in_function f ++ flat_map names_in_function fs)). own n (subst (λ (ns : List (List ℕ)). Has n ns) (sym (flat_map-cons names_in_function f fs)) h) in
      elim (has_split n (names_of_fixes (compiled f d.1)) (flat_map names_of_fixes (all_compiled fs ds)) (subst (λ (ns : List (List ℕ)). Has n ns) (flat_map-cons names_of_fixes (compiled f d.1) (all_compiled fs ds)) h)) [
        | inl k ↦ compiled_names P f d.1 (λ n h. own_split n (has_left n (names_in_function f) (flat_map names_in_function fs) h)) known.0 n k
        | inr k ↦ used_in_code fs ds (λ n h. own_split n (has_right n (names_in_function f) (flat_map names_in_function fs) h)) known.1 n k
      ]

-- ---- what a summary lists

module _ (m : FlowModule) (s : Summary) (valid : IsValid m) (of : Summarises m s) where
  functions_forth : (n : List ℕ) → Has n (map (λ f. f.0) s.functions) → Has n (function_names m)
  functions_forth n h =
      subst (λ (ns : List (List ℕ)). Has n ns) (seen function_entry (λ (e : List ℕ × List ℕ). e.0) m.functions)
      (has_by n (map (λ f. f.0) (function_entries m)) (keys_over (λ (f : List ℕ × List ℕ). f.0) (function_entries m) s.functions of.functions n (contains_by n (map (λ f. f.0) s.functions) h)))

  functions_back : (n : List ℕ) → Has n (function_names m) → Has n (map (λ f. f.0) s.functions)
  functions_back n h =
      let there : Has n (map (λ f. f.0) (function_entries m)) = subst (λ (ns : List (List ℕ)). Has n ns) (sym (seen function_entry (λ (e : List ℕ × List ℕ). e.0) m.functions)) h in
      has_by n (map (λ f. f.0) s.functions) (keys_back (λ (f : List ℕ × List ℕ). f.0) (function_entries m) s.functions of.functions n (contains_by n (map (λ f. f.0) (function_entries m)) there))

  pub globals_forth : (n : List ℕ) → Has n (map (λ g. g.0) s.globals) → Has n (global_names m)
  globals_forth n h =
      subst (λ (ns : List (List ℕ)). Has n ns) (seen global_entry (λ g. g.0) m.globals)
      (has_by n (map (λ g. g.0) (map global_entry m.globals)) (keys_over (λ g. g.0) (map global_entry m.globals) s.globals of.globals n (contains_by n (map (λ g. g.0) s.globals) h)))

  pub globals_back : (n : List ℕ) → Has n (global_names m) → Has n (map (λ g. g.0) s.globals)
  globals_back n h =
      let there : Has n (map (λ g. g.0) (map global_entry m.globals)) = subst (λ (ns : List (List ℕ)). Has n ns) (sym (seen global_entry (λ g. g.0) m.globals)) h in
      has_by n (map (λ g. g.0) s.globals) (keys_back (λ g. g.0) (map global_entry m.globals) s.globals of.globals n (contains_by n (map (λ g. g.0) (map global_entry m.globals)) there))

  functions_once : AreDistinct (function_names m)
  functions_once = distinct_right (global_names m) (function_names m) valid.names.distinct.defined

  globals_once : AreDistinct (global_names m)
  globals_once = distinct_left (global_names m) (function_names m) valid.names.distinct.defined

  apart : (n : List ℕ) → Has n (function_names m) → Has n (global_names m) → ⊥
  apart n h k = across_distinct (global_names m) (function_names m) valid.names.distinct.defined n k h

  listed_functions_once : AreDistinct (map (λ f. f.0) s.functions)
  listed_functions_once = rising_distinct (map (λ f. f.0) s.functions) of.functions.rising

  listed_once : AreDistinct (map (λ f. f.0) s.functions ++ map (λ g. g.0) s.globals)
  listed_once =
      both_distinct (map (λ f. f.0) s.functions) (map (λ g. g.0) s.globals) listed_functions_once (rising_distinct (map (λ g. g.0) s.globals) of.globals.rising)
      (λ n h k. apart n (functions_forth n h) (globals_forth n k))

  -- ---- what the flow graph shows

  own_forth : (n : List ℕ) → Has n (names_in (shown m)) → Has n (names_in (interface_of s))
  own_forth n h = elim (has_split n (function_names m) (global_names m) h) [
    | inl k ↦ has_left n (map (λ f. f.0) s.functions) (map (λ g. g.0) s.globals) (functions_back n k)
    | inr k ↦ has_right n (map (λ f. f.0) s.functions) (map (λ g. g.0) s.globals) (globals_back n k)
  ]

  own_back : (n : List ℕ) → Has n (names_in (interface_of s)) → Has n (names_in (shown m))
  own_back n h = elim (has_split n (map (λ f. f.0) s.functions) (map (λ g. g.0) s.globals) h) [
    | inl k ↦ has_left n (function_names m) (global_names m) (functions_forth n k)
    | inr k ↦ has_right n (function_names m) (global_names m) (globals_forth n k)
  ]

  entries_once : AreDistinct (map (λ f. f.0) (function_entries m))
  entries_once = subst AreDistinct (sym (seen function_entry (λ (e : List ℕ × List ℕ). e.0) m.functions)) functions_once

  entry_of : (f : FlowFn) → f.name ≡ main_name → function_entry f ≡ (main_name, f.shape)
  entry_of f e = ap (λ (n : List ℕ). (n, f.shape)) e

  main_entry : (f : FlowFn) → Has f m.functions → f.name ≡ main_name → Has (main_name, f.shape) (function_entries m)
  main_entry f h e = subst (λ (d : List ℕ × List ℕ). Has d (function_entries m)) (entry_of f e) (has_map function_entry f m.functions h)

  main_listed : (f : FlowFn) → Has f m.functions → f.name ≡ main_name → main_in s.functions ≡ Some f.shape
  main_listed f h e =
      let listed = has_by (main_name, f.shape) s.functions ((of.functions.of (main_name, f.shape)).1 (contains_by (main_name, f.shape) (function_entries m) (main_entry f h e))) in
      main_found s.functions f.shape listed_functions_once listed

  main_unlisted : (Has main_name (function_names m) → ⊥) → main_in s.functions ≡ None
  main_unlisted lacks = main_lacks s.functions (λ h. lacks (functions_forth main_name h))

  own_main : main_in (function_entries m) ≡ main_in s.functions
  own_main = elim (stands_or_not main_name (function_names m)) [
    | inl h ↦
        let f = has_map_back (λ (f : FlowFn). f.name) main_name m.functions h in
        main_found (function_entries m) f.0.shape entries_once (main_entry f.0 f.1 f.2) ∙ sym (main_listed f.0 f.1 f.2)
    | inr lacks ↦
        main_lacks (function_entries m) (λ h. lacks (subst (λ (ns : List (List ℕ)). Has main_name ns) (seen function_entry (λ (e : List ℕ × List ℕ). e.0) m.functions) h)) ∙ sym (main_unlisted lacks)
  ]

  pub shown_alike : Alike (shown m) (interface_of s)
  shown_alike = record {
    home = sym of.of_module;
    functions = same_count (function_names m) (map (λ f. f.0) s.functions) functions_once listed_functions_once functions_back functions_forth;
    globals = same_count (global_names m) (map (λ g. g.0) s.globals) globals_once (rising_distinct (map (λ g. g.0) s.globals) of.globals.rising) globals_back globals_forth;
    defines = own_forth;
    defined = own_back;
    once = both_distinct (function_names m) (global_names m) functions_once globals_once apart;
    once_there = listed_once;
    declares = λ d h. has_by d s.declared ((of.declared.of d).1 (contains_by d m.declared h));
    declared = λ d h. has_by d m.declared ((of.declared.of d).0 (contains_by d s.declared h));
    main = own_main;
  }

  pub shown_uses : UsesAlike [] (shown m) (interface_of s)
  shown_uses = record {
    uses = λ n h. has_by n s.used ((of.used.of n).1 (contains_by n (named_in m) h));
    used = λ n h. inl (has_by n (named_in m) ((of.used.of n).0 (contains_by n s.used h)));
  }

  -- ---- and what an object of the module has

  module _ (program : List FlowModule) (declares : DeclaresMain m) (o : Object) (is : ShowsModule program m s o) where
    declared_are : s.declared ≡ o.declared
    declared_are = sym is.declared

    used_are : s.used ≡ o.used
    used_are = sym is.used

    names_forth : (n : List ℕ) → Has n (names_in (interface_of s)) → Has n (names_in (interface o))
    names_forth n h = elim (has_split n (map (λ f. f.0) s.functions) (map (λ g. g.0) s.globals) h) [
      | inl k ↦ has_left n (object.function_names o) (object.global_names o) (subst (λ (ns : List (List ℕ)). Has n ns) (sym is.functions) (functions_forth n k))
      | inr k ↦ has_right n (object.function_names o) (object.global_names o) (subst (λ (ns : List (List ℕ)). Has n ns) (sym is.globals) (globals_forth n k))
    ]

    names_back : (n : List ℕ) → Has n (names_in (interface o)) → Has n (names_in (interface_of s))
    names_back n h = elim (has_split n (object.function_names o) (object.global_names o) h) [
      | inl k ↦ has_left n (map (λ f. f.0) s.functions) (map (λ g. g.0) s.globals) (functions_back n (subst (λ (ns : List (List ℕ)). Has n ns) is.functions k))
      | inr k ↦ has_right n (map (λ f. f.0) s.functions) (map (λ g. g.0) s.globals) (globals_back n (subst (λ (ns : List (List ℕ)). Has n ns) is.globals k))
    ]

    object_once : AreDistinct (object.function_names o ++ object.global_names o)
    object_once =
        subst (λ (fs : List (List ℕ)). AreDistinct (fs ++ object.global_names o)) (sym is.functions)
        (subst (λ (gs : List (List ℕ)). AreDistinct (function_names m ++ gs)) (sym is.globals) (both_distinct (function_names m) (global_names m) functions_once globals_once apart))

    -- ---- `main`

    main_there : (f : FlowFn) → Has f m.functions → f.name ≡ main_name → main_in s.functions ≡ main_of o
    main_there f h e =
        let listed : Has (main_name, f.shape) s.declared = has_by (main_name, f.shape) s.declared ((of.declared.of (main_name, f.shape)).1 (declares f (contains_by f m.functions h) e)) in
        let once : AreDistinct (map (λ d. d.0) s.declared) = rising_distinct (map (λ d. d.0) s.declared) of.declared.rising in
        let one : lookup (bytes_eq main_name) s.declared ≡ Some f.shape = lookup_found main_name s.declared f.shape once listed in
        let two : lookup (bytes_eq main_name) o.declared ≡ Some f.shape = ap (λ (ds : List (List ℕ × List ℕ)). lookup (bytes_eq main_name) ds) is.declared ∙ one in
        let names : Has main_name (object.function_names o) = subst (λ (ns : List (List ℕ)). Has main_name ns) (sym is.functions) (subst (λ (n : List ℕ). Has n (function_names m)) e (has_map (λ (f : FlowFn). f.name) f m.functions h)) in
        let tested : main_of o ≡ lookup (bytes_eq main_name) o.declared = ap (λ (b : Bool). if b then lookup (bytes_eq main_name) o.declared else None) (any_found main_name (object.function_names o) names) in
        main_listed f h e ∙ sym (tested ∙ two)

    main_same : main_in s.functions ≡ main_of o
    main_same = elim (stands_or_not main_name (function_names m)) [
      | inl h ↦ let f = has_map_back (λ (f : FlowFn). f.name) main_name m.functions h in main_there f.0 f.1 f.2
      | inr lacks ↦
          let test = any_lacks main_name (object.function_names o) (λ h. lacks (subst (λ (ns : List (List ℕ)). Has main_name ns) is.functions h)) in
          main_unlisted lacks ∙ sym (ap (λ (b : Bool). if b then lookup (bytes_eq main_name) o.declared else None) test)
    ]

    pub alike : Alike (interface_of s) (interface o)
    alike = record {
      home = of.of_module ∙ sym is.home;
      functions =
          same_count (map (λ f. f.0) s.functions) (object.function_names o) listed_functions_once (subst AreDistinct (sym is.functions) functions_once)
          (λ n h. subst (λ (ns : List (List ℕ)). Has n ns) (sym is.functions) (functions_forth n h))
          (λ n h. functions_back n (subst (λ (ns : List (List ℕ)). Has n ns) is.functions h));
      globals =
          same_count (map (λ g. g.0) s.globals) (object.global_names o) (rising_distinct (map (λ g. g.0) s.globals) of.globals.rising) (subst AreDistinct (sym is.globals) globals_once)
          (λ n h. subst (λ (ns : List (List ℕ)). Has n ns) (sym is.globals) (globals_forth n h))
          (λ n h. globals_back n (subst (λ (ns : List (List ℕ)). Has n ns) is.globals h));
      defines = names_forth;
      defined = names_back;
      once = listed_once;
      once_there = object_once;
      declares = λ d h. subst (λ (ds : List (List ℕ × List ℕ)). Has d ds) declared_are h;
      declared = λ d h. subst (λ (ds : List (List ℕ × List ℕ)). Has d ds) (sym declared_are) h;
      main = main_same;
    }

    -- ---- what they use

    named_besides : (n : List ℕ) → Has n (named_by o) → Has n s.used ⊎ Has n (globals_of program)
    named_besides n h = elim (is.named n (contains_by n (named_by o) h)) [
      | inl k ↦ inl (has_by n s.used k)
      | inr k ↦ inr (has_by n (globals_of program) k)
    ]

    pub uses_alike : UsesAlike (globals_of program) (interface_of s) (interface o)
    uses_alike =
        let items = flat_map names_in_global o.globals in
        let code = flat_map names_of_fixes o.functions in
        record {
          uses = λ n h. has_left n (o.used ++ items) code (has_left n o.used items (subst (λ (ns : List (List ℕ)). Has n ns) used_are h));
          used = λ n h. elim (has_split n (o.used ++ items) code h) [
            | inl k ↦ elim (has_split n o.used items k) [
              | inl j ↦ inl (subst (λ (ns : List (List ℕ)). Has n ns) is.used j)
              | inr j ↦ named_besides n (has_left n items code j)
            ]
            | inr k ↦ named_besides n (has_right n items code k)
          ];
        }

  -- ---- an object that the second phase made

  module _ (program : List FlowModule) (o : Object) (is : IsObjectIn program m o) where
    -- what a module's graph names, or the globals of webs
    abbrev IsKnown : List ℕ → Type 0
    IsKnown n = Contains s.used n ⊎ Contains (globals_of program) n

    listed : (n : List ℕ) → Has n (named_in m) → Contains s.used n
    listed n h = (of.used.of n).1 (contains_by n (named_in m) h)

    in_globals : (n : List ℕ) → Has n (flat_map names_in_global o.globals) → Contains s.used n
    in_globals n h =
        listed n (has_left n (flat_map names_in_global m.globals) (flat_map names_in_function m.functions) (subst (λ (gs : List FlowGlobal). Has n (flat_map names_in_global gs)) is.made.globals h))

    in_code : (n : List ℕ) → Has n (flat_map names_of_fixes o.functions) → IsKnown n
    in_code n h =
        used_in_code IsKnown m.functions is.directives
        (λ n h. inl (listed n (has_right n (flat_map names_in_global m.globals) (flat_map names_in_function m.functions) h)))
        (webs_known IsKnown is.directives (λ w k. inr (is.webs w (contains_by w (all_webs is.directives) k))))
        n (subst (λ (fs : List ObjectFn). Has n (flat_map names_of_fixes fs)) is.made.functions h)

    pub shows_module : ShowsModule program m s o
    shows_module = record {
      home = is.made.of_module;
      functions = ap (map (λ (f : ObjectFn). f.name)) is.made.functions ∙ names_compiled m.functions is.directives is.of_module.functions;
      globals = ap (map (λ (g : FlowGlobal). g.name)) is.made.globals;
      declared = sym (one_ordered (λ d. d.0) m.declared s.declared o.declared of.declared is.made.declared);
      used = sym (one_ordered (λ name. name) (named_in m) s.used o.used of.used is.made.used);
      named = λ n h. elim (has_split n (flat_map names_in_global o.globals) (flat_map names_of_fixes o.functions) (has_by n (named_by o) h)) [
        | inl k ↦ inl (in_globals n k)
        | inr k ↦ in_code n k
      ];
    }
