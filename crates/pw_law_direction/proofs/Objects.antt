-- The objects with which a run starts are fine.
use Rattle.std.proofs.Common.{◌⊎◌, ℕ, List, [], ◌∷◌, ◌++◌, map, replicate, refl, inl, inr, arith}
use Rattle.std.proofs.lemmas.List.{length-map}
use Rattle.std.specs.List.{flat_map, AllByRecursion}
use Rattle.pw_value.specs.declared.value.Byte.{Byte}
use Rattle.pw_value.specs.declared.value.Byte.TheVariants as B
use Rattle.pw_value.specs.Objects.{Object, with_bytes}
use Rattle.pw_files.proofs.Standing.{Has, has_by, contains_by, has_left, has_split, has_flat, has_flat_back}
use Rattle.pw_flow.specs.declared.flow.Item.{Item}
use Rattle.pw_flow.specs.declared.flow.Item.TheVariants.{Bytes, Address}
use Rattle.pw_flow.specs.declared.flow.FlowGlobal.{FlowGlobal}
use Rattle.pw_flow.specs.declared.flow.FlowFn.{FlowFn}
use Rattle.pw_flow.specs.declared.flow.FlowModule.{FlowModule}
use Rattle.pw_flow.specs.FlowGraph.{item_names, names_in_global, names_in_function, named_in}
use Rattle.pw_run_languages.specs.Programs.{Program, functions_of, globals_of, names_of, pointer_to, item_bytes, with_items, object_of, start_objects}
use Rattle.pw_run_languages.specs.LawfulPrograms.{IsProgram, ops_of, addressed, taken_names}
use Rattle.pw_law_direction.proofs.Lists.{has_named, replicate_each, map_each, map_each_of}
use Rattle.pw_law_direction.specs.Values.{IsTaken, FinePointer, FineByte, FineObjects}
use Rattle.pw_law_direction.proofs.Values.{with_bytes_fine}
use Rattle.pw_law_direction.proofs.Numbers.{pointer_fine}

module _ (p : Program) (ok : IsProgram p) where
  item_taken : (g : FlowGlobal) (o : ℕ) (name : List ℕ) (offset : ℕ) → Has g (globals_of p) → Has {X = ℕ × Item} (o, Address name offset) g.items → IsTaken p name
  item_taken g o name offset there has =
      has_named (taken_names p) name
      (has_left name (flat_map names_in_global (globals_of p)) (flat_map (λ (f : FlowFn). flat_map addressed (ops_of f)) (functions_of p))
      (has_flat names_in_global g name (globals_of p) there (has_flat (λ (i : ℕ × Item). item_names i.1) (o, Address name offset) name g.items has (inl refl))))

  item_defined : (g : FlowGlobal) (o : ℕ) (name : List ℕ) (offset : ℕ) → Has g (globals_of p) → Has {X = ℕ × Item} (o, Address name offset) g.items → Has name (names_of p) ⊎ Has name (map (λ x. x.name) (globals_of p))
  item_defined g o name offset there has =
      let m = has_flat_back (λ (m : FlowModule). m.globals) g p.modules there in
      let own = has_flat names_in_global g name m.0.globals m.2 (has_flat (λ (i : ℕ × Item). item_names i.1) (o, Address name offset) name g.items has (inl refl)) in
      let named = has_flat named_in m.0 name p.modules m.1 (has_left name (flat_map names_in_global m.0.globals) (flat_map names_in_function m.0.functions) own) in
      has_split name (names_of p) (map (λ (x : FlowGlobal). x.name) (globals_of p))
      (has_by name (names_of p ++ map (λ (x : FlowGlobal). x.name) (globals_of p)) (ok.defined name (contains_by name (flat_map named_in p.modules) named)))

  item_fine : (g : FlowGlobal) (o : ℕ) (i : Item) → Has g (globals_of p) → Has {X = ℕ × Item} (o, i) g.items → AllByRecursion (FineByte p) (item_bytes p i)
  item_fine g o (Bytes bytes) there has = map_each (FineByte p) B.Num (λ n. tt) bytes
  item_fine g o (Address name offset) there has =
      let fine : FinePointer p (pointer_to p name offset) = pointer_fine p name offset (item_taken g o name offset there has) (item_defined g o name offset there has) in
      (fine, (fine, (fine, (fine, tt))))

  items_fine : (items : List (ℕ × Item)) (bytes : List Byte) → ((i : ℕ × Item) → Has i items → AllByRecursion (FineByte p) (item_bytes p i.1)) → AllByRecursion (FineByte p) bytes → AllByRecursion (FineByte p) (with_items p items bytes)
  items_fine [] bytes each all = all
  items_fine (i ∷ rest) bytes each all =
      items_fine rest (with_bytes (item_bytes p i.1) i.0 bytes) (λ j h. each j (inr h)) (with_bytes_fine p (item_bytes p i.1) i.0 bytes (each i (inl refl)) all)

  pub start_fine : FineObjects p (start_objects p)
  start_fine = (
    map_each_of (λ (o : Object). AllByRecursion (FineByte p) o.bytes) (object_of p) (globals_of p) (λ g there.
        items_fine g.items (replicate g.size (B.Num 0)) (λ i has. item_fine g i.0 i.1 there has) (replicate_each (FineByte p) g.size (B.Num 0) tt)),
    omega (arith, length-map (globals_of p) (object_of p)),
  )
