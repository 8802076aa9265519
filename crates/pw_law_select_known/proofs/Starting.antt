-- The objects with which a run starts.
use Rattle.std.proofs.Common.{◌⊎◌, ℕ, ◌+◌, ◌≤◌, List, [], ◌∷◌, ◌++◌, length, map, replicate, refl, subst, inl, inr}
use Rattle.std.specs.Prelude.{max}
use Rattle.std.specs.List.{flat_map, AllByRecursion}
use Rattle.pw_value.specs.declared.value.Byte.{Byte}
use Rattle.pw_value.specs.declared.value.Byte.TheVariants as B
use Rattle.pw_value.specs.Objects.{Object, with_bytes}
use Rattle.pw_files.proofs.Standing.{Has, has_by, has_each, contains_by, has_left, has_split, has_flat, has_flat_back}
use Rattle.pw_flow.specs.declared.flow.Item.{Item}
use Rattle.pw_flow.specs.declared.flow.Item.TheVariants.{Bytes, Address}
use Rattle.pw_flow.specs.declared.flow.FlowGlobal.{FlowGlobal}
use Rattle.pw_flow.specs.declared.flow.FlowModule.{FlowModule}
use Rattle.pw_flow.specs.FlowGraph.{item_names, names_in_global, names_in_function, named_in}
use Rattle.pw_flow.specs.ValidFlow.{IsValid, IsGlobal, IsWord, AreItems, item_size}
use Rattle.pw_flow.specs.ValidFlow as valid
use Rattle.pw_run_languages.specs.Programs.{Program, globals_of, names_of, pointer_to, item_bytes, with_items, object_of, start_objects}
use Rattle.pw_run_languages.specs.LawfulPrograms.{IsProgram}
use Rattle.pw_law_select_known.proofs.Lists.{replicate_each, map_each, map_each_of}
use Rattle.pw_law_select_states.specs.Pointers.{IsKnown, ByteIsKnown}
use Rattle.pw_law_select_known.proofs.Values.{KnownObject, with_bytes_known}
use Rattle.pw_law_select_known.proofs.Commands.{pointer_known}

-- each item of an object is lawful
items_each : (size free : ℕ) (items : List (ℕ × Item)) → AreItems size free items → (i : ℕ × Item) → Has i items → valid.IsItem i.1
items_each size free [] all i h = absurd h
items_each size free (j ∷ items) all i (inl e) = subst (λ (x : ℕ × Item). valid.IsItem x.1) e all.0.2
items_each size free (j ∷ items) all i (inr h) = items_each size (j.0 + max 1 (item_size j.1)) items all.1 i h

module _ (p : Program) (count : ℕ) (ok : IsProgram p) (low : length (globals_of p) ≤ count) where
  item_defined : (g : FlowGlobal) (o : ℕ) (name : List ℕ) (offset : ℕ) → Has g (globals_of p) → Has {X = ℕ × Item} (o, Address name offset) g.items → Has name (names_of p) ⊎ Has name (map (λ x. x.name) (globals_of p))
  item_defined g o name offset there has =
      let m = has_flat_back (λ (m : FlowModule). m.globals) g p.modules there in
      let own = has_flat names_in_global g name m.0.globals m.2 (has_flat (λ (i : ℕ × Item). item_names i.1) (o, Address name offset) name g.items has (inl refl)) in
      let named = has_flat named_in m.0 name p.modules m.1 (has_left name (flat_map names_in_global m.0.globals) (flat_map names_in_function m.0.functions) own) in
      has_split name (names_of p) (map (λ (x : FlowGlobal). x.name) (globals_of p))
      (has_by name (names_of p ++ map (λ (x : FlowGlobal). x.name) (globals_of p)) (ok.defined name (contains_by name (flat_map named_in p.modules) named)))

  item_valid : (g : FlowGlobal) (i : ℕ × Item) → Has g (globals_of p) → Has i g.items → valid.IsItem i.1
  item_valid g i there has =
      let m = has_flat_back (λ (m : FlowModule). m.globals) g p.modules there in
      items_each g.size 0 g.items (has_each IsGlobal m.0.globals g (has_each IsValid p.modules m.0 ok.modules m.1).parts.globals m.2).items i has

  item_known : (g : FlowGlobal) (o : ℕ) (i : Item) → Has g (globals_of p) → Has {X = ℕ × Item} (o, i) g.items → AllByRecursion (ByteIsKnown p count) (item_bytes p i)
  item_known g o (Bytes bytes) there has = map_each (ByteIsKnown p count) B.Num (λ n. tt) bytes
  item_known g o (Address name offset) there has =
      let known : IsKnown p count (pointer_to p name offset) = pointer_known p count name offset low (item_valid g (o, Address name offset) there has) (item_defined g o name offset there has) in
      (known, (known, (known, (known, tt))))

  items_known : (items : List (ℕ × Item)) (bytes : List Byte) → ((i : ℕ × Item) → Has i items → AllByRecursion (ByteIsKnown p count) (item_bytes p i.1)) → AllByRecursion (ByteIsKnown p count) bytes → AllByRecursion (ByteIsKnown p count) (with_items p items bytes)
  items_known [] bytes each all = all
  items_known (i ∷ rest) bytes each all =
      items_known rest (with_bytes (item_bytes p i.1) i.0 bytes) (λ j h. each j (inr h)) (with_bytes_known p count (item_bytes p i.1) i.0 bytes (each i (inl refl)) all)

  pub start_known : AllByRecursion (KnownObject p count) (start_objects p)
  start_known =
      map_each_of (λ (o : Object). AllByRecursion (ByteIsKnown p count) o.bytes) (object_of p) (globals_of p) (λ g there.
      items_known g.items (replicate g.size (B.Num 0)) (λ i has. item_known g i.0 i.1 there has) (replicate_each (ByteIsKnown p count) g.size (B.Num 0) tt))
