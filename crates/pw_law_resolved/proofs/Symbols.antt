-- Names in the code of an accepted program are those of its objects and functions in the meaning of C.
use Rattle.std.proofs.Common.{◌≡◌, ℕ, inl, inr, refl, sym, ap, subst, ◌∙◌, Bool, true, false, if◌then◌else◌, Option, Some, None, List, [], ◌∷◌, map}
use Rattle.std.specs.Prelude.{Contains, find}
use Rattle.std.specs.List.{flat_map, AllByRecursion}
use Rattle.std.specs.Str.{bytes_eq}
use Rattle.std.proofs.lemmas.Bool.{true≢false}
use Rattle.std.proofs.lemmas.Slice.Eq.{bytes_eq-Decides}
use Rattle.pw_value.specs.declared.value.Pointer.{Pointer as AnyPointer}
use Rattle.pw_value.specs.declared.value.Pointer.TheVariants as Ptr
use Rattle.pw_value.specs.ProgramNames.{library_functions, IsOrdinary}
use Rattle.pw_types.specs.FullNames.{full_name}
use Rattle.pw_types.specs.TypedTrees.{FunctionValue}
use Rattle.pw_flow.specs.declared.flow.Block.{Block}
use Rattle.pw_flow.specs.declared.flow.FlowFn.{FlowFn}
use Rattle.pw_flow.specs.declared.flow.FlowGlobal.{FlowGlobal}
use Rattle.pw_flow.specs.declared.flow.FlowModule.{FlowModule}
use Rattle.pw_flow.specs.declared.flow.Op.{Op}
use Rattle.pw_flow.specs.declared.flow.Op.TheVariants as op
use Rattle.pw_flow.specs.FlowGraph.{op_names, names_in_block, names_in_function, names_in_global, named_in, global_names}
use Rattle.pw_flow.specs.ValidFlow.{IsValid}
use Rattle.pw_files.proofs.Standing.{Has, has_by, contains_by, has_each, each_by, has_left, has_right, has_split, has_map, has_map_back, has_flat, has_flat_back}
use Rattle.pw_lower.specs.Modules.{lowered, lowered_function, start_of}
use Rattle.pw_law_lower_walk.specs.Named.{NamesAmong}
use Rattle.pw_cmean.specs.Worlds.{Program, ProgramModule, Callable, callable, library, functions_of, function_named, function_number, global_number, pointer_to}
use Rattle.pw_run_languages.specs.Programs as flows
use Rattle.pw_run_languages.specs.Programs.{globals_of, names_of}
use Rattle.pw_run_languages.specs.LawfulPrograms.{NamesRightly, ops_of}
use Rattle.pw_law_source.specs.Lowering.{IsAccepted, flow_program}
use Rattle.pw_law_lower_walk.proofs.Made.{of_tree, full, global_by}
use Rattle.pw_law_never.proofs.Symbols.{object-numbered, object-placed}

-- ---- the meaning's side

found_named : (fs : List Callable) (name : List ℕ) → Has name (map (λ (f : Callable). f.name) fs) → (f : Callable) × (find (λ (f : Callable). bytes_eq f.name name) fs ≡ Some f)
found_named [] name h = absurd h
found_named (g ∷ gs) name h = by (bytes_eq g.name name) refl h (found_named gs name)
  where
    by : (b : Bool) → bytes_eq g.name name ≡ b → Has name (map (λ (f : Callable). f.name) (g ∷ gs))
        → (Has name (map (λ (f : Callable). f.name) gs) → (f : Callable) × (find (λ (f : Callable). bytes_eq f.name name) gs ≡ Some f))
        → (f : Callable) × ((if b then Some g else find (λ (f : Callable). bytes_eq f.name name) gs) ≡ Some f)
    by true e k rest = (g, refl)
    by false e (inl same) rest = absurd (true≢false (sym ((bytes_eq-Decides g.name name).1 same) ∙ e))
    by false e (inr k) rest = rest k

pub function_found : (p : Program) (name : List ℕ) → Has name (map (λ (f : Callable). f.name) (functions_of p)) → (f : Callable) × (function_named p name ≡ Some f)
function_found p name h = found_named (functions_of p) name h

pub function_placed : (p : Program) (name : List ℕ) (f : Callable) → function_named p name ≡ Some f → (q : AnyPointer) × (pointer_to p name 0 ≡ Some q)
function_placed p name f e = by (global_number p name) refl
  where
    by : (o : Option ℕ) → global_number p name ≡ o → (q : AnyPointer) × (pointer_to p name 0 ≡ Some q)
    by (Some n) k = (Ptr.Object n 0, object-placed p name n k)
    by None k = (Ptr.Function (function_number p f.name), rw k (rw e refl))

-- ---- the code's side

module _ (p : Program) (frame_of : List ℕ → ℕ) (stack : ℕ) (accepted : IsAccepted p frame_of stack) where
  abbrev q : flows.Program
  q = flow_program p frame_of stack

  abbrev flow_of : ProgramModule → FlowModule
  flow_of m = lowered m.name m.tree

  abbrev pub objects : List (List ℕ)
  objects = map (λ (g : FlowGlobal). g.name) (globals_of (flow_program p frame_of stack))

  abbrev pub functions : List (List ℕ)
  functions = map (λ (f : Callable). f.name) (functions_of p)

  pub module_valid : (m : ProgramModule) → Has m p.modules → IsValid (flow_of m)
  module_valid m h = has_each IsValid q.modules (flow_of m) accepted.program.modules (has_map flow_of m p.modules h)

  -- a name of an object is that of one of a module
  pub object_found : (name : List ℕ) → Contains objects name → (n : ℕ) × (global_number p name ≡ Some n)
  object_found name c =
      let g = has_map_back (λ (g : FlowGlobal). g.name) name (globals_of q) (has_by name objects c) in
      let n = has_flat_back (λ (m : FlowModule). m.globals) g.0 q.modules g.1 in
      let m = has_map_back flow_of n.0 p.modules n.1 in
      let there : Has g.0 (flow_of m.0).globals = subst (λ (x : FlowModule). Has g.0 x.globals) (sym m.2) n.2 in
      let named : Has name (global_names (flow_of m.0)) = subst (λ (x : List ℕ). Has x (global_names (flow_of m.0))) g.2 (has_map (λ (g : FlowGlobal). g.name) g.0 (flow_of m.0).globals there) in
      let o = global_by m.0.name m.0.tree name named in
      subst (λ (x : List ℕ). (n : ℕ) × (global_number p x ≡ Some n)) o.2
      (object-numbered p m.0 o.0 (contains_by m.0 p.modules m.1) (contains_by o.0 m.0.tree.globals o.1))

  library_has : (name : List ℕ) → Has name library_functions → Has name functions
  library_has name (inl e) = inl e
  library_has name (inr (inl e)) = inr (inl e)
  library_has name (inr (inr (inl e))) = inr (inr (inl e))
  library_has name (inr (inr (inr h))) = absurd h

  pub own_function : (m : ProgramModule) → Has m p.modules → (g : FunctionValue) → Has g m.tree.functions → Has (full_name m.name g.name) functions
  own_function m h g k =
      has_map (λ (f : Callable). f.name) (callable m g) (functions_of p)
      (has_right (callable m g) library (flat_map (λ m. map (callable m) m.tree.functions) p.modules)
      (has_flat (λ (m : ProgramModule). map (callable m) m.tree.functions) m (callable m g) p.modules h (has_map (callable m) g m.tree.functions k)))

  -- and so is one of a function, but for that with which the program starts
  function_there : (name : List ℕ) → IsOrdinary name → Has name (names_of q) → Has name functions
  function_there name ordinary h = elim (has_split name library_functions (map (λ (f : FlowFn). f.name) (flows.functions_of q)) h) [
    | inl k ↦ library_has name k
    | inr k ↦
        let f = has_map_back (λ (f : FlowFn). f.name) name (flows.functions_of q) k in
        let n = has_flat_back (λ (m : FlowModule). m.functions) f.0 q.modules f.1 in
        let m = has_map_back flow_of n.0 p.modules n.1 in
        elim (of_tree m.0.name m.0.tree f.0 (subst (λ (x : FlowModule). Has f.0 x.functions) (sym m.2) n.2)) [
          | inl g ↦
              subst (λ (x : List ℕ). Has x functions) (sym (full m.0.name m.0.tree.records g.0) ∙ (ap (λ (x : FlowFn). x.name) g.2 ∙ f.2))
              (own_function m.0 m.1 g.0 g.1)
          | inr e ↦ absurd (ordinary (sym f.2 ∙ sym (ap (λ (x : FlowFn). x.name) e)))
        ]
  ]

  op_among : (o : Op) → NamesRightly q o → ((name : List ℕ) → Has name (op_names o) → IsOrdinary name) → NamesAmong objects functions o
  op_among (op.AddrGlobal t g n) r ordinary = r
  op_among (op.AddrFn t f) r ordinary = contains_by f functions (function_there f (ordinary f (inl refl)) (has_by f (names_of q) r))
  op_among (op.LoadG t g k) r ordinary = r
  op_among (op.StoreG g a k) r ordinary = r
  op_among (op.Call t f args) r ordinary = contains_by f functions (function_there f (ordinary f (inl refl)) (has_by f (names_of q) r))
  op_among o r ordinary = tt

  own_flow : (m : ProgramModule) (f : FunctionValue) → Has f m.tree.functions → Has (lowered_function m.name m.tree.records f) (flow_of m).functions
  unfolding lowered
  own_flow m f k =
      has_left (lowered_function m.name m.tree.records f) (map (lowered_function m.name m.tree.records) m.tree.functions) (start_of m.tree.functions)
      (has_map (lowered_function m.name m.tree.records) f m.tree.functions k)

  -- the operations of a function's code name what there is
  pub code_among : (m : ProgramModule) → Has m p.modules → (f : FunctionValue) → Has f m.tree.functions
      → AllByRecursion (λ (b : Block). AllByRecursion (NamesAmong objects functions) b.ops) (lowered_function m.name m.tree.records f).blocks
  code_among m h f k =
      let g : FlowFn = lowered_function m.name m.tree.records f in
      each_by (λ (b : Block). AllByRecursion (NamesAmong objects functions) b.ops) g.blocks (λ b i.
      each_by (NamesAmong objects functions) b.ops (λ o j.
      op_among o
      (accepted.program.ops g o (contains_by g (flows.functions_of q) (has_flat (λ (m : FlowModule). m.functions) (flow_of m) g q.modules (has_map flow_of m p.modules h) (own_flow m f k)))
      (contains_by o (ops_of g) (has_flat (λ (b : Block). b.ops) b o g.blocks i j)))
      (λ name n.
      has_each IsOrdinary (named_in (flow_of m)) name (module_valid m h).parts.ordinary
      (has_right name (flat_map names_in_global (flow_of m).globals) (flat_map names_in_function (flow_of m).functions)
      (has_flat names_in_function g name (flow_of m).functions (own_flow m f k) (has_flat names_in_block b name g.blocks i (has_flat op_names o name b.ops j n)))))))
