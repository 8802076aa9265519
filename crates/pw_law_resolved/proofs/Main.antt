-- There is a `main`, which takes nothing and gives an int: the first function of that name is found by both meanings alike.
use Rattle.std.proofs.Common.{◌≡◌, ℕ, Bool, true, false, if◌then◌else◌, inl, inr, refl, sym, subst, ◌∙◌, arith, Option, Some, None, List, [], ◌∷◌, ◌++◌, map}
use Rattle.std.specs.Prelude.{Contains, find}
use Rattle.std.specs.List.{AllByRecursion, flat_map}
use Rattle.std.specs.Str.{bytes_eq}
use Rattle.std.proofs.lemmas.List.Concat.{flat_map-cons}
use Rattle.std.proofs.lemmas.List.Elements.{All-contains}
use Rattle.pw_value.specs.ProgramNames.{start_name, main_name, main_shape}
use Rattle.pw_types.specs.FullNames.{full_name}
use Rattle.pw_types.specs.Shapes.{shape_of}
use Rattle.pw_types.specs.TypeTrees.{CType, is_volatile}
use Rattle.pw_types.specs.TypedModules.{WellTyped, IsFunction}
use Rattle.pw_types.specs.TypedTrees.{FunctionValue}
use Rattle.pw_flow.specs.declared.flow.FlowFn.{FlowFn}
use Rattle.pw_flow.specs.declared.flow.FlowModule.{FlowModule}
use Rattle.pw_flow.specs.FlowGraph.{function_names}
use Rattle.pw_files.proofs.Standing.{Has, has_by, contains_by, each_by, has_map, has_map_back, has_flat_back}
use Rattle.pw_lower.specs.Modules.{lowered, lowered_function, start_of, start_function, is_main}
use Rattle.pw_cmean.specs.Worlds.{Program, ProgramModule, Callable, callable, function_named}
use Rattle.pw_run_languages.specs.Programs as flows
use Rattle.pw_law_source.specs.Lowering.{IsAccepted, flow_program}
use Rattle.pw_law_lower_walk.proofs.Made.{function_by}
use Rattle.pw_law_resolved.proofs.Symbols.{functions, module_valid, own_function, function_found}

-- ---- the first function of the name, and the first flow graph

-- neither, or both with one shape
abbrev AreAlike : Option Callable → Option FlowFn → Type 0
AreAlike None None = Unit {0}
AreAlike (Some f) (Some g) = g.shape ≡ f.shape
AreAlike f g = ⊥

abbrev main_of : List Callable → Option Callable
main_of fs = find (λ (f : Callable). bytes_eq f.name main_name) fs

abbrev main_graph : List FlowFn → Option FlowFn
main_graph fs = find (λ (f : FlowFn). bytes_eq f.name main_name) fs

-- a function and its flow graph have one shape
abbrev HasShape : ProgramModule → FunctionValue → Type 0
HasShape m f = (lowered_function m.name m.tree.records f).shape ≡ (callable m f).shape

functions_alike : (m : ProgramModule) (fs : List FunctionValue) → AllByRecursion (HasShape m) fs → (more : List FlowFn) (cs : List Callable) (gs : List FlowFn) → AreAlike (main_of cs) (main_graph (more ++ gs))
    → AreAlike (main_of (map (callable m) fs ++ cs)) (main_graph ((map (lowered_function m.name m.tree.records) fs ++ more) ++ gs))
unfolding lowered_function
functions_alike m [] h more cs gs a = a
functions_alike m (f ∷ fs) h more cs gs a = by (bytes_eq (full_name m.name f.name) main_name) (functions_alike m fs h.1 more cs gs a)
  where
    by : (b : Bool) → AreAlike (main_of (map (callable m) fs ++ cs)) (main_graph ((map (lowered_function m.name m.tree.records) fs ++ more) ++ gs))
        → AreAlike (if b then Some (callable m f) else main_of (map (callable m) fs ++ cs)) (if b then Some (lowered_function m.name m.tree.records f) else main_graph ((map (lowered_function m.name m.tree.records) fs ++ more) ++ gs))
    by true k = h.0
    by false k = k

-- what the program starts with has another name
start_alike : (fs : List FunctionValue) (c : Option Callable) (gs : List FlowFn) → AreAlike c (main_graph gs) → AreAlike c (main_graph (start_of fs ++ gs))
start_alike [] c gs a = a
start_alike (f ∷ fs) c gs a = by (is_main f.name) (start_alike fs c gs a)
  where
    by : (b : Bool) → AreAlike c (main_graph (start_of fs ++ gs)) → AreAlike c (main_graph ((if b then start_function ∷ [] else start_of fs) ++ gs))
    by true k = a
    by false k = k

abbrev flow_of : ProgramModule → FlowModule
flow_of m = lowered m.name m.tree

modules_alike : (ms : List ProgramModule) → AllByRecursion (λ (m : ProgramModule). AllByRecursion (HasShape m) m.tree.functions) ms
    → AreAlike (main_of (flat_map (λ (m : ProgramModule). map (callable m) m.tree.functions) ms)) (main_graph (flat_map (λ (m : FlowModule). m.functions) (map flow_of ms)))
unfolding lowered
modules_alike [] h = tt
modules_alike (m ∷ ms) h =
    let cs : List Callable = flat_map (λ (m : ProgramModule). map (callable m) m.tree.functions) ms in
    let gs : List FlowFn = flat_map (λ (m : FlowModule). m.functions) (map flow_of ms) in
    let rest : AreAlike (main_of cs) (main_graph (start_of m.tree.functions ++ gs)) = start_alike m.tree.functions (main_of cs) gs (modules_alike ms h.1) in
    subst (λ (xs : List Callable). AreAlike (main_of xs) (main_graph (flat_map (λ (m : FlowModule). m.functions) (flow_of m ∷ map flow_of ms)))) (sym (flat_map-cons (λ (m : ProgramModule). map (callable m) m.tree.functions) m ms))
    (subst (λ (xs : List FlowFn). AreAlike (main_of (map (callable m) m.tree.functions ++ cs)) (main_graph xs)) (sym (flat_map-cons (λ (m : FlowModule). m.functions) (flow_of m) (map flow_of ms)))
    (functions_alike m m.tree.functions h.0 (start_of m.tree.functions) cs gs rest))

-- ---- the program's

module _ (p : Program) (frame_of : List ℕ → ℕ) (stack : ℕ) (accepted : IsAccepted p frame_of stack) where
  -- the type of a function leaves no mark in its shape
  one_shape : (m : ProgramModule) → Has m p.modules → (f : FunctionValue) → Has f m.tree.functions → HasShape m f
  unfolding lowered_function
  one_shape m h f k =
      let typed : WellTyped m.tree = All-contains (λ (m : ProgramModule). WellTyped m.tree) p.modules m accepted.typed.modules (contains_by m p.modules h) in
      let is : IsFunction m.tree f = All-contains (IsFunction m.tree) m.tree.functions f typed.functions (contains_by f m.tree.functions k) in
      subst (λ (ty : CType). shape_of m.tree.records ty (is_volatile f.ty) ≡ shape_of m.tree.records ty false) (sym is.typed.type_is) refl

  both_alike : AreAlike (function_named p main_name) (flows.function_named (flow_program p frame_of stack) main_name)
  both_alike = modules_alike p.modules (each_by _ p.modules (λ m h. each_by (HasShape m) m.tree.functions (one_shape m h)))

  main_shaped : (f : Callable) → function_named p main_name ≡ Some f → f.shape ≡ main_shape
  main_shaped f e =
      by (flows.function_named (flow_program p frame_of stack) main_name) refl
      (subst (λ (o : Option Callable). AreAlike o (flows.function_named (flow_program p frame_of stack) main_name)) e both_alike)
    where
      by : (o : Option FlowFn) → flows.function_named (flow_program p frame_of stack) main_name ≡ o → AreAlike (Some f) o → f.shape ≡ main_shape
      by None is a = absurd a
      by (Some g) is a = sym a ∙ accepted.alike.main g is

  -- where there is a `$start` there is a `main`
  main_there : (f : Callable) × (function_named p main_name ≡ Some f)
  main_there =
      let f = has_map_back (λ (f : FlowFn). f.name) start_name (flows.functions_of (flow_program p frame_of stack)) (has_by start_name (map (λ (f : FlowFn). f.name) (flows.functions_of (flow_program p frame_of stack))) accepted.program.start) in
      let n = has_flat_back (λ (m : FlowModule). m.functions) f.0 (flow_program p frame_of stack).modules f.1 in
      let m = has_map_back flow_of n.0 p.modules n.1 in
      let started : Has start_name (function_names (flow_of m.0)) =
      subst (λ (x : List ℕ). Has x (function_names (flow_of m.0))) f.2 (has_map (λ (f : FlowFn). f.name) f.0 (flow_of m.0).functions (subst (λ (x : FlowModule). Has f.0 x.functions) (sym m.2) n.2)) in
      let main : Contains (function_names (flow_of m.0)) main_name = (module_valid p frame_of stack accepted m.0 m.1).names.start.beside.0 (contains_by start_name (function_names (flow_of m.0)) started) in
      elim (function_by m.0.name m.0.tree main_name (has_by main_name (function_names (flow_of m.0)) main)) [
        | inl g ↦ function_found p main_name (subst (λ (x : List ℕ). Has x (functions p frame_of stack accepted)) g.2 (own_function p frame_of stack accepted m.0 m.1 g.0 g.1))
        | inr e ↦ absurd (grind (arith, e))
      ]

  pub main_known : (f : Callable) × (function_named p main_name ≡ Some f) × (f.shape ≡ main_shape)
  main_known = let there = main_there in (there.0, there.1, main_shaped there.0 there.1)
