-- What a program's summaries say of the addresses that its modules take.
use Rattle.std.proofs.Common.{◌≡◌, ◌⊎◌, ℕ, ◌+◌, List, [], ◌∷◌, map, refl, sym, ap, subst, ◌∙◌, inl, inr}
use Rattle.std.specs.Prelude.{Option, Some, None, unwrap_or}
use Rattle.std.specs.List.{flat_map}
use Rattle.std.proofs.lemmas.List.Elements.{recursion_from_All}
use Rattle.pw_value.specs.ProgramNames.{IsOrdinary}
use Rattle.pw_types.specs.FullNames.{full_name}
use Rattle.pw_types.specs.Layouts.{size_of}
use Rattle.pw_types.specs.TypeTrees.{type_of}
use Rattle.pw_types.specs.TypedTrees.{Symbol, ItemValue, ItemBytes, ItemAddress, PlacedItem, ModuleValue}
use Rattle.pw_types.specs.TypedModules.{WellTyped, IsGlobal, IsItem, AreItems, item_size}
use Rattle.pw_flow.specs.declared.flow.Item.{Item}
use Rattle.pw_flow.specs.declared.flow.Op.{Op}
use Rattle.pw_flow.specs.declared.flow.Op.TheVariants.{AddrGlobal, AddrFn}
use Rattle.pw_flow.specs.declared.flow.Block.{Block}
use Rattle.pw_flow.specs.declared.flow.FlowGlobal.{FlowGlobal}
use Rattle.pw_flow.specs.declared.flow.FlowFn.{FlowFn}
use Rattle.pw_flow.specs.declared.flow.FlowModule.{FlowModule}
use Rattle.pw_flow.specs.FlowGraph.{item_names, op_names, names_in_global, names_in_block, names_in_function, named_in}
use Rattle.pw_flow.specs.ValidFlow.{IsValid}
use Rattle.pw_run_languages.specs.Programs.{Program as FlowProgram, names_of, functions_of, globals_of}
use Rattle.pw_lower.specs.Modules.{item_of, lowered_item, lowered_global, lowered}
use Rattle.pw_cmean.specs.Worlds.{Program, ProgramModule}
use Rattle.pw_files.proofs.Standing.{Has, has_by, contains_by, has_each, has_left, has_right, has_split, has_map, has_map_back, has_flat, has_flat_back}
use Rattle.pw_summary.specs.declared.summary.Summary.{Summary}
use Rattle.pw_summarise.specs.Summarises.{addressed, in_function, in_module, function_shape, as_taken, as_escaped, taken_of, escaped_of, function_entries, Summarises}
use Rattle.pw_graph.specs.Program.{IsTaken, IsEscaped}
use Rattle.pw_run_languages.specs.LawfulPrograms as web
use Rattle.pw_run_languages.specs.LawfulPrograms.{ops_of, taken_names, NamesRightly, IsGlobalName}
use Rattle.pw_law_source.specs.Lowering.{flow_program, IsAccepted}
use Rattle.pw_law_analysis.specs.SummaryGraphs.{AllSummarise}
use Rattle.pw_law_analysis.specs.SummaryLaws.{HaveShapes}
use Rattle.pw_law_analysis.proofs.Taking.{TakesRightly, AllRight, functions_good}
use Rattle.pw_law_analysis.proofs.Lists.{across}
use Rattle.pw_law_analysis.proofs.Declared.{IsSaid, IsShaped, shaped}

-- ---- operations

pub at_op : (parts : Op → List (List ℕ)) (f : FlowFn) (name : List ℕ) → Has name (in_function parts f) → (o : Op) × Has o (ops_of f) × Has name (parts o)
at_op parts f name h =
    let b = has_flat_back (λ (b : Block). flat_map parts b.ops) name f.blocks h in
    let o = has_flat_back parts name b.0.ops b.2 in
    (o.0, has_flat (λ (b : Block). b.ops) b.0 o.0 f.blocks b.1 o.1, o.2)

pub by_op : (parts : Op → List (List ℕ)) (f : FlowFn) (o : Op) (name : List ℕ) → Has o (ops_of f) → Has name (parts o) → Has name (in_function parts f)
by_op parts f o name h k =
    let b = has_flat_back (λ (b : Block). b.ops) o f.blocks h in
    has_flat (λ (b : Block). flat_map parts b.ops) b.0 name f.blocks b.1 (has_flat parts o name b.0.ops b.2 k)

-- ---- the names whose address the modules take are those that the program has

taken_there : (o : Op) (name : List ℕ) → Has name (addressed o) → Has name (web.addressed o)
taken_there (AddrGlobal t g n) name h = h
taken_there (AddrFn t f) name h = h
taken_there _ name h = absurd h

taken_back : (o : Op) (name : List ℕ) → Has name (web.addressed o) → Has name (addressed o)
taken_back (AddrGlobal t g n) name h = h
taken_back (AddrFn t f) name h = h
taken_back _ name h = absurd h

module _ (p : FlowProgram) where
  pub taken_in : (m : FlowModule) (name : List ℕ) → Has m p.modules → Has name (in_module addressed m) → Has name (taken_names p)
  taken_in m name there h =
      let items = flat_map names_in_global (globals_of p) in
      let codes = flat_map (λ (f : FlowFn). flat_map web.addressed (ops_of f)) (functions_of p) in
      elim (has_split name (flat_map names_in_global m.globals) (flat_map (in_function addressed) m.functions) h) [
        | inl k ↦
            let g = has_flat_back names_in_global name m.globals k in
            has_left name items codes (has_flat names_in_global g.0 name (globals_of p) (has_flat (λ (m : FlowModule). m.globals) m g.0 p.modules there g.1) g.2)
        | inr k ↦
            let f = has_flat_back (in_function addressed) name m.functions k in
            let o = at_op addressed f.0 name f.2 in
            has_right name items codes
            (has_flat (λ (f : FlowFn). flat_map web.addressed (ops_of f)) f.0 name (functions_of p) (has_flat (λ (m : FlowModule). m.functions) m f.0 p.modules there f.1)
            (has_flat web.addressed o.0 name (ops_of f.0) o.1 (taken_there o.0 name o.2)))
      ]

  pub taken_of_module : (name : List ℕ) → Has name (taken_names p) → (m : FlowModule) × Has m p.modules × Has name (in_module addressed m)
  taken_of_module name h =
      let items = flat_map names_in_global (globals_of p) in
      let codes = flat_map (λ (f : FlowFn). flat_map web.addressed (ops_of f)) (functions_of p) in
      elim (has_split name items codes h) [
        | inl k ↦
            let g = has_flat_back names_in_global name (globals_of p) k in
            let m = has_flat_back (λ (m : FlowModule). m.globals) g.0 p.modules g.1 in
            (m.0, m.1, has_left name (flat_map names_in_global m.0.globals) (flat_map (in_function addressed) m.0.functions) (has_flat names_in_global g.0 name m.0.globals m.2 g.2))
        | inr k ↦
            let f = has_flat_back (λ (f : FlowFn). flat_map web.addressed (ops_of f)) name (functions_of p) k in
            let m = has_flat_back (λ (m : FlowModule). m.functions) f.0 p.modules f.1 in
            let o = has_flat_back web.addressed name (ops_of f.0) f.2 in (
              m.0,
              m.1,
              has_right name (flat_map names_in_global m.0.globals) (flat_map (in_function addressed) m.0.functions)
                  (has_flat (in_function addressed) f.0 name m.0.functions m.2 (by_op addressed f.0 o.0 name o.1 (taken_back o.0 name o.2))),
            )
      ]

-- ---- modules and their summaries

pub summary_of : (ms : List FlowModule) (ss : List Summary) → AllSummarise ms ss → (m : FlowModule) → Has m ms → (s : Summary) × Has s ss × Summarises m s
summary_of [] ss all m h = absurd h
summary_of (n ∷ ms) [] all m h = absurd all
summary_of (n ∷ ms) (s ∷ ss) all m (inl e) = (s, inl refl, subst (λ (m : FlowModule). Summarises m s) e all.0)
summary_of (n ∷ ms) (s ∷ ss) all m (inr h) = let r = summary_of ms ss all.1 m h in (r.0, inr r.1, r.2)

pub module_of : (ms : List FlowModule) (ss : List Summary) → AllSummarise ms ss → (s : Summary) → Has s ss → (m : FlowModule) × Has m ms × Summarises m s
module_of [] [] all s h = absurd h
module_of [] (t ∷ ss) all s h = absurd all
module_of (n ∷ ms) [] all s h = absurd all
module_of (n ∷ ms) (t ∷ ss) all s (inl e) = (n, inl refl, subst (λ (s : Summary). Summarises n s) e all.0)
module_of (n ∷ ms) (t ∷ ss) all s (inr h) = let r = module_of ms ss all.1 s h in (r.0, inr r.1, r.2)

-- ---- a name whose address is taken is a function's with its shape, or no function's

taken_name : (name : List ℕ) (o : Option (List ℕ)) (f : List ℕ × List ℕ) → Has f (as_taken name o) → name ≡ f.0
taken_name name None f h = absurd h
taken_name name (Some shape) f (inl e) = ap (λ (g : List ℕ × List ℕ). g.0) e
taken_name name (Some shape) f (inr h) = absurd h

escaped_name : (name : List ℕ) (o : Option (List ℕ)) (other : List ℕ) → Has other (as_escaped name o) → name ≡ other
escaped_name name None other (inl e) = e
escaped_name name None other (inr h) = absurd h
escaped_name name (Some shape) other h = absurd h

-- it has a function's shape, or has not
either : (name : List ℕ) (o : Option (List ℕ)) → ((f : List ℕ × List ℕ) × Has f (as_taken name o)) ⊎ Has name (as_escaped name o)
either name None = inr (inl refl)
either name (Some shape) = inl ((name, shape), inl refl)

module _ (m : FlowModule) (s : Summary) (is : Summarises m s) where
  taken_from : (name : List ℕ) → Has name (map (λ f. f.0) s.taken) → Has name (in_module addressed m)
  taken_from name h =
      let f = has_map_back (λ (f : List ℕ × List ℕ). f.0) name s.taken h in
      let source = taken_of (function_entries m) m.declared (in_module addressed m) in
      let n = has_flat_back (λ (name : List ℕ). as_taken name (function_shape (function_entries m) m.declared name)) f.0 (in_module addressed m) (has_by f.0 source ((is.taken.of f.0).0 (contains_by f.0 s.taken f.1))) in
      subst (λ (n : List ℕ). Has n (in_module addressed m)) (taken_name n.0 (function_shape (function_entries m) m.declared n.0) f.0 n.2 ∙ f.2) n.1

  escaped_from : (name : List ℕ) → Has name s.escaped → Has name (in_module addressed m)
  escaped_from name h =
      let source = escaped_of (function_entries m) m.declared (in_module addressed m) in
      let n = has_flat_back (λ (name : List ℕ). as_escaped name (function_shape (function_entries m) m.declared name)) name (in_module addressed m) (has_by name source ((is.escaped.of name).0 (contains_by name s.escaped h))) in
      subst (λ (n : List ℕ). Has n (in_module addressed m)) (escaped_name n.0 (function_shape (function_entries m) m.declared n.0) name n.2) n.1

  taken_to : (name : List ℕ) (f : List ℕ × List ℕ) → Has name (in_module addressed m) → Has f (as_taken name (function_shape (function_entries m) m.declared name)) → Has name (map (λ f. f.0) s.taken)
  taken_to name f h k =
      let source = taken_of (function_entries m) m.declared (in_module addressed m) in
      let there = has_flat (λ (name : List ℕ). as_taken name (function_shape (function_entries m) m.declared name)) name f (in_module addressed m) h k in
      let stands = has_by f s.taken ((is.taken.of f).1 (contains_by f source there)) in
      subst (λ (n : List ℕ). Has n (map (λ f. f.0) s.taken)) (sym (taken_name name (function_shape (function_entries m) m.declared name) f k)) (has_map (λ (f : List ℕ × List ℕ). f.0) f s.taken stands)

  escaped_to : (name : List ℕ) → Has name (in_module addressed m) → Has name (as_escaped name (function_shape (function_entries m) m.declared name)) → Has name s.escaped
  escaped_to name h k =
      let source = escaped_of (function_entries m) m.declared (in_module addressed m) in
      let there = has_flat (λ (name : List ℕ). as_escaped name (function_shape (function_entries m) m.declared name)) name name (in_module addressed m) h k in
      has_by name s.escaped ((is.escaped.of name).1 (contains_by name source there))

  shaped_taken : (name : List ℕ) → Has name (in_module addressed m) → IsShaped m name → Has name (map (λ f. f.0) s.taken)
  shaped_taken name h shape =
      taken_to name (name, shape.0) h (subst (λ (o : Option (List ℕ)). Has (name, shape.0) (as_taken name o)) (sym shape.1) (inl refl))

module _ (ms : List FlowModule) (ss : List Summary) (all : AllSummarise ms ss) where
  -- a name that is taken or escapes is one whose address a module takes
  pub taken_addressed : (name : List ℕ) → IsTaken ss name → (m : FlowModule) × Has m ms × Has name (in_module addressed m)
  taken_addressed name t =
      let r = module_of ms ss all t.summary (has_by t.summary ss t.stands) in
      (r.0, r.1, taken_from r.0 t.summary r.2 name (has_by name (map (λ f. f.0) t.summary.taken) t.taken))

  pub escaped_addressed : (name : List ℕ) → IsEscaped ss name → (m : FlowModule) × Has m ms × Has name (in_module addressed m)
  escaped_addressed name t =
      let r = module_of ms ss all t.summary (has_by t.summary ss t.stands) in
      (r.0, r.1, escaped_from r.0 t.summary r.2 name (has_by name t.summary.escaped t.escaped))

  pub addressed_either : (m : FlowModule) (name : List ℕ) → Has m ms → Has name (in_module addressed m) → IsTaken ss name ⊎ IsEscaped ss name
  addressed_either m name there h =
      let r = summary_of ms ss all m there in
      elim (either name (function_shape (function_entries m) m.declared name)) [
        | inl f ↦ inl (record { summary = r.0; stands = contains_by r.0 ss r.1; taken = contains_by name (map (λ f. f.0) r.0.taken) (taken_to m r.0 r.2 name f.0 h f.1) })
        | inr k ↦ inr (record { summary = r.0; stands = contains_by r.0 ss r.1; escaped = contains_by name r.0.escaped (escaped_to m r.0 r.2 name h k) })
      ]

  pub shaped_is_taken : (m : FlowModule) (name : List ℕ) → Has m ms → Has name (in_module addressed m) → IsShaped m name → IsTaken ss name
  shaped_is_taken m name there h shape =
      let r = summary_of ms ss all m there in
      record { summary = r.0; stands = contains_by r.0 ss r.1; taken = contains_by name (map (λ f. f.0) r.0.taken) (shaped_taken m r.0 r.2 name h shape) }

-- ---- what the tree says of it

items_each : (m : ModuleValue) (from size : ℕ) (items : List PlacedItem) → AreItems m from size items → (i : PlacedItem) → Has i items → IsItem m i.item
items_each m from size [] are i h = absurd h
items_each m from size (j ∷ rest) are i (inl e) = subst (λ (i : PlacedItem). IsItem m i.item) e are.1
items_each m from size (j ∷ rest) are i (inr h) = items_each m (j.offset + item_size j.item) size rest are.2 i h

item_said : (home : List ℕ) (m : ModuleValue) (i : ItemValue) (name : List ℕ) → IsItem m i → Has name (item_names (item_of home i)) → (s : Symbol) × (full_name home s ≡ name) × IsSaid m s
item_said home m (ItemBytes bytes) name is h = absurd h
item_said home m (ItemAddress s n) name is (inl e) = (s, e, inl is.0)
item_said home m (ItemAddress s n) name is (inr h) = absurd h

global_said : (home : List ℕ) (m : ModuleValue) (g : FlowGlobal) (name : List ℕ) → WellTyped m → Has g (lowered home m).globals → Has name (names_in_global g) → (s : Symbol) × (full_name home s ≡ name) × IsSaid m s
unfolding lowered
global_said home m g name typed h k =
    let r = has_map_back (lowered_global home m.records) g m.globals h in
    let is = has_each (IsGlobal m) m.globals r.0 (recursion_from_All (IsGlobal m) m.globals typed.globals) r.1 in
    let own : Has name (names_in_global (lowered_global home m.records r.0)) = subst (λ (g : FlowGlobal). Has name (names_in_global g)) (sym r.2) k in
    let placed = has_flat_back (λ (placed : ℕ × Item). item_names placed.1) name (map (lowered_item home) r.0.items) own in
    let i = has_map_back (lowered_item home) placed.0 r.0.items placed.1 in
    item_said home m i.0.item name (items_each m 0 (unwrap_or (size_of m.records (type_of r.0.ty)) 0) r.0.items is.items i.0 i.1) (subst (λ (placed : ℕ × Item). Has name (item_names placed.1)) (sym i.2) placed.2)

op_said : (q : FlowProgram) (home : List ℕ) (m : ModuleValue) (o : Op) (name : List ℕ) → TakesRightly m home o → NamesRightly q o → (IsGlobalName q name → ⊥) → Has name (addressed o) → (s : Symbol) × (full_name home s ≡ name) × IsSaid m s
op_said q home m (AddrGlobal t g n) name right named function (inl e) = absurd (function (subst (IsGlobalName q) e named))
op_said q home m (AddrGlobal t g n) name right named function (inr h) = absurd h
op_said q home m (AddrFn t f) name right named function (inl e) = (right.0, right.4 ∙ e, inr (right.1, right.3))
op_said q home m (AddrFn t f) name right named function (inr h) = absurd h
op_said q home m _ name right named function h = absurd h

-- it stands among the names of the module
op_named : (o : Op) (name : List ℕ) → Has name (addressed o) → Has name (op_names o)
op_named (AddrGlobal t g n) name h = h
op_named (AddrFn t f) name h = h
op_named _ name h = absurd h

address_named : (m : FlowModule) (name : List ℕ) → Has name (in_module addressed m) → Has name (named_in m)
address_named m name h = elim (has_split name (flat_map names_in_global m.globals) (flat_map (in_function addressed) m.functions) h) [
  | inl k ↦ has_left name (flat_map names_in_global m.globals) (flat_map names_in_function m.functions) k
  | inr k ↦
      let f = has_flat_back (in_function addressed) name m.functions k in
      let b = has_flat_back (λ (b : Block). flat_map addressed b.ops) name f.0.blocks f.2 in
      let o = has_flat_back addressed name b.0.ops b.2 in
      has_right name (flat_map names_in_global m.globals) (flat_map names_in_function m.functions)
      (has_flat names_in_function f.0 name m.functions f.1 (has_flat names_in_block b.0 name f.0.blocks b.1 (has_flat op_names o.0 name b.0.ops o.1 (op_named o.0 name o.2))))
]

module _ (p : Program) (frame_of : List ℕ → ℕ) (stack : ℕ) (accepted : IsAccepted p frame_of stack) where
  address_said : (m : ProgramModule) (name : List ℕ) → Has m p.modules → Has name (in_module addressed (lowered m.name m.tree)) → (IsGlobalName (flow_program p frame_of stack) name → ⊥) → (s : Symbol) × (full_name m.name s ≡ name) × IsSaid m.tree s
  address_said m name there h function =
      let q = flow_program p frame_of stack in
      let n = lowered m.name m.tree in
      let typed = has_each (λ (m : ProgramModule). WellTyped m.tree) p.modules m (recursion_from_All (λ (m : ProgramModule). WellTyped m.tree) p.modules accepted.typed.modules) there in
      elim (has_split name (flat_map names_in_global n.globals) (flat_map (in_function addressed) n.functions) h) [
        | inl k ↦ let g = has_flat_back names_in_global name n.globals k in global_said m.name m.tree g.0 name typed g.1 g.2
        | inr k ↦
            let f = has_flat_back (in_function addressed) name n.functions k in
            let b = has_flat_back (λ (b : Block). flat_map addressed b.ops) name f.0.blocks f.2 in
            let o = has_flat_back addressed name b.0.ops b.2 in
            let right = has_each (TakesRightly m.tree m.name) b.0.ops o.0 (has_each (AllRight m.tree m.name) f.0.blocks b.0 (functions_good m.tree m.name typed f.0 f.1) b.1) o.1 in
            let function_there : Has f.0 (functions_of q) = has_flat (λ (m : FlowModule). m.functions) n f.0 q.modules (has_map (λ (m : ProgramModule). lowered m.name m.tree) m p.modules there) f.1 in
            let named = accepted.program.ops f.0 o.0 (contains_by f.0 (functions_of q) function_there) (contains_by o.0 (ops_of f.0) (has_flat (λ (b : Block). b.ops) b.0 o.0 f.0.blocks b.1 o.1)) in
            op_said q m.name m.tree o.0 name right named function o.2
      ]

  -- the functions whose address a module takes have shapes there
  pub have_shapes : HaveShapes (flow_program p frame_of stack)
  have_shapes n name within address function =
      let q = flow_program p frame_of stack in
      let there = has_by n q.modules within in
      let m = has_map_back (λ (m : ProgramModule). lowered m.name m.tree) n p.modules there in
      let taken = has_by name (in_module addressed n) address in
      let own : Has name (in_module addressed (lowered m.0.name m.0.tree)) = subst (λ (n : FlowModule). Has name (in_module addressed n)) (sym m.2) taken in
      let named = has_by name (names_of q) function in
      let valid = has_each IsValid q.modules n accepted.program.modules there in
      let ordinary = has_each IsOrdinary (named_in n) name valid.parts.ordinary (address_named n name taken) in
      let global : IsGlobalName q name → ⊥ = λ g. across (names_of q) (map (λ (v : FlowGlobal). v.name) (globals_of q)) accepted.program.names name named (has_by name (map (λ (v : FlowGlobal). v.name) (globals_of q)) g) in
      let s = address_said m.0 name m.1 own global in
      let shape = shaped p frame_of stack accepted m.0 m.1 s.0 s.2 (subst (λ (n : List ℕ). Has n (names_of q)) (sym s.1) named) (λ e. ordinary (sym s.1 ∙ e)) in
      subst (λ (f : FlowModule). IsShaped f name) m.2 (subst (λ (n : List ℕ). IsShaped (lowered m.0.name m.0.tree) n) s.1 shape)

-- ---- and are taken by the summaries

pub function_taken : (q : FlowProgram) → HaveShapes q → (ss : List Summary) → AllSummarise q.modules ss → (name : List ℕ) → Has name (names_of q) → Has name (taken_names q) → IsTaken ss name
function_taken q shapes ss all name function taken =
    let n = taken_of_module q name taken in
    let shape = shapes n.0 name (contains_by n.0 q.modules n.1) (contains_by name (in_module addressed n.0) n.2) (contains_by name (names_of q) function) in
    shaped_is_taken q.modules ss all n.0 name n.1 n.2 shape
