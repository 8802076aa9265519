-- What the flow graph of a module defines: the functions and objects of its typed tree, and what the program starts with.
use Rattle.std.proofs.Common.{◌≡◌, ◌⊎◌, ℕ, Bool, true, false, if◌then◌else◌, List, [], ◌∷◌, map, refl, sym, ap, ◌∙◌, inl, inr}
use Rattle.pw_value.specs.ProgramNames.{start_name}
use Rattle.pw_types.specs.FullNames.{full_name}
use Rattle.pw_types.specs.TypeTrees.{RecordValue}
use Rattle.pw_types.specs.TypedTrees.{FunctionValue, GlobalValue, ModuleValue}
use Rattle.pw_flow.specs.declared.flow.FlowFn.{FlowFn}
use Rattle.pw_flow.specs.declared.flow.FlowGlobal.{FlowGlobal}
use Rattle.pw_flow.specs.FlowGraph.{function_names, global_names}
use Rattle.pw_files.proofs.Standing.{Has, has_split, has_map_back}
use Rattle.pw_lower.specs.Modules.{lowered, lowered_function, lowered_global, start_function, start_of, is_main}

start_by : (b : Bool) (f : FlowFn) (rest : List FlowFn) → (Has f rest → start_function ≡ f) → Has f (if b then start_function ∷ [] else rest) → start_function ≡ f
start_by true f rest later (inl e) = e
start_by true f rest later (inr k) = absurd k
start_by false f rest later k = later k

start_only : (fs : List FunctionValue) (f : FlowFn) → Has f (start_of fs) → start_function ≡ f
start_only [] f h = absurd h
start_only (g ∷ fs) f h = start_by (is_main g.name) f (start_of fs) (start_only fs f) h

pub of_tree : (home : List ℕ) (m : ModuleValue) (f : FlowFn) → Has f (lowered home m).functions → ((g : FunctionValue) × Has g m.functions × (lowered_function home m.records g ≡ f)) ⊎ (start_function ≡ f)
unfolding lowered
of_tree home m f h = elim (has_split f (map (lowered_function home m.records) m.functions) (start_of m.functions) h) [
  | inl k ↦ inl (has_map_back (lowered_function home m.records) f m.functions k)
  | inr k ↦ inr (start_only m.functions f k)
]

pub full : (home : List ℕ) (records : List RecordValue) (g : FunctionValue) → (lowered_function home records g).name ≡ full_name home g.name
unfolding lowered_function
full home records g = refl

-- a function's name is that of one of the tree, or that of what the program starts with
pub function_by : (home : List ℕ) (m : ModuleValue) (name : List ℕ) → Has name (function_names (lowered home m)) → ((g : FunctionValue) × Has g m.functions × (full_name home g.name ≡ name)) ⊎ (start_name ≡ name)
function_by home m name h =
    let f = has_map_back (λ (f : FlowFn). f.name) name (lowered home m).functions h in
    elim (of_tree home m f.0 f.1) [
      | inl g ↦ inl (g.0, g.1, sym (full home m.records g.0) ∙ (ap (λ (f : FlowFn). f.name) g.2 ∙ f.2))
      | inr e ↦ inr (ap (λ (f : FlowFn). f.name) e ∙ f.2)
    ]

pub global_by : (home : List ℕ) (m : ModuleValue) (name : List ℕ) → Has name (global_names (lowered home m)) → (g : GlobalValue) × Has g m.globals × (full_name home g.name ≡ name)
unfolding lowered
global_by home m name h =
    let f = has_map_back (λ (v : FlowGlobal). v.name) name (map (lowered_global home m.records) m.globals) h in
    let g = has_map_back (lowered_global home m.records) f.0 m.globals f.1 in
    (g.0, g.1, ap (λ (v : FlowGlobal). v.name) g.2 ∙ f.2)
