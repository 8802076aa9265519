-- The globals of a build's flow graphs are the lowered definitions of its program.
use Rattle.std.proofs.Common.{◌≡◌, Bool, true, false, List, [], ◌∷◌, ◌++◌, map, refl, sym, ap, ap₂, ◌∙◌}
use Rattle.std.specs.List.{flat_map}
use Rattle.std.proofs.lemmas.List.{map-append}
use Rattle.std.proofs.lemmas.List.Concat.{flat_map-cons}
use Rattle.pw_types.specs.TypedTrees.{GlobalValue}
use Rattle.pw_flow.specs.declared.flow.FlowGlobal.{FlowGlobal}
use Rattle.pw_flow.specs.declared.flow.FlowModule.{FlowModule}
use Rattle.pw_lower.specs.Modules.{lowered, lowered_global}
use Rattle.pw_law_opt.specs.Laws.{AreOptimisedModules, also, none}
use Rattle.pw_build_objects.specs.Programs.{AreForms}
use Rattle.pw_cmean.specs.Worlds.{ProgramModule}
use Rattle.pw_law_whole.specs.Programs.{flow_of}
use Rattle.pw_law_truth.specs.Truth.{lowered_definition}

abbrev pub globals_in : List FlowModule → List FlowGlobal
globals_in ms = flat_map (λ m. m.globals) ms

optimised_globals : (ms ns : List FlowModule) → AreOptimisedModules ms ns → globals_in ns ≡ globals_in ms
optimised_globals ms ns none = refl
optimised_globals ms ns (also m n more others o rest) =
    flat_map-cons (λ (x : FlowModule). x.globals) n others
    ∙ (ap₂ (λ (xs ys : List FlowGlobal). xs ++ ys) o.globals (optimised_globals more others rest)
    ∙ sym (flat_map-cons (λ (x : FlowModule). x.globals) m more))

-- forms have the globals of the modules
pub forms_globals : (o : Bool) (flows forms : List FlowModule) → AreForms o flows forms → globals_in forms ≡ globals_in flows
forms_globals false flows forms e = ap (λ (ms : List FlowModule). globals_in ms) e
forms_globals true flows forms are = optimised_globals flows forms are

abbrev defined_in : ProgramModule → List (ProgramModule × GlobalValue)
defined_in m = map (λ g. (m, g)) m.tree.globals

each_global : (m : ProgramModule) (gs : List GlobalValue) → map (lowered_global m.name m.tree.records) gs ≡ map lowered_definition (map (λ g. (m, g)) gs)
each_global m [] = refl
each_global m (g ∷ gs) = ap (λ (rest : List FlowGlobal). lowered_global m.name m.tree.records g ∷ rest) (each_global m gs)

own_globals : (m : ProgramModule) → (flow_of m).globals ≡ map lowered_definition (defined_in m)
unfolding lowered
own_globals m = each_global m m.tree.globals

pub lowered_globals : (ms : List ProgramModule) → globals_in (map flow_of ms) ≡ map lowered_definition (flat_map (λ m. map (λ g. (m, g)) m.tree.globals) ms)
lowered_globals [] = refl
lowered_globals (m ∷ ms) =
    flat_map-cons (λ (x : FlowModule). x.globals) (flow_of m) (map flow_of ms)
    ∙ (ap₂ (λ (xs ys : List FlowGlobal). xs ++ ys) (own_globals m) (lowered_globals ms)
    ∙ (sym (map-append lowered_definition (defined_in m) (flat_map (λ m. map (λ g. (m, g)) m.tree.globals) ms))
    ∙ ap (λ (ds : List (ProgramModule × GlobalValue)). map lowered_definition ds) (sym (flat_map-cons (λ (x : ProgramModule). defined_in x) m ms))))
