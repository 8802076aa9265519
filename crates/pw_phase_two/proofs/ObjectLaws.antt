-- The object of a lawful module keeps the rules of its file.
use Rattle.std.proofs.Common.{◌≡◌, ℕ, List, [], ◌∷◌, map, refl, sym, ap, ◌∙◌, subst}
use Rattle.std.specs.List.{AllByRecursion}
use Rattle.pw_value.specs.ProgramNames.{KeepsStart}
use Rattle.pw_files.specs.Rising.{IsRising}
use Rattle.pw_flow.specs.declared.flow.FlowFn.{FlowFn}
use Rattle.pw_flow.specs.declared.flow.FlowModule.{FlowModule}
use Rattle.pw_flow.specs.FlowGraph.{function_names, global_names, named_in}
use Rattle.pw_flowfile.specs.FlowFile.{IsFlowFile}
use Rattle.pw_summarise.specs.Summarises.{IsOrdered}
use Rattle.pw_flow.specs.ValidFlow.{IsGlobal, IsValid}
use Rattle.pw_db.specs.declared.database.Directives.{Directives}
use Rattle.pw_object.specs.declared.object.Object.{Object}
use Rattle.pw_object.specs.Object.{IsObject, object_version}
use Rattle.pw_object.specs.Functions as object
use Rattle.pw_phase_two.specs.declared.origin.Origin.{Origin}
use Rattle.pw_phase_two.specs.Origins.{IsOriginOf}
use Rattle.pw_phase_two.specs.Phases.{AreDirectivesOf, IsObjectOf, IsPayloadOf, all_compiled}

-- ---- functions have the names of the module's

rest_same : (n m : List ℕ) (ns ms : List (List ℕ)) → n ∷ ns ≡ m ∷ ms → ns ≡ ms
rest_same n m ns ms e = cc

pub compiled_names : (fs : List FlowFn) (ds : List (List ℕ × Directives)) → map (λ d. d.0) ds ≡ map (λ f. f.name) fs → map (λ o. o.name) (all_compiled fs ds) ≡ map (λ f. f.name) fs
compiled_names [] ds e = refl
compiled_names (f ∷ fs) [] e = cc
compiled_names (f ∷ fs) (d ∷ ds) e = ap (λ (ns : List (List ℕ)). f.name ∷ ns) (compiled_names fs ds (rest_same d.0 f.name (map (λ d. d.0) ds) (map (λ f. f.name) fs) e))

-- ---- the object

same : (names : List (List ℕ)) → map (λ name. name) names ≡ names
same [] = refl
same (n ∷ names) = ap (λ (ns : List (List ℕ)). n ∷ ns) (same names)

pub object_lawful : (m : FlowModule) (ds : List (List ℕ × Directives)) (o : Object) → IsValid m → AreDirectivesOf m ds → IsObjectOf m ds o → AllByRecursion object.IsFunction o.functions → IsObject o
object_lawful m ds o is directives of functions =
    let names : map (λ f. f.name) o.functions ≡ function_names m = ap (map (λ f. f.name)) of.functions ∙ compiled_names m.functions ds directives.functions in
    let globals : map (λ g. g.name) o.globals ≡ global_names m = ap (map (λ g. g.name)) of.globals in
    record {
      version = of.version;
      declared = of.declared.rising;
      used = subst IsRising (same o.used) of.used.rising;
      globals = subst (AllByRecursion IsGlobal) (sym of.globals) is.parts.globals;
      functions = functions;
      start = subst (λ (fs : List (List ℕ)). KeepsStart fs (map (λ g. g.name) o.globals)) (sym names) (subst (KeepsStart (function_names m)) (sym globals) is.names.start);
    }

-- ---- the object, from what was made and what is taken over

pub record HasParts (m : FlowModule) (ds : List (List ℕ × Directives)) (origin : Origin) (o : Object) : Type 0 where
  pub version : o.version ≡ object_version
  pub of_module : o.module ≡ m.name
  pub flow : o.flow ≡ origin.flow.items
  pub directives : o.directives ≡ origin.directives.items
  pub declared : IsOrdered (λ d. d.0) m.declared o.declared
  pub used : IsOrdered (λ name. name) (named_in m) o.used
  pub globals : o.globals ≡ m.globals
  pub functions : o.functions ≡ all_compiled m.functions ds

pub made_object : (m : FlowModule) (ds : List (List ℕ × Directives)) (origin : Origin) (o : Object) → IsOriginOf m ds origin → HasParts m ds origin o → IsObjectOf m ds o
made_object m ds origin o of made = record {
  version = made.version;
  of_module = made.of_module;
  flow_file = subst (λ (x : List ℕ). IsFlowFile x m) (sym made.flow) of.flow_file;
  payload = subst (λ (x : List ℕ). IsPayloadOf x ds) (sym made.directives) of.payload;
  declared = made.declared;
  used = made.used;
  globals = made.globals;
  functions = made.functions;
}
