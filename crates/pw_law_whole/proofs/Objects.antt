-- The objects of a full build: its functions as words, with the places that allocation gives.
use Rattle.std.proofs.Common.{◌≡◌, ℕ, Bool, true, false, List, [], ◌∷◌, ◌++◌, map, Some, None, refl, sym, ap, ◌∙◌}
use Rattle.std.specs.Prelude.{All}
use Rattle.std.specs.List.{flat_map}
use Rattle.std.proofs.lemmas.List.Concat.{flat_map-cons}
use Rattle.pw_flow.specs.declared.flow.FlowFn.{FlowFn}
use Rattle.pw_flow.specs.declared.flow.FlowGlobal.{FlowGlobal}
use Rattle.pw_flow.specs.declared.flow.FlowModule.{FlowModule}
use Rattle.pw_db.specs.declared.database.Directives.{Directives}
use Rattle.pw_db.specs.Database.{HasDirectives}
use Rattle.pw_webflow.specs.Direction.{directed}
use Rattle.pw_alloc_temps.specs.Temporaries.{allocated}
use Rattle.pw_object.specs.declared.functions.ObjectFn.{ObjectFn}
use Rattle.pw_object.specs.declared.object.Object.{Object}
use Rattle.pw_phase_two.specs.Phases as phases
use Rattle.pw_phase_two.specs.Phases.{IsObjectOf, all_compiled}
use Rattle.pw_build_objects.specs.Programs.{DirectivesList, IsObjectFrom, IsModuleFrom, AreObjectsFrom}
use Rattle.pw_run_languages.specs.Direction.{directives_of, directed_by}
use Rattle.pw_run_languages.specs.LinkingLaws.{compiled}
use Rattle.pw_run_languages.proofs.Directives.{entry_in, entries_are}

-- ---- code

-- functions under a database as words
abbrev pub code_under : DirectivesList → List FlowFn → List ObjectFn
code_under db fs = map compiled (map allocated (map (directed_by db) fs))

same_code : (f : FlowFn) (d : Directives) → phases.compiled f d ≡ compiled (allocated (directed f d))
unfolding allocated directed
same_code f d = refl

all_same_code : (db : DirectivesList) (fs : List FlowFn) → all_compiled fs (map (entry_in db) fs) ≡ code_under db fs
all_same_code db [] = refl
all_same_code db (f ∷ fs) =
    ap (λ (x : ObjectFn). x ∷ all_compiled fs (map (entry_in db) fs)) (same_code f (directives_of db f.name))
    ∙ ap (λ (xs : List ObjectFn). compiled (allocated (directed_by db f)) ∷ xs) (all_same_code db fs)

code_both : (db : DirectivesList) (fs gs : List FlowFn) → code_under db (fs ++ gs) ≡ code_under db fs ++ code_under db gs
code_both db [] gs = refl
code_both db (f ∷ fs) gs = ap (λ (xs : List ObjectFn). compiled (allocated (directed_by db f)) ∷ xs) (code_both db fs gs)

-- ---- the object of a module

nothing : (o : Object) → None ≡ Some o → ⊥
nothing o e = cc

-- an object of which nothing was kept is made anew
made_anew : (flow : FlowModule) (ds : DirectivesList) (o : Object) (fresh : Bool) → IsObjectFrom flow ds None o fresh → IsObjectOf flow ds o
made_anew flow ds o true is = is.1
made_anew flow ds o false is = absurd (nothing o is.0)

module _ (db : DirectivesList)
    (one : (gs hs : DirectivesList) → All (HasDirectives db) gs → All (HasDirectives db) hs → map (λ f. f.0) gs ≡ map (λ f. f.0) hs → gs ≡ hs) where
  object_code : (flow : FlowModule) (o : Object) (fresh : Bool) → IsModuleFrom db flow None o fresh → o.functions ≡ all_compiled flow.functions (map (entry_in db) flow.functions)
  object_code flow o fresh is =
      let made = made_anew flow is.directives o fresh is.object in
      let ds : is.directives ≡ map (entry_in db) flow.functions =
      entries_are db one flow.functions is.directives is.in_database.each is.in_database.of_module.functions in
      made.functions ∙ ap (λ (d : DirectivesList). all_compiled flow.functions d) ds

  object_named : (flow : FlowModule) (o : Object) (fresh : Bool) → IsModuleFrom db flow None o fresh → o.module ≡ flow.name
  object_named flow o fresh is = (made_anew flow is.directives o fresh is.object).of_module

  object_globals : (flow : FlowModule) (o : Object) (fresh : Bool) → IsModuleFrom db flow None o fresh → o.globals ≡ flow.globals
  object_globals flow o fresh is = (made_anew flow is.directives o fresh is.object).globals

  -- ---- the objects of all modules

  pub modules_named : (flows : List FlowModule) (os : List Object) (fresh : List Bool) → AreObjectsFrom db flows [] os fresh → map (λ o. o.module) os ≡ map (λ m. m.name) flows
  modules_named [] [] [] are = refl
  modules_named [] [] (b ∷ bs) are = absurd are
  modules_named [] (o ∷ os) fresh are = absurd are
  modules_named (flow ∷ flows) [] fresh are = absurd are
  modules_named (flow ∷ flows) (o ∷ os) [] are = absurd are
  modules_named (flow ∷ flows) (o ∷ os) (b ∷ bs) (is, more) =
      ap (λ (name : List ℕ). name ∷ map (λ (x : Object). x.module) os) (object_named flow o b is)
      ∙ ap (λ (names : List (List ℕ)). flow.name ∷ names) (modules_named flows os bs more)

  pub same_globals : (flows : List FlowModule) (os : List Object) (fresh : List Bool) → AreObjectsFrom db flows [] os fresh → flat_map (λ o. o.globals) os ≡ flat_map (λ m. m.globals) flows
  same_globals [] [] [] are = refl
  same_globals [] [] (b ∷ bs) are = absurd are
  same_globals [] (o ∷ os) fresh are = absurd are
  same_globals (flow ∷ flows) [] fresh are = absurd are
  same_globals (flow ∷ flows) (o ∷ os) [] are = absurd are
  same_globals (flow ∷ flows) (o ∷ os) (b ∷ bs) (is, more) =
      flat_map-cons (λ (x : Object). x.globals) o os
      ∙ ap (λ (gs : List FlowGlobal). gs ++ flat_map (λ (x : Object). x.globals) os) (object_globals flow o b is)
      ∙ ap (λ (gs : List FlowGlobal). flow.globals ++ gs) (same_globals flows os bs more)
      ∙ sym (flat_map-cons (λ (m : FlowModule). m.globals) flow flows)

  pub code_of_all : (flows : List FlowModule) (os : List Object) (fresh : List Bool) → AreObjectsFrom db flows [] os fresh → flat_map (λ o. o.functions) os ≡ code_under db (flat_map (λ m. m.functions) flows)
  code_of_all [] [] [] are = refl
  code_of_all [] [] (b ∷ bs) are = absurd are
  code_of_all [] (o ∷ os) fresh are = absurd are
  code_of_all (flow ∷ flows) [] fresh are = absurd are
  code_of_all (flow ∷ flows) (o ∷ os) [] are = absurd are
  code_of_all (flow ∷ flows) (o ∷ os) (b ∷ bs) (is, more) =
      flat_map-cons (λ (x : Object). x.functions) o os
      ∙ ap (λ (fs : List ObjectFn). fs ++ flat_map (λ (x : Object). x.functions) os) (object_code flow o b is ∙ all_same_code db flow.functions)
      ∙ ap (λ (fs : List ObjectFn). code_under db flow.functions ++ fs) (code_of_all flows os bs more)
      ∙ sym (code_both db flow.functions (flat_map (λ (m : FlowModule). m.functions) flows))
      ∙ ap (λ (fs : List FlowFn). code_under db fs) (sym (flat_map-cons (λ (m : FlowModule). m.functions) flow flows))
