-- The frames of a program's objects, module by module.
use Rattle.std.proofs.Common.{◌≡◌, Bool, true, false, List, [], ◌∷◌, ◌++◌, map, ℕ, refl, sym, ap, ◌∙◌}
use Rattle.std.specs.Prelude.{All, Option, Some, None}
use Rattle.std.specs.List.{flat_map}
use Rattle.std.proofs.lemmas.List.Concat.{flat_map-cons}
use Rattle.pw_db.specs.declared.database.Directives.{Directives}
use Rattle.pw_db.specs.Database.{HasDirectives}
use Rattle.pw_flow.specs.declared.flow.FlowFn.{FlowFn}
use Rattle.pw_flow.specs.declared.flow.FlowModule.{FlowModule}
use Rattle.pw_object.specs.declared.object.Object.{Object}
use Rattle.pw_alloc_temps.specs.Temporaries.{allocated}
use Rattle.pw_phase_two.specs.Phases.{AreDirectivesOf, IsObjectOf}
use Rattle.pw_build_objects.specs.Programs.{AreObjectsFrom, DirectivesList, IsModuleFrom, IsObjectFrom}
use Rattle.pw_run_languages.specs.Direction.{directed_by}
use Rattle.pw_debug.specs.declared.info.FrameInfo.{FrameInfo}
use Rattle.pw_debug_frames.specs.Frames.{AreFrames, AreFramesOf, frame_info, frames_in, next_object, no_object}
use Rattle.pw_run_languages.proofs.Directives.{entries_are, entry_in}

abbrev Inside : List Object → List FrameInfo → Type 0
Inside [] frames = frames ≡ []
Inside (o ∷ os) frames = (own : List FrameInfo) × (behind : List FrameInfo) × AreFramesOf o own × AreFrames os behind × (frames ≡ own ++ behind)

inside : (os : List Object) (frames : List FrameInfo) → AreFrames os frames → Inside os frames
inside os frames no_object = refl
inside os frames (next_object o rest own behind are more) = (own, behind, are, more, refl)

-- functions under a database, as the debugger knows them
abbrev pub known_under : DirectivesList → List FlowFn → List FrameInfo
known_under db fs = map frame_info (map allocated (map (directed_by db) fs))

known_entries : (db : DirectivesList) (fs : List FlowFn) → frames_in fs (map (entry_in db) fs) ≡ known_under db fs
known_entries db [] = refl
known_entries db (f ∷ fs) = ap (λ (rest : List FrameInfo). frame_info (allocated (directed_by db f)) ∷ rest) (known_entries db fs)

known_both : (db : DirectivesList) (fs gs : List FlowFn) → known_under db (fs ++ gs) ≡ known_under db fs ++ known_under db gs
known_both db [] gs = refl
known_both db (f ∷ fs) gs = ap (λ (rest : List FrameInfo). frame_info (allocated (directed_by db f)) ∷ rest) (known_both db fs gs)

nothing : (o : Object) → None ≡ Some o → ⊥
nothing o e = cc

made_anew : (flow : FlowModule) (ds : DirectivesList) (o : Object) (fresh : Bool) → IsObjectFrom flow ds None o fresh → IsObjectOf flow ds o
made_anew flow ds o true is = is.1
made_anew flow ds o false is = absurd (nothing o is.0)

module _ (db : DirectivesList)
    (one : (gs hs : DirectivesList) → All (HasDirectives db) gs → All (HasDirectives db) hs → map (λ f. f.0) gs ≡ map (λ f. f.0) hs → gs ≡ hs)
    (made : (flow : FlowModule) (ds : DirectivesList) (o : Object) (frames : List FrameInfo) → AreDirectivesOf flow ds → IsObjectOf flow ds o → AreFramesOf o frames → frames ≡ frames_in flow.functions ds) where
  module_frames : (flow : FlowModule) (o : Object) (fresh : Bool) (own : List FrameInfo) → IsModuleFrom db flow None o fresh → AreFramesOf o own → own ≡ known_under db flow.functions
  module_frames flow o fresh own is are =
      let ds : is.directives ≡ map (entry_in db) flow.functions = entries_are db one flow.functions is.directives is.in_database.each is.in_database.of_module.functions in
      made flow is.directives o own is.in_database.of_module (made_anew flow is.directives o fresh is.object) are
      ∙ ap (frames_in flow.functions) ds
      ∙ known_entries db flow.functions

  pub all_frames : (flows : List FlowModule) (os : List Object) (fresh : List Bool) (frames : List FrameInfo) → AreObjectsFrom db flows [] os fresh → AreFrames os frames
      → frames ≡ known_under db (flat_map (λ m. m.functions) flows)
  all_frames [] [] [] frames from are = inside [] frames are
  all_frames [] [] (b ∷ bs) frames from are = absurd from
  all_frames [] (o ∷ os) fresh frames from are = absurd from
  all_frames (flow ∷ flows) [] fresh frames from are = absurd from
  all_frames (flow ∷ flows) (o ∷ os) [] frames from are = absurd from
  all_frames (flow ∷ flows) (o ∷ os) (b ∷ bs) frames (is, more) are =
      let p = inside (o ∷ os) frames are in
      p.4
      ∙ ap (λ (own : List FrameInfo). own ++ p.1) (module_frames flow o b p.0 is p.2)
      ∙ ap (λ (behind : List FrameInfo). known_under db flow.functions ++ behind) (all_frames flows os bs p.1 more p.3)
      ∙ sym (known_both db flow.functions (flat_map (λ (m : FlowModule). m.functions) flows))
      ∙ ap (λ (fs : List FlowFn). known_under db fs) (sym (flat_map-cons (λ (m : FlowModule). m.functions) flow flows))
