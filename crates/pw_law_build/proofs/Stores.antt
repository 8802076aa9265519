-- Builds over the files of a store, and the command.
use Rattle.std.proofs.Common.{◌≡◌, ◌⊎◌, ℕ, List, [], Option, Result, Ok, Err, refl, sym, ap, ◌∙◌, inl, inr}
use Rattle.std.specs.Prelude.{IfErr}
use Rattle.std.specs.List.{AllByRecursion}
use Rattle.pw_io.specs.Faults.{Rose}
use Rattle.pw_io.specs.Files.{Files, Told}
use Rattle.pw_object.specs.declared.object.Object.{Object}
use Rattle.pw_store_modules.specs.Modules.{Source, module_map, modules_of}
use Rattle.pw_build_objects.specs.Kept.{IsGenuineIfKept}
use Rattle.pw_build_files.specs.FromBuild.BuildFault.{BuildFault}
use Rattle.pw_build_files.specs.FromBuild.BuildFault.TheVariants as build
use Rattle.pw_build_files.specs.FromBuild.Unbuilt.{Unbuilt}
use Rattle.pw_build_files.specs.FromBuild.Builds.{Builds}
use Rattle.pw_top_answer.specs.declared.answer.Answer.{Answer}
use Rattle.pw_top_answer.specs.declared.answer.Answer.TheVariants as answer
use Rattle.pw_top_answer.specs.Effects.{Effect}
use Rattle.pw_top_answer.specs.Outcomes.{InputCount, OutputCount, StoreCount}
use Rattle.pw_build_files.specs.Building.{BuildOutcome, Outcome}
use Rattle.pw_build_files.specs.Full.{BuildsImage, image_of}
use Rattle.pw_build_files.specs.Genuine.{KeepsGenuine}
use Rattle.pw_build_files.specs.Outcomes.{FaultCount, FaultFound, ObeysBuild, fault_answer}
use Rattle.pw_build_files.specs.Seen.{SeenOutcome}
use Rattle.pw_build_opts.specs.declared.opts.Opts.{Opts}
use Rattle.pw_build_files.specs.declared.report.Report.{Report}
use Rattle.pw_commands.specs.Outcome.{IsFound}
use Rattle.pw_build_files.specs.Driving.{built_effect, BuildEffect}
use Rattle.pw_law_build.specs.Complete.{CanBeBuilt, StoreCanBeBuilt}

-- ---- over the files of a store

pub not_refused : ((sources : List Source) (kept : List (Option Object)) (opts : Opts) (fault : BuildFault) → CanBeBuilt sources opts → AllByRecursion IsGenuineIfKept kept → ¬ Builds sources kept opts (Err fault))
    → ((files : Files) (opts : Opts) (comes : Result Outcome BuildFault) → KeepsGenuine files → BuildOutcome files opts comes → BuildsImage (module_map files) opts (image_of comes))
    → (files : Files) (opts : Opts) (fault : BuildFault) → CanBeBuilt (modules_of files) opts → KeepsGenuine files → BuildOutcome files opts (Err fault) → ⊥
not_refused never anew files opts fault can genuine comes =
    never (modules_of files) [] opts fault can tt (anew files opts (Err fault) genuine comes)

module _ (never : (files : Files) (opts : Opts) (fault : BuildFault) → StoreCanBeBuilt files opts → KeepsGenuine files → ¬ SeenOutcome files opts (Err fault)) where
  -- ---- a build

  by_fault : (files : Files) (opts : Opts) (fault : BuildFault) (before now : ℕ) → StoreCanBeBuilt files opts → KeepsGenuine files → FaultFound files opts fault → StoreCount before now (fault_answer fault) → ¬ Rose before now
      → fault ≡ build.NoMemory
  by_fault files opts (build.Refused name refusal) before now can genuine found count rose = absurd (never files opts (build.Refused name refusal) can genuine found)
  by_fault files opts (build.LinkRefused fault) before now can genuine found count rose = absurd (never files opts (build.LinkRefused fault) can genuine found)
  by_fault files opts build.StoreFault before now can genuine found count rose = absurd (rose count)
  by_fault files opts build.NoMemory before now can genuine found count rose = refl

  pub complete : (opts : Opts) (result : Result Report Unbuilt) (told : Told) (new : Option Told) (before now : ℕ) → StoreCanBeBuilt told.files opts → KeepsGenuine told.files
      → ObeysBuild opts result told new → FaultCount before now result → ¬ Rose before now → IfErr result (λ unbuilt. unbuilt.fault ≡ build.NoMemory)
  complete opts (Ok report) told new before now can genuine obeys count rose = tt
  complete opts (Err unbuilt) told new before now can genuine obeys count rose = by_fault told.files opts unbuilt.fault before now can genuine obeys.found count rose

  -- ---- the command

  done_by : (files : Files) (opts : Opts) (input : List ℕ) → StoreCanBeBuilt files opts → KeepsGenuine files → (comes : Result Outcome BuildFault) → SeenOutcome files opts comes → (built_effect comes input).answer ≡ answer.Done
  done_by files opts input can genuine (Ok outcome) comes = refl
  done_by files opts input can genuine (Err fault) comes = absurd (never files opts fault can genuine comes)

  effect_done : (files : Files) (opts : Opts) (input : List ℕ) → StoreCanBeBuilt files opts → KeepsGenuine files → (effect : Effect) → BuildEffect files opts input effect → effect.answer ≡ answer.Done
  effect_done files opts input can genuine effect h = ap (λ (e : Effect). e.answer) h.2 ∙ done_by files opts input can genuine h.0 h.1

  -- an answer that is found is that of an effect
  abbrev IsAnswered : Files → Opts → List ℕ → Answer → Type 0
  IsAnswered files opts input a = (effect : Effect) × BuildEffect files opts input effect × (effect.answer ≡ a)

  found_done : (files : Files) (opts : Opts) (input : List ℕ) → StoreCanBeBuilt files opts → KeepsGenuine files → (a : Answer) → IsAnswered files opts input a → a ≡ answer.Done
  found_done files opts input can genuine a h = sym h.2 ∙ effect_done files opts input can genuine h.0 h.1

  pub command_complete : (files : Files) (opts : Opts) (input : List ℕ) (a : Answer) (store store' read read' written written' : ℕ) → StoreCanBeBuilt files opts → KeepsGenuine files
      → IsFound (BuildEffect files opts input) a → StoreCount store store' a → InputCount read read' a → OutputCount written written' a → ¬ Rose store store' → ¬ Rose read read' → ¬ Rose written written'
      → (a ≡ answer.Done) ⊎ (a ≡ answer.NoMemory)
  command_complete files opts input answer.ReadFault store store' read read' written written' can genuine found s r w ns nr nw = absurd (nr r)
  command_complete files opts input answer.WriteFault store store' read read' written written' can genuine found s r w ns nr nw = absurd (nw w)
  command_complete files opts input answer.StoreFault store store' read read' written written' can genuine found s r w ns nr nw = absurd (ns s)
  command_complete files opts input answer.NoMemory store store' read read' written written' can genuine found s r w ns nr nw = inr refl
  command_complete files opts input a store store' read read' written written' can genuine found s r w ns nr nw = inl (found_done files opts input can genuine a found)
