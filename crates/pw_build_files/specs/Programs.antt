-- The files of a program of modules, and the faults that may come in their place.
use Rattle.std.specs.Prelude.{◌≡◌, ◌≢◌, ℕ, ◌+◌, List, length, map, Option, Result, Ok, Err}
use Rattle.pw_top_answer.specs.declared.answer.Answer.{Answer}
use Rattle.pw_top_answer.specs.declared.answer.Answer.TheVariants as answer
use Rattle.pw_top_answer.specs.Outcomes.{StoreCount}
use Rattle.pw_value.specs.declared.fault.LinkFault.TheVariants as link
use Rattle.pw_front_end.specs.Fronts.{HoldsNoWant}
use Rattle.pw_db_file.specs.Spelling.{IsNewFile}
use Rattle.pw_image.specs.declared.image.Image.{Image}
use Rattle.pw_image.specs.Image.{Contents, IsImageFile}
use Rattle.pw_link.specs.Linking.{linked}
use Rattle.pw_flow.specs.declared.flow.FlowModule.{FlowModule}
use Rattle.pw_build_objects.specs.declared.making.Built.{Built}
use Rattle.pw_build_objects.specs.Counting.{CountsUpTo}
use Rattle.pw_build_objects.specs.Programs.{Parts}
use Rattle.pw_store_modules.specs.declared.modules.Module.{Module}
use Rattle.pw_store_modules.specs.Modules.{Source}
use Rattle.pw_object.specs.declared.object.Object.{Object}
use Rattle.pw_build.specs.Builds.{Builds, BuildsAnew}
use Rattle.pw_build.specs.declared.fault.BuildFault.{BuildFault}
use Rattle.pw_build.specs.declared.fault.BuildFault.TheVariants as build
use Rattle.pw_build.specs.declared.fault.Unbuilt.{Unbuilt}
use Rattle.pw_store_kept.specs.declared.files.ProgramFiles.{ProgramFiles}
use Rattle.pw_store_kept.specs.Files.{AreObjectFiles, file_view, made_anew}
use Rattle.pw_build_opts.specs.declared.opts.Opts.{Opts}

-- ---- faults

-- a fault as an answer of the program
abbrev pub fault_answer : BuildFault → Answer
fault_answer (build.Refused name refusal) = answer.Refused name refusal
fault_answer (build.LinkRefused fault) = answer.LinkRefused fault
fault_answer build.StoreFault = answer.StoreFault
fault_answer build.NoMemory = answer.NoMemory

-- what was answered in place of a value, where this comes
abbrev pub AnswersFault : {V : Type 0} → Result V BuildFault → BuildFault → Type 0
AnswersFault comes build.StoreFault = Unit {0}
AnswersFault comes build.NoMemory = Unit {0}
AnswersFault comes fault = comes ≡ Err fault

-- a refusal is never one for want of memory
abbrev pub IsNoWant : BuildFault → Type 0
IsNoWant (build.Refused name refusal) = HoldsNoWant refusal
IsNoWant (build.LinkRefused fault) = fault ≢ link.NoMemory
IsNoWant build.StoreFault = Unit {0}
IsNoWant build.NoMemory = Unit {0}

-- a store's count of faults, where a value came or a fault in its place
abbrev pub FaultCount : {T : Type 0} → ℕ → ℕ → Result T Unbuilt → Type 0
FaultCount before now (Ok value) = now ≡ before
FaultCount before now (Err unbuilt) = StoreCount before now (fault_answer unbuilt.fault)

-- a fault was answered in place of parts, to which these modules and these kept objects come
abbrev pub FaultBuilds : List Source → List (Option Object) → Opts → BuildFault → Type 0
FaultBuilds sources kept opts build.StoreFault = Unit {0}
FaultBuilds sources kept opts build.NoMemory = Unit {0}
FaultBuilds sources kept opts fault = Builds sources kept opts (Err fault)

-- ---- what is counted

-- Whatever is answered, of modules whose first phases come to this: nothing where a limit is passed or a module is refused,
-- else at most one for each module.
abbrev pub CountsAtMost : Result (List FlowModule) BuildFault → ℕ → ℕ → Type 0
CountsAtMost (Err fault) before now = now ≡ before
CountsAtMost (Ok flows) before now = CountsUpTo (length flows) before now

-- Where a fault is answered: as many objects as the build makes anew of these modules and these kept objects. A fault of
-- the store and want of memory may come before all of them are made.
abbrev pub IsCounted : List Source → List (Option Object) → Opts → BuildFault → ℕ → ℕ → Type 0
IsCounted sources kept opts build.StoreFault before now = Unit {0}
IsCounted sources kept opts build.NoMemory before now = Unit {0}
IsCounted sources kept opts fault before now = (made : ℕ) × BuildsAnew sources kept opts made × (now ≡ before + made)

-- ---- files

-- the bytes are the file of an image
abbrev pub HoldsImage : List ℕ → Type 0
HoldsImage bytes = (c : Contents Image) × IsImageFile bytes c

-- as many objects as modules
abbrev pub AreAsMany : List Module → Built → Type 0
AreAsMany modules built = length built.made.items ≡ length modules

-- the files of a program that was made of modules of these names, by its parts
pub record AreFilesOf (names : List (List ℕ)) (stack : ℕ) (parts : Parts) (made : ProgramFiles) : Type 0 where
  pub rebuilt : made.fresh.names.items ≡ map (λ m. m.0) (made_anew names parts.objects parts.fresh)
  pub objects : AreObjectFiles (made_anew names parts.objects parts.fresh) (map file_view made.fresh.files.items)
  pub database : IsNewFile made.database.items parts.database
  pub image_names : List (List ℕ)
  pub image : IsImageFile made.image.items (record { names = image_names; value = linked parts.objects stack })

-- modules, and these kept objects of theirs, come to a program with these files, of these objects
abbrev pub BuildsFiles : List Source → List (Option Object) → Opts → ProgramFiles → List Object → Type 0
BuildsFiles sources kept opts made objects =
    (parts : Parts) × Builds sources kept opts (Ok parts) × AreFilesOf (map (λ s. s.0) sources) opts.stack parts made × (objects ≡ parts.objects)
