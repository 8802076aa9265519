-- What the texts of modules, and what was kept of them, come to: one relation, with one answer.
use Rattle.std.specs.Prelude.{◌≡◌, ℕ, nat_lt, if◌then◌else◌, List, [], ◌∷◌, length, map, Option, Some, None, Result, Ok, Err}
use Rattle.std.specs.FinMap as finite
use Rattle.pw_value.specs.Limits.{module_limit}
use Rattle.pw_value.specs.declared.fault.LinkFault.{LinkFault}
use Rattle.pw_value.specs.declared.fault.LinkFault.TheVariants.{TooMany}
use Rattle.pw_value.specs.declared.fault.What.TheVariants.{Modules}
use Rattle.pw_flow.specs.declared.flow.FlowModule.{FlowModule}
use Rattle.pw_object.specs.declared.object.Object.{Object}
use Rattle.pw_law_main.specs.FromPhaseOne.FirstPhase.{Phase, compiled}
use Rattle.pw_store_modules.specs.Modules.{Source, Texts}
use Rattle.pw_build_objects.specs.Programs.{Completes, Parts}
use Rattle.pw_build_objects.specs.Counting.{MakesAnew}
use Rattle.pw_build.specs.declared.fault.BuildFault.{BuildFault}
use Rattle.pw_build.specs.declared.fault.BuildFault.TheVariants.{Refused, LinkRefused}
use Rattle.pw_build_opts.specs.declared.opts.Opts.{Opts}

-- ---- the limit

-- that there are too many modules
abbrev pub limit_passed : List Source → Option LinkFault
limit_passed sources = if nat_lt module_limit (length sources) then Some (TooMany Modules (length sources)) else None

-- ---- the first phase

-- a module's flow graph before those of others; or the first refusal
abbrev pub before_others : List ℕ → Phase → Result (List FlowModule) BuildFault → Result (List FlowModule) BuildFault
before_others name (Err refusal) others = Err (Refused name refusal)
before_others name (Ok flow) (Err fault) = Err fault
before_others name (Ok flow) (Ok flows) = Ok (flow ∷ flows)

-- the flow graphs of modules, in their order; or the first of them that is refused, with its refusal
abbrev pub flows_of : List Source → Result (List FlowModule) BuildFault
flows_of [] = Ok []
flows_of (source ∷ sources) = before_others source.0 (compiled source.0 source.1) (flows_of sources)

abbrev pub within : Option LinkFault → Result (List FlowModule) BuildFault → Result (List FlowModule) BuildFault
within (Some fault) flows = Err (LinkRefused fault)
within None flows = flows

-- the same of modules that pass no limit
abbrev pub first_phases : List Source → Result (List FlowModule) BuildFault
first_phases sources = within (limit_passed sources) (flows_of sources)

-- ---- the build

-- flow graphs and kept objects come to this answer
abbrev pub CompletesAs : List FlowModule → List (Option Object) → Opts → Result Parts BuildFault → Type 0
CompletesAs flows kept opts (Ok parts) = Completes flows kept opts (Ok parts)
CompletesAs flows kept opts (Err (LinkRefused fault)) = Completes flows kept opts (Err fault)
CompletesAs flows kept opts (Err _) = ⊥

abbrev pub BuildsBy : Result (List FlowModule) BuildFault → List (Option Object) → Opts → Result Parts BuildFault → Type 0
BuildsBy (Err fault) kept opts answer = answer ≡ Err fault
BuildsBy (Ok flows) kept opts answer = CompletesAs flows kept opts answer

-- Modules in the byte order of their names, and what was kept of each, at its place, come to this answer under
-- these options: a limit that is passed; or the first module that is refused; or a rule of linking that is
-- broken; or the parts of the program.
abbrev pub Builds : List Source → List (Option Object) → Opts → Result Parts BuildFault → Type 0
Builds sources kept opts answer = BuildsBy (first_phases sources) kept opts answer

-- how many objects the same build makes anew: none where a limit is passed or a module is refused
abbrev pub MakesBy : Result (List FlowModule) BuildFault → List (Option Object) → Opts → ℕ → Type 0
MakesBy (Err fault) kept opts made = made ≡ 0
MakesBy (Ok flows) kept opts made = MakesAnew flows kept opts made

abbrev pub BuildsAnew : List Source → List (Option Object) → Opts → ℕ → Type 0
BuildsAnew sources kept opts made = MakesBy (first_phases sources) kept opts made

-- the build of texts where nothing was kept
abbrev pub FullBuild : Texts → Opts → Result Parts BuildFault → Type 0
FullBuild texts opts answer = Builds (finite.entries texts) [] opts answer
