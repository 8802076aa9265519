-- When a build is done: the modules are accepted one by one and together, text and memory are large enough, and what is kept
-- of them is genuine.
use Rattle.std.specs.Prelude.{◌≡◌, List, [], map, None, Ok}
use Rattle.pw_io.specs.Files.{Files}
use Rattle.pw_flow.specs.declared.flow.FlowModule.{FlowModule}
use Rattle.pw_link_rules.specs.Linking.{Links}
use Rattle.pw_link.specs.Linking.{size_fault}
use Rattle.pw_store_modules.specs.Modules.{Source}
use Rattle.pw_build_objects.specs.Programs.{AreParts, Parts}
use Rattle.pw_build_files.specs.FromBuild.Builds.{first_phases}
use Rattle.pw_build_files.specs.Seen.{SeesModules}
use Rattle.pw_law_shown.specs.Alike.{shown}
use Rattle.pw_build_opts.specs.declared.opts.Opts.{Opts}

-- The modules are not too many, their texts not too long, the first phase refuses none of them, and together they keep the
-- rules of linking.
pub record AreAccepted (sources : List Source) : Type 0 where
  pub flows : List FlowModule
  pub one_by_one : first_phases sources ≡ Ok flows
  pub together : Links (map shown flows)

-- Text and memory are large enough for what the modules are made into under these options.
abbrev pub HasRoom : List FlowModule → Opts → Type 0
HasRoom flows opts = (parts : Parts) → AreParts flows [] opts parts → size_fault parts.objects opts.stack ≡ None

-- accepted modules that have room
pub record CanBeBuilt (sources : List Source) (opts : Opts) : Type 0 where
  pub accepted : AreAccepted sources
  pub room : HasRoom accepted.flows opts

-- the same of the modules of a store, as a build sees them
abbrev pub StoreCanBeBuilt : Files → Opts → Type 0
StoreCanBeBuilt files opts = (sources : List Source) → SeesModules files sources → CanBeBuilt sources opts
