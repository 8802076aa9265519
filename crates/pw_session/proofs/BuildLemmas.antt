-- What a build did, in the words of sessions.
use Rattle.std.proofs.Common.{Option, Result, Ok, Err}
use Rattle.pw_io.specs.Files.{Files, Told}
use Rattle.pw_top_answer.specs.Effects.{PutsFiles}
use Rattle.pw_build_files.specs.FromBuild.BuildFault.{BuildFault}
use Rattle.pw_build_files.specs.FromBuild.BuildFault.TheVariants as build
use Rattle.pw_build_files.specs.FromBuild.Unbuilt.{Unbuilt}
use Rattle.pw_build_opts.specs.declared.opts.Opts.{Opts}
use Rattle.pw_build_files.specs.declared.report.Report.{Report}
use Rattle.pw_build_files.specs.Building.{Outcome, puts_of}
use Rattle.pw_build_files.specs.Seen.{SeenOutcome}
use Rattle.pw_build_files.specs.Outcomes.{AnswersBuild, FaultFound, IsBuildFound, ObeysBuild, Reports, build_answer}
use Rattle.pw_session.specs.Builds.{BuildsTo}

to_build : (files : Files) (opts : Opts) (comes : Result Outcome BuildFault) → SeenOutcome files opts comes → BuildsTo files opts comes
unfolding BuildsTo
to_build files opts comes h = h

of_build : (files : Files) (opts : Opts) (comes : Result Outcome BuildFault) → BuildsTo files opts comes → SeenOutcome files opts comes
unfolding BuildsTo
of_build files opts comes h = h

-- the build comes to this fault, where it is none of the store and no want of memory
abbrev pub IsFaultFound : Files → Opts → BuildFault → Type 0
IsFaultFound files opts build.StoreFault = Unit {0}
IsFaultFound files opts build.NoMemory = Unit {0}
IsFaultFound files opts fault = BuildsTo files opts (Err fault)

abbrev pub IsAnswerFound : Files → Opts → Result Report Unbuilt → Type 0
IsAnswerFound files opts (Ok report) = (outcome : Outcome) × BuildsTo files opts (Ok outcome) × Reports outcome report
IsAnswerFound files opts (Err unbuilt) = IsFaultFound files opts unbuilt.fault

fault_is_found : (files : Files) (opts : Opts) (fault : BuildFault) → FaultFound files opts fault → IsFaultFound files opts fault
fault_is_found files opts build.StoreFault h = tt
fault_is_found files opts build.NoMemory h = tt
fault_is_found files opts (build.Refused name refusal) h = to_build files opts (Err (build.Refused name refusal)) h
fault_is_found files opts (build.LinkRefused fault) h = to_build files opts (Err (build.LinkRefused fault)) h

is_found : (files : Files) (opts : Opts) (result : Result Report Unbuilt) → IsBuildFound files opts result → IsAnswerFound files opts result
is_found files opts (Ok report) h = (h.0, to_build files opts (Ok h.0) h.1, h.2)
is_found files opts (Err unbuilt) h = fault_is_found files opts unbuilt.fault h

pub record DoesBuild (opts : Opts) (result : Result Report Unbuilt) (told : Told) (new : Option Told) : Type 0 where
  pub answers : (comes : Result Outcome BuildFault) → BuildsTo told.files opts comes → AnswersBuild comes result
  pub puts : (comes : Result Outcome BuildFault) → BuildsTo told.files opts comes → PutsFiles (puts_of comes) (build_answer result) told new
  pub found : IsAnswerFound told.files opts result

pub does_build : (opts : Opts) (result : Result Report Unbuilt) (told : Told) (new : Option Told) → ObeysBuild opts result told new → DoesBuild opts result told new
does_build opts result told new obeys = record {
  answers = λ comes h. obeys.answers comes (of_build told.files opts comes h);
  puts = λ comes h. obeys.puts comes (of_build told.files opts comes h);
  found = is_found told.files opts result obeys.found;
}
