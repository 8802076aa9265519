-- A full build is refused for its modules alone: for no fault of the store, and for no want of memory.
use Rattle.std.specs.Prelude.{ℕ, ◌≡◌, ◌≢◌, List, [], ◌∷◌, Option, Some, None, Result, Ok, Err}
use Rattle.std.proofs.Common.{refl, sym, subst}
use Rattle.std.specs.FinMap as finite
use Rattle.pw_value.specs.declared.fault.LinkFault.{LinkFault}
use Rattle.pw_flow.specs.declared.flow.FlowModule.{FlowModule}
use Rattle.pw_object.specs.declared.object.Object.{Object}
use Rattle.pw_store_modules.specs.Modules.{Source, Texts}
use Rattle.pw_build_opts.specs.declared.opts.Opts.{Opts}
use Rattle.pw_build_files.specs.FromBuild.BuildFault.{BuildFault}
use Rattle.pw_build_files.specs.FromBuild.BuildFault.TheVariants as build
use Rattle.pw_build_files.specs.FromBuild.FirstPhase.{Phase, compiled}
use Rattle.pw_build_files.specs.FromBuild.Builds.{before_others, flows_of, limit_passed, within, BuildsBy, CompletesAs, FullBuild}
use Rattle.pw_build_files.specs.Outcomes.{IsOfStore, fault_answer}
use Rattle.pw_top_answer.specs.declared.answer.Answer.{Answer}
use Rattle.pw_top_answer.specs.declared.answer.Answer.TheVariants as answer

same_fault : {X : Type 0} (f g : BuildFault) → ◌≡◌ {A = Result X BuildFault} (Err f) (Err g) → f ≡ g
same_fault f g e = cc

no_fault : (flows : List FlowModule) (f : BuildFault) → ◌≡◌ {A = Result (List FlowModule) BuildFault} (Ok flows) (Err f) → ⊥
no_fault flows f e = cc

-- ---- the first phases

-- where they come to a fault, it is one of the modules
abbrev AreOfModules : Result (List FlowModule) BuildFault → Type 0
AreOfModules flows = (fault : BuildFault) → flows ≡ Err fault → ¬ IsOfStore fault

before_refused : (name : List ℕ) (phase : Phase) (others : Result (List FlowModule) BuildFault) → AreOfModules others → AreOfModules (before_others name phase others)
before_refused name (Err refusal) others so = λ fault e s. subst IsOfStore (sym (same_fault (build.Refused name refusal) fault e)) s
before_refused name (Ok flow) (Err other) so = so
before_refused name (Ok flow) (Ok flows) so = λ fault e. absurd (no_fault (flow ∷ flows) fault e)

flows_refused : (sources : List Source) → AreOfModules (flows_of sources)
flows_refused [] = λ fault e. absurd (no_fault [] fault e)
flows_refused (source ∷ sources) = before_refused source.0 (compiled source.0 source.1) (flows_of sources) (flows_refused sources)

within_refused : (limit : Option LinkFault) (flows : Result (List FlowModule) BuildFault) → AreOfModules flows → AreOfModules (within limit flows)
within_refused None flows so = so
within_refused (Some passed) flows so = λ fault e s. subst IsOfStore (sym (same_fault (build.LinkRefused passed) fault e)) s

-- ---- the build

completes_refused : (flows : List FlowModule) (kept : List (Option Object)) (opts : Opts) (fault : BuildFault) → CompletesAs flows kept opts (Err fault) → ¬ IsOfStore fault
completes_refused flows kept opts (build.Refused name refusal) b = absurd b
completes_refused flows kept opts (build.LinkRefused broken) b = λ s. s
completes_refused flows kept opts build.StoreFault b = absurd b
completes_refused flows kept opts build.NoMemory b = absurd b

build_refused : (flows : Result (List FlowModule) BuildFault) (kept : List (Option Object)) (opts : Opts) (fault : BuildFault) → AreOfModules flows → BuildsBy flows kept opts (Err fault) → ¬ IsOfStore fault
build_refused (Err other) kept opts fault so b = λ s. so other refl (subst IsOfStore (same_fault fault other b) s)
build_refused (Ok flows) kept opts fault so b = completes_refused flows kept opts fault b

full_refused : (texts : Texts) (opts : Opts) (fault : BuildFault) → FullBuild texts opts (Err fault) → ¬ IsOfStore fault
full_refused texts opts fault full =
    let sources = finite.entries texts in
    build_refused (within (limit_passed sources) (flows_of sources)) [] opts fault (within_refused (limit_passed sources) (flows_of sources) (flows_refused sources)) full

-- ---- its answer

abbrev pub IsWant : Answer → Type 0
IsWant answer.NoMemory = Unit {0}
IsWant _ = ⊥

pub wants : (a : Answer) → a ≡ answer.NoMemory → IsWant a
wants a e = subst IsWant (sym e) tt

answer_by : (fault : BuildFault) → ¬ IsOfStore fault → fault_answer fault ≢ answer.NoMemory
answer_by (build.Refused name refusal) so = λ e. wants (answer.Refused name refusal) e
answer_by (build.LinkRefused broken) so = λ e. wants (answer.LinkRefused broken) e
answer_by build.StoreFault so = λ e. so tt
answer_by build.NoMemory so = λ e. so tt

pub refusals_want_no_memory : (texts : Texts) (opts : Opts) (fault : BuildFault) → FullBuild texts opts (Err fault) → fault_answer fault ≢ answer.NoMemory
refusals_want_no_memory texts opts fault full = answer_by fault (full_refused texts opts fault full)
