-- No refusal of modules is for want of memory.
use Rattle.std.proofs.Common.{◌≡◌, ℕ, Bool, true, false, cond, List, [], ◌∷◌, length, Option, Some, None, Result, Ok, Err, refl, sym, subst}
use Rattle.std.specs.Prelude.{IfErr, nat_lt}
use Rattle.pw_io.specs.declared.StoreError.{StoreError}
use Rattle.pw_io.specs.declared.StoreError.TheVariants as store
use Rattle.pw_value.specs.Limits.{module_limit}
use Rattle.pw_value.specs.declared.fault.LinkFault.{LinkFault}
use Rattle.pw_value.specs.declared.fault.LinkFault.TheVariants as link
use Rattle.pw_value.specs.declared.fault.What.{What}
use Rattle.pw_value.specs.declared.fault.What.TheVariants.{Modules}
use Rattle.pw_front_end.specs.Fronts.{HoldsNoWant}
use Rattle.pw_front_end.specs.declared.refusal.Refusal.{Refusal}
use Rattle.pw_flow.specs.declared.flow.FlowModule.{FlowModule}
use Rattle.pw_store_modules.specs.Modules.{Source}
use Rattle.pw_build.specs.FromPhaseOne.FirstPhase.{Phase, compiled}
use Rattle.pw_build.specs.declared.fault.BuildFault.{BuildFault}
use Rattle.pw_build.specs.declared.fault.BuildFault.TheVariants as build
use Rattle.pw_build.specs.declared.fault.Unbuilt.{Unbuilt}
use Rattle.pw_build.specs.Builds.{before_others, first_phases, flows_of, limit_passed, within}
use Rattle.pw_build.specs.Phases.{FaultsAs}
use Rattle.pw_build.specs.Stores.{store_fault}
use Rattle.pw_build_files.specs.Programs.{IsNoWant}

pub many_no_want : (what : What) (count : ℕ) → IsNoWant (build.LinkRefused (link.TooMany what count))
many_no_want what count = λ e. cc

pub stored_no_want : (error : StoreError) (fault : BuildFault) → fault ≡ store_fault error → IsNoWant fault
stored_no_want store.Failed fault e = subst IsNoWant (sym e) tt
stored_no_want store.NoMemory fault e = subst IsNoWant (sym e) tt

pub none_no_want : (fault : BuildFault) → fault ≡ build.NoMemory → IsNoWant fault
none_no_want fault e = subst IsNoWant (sym e) tt

pub err_proper : {T : Type 0} (r : Result T Unbuilt) (unbuilt : Unbuilt) → r ≡ Err unbuilt → IsNoWant unbuilt.fault → IfErr r (λ u. IsNoWant u.fault)
err_proper r unbuilt e h = subst (λ (x : Result _ Unbuilt). IfErr x (λ u. IsNoWant u.fault)) (sym e) h

-- ---- the first phases

abbrev NoPhaseWants : Type 0
NoPhaseWants = (name text : List ℕ) (refusal : Refusal) → compiled name text ≡ Err refusal → HoldsNoWant refusal

abbrev IsProper : Result (List FlowModule) BuildFault → Type 0
IsProper (Ok flows) = Unit {0}
IsProper (Err fault) = IsNoWant fault

before_proper : (name text : List ℕ) (phase : Phase) (others : Result (List FlowModule) BuildFault) → ((refusal : Refusal) → phase ≡ Err refusal → HoldsNoWant refusal) → IsProper others → IsProper (before_others name phase others)
before_proper name text (Err refusal) others law h = law refusal refl
before_proper name text (Ok flow) (Err fault) law h = h
before_proper name text (Ok flow) (Ok flows) law h = tt

flows_proper : NoPhaseWants → (sources : List Source) → IsProper (flows_of sources)
flows_proper law [] = tt
flows_proper law (source ∷ sources) = before_proper source.0 source.1 (compiled source.0 source.1) (flows_of sources) (λ refusal e. law source.0 source.1 refusal e) (flows_proper law sources)

abbrev IsProperLimit : Option LinkFault → Type 0
IsProperLimit None = Unit {0}
IsProperLimit (Some fault) = IsNoWant (build.LinkRefused fault)

limit_by : (sources : List Source) (b : Bool) → IsProperLimit (cond b (Some (link.TooMany Modules (length sources))) None)
limit_by sources true = many_no_want Modules (length sources)
limit_by sources false = tt

limit_proper : (sources : List Source) → IsProperLimit (limit_passed sources)
limit_proper sources = limit_by sources (nat_lt module_limit (length sources))

within_proper : (limit : Option LinkFault) (flows : Result (List FlowModule) BuildFault) → IsProperLimit limit → IsProper flows → IsProper (within limit flows)
within_proper None flows a b = b
within_proper (Some fault) flows a b = a

faults_proper : (wanted : Result (List FlowModule) BuildFault) (fault : BuildFault) → IsProper wanted → FaultsAs wanted fault → IsNoWant fault
faults_proper wanted build.StoreFault proper h = tt
faults_proper wanted build.NoMemory proper h = tt
faults_proper wanted (build.Refused name refusal) proper h = subst IsProper h proper
faults_proper wanted (build.LinkRefused fault) proper h = subst IsProper h proper

pub phases_no_want : NoPhaseWants → (sources : List Source) (fault : BuildFault) → FaultsAs (first_phases sources) fault → IsNoWant fault
phases_no_want law sources fault h = faults_proper (first_phases sources) fault (within_proper (limit_passed sources) (flows_of sources) (limit_proper sources) (flows_proper law sources)) h
