-- How many objects are counted where a fault is answered.
use Rattle.std.proofs.Common.{◌≡◌, ◌⊎◌, inl, inr, arith, ℕ, List, Option, Some, None, Result, Ok, refl, sym, subst}
use Rattle.std.specs.Prelude.{IfSome}
use Rattle.pw_io.specs.Files.{Told}
use Rattle.pw_io.specs.declared.StoreError.{StoreError}
use Rattle.pw_value.specs.declared.fault.LinkFault.{LinkFault}
use Rattle.pw_flow.specs.declared.flow.FlowModule.{FlowModule}
use Rattle.pw_object.specs.declared.object.Object.{Object}
use Rattle.pw_build_objects.specs.Counting.{CountsAnew}
use Rattle.pw_store_modules.specs.Modules.{Source}
use Rattle.pw_build.specs.declared.fault.BuildFault.{BuildFault}
use Rattle.pw_build.specs.declared.fault.BuildFault.TheVariants as build
use Rattle.pw_build.specs.Builds.{MakesBy, first_phases}
use Rattle.pw_build.specs.Phases.{FaultsAs}
use Rattle.pw_build.specs.Stores.{store_fault}
use Rattle.pw_build_files.specs.Programs.{IsCounted}
use Rattle.pw_build_opts.specs.declared.opts.Opts.{Opts}
use Rattle.pw_build_files.proofs.ProgramLemmas.{stored}

-- none, where the first phases refuse
phases_told : (sources : List Source) (kept : List (Option Object)) (opts : Opts) (n : ℕ) (fault : BuildFault) → FaultsAs (first_phases sources) fault → IsCounted sources kept opts fault n n
phases_told sources kept opts n build.StoreFault h = tt
phases_told sources kept opts n build.NoMemory h = tt
phases_told sources kept opts n (build.Refused name refusal) h = (0, subst (λ (r : Result (List FlowModule) BuildFault). MakesBy r kept opts 0) (sym h) refl, omega arith)
phases_told sources kept opts n (build.LinkRefused fault) h = (0, subst (λ (r : Result (List FlowModule) BuildFault). MakesBy r kept opts 0) (sym h) refl, omega arith)

pub phases_counted : (sources : List Source) (kept : Told → List (Option Object)) (opts : Opts) (n : ℕ) (first : Option Told) (fault : BuildFault) → FaultsAs (first_phases sources) fault → IfSome first (λ told. IsCounted sources (kept told) opts fault n n)
phases_counted sources kept opts n None fault h = tt
phases_counted sources kept opts n (Some told) fault h = phases_told sources (kept told) opts n fault h

-- those that were made, where linking refuses
made_told : (sources : List Source) (flows : List FlowModule) (kept all : List (Option Object)) (opts : Opts) (before now : ℕ) (fault : LinkFault) → first_phases sources ≡ Ok flows → kept ≡ all → CountsAnew flows kept opts before now → IsCounted sources all opts (build.LinkRefused fault) before now
made_told sources flows kept all opts before now fault phases same h = (
  h.0,
  subst (λ (r : Result (List FlowModule) BuildFault). MakesBy r all opts h.0) (sym phases) (subst (λ (k : List (Option Object)). MakesBy (Ok flows) k opts h.0) same h.1),
  h.2,
)

pub made_counted : (sources : List Source) (flows : List FlowModule) (kept : List (Option Object)) (all : Told → List (Option Object)) (opts : Opts) (before now : ℕ) (fault : LinkFault) (first : Option Told) → first_phases sources ≡ Ok flows → IfSome first (λ told. kept ≡ all told)
    → CountsAnew flows kept opts before now → IfSome first (λ told. IsCounted sources (all told) opts (build.LinkRefused fault) before now)
made_counted sources flows kept all opts before now fault None phases same h = tt
made_counted sources flows kept all opts before now fault (Some told) phases same h = made_told sources flows kept (all told) opts before now fault phases same h

pub not_want : {P Q : Type 0} → (P → ⊥) → P ⊎ Q → Q
not_want none (inl p) = absurd (none p)
not_want none (inr q) = q

-- a fault of the store, or want of memory
pub none_counted : (sources : List Source) (kept : Told → List (Option Object)) (opts : Opts) (before now : ℕ) (first : Option Told) (fault : BuildFault) → (fault ≡ build.StoreFault) ⊎ (fault ≡ build.NoMemory) → IfSome first (λ told. IsCounted sources (kept told) opts fault before now)
none_counted sources kept opts before now None fault h = tt
none_counted sources kept opts before now (Some told) fault (inl e) = subst (λ (f : BuildFault). IsCounted sources (kept told) opts f before now) (sym e) tt
none_counted sources kept opts before now (Some told) fault (inr e) = subst (λ (f : BuildFault). IsCounted sources (kept told) opts f before now) (sym e) tt

pub store_counted : (sources : List Source) (kept : Told → List (Option Object)) (opts : Opts) (before now : ℕ) (first : Option Told) (error : StoreError) (fault : BuildFault) → fault ≡ store_fault error → IfSome first (λ told. IsCounted sources (kept told) opts fault before now)
store_counted sources kept opts before now first error fault e = none_counted sources kept opts before now first fault (stored error fault e)
