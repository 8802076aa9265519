-- Modules and what was kept of them come to one answer, and so many objects of theirs are made anew. Where the second
-- phase made what was kept, the answer is the full build's.
use Rattle.std.proofs.Common.{◌≡◌, ℕ, ◌≤◌, List, [], Option, Result, Ok, Err, refl, sym, ap, ◌∙◌}
use Rattle.std.specs.List.{AllByRecursion}
use Rattle.pw_value.specs.declared.fault.LinkFault.{LinkFault}
use Rattle.pw_flow.specs.declared.flow.FlowModule.{FlowModule}
use Rattle.pw_store_modules.specs.Modules.{Source}
use Rattle.pw_object.specs.declared.object.Object.{Object}
use Rattle.pw_build_objects.specs.Programs.{Completes, Parts}
use Rattle.pw_build_objects.specs.Counting.{MakesAnew}
use Rattle.pw_build_objects.specs.Kept.{IsGenuineIfKept, anew}
use Rattle.pw_build.specs.declared.fault.BuildFault.{BuildFault}
use Rattle.pw_build.specs.declared.fault.BuildFault.TheVariants.{Refused, LinkRefused, StoreFault, NoMemory}
use Rattle.pw_build.specs.Builds.{Builds, BuildsAnew, BuildsBy, CompletesAs, MakesBy, first_phases}
use Rattle.pw_build.specs.Full.{built_anew}
use Rattle.pw_db.specs.Limits.{colour_limit}
use Rattle.pw_build_opts.specs.declared.opts.Opts.{Opts}

abbrev pub OneAnswer : Type 0
OneAnswer = (flows : List FlowModule) (kept : List (Option Object)) (opts : Opts) (a b : Result Parts LinkFault) → opts.colours ≤ colour_limit → Completes flows kept opts a → Completes flows kept opts b → a ≡ b

-- an answer to flow graphs, as one to a build
abbrev as_build : Result Parts LinkFault → Result Parts BuildFault
as_build (Ok parts) = Ok parts
as_build (Err fault) = Err (LinkRefused fault)

answered : (flows : List FlowModule) (kept : List (Option Object)) (opts : Opts) (a : Result Parts BuildFault) → CompletesAs flows kept opts a → (x : Result Parts LinkFault) × Completes flows kept opts x × (as_build x ≡ a)
answered flows kept opts (Ok parts) h = (Ok parts, h, refl)
answered flows kept opts (Err (LinkRefused fault)) h = (Err fault, h, refl)
answered flows kept opts (Err (Refused name refusal)) h = absurd h
answered flows kept opts (Err StoreFault) h = absurd h
answered flows kept opts (Err NoMemory) h = absurd h

one_by : OneAnswer → (flows : Result (List FlowModule) BuildFault) (kept : List (Option Object)) (opts : Opts) (a b : Result Parts BuildFault) → opts.colours ≤ colour_limit → BuildsBy flows kept opts a → BuildsBy flows kept opts b → a ≡ b
one_by one (Err fault) kept opts a b few x y = x ∙ sym y
one_by one (Ok flows) kept opts a b few x y =
    let p = answered flows kept opts a x in
    let q = answered flows kept opts b y in
    sym p.2 ∙ ap as_build (one flows kept opts p.0 q.0 few p.1 q.1) ∙ q.2

pub one_build : OneAnswer → (sources : List Source) (kept : List (Option Object)) (opts : Opts) (a b : Result Parts BuildFault) → opts.colours ≤ colour_limit → Builds sources kept opts a → Builds sources kept opts b → a ≡ b
one_build one sources kept opts a b few x y = one_by one (first_phases sources) kept opts a b few x y

abbrev pub OneCount : Type 0
OneCount = (flows : List FlowModule) (kept : List (Option Object)) (opts : Opts) (made other : ℕ) → opts.colours ≤ colour_limit → MakesAnew flows kept opts made → MakesAnew flows kept opts other → made ≡ other

counted_by : OneCount → (flows : Result (List FlowModule) BuildFault) (kept : List (Option Object)) (opts : Opts) (made other : ℕ) → opts.colours ≤ colour_limit → MakesBy flows kept opts made → MakesBy flows kept opts other → made ≡ other
counted_by one (Err fault) kept opts made other few x y = x ∙ sym y
counted_by one (Ok flows) kept opts made other few x y = one flows kept opts made other few x y

pub one_count : OneCount → (sources : List Source) (kept : List (Option Object)) (opts : Opts) (made other : ℕ) → opts.colours ≤ colour_limit → BuildsAnew sources kept opts made → BuildsAnew sources kept opts other → made ≡ other
one_count one sources kept opts made other few x y = counted_by one (first_phases sources) kept opts made other few x y

abbrev pub ChangeNothing : Type 0
ChangeNothing = (flows : List FlowModule) (kept : List (Option Object)) (opts : Opts) (a : Result Parts LinkFault) → AllByRecursion IsGenuineIfKept kept → Completes flows kept opts a → Completes flows [] opts (anew a)

anew_by : ChangeNothing → (flows : Result (List FlowModule) BuildFault) (kept : List (Option Object)) (opts : Opts) (a : Result Parts BuildFault) → AllByRecursion IsGenuineIfKept kept → BuildsBy flows kept opts a → BuildsBy flows [] opts (built_anew a)
anew_by same (Err fault) kept opts a all h = ap built_anew h
anew_by same (Ok flows) kept opts (Ok parts) all h = same flows kept opts (Ok parts) all h
anew_by same (Ok flows) kept opts (Err (LinkRefused fault)) all h = same flows kept opts (Err fault) all h
anew_by same (Ok flows) kept opts (Err (Refused name refusal)) all h = absurd h
anew_by same (Ok flows) kept opts (Err StoreFault) all h = absurd h
anew_by same (Ok flows) kept opts (Err NoMemory) all h = absurd h

pub full_build : ChangeNothing → (sources : List Source) (kept : List (Option Object)) (opts : Opts) (a : Result Parts BuildFault) → AllByRecursion IsGenuineIfKept kept → Builds sources kept opts a → Builds sources [] opts (built_anew a)
full_build same sources kept opts a all h = anew_by same (first_phases sources) kept opts a all h
