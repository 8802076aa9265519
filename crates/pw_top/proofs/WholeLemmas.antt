-- What a command that builds did where the kept objects are genuine.
use Rattle.std.proofs.Common.{◌≡◌, ℕ, List, Option, Some, None, Result, Ok, Err, refl, sym, ap, ◌∙◌, subst}
use Rattle.std.specs.Prelude.{IfSome}
use Rattle.pw_io.specs.Files.{Files, Told}
use Rattle.pw_store_modules.specs.Modules.{Texts, module_map}
use Rattle.pw_top_answer.specs.declared.answer.Answer.{Answer}
use Rattle.pw_top_answer.specs.declared.answer.Answer.TheVariants.{StoreFault, NoMemory}
use Rattle.pw_top_answer.specs.Effects.{Effect, after_puts}
use Rattle.pw_top_answer.specs.Outcomes.{Answers, LeavesInput, PutsOut}
use Rattle.pw_law_session.specs.FromSession.FromBuild.BuildFault.{BuildFault}
use Rattle.pw_law_session.specs.FromSession.FromBuildFiles.Building.{Outcome}
use Rattle.pw_law_session.specs.FromSession.FromBuildFiles.Seen.{SeenOutcome}
use Rattle.pw_law_session.specs.FromSession.FromBuildFiles.Genuine.{KeepsGenuine}
use Rattle.pw_law_session.specs.FromSession.FromBuildFiles.Outcomes.{AreOpts}
use Rattle.pw_law_session.specs.FromSession.FromBuildFiles.Driving.{BuildEffect, built_effect}
use Rattle.pw_go.specs.Going.{GoEffect, GoOver}
use Rattle.pw_commands_interp.specs.Interpreting.{InterpEffect, InterpsInFull}
use Rattle.pw_law_session.specs.FromSession.Bench.{BenchEffect}
use Rattle.pw_build_opts.specs.declared.opts.Opts.{Opts}
use Rattle.pw_law_session.specs.Whole.{IsBuiltInFull, LeavesFull}
use Rattle.pw_law_session.specs.Full.{BenchBuildsInFull, SessionBuildsInFull}
use Rattle.pw_build_opts.specs.declared.opts.RunOpts.{RunOpts}
use Rattle.pw_top_words.specs.declared.commands.Command.{Command}
use Rattle.pw_top_words.specs.declared.commands.Command.TheVariants.{Go, Build as BuildAll, Interp, Session, Bench}
use Rattle.pw_top_words.specs.Limits.{IsWithin}
use Rattle.pw_top.specs.Commands.{BuildsWhole}
use Rattle.pw_top.specs.Does.{Does, DoesAs}
use Rattle.pw_top.specs.Whole.{BenchesFull, ComesInFull, IfMade, InterpretsFull, ReportsFull, RunsFull}

-- ---- the laws

abbrev pub BuildsAreFull : Type 0
BuildsAreFull = (told : Told) (opts : Opts) (comes : Result Outcome BuildFault) → AreOpts opts → KeepsGenuine told.files → SeenOutcome told.files opts comes → IsBuiltInFull told opts comes

abbrev pub SessionsAreFull : Type 0
SessionsAreFull = (opts : RunOpts) (told : Told) (script : List ℕ) → AreOpts opts.build → KeepsGenuine told.files → SessionBuildsInFull opts told script

abbrev pub BenchesAreFull : Type 0
BenchesAreFull = (number : ℕ) (opts : RunOpts) (input : List ℕ) (effect : Effect) → AreOpts opts.build → BenchEffect number opts input effect → BenchBuildsInFull number opts input effect

abbrev pub InterpsAreFull : Type 0
InterpsAreFull = (files : Files) (opts : RunOpts) (input : List ℕ) (effect : Effect) → KeepsGenuine files → InterpEffect files opts input effect → InterpsInFull files opts input effect

-- those of builds, of some options
abbrev pub FullAt : Opts → Type 0
FullAt opts = (told : Told) (comes : Result Outcome BuildFault) → KeepsGenuine told.files → SeenOutcome told.files opts comes → IsBuiltInFull told opts comes

pub full_at : BuildsAreFull → (opts : Opts) → AreOpts opts → FullAt opts
full_at law opts are told comes keeps h = law told opts comes are keeps h

-- ---- one effect

left_full : (opts : Opts) (texts : Texts) (told : Told) (new one : Option Told) (full : Result (List ℕ) BuildFault) → new ≡ one → LeavesFull texts opts full told one → LeavesFull texts opts full told new
left_full opts texts told new one full e h = subst (λ (o : Option Told). LeavesFull texts opts full told o) (sym e) h

-- `build`
built_full : (opts : Opts) → FullAt opts → (comes : Result Outcome BuildFault) (told : Told) (new : Option Told) (input : List ℕ) (taken taken' : Option (List ℕ)) (answer : Answer) (e : Effect) → KeepsGenuine told.files → SeenOutcome told.files opts comes
    → e ≡ built_effect comes input → Answers e.answer answer → new ≡ Some (after_puts told e.puts) → PutsOut e.output answer taken taken' → ComesInFull opts told new (λ full. ReportsFull full answer taken taken')
built_full opts law (Ok outcome) told new input taken taken' answer e keeps h is a put out =
    let full = law told (Ok outcome) keeps h in (
      full.0,
      full.1,
      Ok outcome.image,
      full.2,
      (outcome, refl, subst (λ (x : Effect). Answers x.answer answer) is a, subst (λ (x : Effect). PutsOut x.output answer taken taken') is out),
      left_full opts (module_map full.0) told new (Some (after_puts told outcome.puts)) (Ok outcome.image) (put ∙ ap (λ (x : Effect). Some (after_puts told x.puts)) is) full.3,
    )
built_full opts law (Err fault) told new input taken taken' answer e keeps h is a put out =
    let full = law told (Err fault) keeps h in (
      full.0,
      full.1,
      Err fault,
      full.2,
      (subst (λ (x : Effect). Answers x.answer answer) is a, subst (λ (x : Effect). PutsOut x.output answer taken taken') is out),
      put ∙ ap (λ (x : Effect). Some (after_puts told x.puts)) is,
    )

-- `go`
ran_full : (opts : Opts) (budget : ℕ) → FullAt opts → (comes : Result Outcome BuildFault) (told : Told) (new : Option Told) (input : List ℕ) (input' taken taken' : Option (List ℕ)) (answer : Answer) (e : Effect) → KeepsGenuine told.files → SeenOutcome told.files opts comes
    → GoOver budget input comes e → Answers e.answer answer → new ≡ Some (after_puts told e.puts) → PutsOut e.output answer taken taken' → LeavesInput e.rest input answer input'
    → ComesInFull opts told new (λ full. RunsFull budget input full answer input' taken taken')
ran_full opts budget law (Ok outcome) told new input input' taken taken' answer e keeps h over a put out left =
    let full = law told (Ok outcome) keeps h in
    let is = over.2 in (
      full.0,
      full.1,
      Ok outcome.image,
      full.2,
      (
        over.0,
        over.1,
        subst (λ (x : Effect). Answers x.answer answer) is a,
        subst (λ (x : Effect). PutsOut x.output answer taken taken') is out,
        subst (λ (x : Effect). LeavesInput x.rest input answer input') is left,
      ),
      left_full opts (module_map full.0) told new (Some (after_puts told outcome.puts)) (Ok outcome.image) (put ∙ ap (λ (x : Effect). Some (after_puts told x.puts)) is) full.3,
    )
ran_full opts budget law (Err fault) told new input input' taken taken' answer e keeps h is a put out left =
    let full = law told (Err fault) keeps h in (
      full.0,
      full.1,
      Err fault,
      full.2,
      (subst (λ (x : Effect). Answers x.answer answer) is a, subst (λ (x : Effect). PutsOut x.output answer taken taken') is out),
      put ∙ ap (λ (x : Effect). Some (after_puts told x.puts)) is,
    )

-- ---- the commands, by their answers

build_whole : (opts : Opts) → FullAt opts → (answer : Answer) (told : Told) (new : Option Told) (input : List ℕ) (rest taken taken' : Option (List ℕ)) → Does (BuildEffect told.files opts input) answer told new input rest taken taken' → KeepsGenuine told.files
    → IfMade answer (ComesInFull opts told new (λ full. ReportsFull full answer taken taken'))
build_whole opts law StoreFault told new input rest taken taken' d keeps = tt
build_whole opts law NoMemory told new input rest taken taken' d keeps = tt
build_whole opts law _ told new input rest taken taken' d keeps =
    let c = d.found.1 in
    built_full opts law c.0 told new input taken taken' _ d.found.0 keeps c.1 c.2 (d.answers d.found.0 c) (d.puts d.found.0 c) (d.output d.found.0 c)

pub go_whole : (opts : RunOpts) → FullAt opts.build → (answer : Answer) (told : Told) (new : Option Told) (input : List ℕ) (rest taken taken' : Option (List ℕ)) → Does (GoEffect told.files opts input) answer told new input rest taken taken' → KeepsGenuine told.files
    → IfMade answer (ComesInFull opts.build told new (λ full. RunsFull opts.budget input full answer rest taken taken'))
go_whole opts law StoreFault told new input rest taken taken' d keeps = tt
go_whole opts law NoMemory told new input rest taken taken' d keeps = tt
go_whole opts law _ told new input rest taken taken' d keeps =
    let c = d.found.1 in
    ran_full opts.build opts.budget law c.0 told new input rest taken taken' _ d.found.0 keeps c.1 c.2 (d.answers d.found.0 c) (d.puts d.found.0 c) (d.output d.found.0 c) (d.rest d.found.0 c)

bench_whole : BenchesAreFull → (number : ℕ) (opts : RunOpts) → AreOpts opts.build → (answer : Answer) (told : Told) (new : Option Told) (input : List ℕ) (rest taken taken' : Option (List ℕ)) → Does (BenchEffect number opts input) answer told new input rest taken taken'
    → IfMade answer (BenchesFull number opts input answer taken taken')
bench_whole law number opts are StoreFault told new input rest taken taken' d = tt
bench_whole law number opts are NoMemory told new input rest taken taken' d = tt
bench_whole law number opts are _ told new input rest taken taken' d =
    let c = d.found.1 in (d.found.0, law number opts input d.found.0 are c, d.answers d.found.0 c, d.output d.found.0 c)

-- `interp`
interp_whole : InterpsAreFull → (opts : RunOpts) (answer : Answer) (told : Told) (new : Option Told) (input : List ℕ) (rest taken taken' : Option (List ℕ)) → Does (InterpEffect told.files opts input) answer told new input rest taken taken' → KeepsGenuine told.files
    → IfMade answer (InterpretsFull told.files opts input answer rest taken taken')
interp_whole law opts StoreFault told new input rest taken taken' d keeps = tt
interp_whole law opts NoMemory told new input rest taken taken' d keeps = tt
interp_whole law opts _ told new input rest taken taken' d keeps =
    let c = d.found.1 in (d.found.0, law told.files opts input d.found.0 keeps c, d.answers d.found.0 c, d.output d.found.0 c, d.rest d.found.0 c)

-- the numbers of the command lie within their limits
abbrev pub AreWithin : Option Command → Type 0
AreWithin None = Unit {0}
AreWithin (Some command) = IsWithin command

whole_of : BuildsAreFull → InterpsAreFull → SessionsAreFull → BenchesAreFull → (command : Option Command) (answer : Answer) (told : Told) (new : Option Told) (input : List ℕ) (rest taken taken' : Option (List ℕ)) → AreWithin command → DoesAs command answer told new input rest taken taken' → BuildsWhole command answer told new input rest taken taken'
whole_of law interps sessions benches (Some (BuildAll opts)) answer told new input rest taken taken' w d =
    λ keeps. build_whole opts (full_at law opts w) answer told new input rest taken taken' d keeps
whole_of law interps sessions benches (Some (Go opts)) answer told new input rest taken taken' w d =
    λ keeps. go_whole opts (full_at law opts.build w) answer told new input rest taken taken' d keeps
whole_of law interps sessions benches (Some (Session opts)) answer told new input rest taken taken' w d = λ keeps. sessions opts told input w keeps
whole_of law interps sessions benches (Some (Bench number opts)) answer told new input rest taken taken' w d = bench_whole benches number opts w answer told new input rest taken taken' d
whole_of law interps sessions benches (Some (Interp opts)) answer told new input rest taken taken' w d = λ keeps. interp_whole interps opts answer told new input rest taken taken' d keeps
whole_of law interps sessions benches command answer told new input rest taken taken' w d = tt

pub builds_whole : BuildsAreFull → InterpsAreFull → SessionsAreFull → BenchesAreFull → (command : Option Command) (first new : Option Told) (old rest taken taken' : Option (List ℕ)) (answer : Answer) → AreWithin command
    → IfSome first (λ t. IfSome old (λ input. DoesAs command answer t new input rest taken taken')) → IfSome first (λ t. IfSome old (λ input. BuildsWhole command answer t new input rest taken taken'))
builds_whole law interps sessions benches command None new old rest taken taken' answer w d = tt
builds_whole law interps sessions benches command (Some t) new None rest taken taken' answer w d = tt
builds_whole law interps sessions benches command (Some t) new (Some input) rest taken taken' answer w d = whole_of law interps sessions benches command answer t new input rest taken taken' w d

-- a command that the words say lies within its limits
pub are_within : (command : Option Command) → ((one : Command) → command ≡ Some one → IsWithin one) → AreWithin command
are_within None h = tt
are_within (Some command) h = h command refl
