-- A build that is done and a run behind it do together what `go` does.
use Rattle.std.proofs.Common.{◌≡◌, ℕ, ◌≤◌, List, [], ◌∷◌, ◌++◌, length, Option, Some, Result, Ok, Err, refl, sym, ap, ◌∙◌, subst, append-nil}
use Rattle.std.specs.FinMap as finite
use Rattle.pw_value.specs.Limits.{kept_limit}
use Rattle.pw_io.specs.Files.{Files, Told, prefix_of}
use Rattle.pw_image.specs.declared.image.Image.{Image}
use Rattle.pw_image.specs.Image.{Contents, IsImageFile}
use Rattle.pw_image.specs.Loading.{loaded_as}
use Rattle.pw_image.proofs.ImageLaws.{image_again}
use Rattle.pw_machine.specs.Core.{Core}
use Rattle.pw_machine.specs.Run.{Progress}
use Rattle.pw_machine.specs.Start.{image_start}
use Rattle.pw_store_modules.specs.FileNames.{image_name}
use Rattle.pw_store_modules.specs.Modules.{module_map}
use Rattle.pw_top_answer.specs.declared.answer.Answer.{Answer}
use Rattle.pw_top_answer.specs.declared.answer.Answer.TheVariants.{Done, ReadFault, WriteFault, StoreFault, NoMemory}
use Rattle.pw_top_answer.specs.Effects.{Effect, IsLeft, NamedFile, PutsFiles, after_all, after_file, after_puts}
use Rattle.pw_top_answer.specs.Outcomes.{Answers, LeavesInput, PutsOut}
use Rattle.pw_commands.specs.MachineRun.{ran}
use Rattle.pw_commands.specs.Needed.{counted_in, found_in, read_by}
use Rattle.pw_commands.specs.Outcome.{IsFound}
use Rattle.pw_commands.specs.Running.{core_at, core_in, run_effect, runs}
use Rattle.pw_law_session.specs.FromSession.FromBuild.BuildFault.{BuildFault}
use Rattle.pw_law_session.specs.FromSession.FromBuild.BuildFault.TheVariants as build
use Rattle.pw_law_session.specs.FromSession.FromBuildFiles.Building.{Outcome}
use Rattle.pw_law_session.specs.FromSession.FromBuildFiles.Seen.{SeenOutcome}
use Rattle.pw_law_session.specs.FromSession.FromBuildFiles.Genuine.{KeepsGenuine}
use Rattle.pw_law_session.specs.FromSession.FromBuildFiles.Outcomes.{fault_answer}
use Rattle.pw_law_session.specs.FromMeaning.Meaning.{Means}
use Rattle.pw_build_opts.specs.declared.opts.Opts.{Opts}
use Rattle.pw_build_opts.specs.declared.opts.RunOpts.{RunOpts}
use Rattle.pw_go.specs.Going.{GoEffect, GoOver, HasBuilt, ran_behind, run_from}
use Rattle.pw_top.specs.Behind.{DoesAsGo, HoldsShortImage, RunsBehindBuild}
use Rattle.pw_top.specs.Does.{Does}
use Rattle.pw_top.proofs.WholeLemmas.{BuildsAreFull, FullAt, full_at, go_whole}

-- ---- the run of an image that stands in its file

-- the law: a file that is no longer than what is asked for is read whole
abbrev pub Fronts : Type 0
Fronts = (most : ℕ) (bytes : List ℕ) → length bytes ≤ most → prefix_of most bytes ≡ bytes

core_stands : Fronts → (files : Files) (image : List ℕ) (c : Contents Image) → HoldsShortImage files → finite.get files image_name ≡ Some image → IsImageFile image c → core_in files ≡ Ok (image_start c.value.memory)
core_stands fronts files image c short stands is =
    ap (λ (file : Option (List ℕ)). read_by core_at image_name (counted_in image_name file)) stands
    ∙ (ap (λ (bytes : List ℕ). found_in image_name (core_at bytes)) (fronts kept_limit image (short image stands))
    ∙ ap (λ (read : Result (Contents Image) ℕ). found_in image_name (loaded_as (λ (v : Image). image_start v.memory) read)) (image_again image c is))

pub run_stands : Fronts → (files : Files) (image : List ℕ) (c : Contents Image) (budget : ℕ) (input : List ℕ) → HoldsShortImage files → finite.get files image_name ≡ Some image → IsImageFile image c
    → run_effect files budget input ≡ ran (run_from budget input c)
run_stands fronts files image c budget input short stands is = ap (λ (core : Result Core Answer). runs core budget input) (core_stands fronts files image c short stands is)

-- ---- a build that is done

abbrev IsDone : Answer → Type 0
IsDone Done = Unit {0}
IsDone _ = ⊥

not_done : (fault : BuildFault) → fault_answer fault ≡ Done → ⊥
not_done (build.Refused name refusal) e = subst IsDone (sym e) tt
not_done (build.LinkRefused fault) e = subst IsDone (sym e) tt
not_done build.StoreFault e = subst IsDone (sym e) tt
not_done build.NoMemory e = subst IsDone (sym e) tt

some_is : (a b : Told) → Some a ≡ Some b → a ≡ b
some_is a b e = cc

-- a build over genuine objects that is done, and the files that it left
pub record Built (opts : Opts) (told left : Told) : Type 0 where
  pub law : FullAt opts
  pub keeps : KeepsGenuine told.files
  pub fault : (fault : BuildFault) → SeenOutcome told.files opts (Err fault) → ⊥
  pub put : (outcome : Outcome) → SeenOutcome told.files opts (Ok outcome) → left ≡ after_puts told outcome.puts
  pub some : (outcome : Outcome) × SeenOutcome told.files opts (Ok outcome)

some_outcome : (files : Files) (opts : Opts) (comes : Result Outcome BuildFault) → ((fault : BuildFault) → SeenOutcome files opts (Err fault) → ⊥) → SeenOutcome files opts comes → (outcome : Outcome) × SeenOutcome files opts (Ok outcome)
some_outcome files opts (Ok outcome) none b = (outcome, b)
some_outcome files opts (Err fault) none b = absurd (none fault b)

pub built_of : (opts : Opts) → FullAt opts → (told left : Told) → KeepsGenuine told.files → HasBuilt opts Done told (Some left) → Built opts told left
built_of opts law told left keeps h =
    let none : (fault : BuildFault) → SeenOutcome told.files opts (Err fault) → ⊥ = λ fault b. not_done fault (h.answers (Err fault) b) in
    record {
      law = law;
      keeps = keeps;
      fault = none;
      put = λ outcome b. some_is left (after_puts told outcome.puts) (h.puts (Ok outcome) b);
      some = some_outcome told.files opts h.found.0 none h.found.1;
    }

-- its image stands there
pub stands : (opts : Opts) (told left : Told) → Built opts told left → (outcome : Outcome) → SeenOutcome told.files opts (Ok outcome) → finite.get left.files image_name ≡ Some outcome.image
stands opts told left built outcome b =
    subst (λ (t : Told). finite.get t.files image_name ≡ Some outcome.image) (sym (built.put outcome b)) (built.law told (Ok outcome) built.keeps b).3.1

-- ---- what `go` comes to is the run behind the build

record Behind (opts : RunOpts) (told left : Told) (input : List ℕ) (e : Effect) : Type 0 where
  pub puts : List NamedFile
  pub progress : Progress
  pub go : e ≡ ran_behind puts progress
  pub run : run_effect left.files opts.budget input ≡ ran progress
  pub put : left ≡ after_puts told puts

over_behind : Fronts → (opts : RunOpts) (told left : Told) (input : List ℕ) → Built opts.build told left → HoldsShortImage left.files → (comes : Result Outcome BuildFault) (e : Effect) → SeenOutcome told.files opts.build comes → GoOver opts.budget input comes e
    → Behind opts told left input e
over_behind fronts opts told left input built short (Ok outcome) e b over = record {
  puts = outcome.puts;
  progress = run_from opts.budget input over.0;
  go = over.2;
  run = run_stands fronts left.files outcome.image over.0 opts.budget input short (stands opts.build told left built outcome b) over.1;
  put = built.put outcome b;
}
over_behind fronts opts told left input built short (Err fault) e b over = absurd (built.fault fault b)

-- it comes to something
one_go : (opts : RunOpts) (told left : Told) (input : List ℕ) → Built opts.build told left → (e : Effect) × GoEffect told.files opts input e
one_go opts told left input built =
    let outcome = built.some.0 in
    let full = built.law told (Ok outcome) built.keeps built.some.1 in
    let means : Means (module_map full.0) opts.build outcome.image = full.2.1 in
    (ran_behind outcome.puts (run_from opts.budget input means.contents), (Ok outcome, built.some.1, (means.contents, means.file, refl)))

-- ---- what was put

abbrev IsNone : List NamedFile → Type 0
IsNone [] = Unit {0}
IsNone (file ∷ files) = ⊥

-- of no files nothing was put
part_of_none : (told : Told) (new : Option Told) (done more : List NamedFile) → [] ≡ done ++ more → IsLeft (after_all after_file told done) more new → new ≡ Some told
part_of_none told new [] [] split h = h
part_of_none told new [] (file ∷ more) split h = absurd (subst IsNone split tt)
part_of_none told new (file ∷ done) more split h = absurd (subst IsNone split tt)

prefix_of_none : (told : Told) (new : Option Told) (done more : List NamedFile) → [] ≡ done ++ more → new ≡ Some (after_all after_file told done) → new ≡ Some told
prefix_of_none told new [] more split h = h
prefix_of_none told new (file ∷ done) more split h = absurd (subst IsNone split tt)

none_put : (answer : Answer) (told : Told) (new : Option Told) → PutsFiles [] answer told new → new ≡ Some told
none_put StoreFault told new h = part_of_none told new h.done h.more h.split h.left
none_put NoMemory told new h = prefix_of_none told new h.done h.more h.split h.left
none_put _ told new h = h

all_put : (files : List NamedFile) (answer : Answer) (told : Told) (new : Option Told) → new ≡ Some (after_puts told files) → PutsFiles files answer told new
all_put files StoreFault told new e = record { done = files; more = []; split = sym (append-nil files); left = e }
all_put files NoMemory told new e = record { done = files; more = []; split = sym (append-nil files); left = e }
all_put files _ told new e = e

put_behind : (files : List NamedFile) (answer : Answer) (told left : Told) (new : Option Told) → left ≡ after_puts told files → PutsFiles [] answer left new → PutsFiles files answer told new
put_behind files answer told left new put h = all_put files answer told new (none_put answer left new h ∙ ap (λ (t : Told). Some t) put)

-- ---- what both did

found_as : (comes : Effect → Type 0) (answer : Answer) (run e : Effect) → comes e → e.answer ≡ run.answer → IsFound (λ x. x ≡ run) answer → IsFound comes answer
found_as comes ReadFault run e d same h = (e, d)
found_as comes WriteFault run e d same h = (e, d)
found_as comes StoreFault run e d same h = tt
found_as comes NoMemory run e d same h = tt
found_as comes _ run e d same h = (e, d, same ∙ (sym (ap (λ (x : Effect). x.answer) h.1) ∙ h.2))

go_of : Fronts → (opts : RunOpts) (told left : Told) (new : Option Told) (answer : Answer) (input : List ℕ) (input' taken taken' : Option (List ℕ)) → Built opts.build told left → HoldsShortImage left.files
    → Does (λ e. e ≡ run_effect left.files opts.budget input) answer left new input input' taken taken' → Does (GoEffect told.files opts input) answer told new input input' taken taken'
go_of fronts opts told left new answer input input' taken taken' built short d =
    let run = run_effect left.files opts.budget input in
    let behind : (e : Effect) → GoEffect told.files opts input e → Behind opts told left input e = λ e g. over_behind fronts opts told left input built short g.0 e g.1 g.2 in
    record {
      answers = λ e g. let h = behind e g in subst (λ (x : Effect). Answers x.answer answer) (sym h.go) (subst (λ (x : Effect). Answers x.answer answer) h.run (d.answers run refl));
      puts = λ e g. let h = behind e g in subst (λ (x : Effect). PutsFiles x.puts answer told new) (sym h.go) (put_behind h.puts answer told left new h.put (subst (λ (x : Effect). PutsFiles x.puts answer left new) h.run (d.puts run refl)));
      output = λ e g. let h = behind e g in subst (λ (x : Effect). PutsOut x.output answer taken taken') (sym h.go) (subst (λ (x : Effect). PutsOut x.output answer taken taken') h.run (d.output run refl));
      rest = λ e g. let h = behind e g in subst (λ (x : Effect). LeavesInput x.rest input answer input') (sym h.go) (subst (λ (x : Effect). LeavesInput x.rest input answer input') h.run (d.rest run refl));
      found =
          let one = one_go opts told left input built in
          let h = behind one.0 one.1 in
          found_as (GoEffect told.files opts input) answer run one.0 one.1 (ap (λ (x : Effect). x.answer) h.go ∙ sym (ap (λ (x : Effect). x.answer) h.run)) d.found;
    }

pub is_go : BuildsAreFull → Fronts → (opts : RunOpts) (answer : Answer) (told : Told) (new : Option Told) (input : List ℕ) (input' taken taken' : Option (List ℕ)) → RunsBehindBuild opts answer told new input input' taken taken' → DoesAsGo opts answer told new input input' taken taken'
is_go law fronts opts answer told new input input' taken taken' h =
    let full = full_at law opts.build h.are in
    let does = go_of fronts opts told h.left new answer input input' taken taken' (built_of opts.build full told h.left h.genuine h.built) h.short h.ran in
    (does, λ genuine. go_whole opts full answer told new input input' taken taken' does genuine)
