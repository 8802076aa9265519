-- What a build answered and put, by the one outcome to which it comes.
use Rattle.std.proofs.Common.{◌≡◌, ℕ, ◌≤◌, List, [], ◌∷◌, ◌++◌, Option, Some, None, Result, Ok, Err, refl, sym, ap, ◌∙◌, subst, append-nil}
use Rattle.std.specs.Prelude.{IfErr, IfOk, IfSome}
use Rattle.std.specs.List.{AllByRecursion}
use Rattle.pw_io.specs.Files.{Files, Told, Keeps}
use Rattle.pw_io.specs.declared.StoreError.{StoreError}
use Rattle.pw_io.specs.declared.StoreError.TheVariants as store
use Rattle.pw_top_answer.specs.declared.answer.Answer.{Answer}
use Rattle.pw_top_answer.specs.Effects.{NamedFile, PutsFiles, PutPart, PutPrefix, after_puts}
use Rattle.pw_build_files.specs.FromBuild.BuildFault.{BuildFault}
use Rattle.pw_build_files.specs.FromBuild.BuildFault.TheVariants as build
use Rattle.pw_build_files.specs.FromBuild.Unbuilt.{Unbuilt}
use Rattle.pw_build_files.specs.FromBuild.Stores.{store_fault}
use Rattle.pw_build_files.specs.declared.report.Report.{Report}
use Rattle.pw_build_opts.specs.declared.opts.Opts.{Opts}
use Rattle.pw_build_files.specs.Building.{Outcome, puts_of}
use Rattle.pw_build_files.specs.Seen.{SeenOutcome}
use Rattle.pw_build_files.specs.Genuine.{IsBuiltName, IsOwnFile}
use Rattle.pw_build_objects.specs.Programs.{WasMade}
use Rattle.pw_build_files.specs.Outcomes.{AreBuilt, FaultFound, HoldsImage, ObeysBuild, IsOfStore, PutsSome, Reports, build_answer, fault_answer}
use Rattle.pw_store_kept.specs.Files.{put_answer}
use Rattle.pw_store_kept.proofs.PutLemmas.{none_left}
use Rattle.pw_db.specs.Limits.{colour_limit}

abbrev pub OneBuild : Type 0
OneBuild = (files : Files) (opts : Opts) (a b : Result Outcome BuildFault) → opts.colours ≤ colour_limit → SeenOutcome files opts a → SeenOutcome files opts b → a ≡ b

-- ---- all was put

obeys_all_told : OneBuild → (opts : Opts) → opts.colours ≤ colour_limit → (outcome : Outcome) (report : Report) (told : Told) (new : Option Told) → SeenOutcome told.files opts (Ok outcome) → Reports outcome report → new ≡ Some (after_puts told outcome.puts) → ObeysBuild opts (Ok report) told new
obeys_all_told one opts few outcome report told new comes reports puts = record {
  answers = λ c h. (outcome, one told.files opts c (Ok outcome) few h comes, reports);
  puts = λ c h. puts ∙ ap (λ (x : Result Outcome BuildFault). Some (after_puts told (puts_of x))) (sym (one told.files opts c (Ok outcome) few h comes));
  found = (outcome, comes, reports);
}

-- the image that is reported is the outcome's
pub reported_image : (outcome : Outcome) (result : Result Report Unbuilt) → IfOk result (λ report. Reports outcome report) → HoldsImage outcome.image → IfOk result (λ report. HoldsImage report.image.items)
reported_image outcome (Ok report) reports h = subst HoldsImage (sym reports.image) h
reported_image outcome (Err unbuilt) reports h = tt

-- and the objects that are reported are its objects
pub reported_objects : (outcome : Outcome) (result : Result Report Unbuilt) → IfOk result (λ report. Reports outcome report) → AllByRecursion WasMade outcome.linked_objects → IfOk result (λ report. AllByRecursion WasMade report.objects.items)
reported_objects outcome (Ok report) reports h = subst (AllByRecursion WasMade) (sym reports.objects) h
reported_objects outcome (Err unbuilt) reports h = tt

-- ---- the store failed or memory ran out while files were put

stopped_told : OneBuild → (opts : Opts) → opts.colours ≤ colour_limit → (outcome : Outcome) (fault : BuildFault) (line : Option ℕ) (told : Told) (new : Option Told) → SeenOutcome told.files opts (Ok outcome) → IsOfStore fault → PutsFiles outcome.puts (fault_answer fault) told new →
    ObeysBuild opts (Err (record { fault = fault; line = line })) told new
stopped_told one opts few outcome build.StoreFault line told new comes of puts = record {
  answers = λ c h. tt;
  puts = λ c h. subst (λ (x : Result Outcome BuildFault). PutPart told (puts_of x) new) (sym (one told.files opts c (Ok outcome) few h comes)) puts;
  found = tt;
}
stopped_told one opts few outcome build.NoMemory line told new comes of puts = record {
  answers = λ c h. tt;
  puts = λ c h. subst (λ (x : Result Outcome BuildFault). PutPrefix told (puts_of x) new) (sym (one told.files opts c (Ok outcome) few h comes)) puts;
  found = tt;
}
stopped_told one opts few outcome (build.Refused name refusal) line told new comes of puts = absurd of
stopped_told one opts few outcome (build.LinkRefused fault) line told new comes of puts = absurd of

-- ---- whatever came of the puts

by_result : OneBuild → (opts : Opts) → opts.colours ≤ colour_limit → (outcome : Outcome) (result : Result Report Unbuilt) (told : Told) (new : Option Told) → SeenOutcome told.files opts (Ok outcome) → IfOk result (λ report. Reports outcome report) → IfErr result (λ unbuilt. IsOfStore unbuilt.fault)
    → PutsFiles outcome.puts (build_answer result) told new → ObeysBuild opts result told new
by_result one opts few outcome (Ok report) told new comes reports of puts = obeys_all_told one opts few outcome report told new comes reports puts
by_result one opts few outcome (Err unbuilt) told new comes reports of puts = stopped_told one opts few outcome unbuilt.fault unbuilt.line told new comes of puts

pub obeys_put : OneBuild → (opts : Opts) → opts.colours ≤ colour_limit → (outcome : Outcome) (result : Result Report Unbuilt) (first now new : Option Told) → IfSome first (λ told. SeenOutcome told.files opts (Ok outcome)) → Keeps first now → IfOk result (λ report. Reports outcome report)
    → IfErr result (λ unbuilt. IsOfStore unbuilt.fault) → IfSome now (λ told. PutsFiles outcome.puts (build_answer result) told new) → IfSome first (λ told. ObeysBuild opts result told new)
obeys_put one opts few outcome result None now new comes same reports of puts = tt
obeys_put one opts few outcome result (Some told) now new comes same reports of puts =
    let P : Option Told → Type 0 = λ o. IfSome o (λ t. PutsFiles outcome.puts (build_answer result) t new) in
    by_result one opts few outcome result told new comes reports of (subst P same puts)

-- ---- no program was made

no_puts : (told : Told) (files : List NamedFile) (new : Option Told) → files ≡ [] → new ≡ Some told → new ≡ Some (after_puts told files)
no_puts told files new e h = h ∙ ap (λ (zs : List NamedFile). Some (after_puts told zs)) (sym e)

refused_told : OneBuild → (opts : Opts) → opts.colours ≤ colour_limit → (fault : BuildFault) (line : Option ℕ) (told : Told) (new : Option Told) → FaultFound told.files opts fault → new ≡ Some told → ObeysBuild opts (Err (record { fault = fault; line = line })) told new
refused_told one opts few build.StoreFault line told new found e = record {
  answers = λ c h. tt;
  puts = λ c h. record { done = []; more = puts_of c; split = refl; left = none_left told (puts_of c) new e };
  found = tt;
}
refused_told one opts few build.NoMemory line told new found e = record {
  answers = λ c h. tt;
  puts = λ c h. record { done = []; more = puts_of c; split = refl; left = e };
  found = tt;
}
refused_told one opts few (build.Refused name refusal) line told new found e = record {
  answers = λ c h. one told.files opts c (Err (build.Refused name refusal)) few h found;
  puts = λ c h. no_puts told (puts_of c) new (ap puts_of (one told.files opts c (Err (build.Refused name refusal)) few h found)) e;
  found = found;
}
refused_told one opts few (build.LinkRefused fault) line told new found e = record {
  answers = λ c h. one told.files opts c (Err (build.LinkRefused fault)) few h found;
  puts = λ c h. no_puts told (puts_of c) new (ap puts_of (one told.files opts c (Err (build.LinkRefused fault)) few h found)) e;
  found = found;
}

pub obeys_refused : OneBuild → (opts : Opts) → opts.colours ≤ colour_limit → (unbuilt : Unbuilt) (first new : Option Told) → IfSome first (λ told. FaultFound told.files opts unbuilt.fault) → Keeps first new → IfSome first (λ told. ObeysBuild opts (Err unbuilt) told new)
obeys_refused one opts few unbuilt None new found same = tt
obeys_refused one opts few unbuilt (Some told) new found same = refused_told one opts few unbuilt.fault unbuilt.line told new found same

-- ---- the answer of a put as that of the build

as_fault : (error : StoreError) (fault : BuildFault) → fault ≡ store_fault error → fault_answer fault ≡ put_answer (Err error)
as_fault store.Failed fault e = ap fault_answer e
as_fault store.NoMemory fault e = ap fault_answer e

pub stopped_put : (files : List NamedFile) (error : StoreError) (unbuilt : Unbuilt) (first new : Option Told) → unbuilt.fault ≡ store_fault error → IfSome first (λ told. PutsFiles files (put_answer (Err error)) told new) → IfSome first (λ told. PutsFiles files (build_answer (Err unbuilt)) told new)
stopped_put files error unbuilt None new e h = tt
stopped_put files error unbuilt (Some told) new e h = subst (λ (a : Answer). PutsFiles files a told new) (sym (as_fault error unbuilt.fault e)) h

pub of_store : (error : StoreError) (fault : BuildFault) → fault ≡ store_fault error → IsOfStore fault
of_store store.Failed fault e = subst IsOfStore (sym e) tt
of_store store.NoMemory fault e = subst IsOfStore (sym e) tt

all_front : (P : NamedFile → Type 0) (done more : List NamedFile) → AllByRecursion P (done ++ more) → AllByRecursion P done
all_front P [] more all = tt
all_front P (file ∷ done) more all = (all.0, all_front P done more all.1)

-- ---- some files were put, and no others touched

-- files were put, whole, and of one more perhaps a part
abbrev pub PutsAny : Told → Option Told → Type 0
PutsAny told new = (files : List NamedFile) × PutPart told files new

abbrev some_stopped : (files : List NamedFile) (fault : BuildFault) (told : Told) (new : Option Told) → IsOfStore fault → PutsFiles files (fault_answer fault) told new → PutsAny told new
some_stopped files build.StoreFault told new of h = (files, h)
some_stopped files build.NoMemory told new of h = (h.done, record { done = h.done; more = []; split = sym (append-nil h.done); left = h.left })
some_stopped files (build.Refused name refusal) told new of h = absurd of
some_stopped files (build.LinkRefused fault) told new of h = absurd of

abbrev pub some_told : (files : List NamedFile) (result : Result Report Unbuilt) (told : Told) (new : Option Told) → IfErr result (λ unbuilt. IsOfStore unbuilt.fault) → PutsFiles files (build_answer result) told new → PutsAny told new
some_told files (Ok report) told new of h = (files, record { done = files; more = []; split = sym (append-nil files); left = h })
some_told files (Err unbuilt) told new of h = some_stopped files unbuilt.fault told new of h

-- what holds of all files that were to be put holds of those that were
stopped_all : (P : NamedFile → Type 0) (files : List NamedFile) (fault : BuildFault) (told : Told) (new : Option Told) (of : IsOfStore fault) (h : PutsFiles files (fault_answer fault) told new) → AllByRecursion P files → AllByRecursion P (some_stopped files fault told new of h).0
stopped_all P files build.StoreFault told new of h all = all
stopped_all P files build.NoMemory told new of h all = all_front P h.done h.more (subst (AllByRecursion P) h.split all)
stopped_all P files (build.Refused name refusal) told new of h all = absurd of
stopped_all P files (build.LinkRefused fault) told new of h all = absurd of

pub some_all : (P : NamedFile → Type 0) (files : List NamedFile) (result : Result Report Unbuilt) (told : Told) (new : Option Told) (of : IfErr result (λ unbuilt. IsOfStore unbuilt.fault)) (h : PutsFiles files (build_answer result) told new) → AllByRecursion P files → AllByRecursion P (some_told files result told new of h).0
some_all P files (Ok report) told new of h all = all
some_all P files (Err unbuilt) told new of h all = stopped_all P files unbuilt.fault told new of h all

-- ---- files of the build were

own_built : (files : List NamedFile) → AllByRecursion IsOwnFile files → AreBuilt files
own_built [] own = tt
own_built (file ∷ files) own = (own.0.0, own_built files own.1)

built_stopped : (files : List NamedFile) (fault : BuildFault) (told : Told) (new : Option Told) → AreBuilt files → IsOfStore fault → PutsFiles files (fault_answer fault) told new → PutsSome (fault_answer fault) told new
built_stopped files build.StoreFault told new own of h = (files, own, h)
built_stopped files build.NoMemory told new own of h = (h.done, all_front (λ file. IsBuiltName file.0) h.done h.more (subst AreBuilt h.split own), h.left)
built_stopped files (build.Refused name refusal) told new own of h = absurd of
built_stopped files (build.LinkRefused fault) told new own of h = absurd of

built_told : (files : List NamedFile) (result : Result Report Unbuilt) (told : Told) (new : Option Told) → AreBuilt files → IfErr result (λ unbuilt. IsOfStore unbuilt.fault) → PutsFiles files (build_answer result) told new → PutsSome (build_answer result) told new
built_told files (Ok report) told new own of h = (files, own, h)
built_told files (Err unbuilt) told new own of h = built_stopped files unbuilt.fault told new own of h

pub puts_some : (files : List NamedFile) (result : Result Report Unbuilt) (first now new : Option Told) → Keeps first now → IfSome first (λ told. AllByRecursion IsOwnFile files) → IfErr result (λ unbuilt. IsOfStore unbuilt.fault)
    → IfSome now (λ told. PutsFiles files (build_answer result) told new) → IfSome first (λ told. PutsSome (build_answer result) told new)
puts_some files result None now new same own of h = tt
puts_some files result (Some told) now new same own of h =
    let P : Option Told → Type 0 = λ o. IfSome o (λ t. PutsFiles files (build_answer result) t new) in
    built_told files result told new (own_built files own) of (subst P same h)

nothing_put : (fault : BuildFault) (told : Told) (new : Option Told) → new ≡ Some told → PutsSome (fault_answer fault) told new
nothing_put build.StoreFault told new same = ([], tt, record { done = []; more = []; split = refl; left = same })
nothing_put build.NoMemory told new same = ([], tt, same)
nothing_put (build.Refused name refusal) told new same = same
nothing_put (build.LinkRefused fault) told new same = same

pub puts_nothing : (fault : BuildFault) (first new : Option Told) → Keeps first new → IfSome first (λ told. PutsSome (fault_answer fault) told new)
puts_nothing fault None new same = tt
puts_nothing fault (Some told) new same = nothing_put fault told new same
