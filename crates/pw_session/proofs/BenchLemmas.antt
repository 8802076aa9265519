-- `bench`: its files, its run and its line.
use Rattle.std.proofs.Common.{◌≡◌, ℕ, true, List, [], reverse, map, Option, Result, Ok, Err, refl, sym, ap, ◌∙◌, subst, arith}
use Rattle.std.specs.Prelude.{◌≢◌, Vec, String}
use Rattle.std.specs.declared.alloc.Global.{Global}
use Rattle.std.specs.FinMap as finite
use Rattle.sha2.specs.Sha256.{sha256}
use Rattle.pw_io.specs.Faults.{Rose}
use Rattle.pw_io.specs.Files.{Files, Told}
use Rattle.pw_io.specs.Shelf.{file_shown, files_of}
use Rattle.pw_image.specs.declared.image.Image.{Image}
use Rattle.pw_image.specs.Image.{Contents, IsImageFile}
use Rattle.pw_machine.specs.Core.{Core}
use Rattle.pw_machine.specs.Start.{image_start}
use Rattle.pw_commands.specs.MachineRun.{run_answer}
use Rattle.pw_store_modules.specs.Modules.{modules_of}
use Rattle.pw_top_answer.specs.declared.answer.Answer.{Answer}
use Rattle.pw_top_answer.specs.declared.answer.Answer.TheVariants.{Done, Usage, Refused, RefusedSource, Cpp, LinkRefused, WriteFault, StoreFault, NoMemory, BadFile, Undefined, UndefinedSource}
use Rattle.pw_top_answer.specs.Effects.{Effect, answers_alone, prints}
use Rattle.pw_top_answer.specs.Outcomes.{Answers, IsLineDue, IsPrintAnswer, LeavesStreams, OutputCount, PutsOut, StoreCount}
use Rattle.pw_store_texts.specs.Seen.{IsSeen}
use Rattle.pw_gen.specs.Generator.{generated}
use Rattle.pw_build_files.specs.FromBuild.BuildFault.{BuildFault}
use Rattle.pw_build_files.specs.FromBuild.BuildFault.TheVariants as build
use Rattle.pw_build_files.specs.FromBuild.Unbuilt.{Unbuilt}
use Rattle.pw_build_files.specs.FromBuild.Phases.{IsLine, refused_line}
use Rattle.pw_build_files.specs.declared.report.Report.{Report}
use Rattle.pw_build_files.specs.Building.{Outcome}
use Rattle.pw_build_files.specs.Outcomes.{AnswersFault, IsNoWant, ObeysBuild, Reports, fault_answer}
use Rattle.pw_build_opts.specs.declared.opts.RunOpts.{RunOpts}
use Rattle.pw_session.specs.Builds.{BuildsTo}
use Rattle.pw_session.specs.Bench.{BenchEffect, BenchOver, IsBenchAnswer, IsBenchFound, IsBenchLine, ObeysBench, ObeysReport, StopsWithoutInput, bench_files, bench_line, made_files, stop_of}
use Rattle.pw_session.specs.Runs.{is_stop, runs_as}
use Rattle.pw_session.proofs.BuildLemmas.{IsFaultFound, does_build}
use Rattle.pw_session.proofs.OutputLemmas.{puts_alone, puts_none}
use Rattle.pw_session.proofs.RunLemmas.{stop_is}

-- ---- the files

pub files_made : (number modules : ℕ) (files : List (String Global × Vec ℕ Global)) → map file_shown files ≡ generated number modules → files_of files ≡ made_files number modules
unfolding files_of made_files
files_made number modules files e = ap (λ (xs : List (List ℕ × List ℕ)). finite.from_entries (reverse xs)) e

-- ---- the run

pub said_line : (number : ℕ) (image digest : List ℕ) (budget : ℕ) (stop answer : Answer) (taken taken' : Option (List ℕ)) → StopsWithoutInput image budget stop → is_stop stop ≡ true → PutsOut (bench_line number image digest stop) answer taken taken'
    → ObeysReport number image digest budget answer taken taken'
said_line number image digest budget stop answer taken taken' stops is out = record {
  output = λ c h. subst (λ (a : Answer). PutsOut (bench_line number image digest a) answer taken taken') (sym (stop_is (stop_of budget c) stop is (stops.each c h))) out;
  found = λ d. stops.found is;
}

-- ---- the whole

said_found : (comes : Effect → Type 0) (answer : Answer) → IsPrintAnswer answer → (answer ≢ NoMemory → (effect : Effect) × comes effect × (effect.answer ≡ Done)) → IsBenchFound comes answer
said_found comes Done k h = h (λ e. cc)
said_found comes WriteFault k h = let f = h (λ e. cc) in (f.0, f.1)
said_found comes NoMemory k h = tt
said_found comes _ k h = absurd k

said_answers : (answer : Answer) → IsPrintAnswer answer → Answers Done answer
said_answers Done k = refl
said_answers WriteFault k = tt
said_answers NoMemory k = tt
said_answers _ k = absurd k

bench_said : (number budget : ℕ) (input : List ℕ) (report : Report) (outcome : Outcome) (answer : Answer) (taken taken' : Option (List ℕ)) (effect : Effect) → Reports outcome report → ObeysReport number report.image.items report.digest budget answer taken taken'
    → BenchOver number budget input (Ok outcome) effect → PutsOut effect.output answer taken taken'
bench_said number budget input report outcome answer taken taken' effect r run over =
    let c = over.1.0 in
    let h : IsImageFile report.image.items c = subst (λ (i : List ℕ). IsImageFile i c) (sym r.image) over.1.1 in
    let line : bench_line number report.image.items report.digest (stop_of budget c) ≡ over.0 =
    ap (λ (i : List ℕ). bench_line number i report.digest (stop_of budget c)) r.image ∙ ap (λ (d : List ℕ). bench_line number outcome.image d (stop_of budget c)) r.digest ∙ sym over.1.2 in
    subst (λ (x : Effect). PutsOut x.output answer taken taken') (sym over.2) (subst (λ (t : List ℕ). PutsOut t answer taken taken') line (run.output c h))

effect_done : (number budget : ℕ) (input : List ℕ) (outcome : Outcome) (effect : Effect) → BenchOver number budget input (Ok outcome) effect → effect.answer ≡ Done
effect_done number budget input outcome effect over = ap (λ (x : Effect). x.answer) over.2

bench_found : (number : ℕ) (opts : RunOpts) (input : List ℕ) (report : Report) (answer : Answer) (taken taken' : Option (List ℕ)) → (outcome : Outcome) × BuildsTo (bench_files number) opts.build (Ok outcome) × Reports outcome report
    → ObeysReport number report.image.items report.digest opts.budget answer taken taken' → answer ≢ NoMemory → (effect : Effect) × BenchEffect number opts input effect × (effect.answer ≡ Done)
bench_found number opts input report answer taken taken' f run d =
    let c = (run.found d).0 in
    let h : IsImageFile f.0.image c = subst (λ (i : List ℕ). IsImageFile i c) f.2.image (run.found d).1 in
    let text = bench_line number f.0.image (sha256 f.0.image) (stop_of opts.budget c) in
    (prints text input, (Ok f.0, f.1, (text, (c, h, refl), refl)), refl)

pub bench_built : (number : ℕ) (opts : RunOpts) (input : List ℕ) (report : Report) (told : Told) (new : Option Told) (answer : Answer) (taken taken' : Option (List ℕ)) → told.files ≡ bench_files number → ObeysBuild opts.build (Ok report) told new
    → IsPrintAnswer answer → ObeysReport number report.image.items report.digest opts.budget answer taken taken' → ObeysBench (BenchEffect number opts input) answer taken taken'
bench_built number opts input report told new answer taken taken' e obeys k run =
    let does = does_build opts.build (Ok report) told new obeys in
    record {
      answers = λ effect h.
          let a = does.answers h.0 (subst (λ (f : Files). BuildsTo f opts.build h.0) (sym e) h.1) in
          let over = subst (λ (r : Result Outcome BuildFault). BenchOver number opts.budget input r effect) a.1 h.2 in
          subst (λ (w : Answer). Answers w answer) (sym (effect_done number opts.budget input a.0 effect over)) (said_answers answer k);
      output = λ effect h.
          let a = does.answers h.0 (subst (λ (f : Files). BuildsTo f opts.build h.0) (sym e) h.1) in
          let over = subst (λ (r : Result Outcome BuildFault). BenchOver number opts.budget input r effect) a.1 h.2 in
          bench_said number opts.budget input report a.0 answer taken taken' effect a.2 run over;
      found = said_found (BenchEffect number opts input) answer k
          (bench_found number opts input report answer taken taken' (does.found.0, subst (λ (f : Files). BuildsTo f opts.build (Ok does.found.0)) e does.found.1, does.found.2) run);
    }

-- memory ran out before
pub bench_none : (comes : Effect → Type 0) (taken : Option (List ℕ)) → ObeysBench comes NoMemory taken taken
bench_none comes taken = record { answers = λ effect h. tt; output = λ effect h. puts_alone effect.output NoMemory taken taken (λ more. tt) refl; found = tt }

-- a store in memory has no fault
no_fault : Rose 0 0 → ⊥
no_fault h = absurd (omega (arith, h))

refused_obeys : (number : ℕ) (opts : RunOpts) (input : List ℕ) (fault : BuildFault) (told : Told) (taken : Option (List ℕ)) → told.files ≡ bench_files number → ((comes : Result Outcome BuildFault) → BuildsTo told.files opts.build comes → AnswersFault comes fault)
    → IsFaultFound told.files opts.build fault → StoreCount 0 0 (fault_answer fault) → ObeysBench (BenchEffect number opts input) (fault_answer fault) taken taken
refused_obeys number opts input build.StoreFault told taken e each found count = absurd (no_fault count)
refused_obeys number opts input build.NoMemory told taken e each found count = bench_none (BenchEffect number opts input) taken
refused_obeys number opts input (build.Refused name refusal) told taken e each found count = record {
  answers = λ effect h. let one = alone effect h in ap (λ (x : Effect). x.answer) one;
  output = λ effect h. subst (λ (x : Effect). PutsOut x.output (Refused name refusal) taken taken) (sym (alone effect h)) (puts_none (Refused name refusal) taken);
  found = (answers_alone (Refused name refusal) input, (Err (build.Refused name refusal), subst (λ (f : Files). BuildsTo f opts.build (Err (build.Refused name refusal))) e found, refl), refl);
}
  where
    alone : (effect : Effect) → BenchEffect number opts input effect → effect ≡ answers_alone (Refused name refusal) input
    alone effect h = subst (λ (r : Result Outcome BuildFault). BenchOver number opts.budget input r effect) (each h.0 (subst (λ (f : Files). BuildsTo f opts.build h.0) (sym e) h.1)) h.2
refused_obeys number opts input (build.LinkRefused fault) told taken e each found count = record {
  answers = λ effect h. let one = alone_linked effect h in ap (λ (x : Effect). x.answer) one;
  output = λ effect h. subst (λ (x : Effect). PutsOut x.output (LinkRefused fault) taken taken) (sym (alone_linked effect h)) (puts_none (LinkRefused fault) taken);
  found = (answers_alone (LinkRefused fault) input, (Err (build.LinkRefused fault), subst (λ (f : Files). BuildsTo f opts.build (Err (build.LinkRefused fault))) e found, refl), refl);
}
  where
    alone_linked : (effect : Effect) → BenchEffect number opts input effect → effect ≡ answers_alone (LinkRefused fault) input
    alone_linked effect h = subst (λ (r : Result Outcome BuildFault). BenchOver number opts.budget input r effect) (each h.0 (subst (λ (f : Files). BuildsTo f opts.build h.0) (sym e) h.1)) h.2

pub bench_refused : (number : ℕ) (opts : RunOpts) (input : List ℕ) (unbuilt : Unbuilt) (told : Told) (new : Option Told) (taken : Option (List ℕ)) → told.files ≡ bench_files number → ObeysBuild opts.build (Err unbuilt) told new → StoreCount 0 0 (fault_answer unbuilt.fault)
    → ObeysBench (BenchEffect number opts input) (fault_answer unbuilt.fault) taken taken
bench_refused number opts input unbuilt told new taken e obeys count =
    let does = does_build opts.build (Err unbuilt) told new obeys in
    refused_obeys number opts input unbuilt.fault told taken e does.answers does.found count

-- ---- the answer, its line and the streams

pub refused_is : (fault : BuildFault) → IsNoWant fault → StoreCount 0 0 (fault_answer fault) → IsBenchAnswer (fault_answer fault)
refused_is (build.Refused name refusal) proper h = proper
refused_is (build.LinkRefused fault) proper h = proper
refused_is build.StoreFault proper h = absurd (no_fault h)
refused_is build.NoMemory proper h = tt

refused_due : (due : Option ℕ) (fault : BuildFault) (line : Option ℕ) → IsLine due fault line → IsLineDue due (fault_answer fault) line
refused_due due (build.Refused name refusal) line h = h
refused_due due (build.LinkRefused fault) line h = tt
refused_due due build.StoreFault line h = tt
refused_due due build.NoMemory line h = tt

pub refused_at : (number : ℕ) (fault : BuildFault) (line : Option ℕ) (files : Files) → files ≡ bench_files number → ((shown : Files) → IsSeen files shown → IsLine (refused_line (modules_of shown)) fault line) → IsBenchLine number (fault_answer fault) line
refused_at number fault line files e h = λ shown is. refused_due (refused_line (modules_of shown)) fault line (h shown (subst (λ (f : Files). IsSeen f shown) (sym e) is))

pub said_is : (answer : Answer) → IsPrintAnswer answer → IsBenchAnswer answer
said_is Done k = tt
said_is WriteFault k = tt
said_is NoMemory k = tt
said_is _ k = absurd k

said_due : (due : Option ℕ) (answer : Answer) (line : Option ℕ) → IsPrintAnswer answer → IsLineDue due answer line
said_due due (Refused name refusal) line k = absurd k
said_due due (RefusedSource name refusal) line k = absurd k
said_due due (Undefined operation home token) line k = absurd k
said_due due (UndefinedSource operation home token) line k = absurd k
said_due due _ line k = tt

pub said_at : (number : ℕ) (answer : Answer) (line : Option ℕ) → IsPrintAnswer answer → IsBenchLine number answer line
said_at number answer line k = λ shown is. said_due (refused_line (modules_of shown)) answer line k

pub said_streams : (answer : Answer) (input taken taken' : Option (List ℕ)) → IsPrintAnswer answer → LeavesStreams answer input input taken taken'
said_streams Usage input taken taken' k = absurd k
said_streams (Refused name refusal) input taken taken' k = absurd k
said_streams (RefusedSource name refusal) input taken taken' k = absurd k
said_streams (Cpp fault) input taken taken' k = absurd k
said_streams (LinkRefused fault) input taken taken' k = absurd k
said_streams (BadFile name at) input taken taken' k = absurd k
said_streams StoreFault input taken taken' k = absurd k
said_streams _ input taken taken' k = tt

pub alone_streams : (answer : Answer) (input taken : Option (List ℕ)) → LeavesStreams answer input input taken taken
alone_streams Usage input taken = (refl, refl)
alone_streams (Refused name refusal) input taken = (refl, refl)
alone_streams (RefusedSource name refusal) input taken = (refl, refl)
alone_streams (Cpp fault) input taken = (refl, refl)
alone_streams (LinkRefused fault) input taken = (refl, refl)
alone_streams (BadFile name at) input taken = (refl, refl)
alone_streams StoreFault input taken = (refl, refl)
alone_streams _ input taken = tt

pub fault_write : (fault : BuildFault) (count : ℕ) → OutputCount count count (fault_answer fault)
fault_write (build.Refused name refusal) count = refl
fault_write (build.LinkRefused fault) count = refl
fault_write build.StoreFault count = refl
fault_write build.NoMemory count = refl

-- ---- over what the calls gave

pub report_none : (number : ℕ) (image digest : List ℕ) (budget : ℕ) (taken : Option (List ℕ)) → ObeysReport number image digest budget NoMemory taken taken
report_none number image digest budget taken = record { output = λ c h. puts_alone (bench_line number image digest (stop_of budget c)) NoMemory taken taken (λ more. tt) refl; found = λ d. absurd (d refl) }

pub said_line_so : (number : ℕ) (image i digest : List ℕ) (budget : ℕ) (stop answer : Answer) (taken taken' : Option (List ℕ)) → i ≡ image → StopsWithoutInput i budget stop → is_stop stop ≡ true → PutsOut (bench_line number image digest stop) answer taken taken'
    → ObeysReport number image digest budget answer taken taken'
said_line_so number image i digest budget stop answer taken taken' e stops is out =
    said_line number image digest budget stop answer taken taken' (subst (λ (x : List ℕ). StopsWithoutInput x budget stop) e stops) is out

pub stops_loaded : (image : List ℕ) (budget : ℕ) (core : Core) (answer : Answer) → ((c : Contents Image) → IsImageFile image c → core ≡ image_start c.value.memory) → (c : Contents Image) × IsImageFile image c → Answers (run_answer (runs_as budget [] core)) answer → StopsWithoutInput image budget answer
stops_loaded image budget core answer same found h = record { each = λ c k. subst (λ (x : Core). Answers (run_answer (runs_as budget [] x)) answer) (same c k) h; found = λ e. found }

pub stops_none : (image : List ℕ) (budget : ℕ) → StopsWithoutInput image budget NoMemory
stops_none image budget = record { each = λ c k. tt; found = λ e. absurd cc }
