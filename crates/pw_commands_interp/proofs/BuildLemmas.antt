-- What the command did, by what the build came to and by the run.
use Rattle.std.proofs.Common.{◌≡◌, ◌≤◌, ℕ, List, [], ◌∷◌, ◌++◌, take, drop, map, Option, Some, None, Result, Ok, Err, refl, sym, ap, subst, ◌∙◌}
use Rattle.std.specs.Prelude.{IfSome}
use Rattle.std.proofs.lemmas.List.{take-append-drop}
use Rattle.pw_io.specs.Files.{Files, Keeps, Told}
use Rattle.pw_store_texts.specs.Seen.{IsSeen}
use Rattle.pw_object.specs.declared.object.Object.{Object}
use Rattle.pw_db.specs.Limits.{colour_limit}
use Rattle.pw_link.specs.Linking.{linked}
use Rattle.pw_image.specs.Image.{IsImageFile}
use Rattle.pw_cmean.specs.Worlds.{ProgramModule}
use Rattle.pw_cmean.specs.SourceRun.{Run, source_run}
use Rattle.pw_interp_calls.specs.Frames.{frame_among}
use Rattle.pw_store_modules.specs.declared.modules.Module.{Module}
use Rattle.pw_store_modules.specs.Modules.{Source, modules_of}
use Rattle.pw_store_modules.specs.Views.{source}
use Rattle.pw_top_answer.specs.declared.answer.Answer.{Answer}
use Rattle.pw_top_answer.specs.declared.answer.Answer.TheVariants as answer
use Rattle.pw_top_answer.specs.declared.answer.Reply.{Reply}
use Rattle.pw_top_answer.specs.Effects.{Effect, answers_alone}
use Rattle.pw_top_answer.specs.Outcomes.{Answers, LeavesInput, PutsOut, WasReadInPart}
use Rattle.pw_commands.specs.Outcome.{IsFound}
use Rattle.pw_store_kept.specs.declared.files.ProgramFiles.{ProgramFiles}
use Rattle.pw_build_objects.specs.Programs.{Parts}
use Rattle.pw_build_files.specs.FromBuild.BuildFault.{BuildFault}
use Rattle.pw_build_files.specs.FromBuild.BuildFault.TheVariants as build
use Rattle.pw_build_files.specs.FromBuild.Builds.{Builds, BuildsBy}
use Rattle.pw_build_files.specs.FromBuild.Full.{built_anew}
use Rattle.pw_build_files.specs.Building.{kept_object, kept_objects}
use Rattle.pw_build_files.specs.Seen.{SeesFault, SeesModules}
use Rattle.pw_build_files.specs.Programs.{BuildsFiles, FaultBuilds}
use Rattle.pw_build_files.specs.Outcomes.{fault_answer}
use Rattle.pw_build_opts.specs.declared.opts.Opts.{Opts}
use Rattle.pw_build_opts.specs.declared.opts.RunOpts.{RunOpts}
use Rattle.pw_interp_runs.specs.Running.{AreTyped, RanAs, RepliesTo, RunsLinked, TellsToken, UnlessMemory, frames_of}
use Rattle.pw_commands_interp.specs.Interpreting.{DidOf, DidPlain, InterpOf, PlainEffect, InterpOver, run_effect}
use Rattle.pw_interp_runs.proofs.RunLemmas.{appends_none, if_some, untouched}
use Rattle.pw_commands_interp.proofs.LineLemmas.{of_reply}

-- the law on builds
abbrev pub OneBuild : Type 0
OneBuild = (sources : List Source) (kept : List (Option Object)) (opts : Opts) (a b : Result Parts BuildFault) → opts.colours ≤ colour_limit → Builds sources kept opts a → Builds sources kept opts b → a ≡ b

-- the objects that are kept of the modules that were read
kept_by : (files : Files) (ms : List Module) → map (λ m. kept_object files m.name) ms ≡ map (kept_object files) (map (λ m. m.name) ms)
kept_by files [] = refl
kept_by files (m ∷ ms) = ap (λ (zs : List (Option Object)). kept_object files m.name ∷ zs) (kept_by files ms)

names_by : (ms : List Module) → map (λ m. m.name) ms ≡ map (λ s. s.0) (map source ms)
names_by [] = refl
names_by (m ∷ ms) = ap (λ (zs : List (List ℕ)). m.name ∷ zs) (names_by ms)

kept_are : (ms : List Module) (files : Files) → map source ms ≡ modules_of files → map (λ m. kept_object files m.name) ms ≡ kept_objects files
kept_are ms files e = kept_by files ms ∙ ap (map (kept_object files)) (names_by ms ∙ ap (map (λ (s : Source). s.0)) e)

-- the run of modules that were linked to these parts
abbrev run_of : RunOpts → List ℕ → Parts → List ProgramModule → Run
run_of opts input parts modules = source_run (record { modules = modules }) (frame_among (frames_of (linked parts.objects opts.build.stack))) opts.build.stack input opts.budget

-- an answer that was found
found_run : (comes : Effect → Type 0) (M : Type 0) (a : Answer) → UnlessMemory a M → (M → (one : Effect) × comes one × Answers one.answer a) → IsFound comes a
found_run comes M answer.NoMemory u f = tt
found_run comes M answer.StoreFault u f = tt
found_run comes M answer.ReadFault u f = let o = f u in (o.0, o.1)
found_run comes M answer.WriteFault u f = let o = f u in (o.0, o.1)
found_run comes M _ u f = f u

-- what is left of an input behind so many bytes
left_of : (input : List ℕ) (n : ℕ) (rest' : Option (List ℕ)) (a : Answer) → TellsToken a → LeavesInput (drop n input) input a rest' → WasReadInPart (drop n input) input rest'
left_of input n rest' (answer.Undefined operation name token) t h =
    subst (WasReadInPart (drop n input) input) (sym h) (take n input, [], (sym (take-append-drop n input), refl))
left_of input n rest' _ t h = absurd t

-- what the command leaves of its input is a rest of it
pub effect_ends : (files : Files) (opts : RunOpts) (input : List ℕ) (comes : Result Parts BuildFault) (e : Effect) → InterpOver files opts input comes e → (more : List ℕ) × (input ≡ more ++ e.rest)
effect_ends files opts input (Ok parts) e h =
    let n = (run_of opts input parts h.0).read in
    (take n input, subst (λ (x : Effect). input ≡ take n input ++ x.rest) (sym h.2) (sym (take-append-drop n input)))
effect_ends files opts input (Err fault) e h = ([], sym (ap (λ (x : Effect). x.rest) h))

-- which objects were made anew is nothing to the run
pub over_anew : (files : Files) (opts : RunOpts) (input : List ℕ) (comes : Result Parts BuildFault) (e : Effect) → InterpOver files opts input comes e → InterpOver files opts input (built_anew comes) e
over_anew files opts input (Ok parts) e h = h
over_anew files opts input (Err fault) e h = h

module _ (one : OneBuild) (files : Files) (opts : RunOpts) (few : opts.build.colours ≤ colour_limit) (input : List ℕ) where
  -- ---- modules that were linked

  the_run : (parts : Parts) → Builds (modules_of files) (kept_objects files) opts.build (Ok parts) → (e : Effect) → InterpOf files opts input e
      → (modules : List ProgramModule) × AreTyped (modules_of files) modules × (e ≡ run_effect (run_of opts input parts modules) input)
  the_run parts builds e d =
      let is : d.0 ≡ Ok parts = one (modules_of files) (kept_objects files) opts.build d.0 (Ok parts) few d.1 builds in
      subst (λ (x : Result Parts BuildFault). InterpOver files opts input x e) is d.2

  did_run : (parts : Parts) (a : Answer) (rest' taken taken' : Option (List ℕ)) → Builds (modules_of files) (kept_objects files) opts.build (Ok parts)
      → UnlessMemory a ((typed : List ProgramModule) × AreTyped (modules_of files) typed) → ((modules : List ProgramModule) → AreTyped (modules_of files) modules → RanAs (run_of opts input parts modules) input a rest' taken taken')
      → DidOf (InterpOf files opts input) input a rest' taken taken'
  did_run parts a rest' taken taken' builds typed ran = record {
    answers = λ e d. let r = the_run parts builds e d in subst (λ (x : Effect). Answers x.answer a) (sym r.2) (ran r.0 r.1).answers;
    output = λ e d. let r = the_run parts builds e d in subst (λ (x : Effect). PutsOut x.output a taken taken') (sym r.2) (ran r.0 r.1).output;
    rest = λ e d. let r = the_run parts builds e d in subst (λ (x : Effect). LeavesInput x.rest input a rest') (sym r.2) (ran r.0 r.1).rest;
    found = found_run (InterpOf files opts input) ((typed : List ProgramModule) × AreTyped (modules_of files) typed) a typed
        (λ m. (run_effect (run_of opts input parts m.0) input, (Ok parts, builds, (m.0, m.1, refl)), (ran m.0 m.1).answers));
  }

  -- whose answer is not told for want of memory
  did_untold : (parts : Parts) (a : Answer) (rest' taken taken' : Option (List ℕ)) → Builds (modules_of files) (kept_objects files) opts.build (Ok parts) → TellsToken a
      → ((modules : List ProgramModule) → AreTyped (modules_of files) modules → RanAs (run_of opts input parts modules) input a rest' taken taken') → DidOf (InterpOf files opts input) input answer.NoMemory rest' taken taken'
  did_untold parts a rest' taken taken' builds tells ran = record {
    answers = λ e d. tt;
    output = λ e d.
        let r = the_run parts builds e d in
        let p = (ran r.0 r.1).output in
        subst (λ (x : Effect). PutsOut x.output answer.NoMemory taken taken') (sym r.2) (record { output = p.output; more = p.more; taken = p.taken; front = p.front; whole = tt });
    rest = λ e d.
        let r = the_run parts builds e d in
        subst (λ (x : Effect). LeavesInput x.rest input answer.NoMemory rest') (sym r.2) (left_of input (run_of opts input parts r.0).read rest' a tells (ran r.0 r.1).rest);
    found = tt;
  }

  -- ---- modules that were refused

  alone : (fault : BuildFault) → Builds (modules_of files) (kept_objects files) opts.build (Err fault) → (e : Effect) → InterpOf files opts input e → e ≡ answers_alone (fault_answer fault) input
  alone fault builds e d =
      let is : d.0 ≡ Err fault = one (modules_of files) (kept_objects files) opts.build d.0 (Err fault) few d.1 builds in
      subst (λ (x : Result Parts BuildFault). InterpOver files opts input x e) is d.2

  ends_of : (e : Effect) → InterpOf files opts input e → (more : List ℕ) × (input ≡ more ++ e.rest)
  ends_of e d = effect_ends files opts input d.0 e d.2

  pub fault_did : (taken : Option (List ℕ)) (fault : BuildFault) → FaultBuilds (modules_of files) (kept_objects files) opts.build fault → DidOf (InterpOf files opts input) input (fault_answer fault) (Some input) taken taken
  fault_did taken (build.Refused name refusal) h = record {
    answers = λ e d. ap (λ (x : Effect). x.answer) (alone (build.Refused name refusal) h e d);
    output = λ e d.
        subst (λ (x : Effect). PutsOut x.output (answer.Refused name refusal) taken taken) (sym (alone (build.Refused name refusal) h e d))
        (record { output = []; more = []; taken = appends_none taken; front = refl; whole = refl });
    rest = λ e d. ap (λ (x : Effect). Some x.rest) (sym (alone (build.Refused name refusal) h e d));
    found = (answers_alone (answer.Refused name refusal) input, (Err (build.Refused name refusal), h, refl), refl);
  }
  fault_did taken (build.LinkRefused fault) h = record {
    answers = λ e d. ap (λ (x : Effect). x.answer) (alone (build.LinkRefused fault) h e d);
    output = λ e d.
        subst (λ (x : Effect). PutsOut x.output (answer.LinkRefused fault) taken taken) (sym (alone (build.LinkRefused fault) h e d))
        (record { output = []; more = []; taken = appends_none taken; front = refl; whole = refl });
    rest = λ e d. ap (λ (x : Effect). Some x.rest) (sym (alone (build.LinkRefused fault) h e d));
    found = (answers_alone (answer.LinkRefused fault) input, (Err (build.LinkRefused fault), h, refl), refl);
  }
  fault_did taken build.StoreFault h = record {
    answers = λ e d. tt;
    output = λ e d. record { output = []; more = e.output; taken = appends_none taken; front = refl; whole = tt };
    rest = λ e d. let m = ends_of e d in untouched e.rest m.0 input m.1;
    found = tt;
  }
  fault_did taken build.NoMemory h = record {
    answers = λ e d. tt;
    output = λ e d. record { output = []; more = e.output; taken = appends_none taken; front = refl; whole = tt };
    rest = λ e d. let m = ends_of e d in untouched e.rest m.0 input m.1;
    found = tt;
  }

-- ---- over files as a build sees them

abbrev pub OneWay : Type 0
OneWay = (files shown other : Files) → IsSeen files shown → IsSeen files other → shown ≡ other

-- what is kept stands among them as in the store
abbrev pub ObjectsBeside : Type 0
ObjectsBeside = (files shown : Files) (name : List ℕ) → IsSeen files shown → kept_object files name ≡ kept_object shown name

kept_shown : ObjectsBeside → (files shown : Files) → IsSeen files shown → (ms : List Module) → map (λ m. kept_object files m.name) ms ≡ map (λ m. kept_object shown m.name) ms
kept_shown beside files shown is [] = refl
kept_shown beside files shown is (m ∷ ms) =
    ap (λ (o : Option Object). o ∷ map (λ m. kept_object files m.name) ms) (beside files shown m.name is)
    ∙ ap (λ (zs : List (Option Object)). kept_object shown m.name ∷ zs) (kept_shown beside files shown is ms)

found_seen : (inner outer : Effect → Type 0) (a : Answer) → ((e : Effect) → inner e → outer e) → IsFound inner a → IsFound outer a
found_seen inner outer answer.ReadFault f h = (h.0, f h.0 h.1)
found_seen inner outer answer.WriteFault f h = (h.0, f h.0 h.1)
found_seen inner outer answer.StoreFault f h = tt
found_seen inner outer answer.NoMemory f h = tt
found_seen inner outer _ f h = (h.0, f h.0 h.1, h.2)

seen_effect : OneWay → (files shown : Files) (opts : RunOpts) (input : List ℕ) (e : Effect) → IsSeen files shown → PlainEffect files opts input e → InterpOf shown opts input e
seen_effect way files shown opts input e is (other, are, d) = subst (λ (f : Files). InterpOf f opts input e) (way files other shown are is) d

did_seen : OneWay → (files shown : Files) (opts : RunOpts) (input : List ℕ) (a : Answer) (rest' taken taken' : Option (List ℕ)) → IsSeen files shown → DidOf (InterpOf shown opts input) input a rest' taken taken' → DidPlain files opts input a rest' taken taken'
did_seen way files shown opts input a rest' taken taken' is h = record {
  answers = λ e d. h.answers e (seen_effect way files shown opts input e is d);
  output = λ e d. h.output e (seen_effect way files shown opts input e is d);
  rest = λ e d. h.rest e (seen_effect way files shown opts input e is d);
  found = found_seen (InterpOf shown opts input) (PlainEffect files opts input) a (λ e d. (shown, is, d)) h.found;
}

-- the store failed, or memory ran out
failed_did : (files : Files) (opts : RunOpts) (input : List ℕ) (taken : Option (List ℕ)) → DidPlain files opts input answer.StoreFault (Some input) taken taken
failed_did files opts input taken = record {
  answers = λ e d. tt;
  output = λ e d. record { output = []; more = e.output; taken = appends_none taken; front = refl; whole = tt };
  rest = λ e d. let m = effect_ends d.0 opts input d.2.0 e d.2.2 in untouched e.rest m.0 input m.1;
  found = tt;
}

memory_did : (files : Files) (opts : RunOpts) (input : List ℕ) (taken : Option (List ℕ)) → DidPlain files opts input answer.NoMemory (Some input) taken taken
memory_did files opts input taken = record {
  answers = λ e d. tt;
  output = λ e d. record { output = []; more = e.output; taken = appends_none taken; front = refl; whole = tt };
  rest = λ e d. let m = effect_ends d.0 opts input d.2.0 e d.2.2 in untouched e.rest m.0 input m.1;
  found = tt;
}

-- ---- the command

pub run_did : OneBuild → ObjectsBeside → (opts : RunOpts) → opts.build.colours ≤ colour_limit → (ms : List Module) (image : List ℕ) (told : Option Told) (rest rest' taken taken' : Option (List ℕ)) (made : ProgramFiles) (objects : List Object) (a : Answer) (reply : Reply)
    → image ≡ made.image.items → IfSome told (λ t. BuildsFiles (map source ms) (map (λ m. kept_object t.files m.name) ms) opts.build made objects)
    → UnlessMemory a ((typed : List ProgramModule) × AreTyped (map source ms) typed) → RunsLinked (map source ms) image opts rest a rest' taken taken' → RepliesTo (map source ms) a reply
    → IfSome told (λ t. (shown : Files) → IsSeen t.files shown → map source ms ≡ modules_of shown → IfSome rest (λ input. DidOf (InterpOf shown opts input) input reply.answer rest' taken taken'))
run_did one beside opts few ms image None rest rest' taken taken' made objects a reply is built typed runs replies = tt
run_did one beside opts few ms image (Some t) rest rest' taken taken' made objects a reply is built typed runs replies = λ shown seen sources. if_some rest (λ input told.
    let parts = built.0 in
    let builds = subst (λ (ss : List Source). Builds ss (kept_objects shown) opts.build (Ok parts)) sources
    (subst (λ (k : List (Option Object)). Builds (map source ms) k opts.build (Ok parts)) (kept_shown beside t.files shown seen ms ∙ kept_are ms shown sources) built.1) in
    let file = subst (λ (bytes : List ℕ). IsImageFile bytes (record { names = built.2.image_names; value = linked parts.objects opts.build.stack })) (sym is) built.2.image in
    let ran : (modules : List ProgramModule) → AreTyped (modules_of shown) modules → RanAs (run_of opts input parts modules) input a rest' taken taken' =
    λ modules are. subst (λ (o : Option (List ℕ)). IfSome o (λ bytes. RanAs (run_of opts bytes parts modules) bytes a rest' taken taken')) told
    (runs (record { names = built.2.image_names; value = linked parts.objects opts.build.stack }) modules file (subst (λ (ss : List Source). AreTyped ss modules) (sym sources) are)) in
    let there = subst (λ (ss : List Source). UnlessMemory a ((typed : List ProgramModule) × AreTyped ss typed)) sources typed in
    of_reply (λ x. DidOf (InterpOf shown opts input) input x rest' taken taken') (map source ms) a reply replies
    (did_run one shown opts few input parts a rest' taken taken' builds there ran)
    (λ tells. did_untold one shown opts few input parts a rest' taken taken' builds tells ran))

pub refused_did : OneBuild → ObjectsBeside → (opts : RunOpts) → opts.build.colours ≤ colour_limit → (ms : List Module) (told : Option Told) (rest taken : Option (List ℕ)) (fault : BuildFault) (a : Answer) → a ≡ fault_answer fault
    → IfSome told (λ t. FaultBuilds (map source ms) (map (λ m. kept_object t.files m.name) ms) opts.build fault)
    → IfSome told (λ t. (shown : Files) → IsSeen t.files shown → map source ms ≡ modules_of shown → IfSome rest (λ input. DidOf (InterpOf shown opts input) input a rest taken taken))
refused_did one beside opts few ms None rest taken fault a is h = tt
refused_did one beside opts few ms (Some t) rest taken fault a is h = λ shown seen sources. if_some rest (λ input told.
    let found = subst (λ (ss : List Source). FaultBuilds ss (kept_objects shown) opts.build fault) sources
    (subst (λ (k : List (Option Object)). FaultBuilds (map source ms) k opts.build fault) (kept_shown beside t.files shown seen ms ∙ kept_are ms shown sources) h) in
    subst (λ (x : Answer). DidOf (InterpOf shown opts input) input x rest taken taken) (sym is)
    (subst (λ (o : Option (List ℕ)). DidOf (InterpOf shown opts input) input (fault_answer fault) o taken taken) (sym told) (fault_did one shown opts few input taken fault found)))

-- modules that were not read, or are too many
sees_did : OneBuild → OneWay → (files : Files) (opts : RunOpts) → opts.build.colours ≤ colour_limit → (input : List ℕ) (taken : Option (List ℕ)) (fault : BuildFault) → SeesFault files fault → DidPlain files opts input (fault_answer fault) (Some input) taken taken
sees_did one way files opts few input taken build.StoreFault h = failed_did files opts input taken
sees_did one way files opts few input taken build.NoMemory h = memory_did files opts input taken
sees_did one way files opts few input taken (build.Refused name refusal) h =
    did_seen way files h.0 opts input (answer.Refused name refusal) (Some input) taken taken h.1
    (fault_did one h.0 opts few input taken (build.Refused name refusal) (subst (λ x. BuildsBy x (kept_objects h.0) opts.build (Err (build.Refused name refusal))) (sym h.2) refl))
sees_did one way files opts few input taken (build.LinkRefused fault) h =
    did_seen way files h.0 opts input (answer.LinkRefused fault) (Some input) taken taken h.1
    (fault_did one h.0 opts few input taken (build.LinkRefused fault) (subst (λ x. BuildsBy x (kept_objects h.0) opts.build (Err (build.LinkRefused fault))) (sym h.2) refl))

pub unread_did : OneBuild → OneWay → (opts : RunOpts) → opts.build.colours ≤ colour_limit → (told : Option Told) (rest taken : Option (List ℕ)) (fault : BuildFault) (a : Answer) → a ≡ fault_answer fault
    → IfSome told (λ t. SeesFault t.files fault) → IfSome told (λ t. IfSome rest (λ input. DidPlain t.files opts input a rest taken taken))
unread_did one way opts few None rest taken fault a is h = tt
unread_did one way opts few (Some t) rest taken fault a is h = if_some rest (λ input told.
    subst (λ (x : Answer). DidPlain t.files opts input x rest taken taken) (sym is)
    (subst (λ (o : Option (List ℕ)). DidPlain t.files opts input (fault_answer fault) o taken taken) (sym told) (sees_did one way t.files opts few input taken fault h)))

-- what was done by the modules that were read
pub read_did : OneWay → (opts : RunOpts) (ms : List Module) (told mid : Option Told) (rest rest' taken taken' : Option (List ℕ)) (a : Answer) → IfSome told (λ t. SeesModules t.files (map source ms)) → Keeps told mid
    → IfSome mid (λ t. (shown : Files) → IsSeen t.files shown → map source ms ≡ modules_of shown → IfSome rest (λ input. DidOf (InterpOf shown opts input) input a rest' taken taken'))
    → IfSome told (λ t. IfSome rest (λ input. DidPlain t.files opts input a rest' taken taken'))
read_did way opts ms None mid rest rest' taken taken' a sources same did = tt
read_did way opts ms (Some t) mid rest rest' taken taken' a sources same did =
    let P : Option Told → Type 0 = λ o. IfSome o (λ u. (shown : Files) → IsSeen u.files shown → map source ms ≡ modules_of shown → IfSome rest (λ input. DidOf (InterpOf shown opts input) input a rest' taken taken')) in
    let here = subst P same did sources.0 sources.1 sources.2 in
    if_some rest (λ input told. did_seen way t.files sources.0 opts input a rest' taken taken' sources.1 (subst (λ (o : Option (List ℕ)). IfSome o (λ bytes. DidOf (InterpOf sources.0 opts bytes) bytes a rest' taken taken')) told here))
