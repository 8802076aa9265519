-- What a line of a script does.
use Rattle.std.proofs.Common.{◌≡◌, ℕ, ⊎_elim, ◌⊎◌, inl, inr, true, List, [], ◌∷◌, length, map, Option, Some, None, Result, Ok, Err, refl, sym, ap, ◌∙◌, subst}
use Rattle.std.specs.Prelude.{IfSome, IsSomeAnd, codes}
use Rattle.pw_io.specs.declared.StoreError.{StoreError}
use Rattle.pw_io.specs.declared.StoreError.TheVariants as store
use Rattle.pw_io.specs.Faults.{HasStoreCause, OnFailed, OnNoMemory}
use Rattle.pw_io.specs.Files.{Files, Keeps, Told, LeavesFile, PutsPart}
use Rattle.pw_store_modules.specs.Modules.{modules_of}
use Rattle.pw_front_end.specs.declared.refusal.Refusal.{Refusal}
use Rattle.pw_commands_cpp.specs.Telling.{TellsAnswer, TellsOrFails, TellsRefusal}
use Rattle.pw_store_texts.specs.Names.{is_text_file}
use Rattle.pw_store_texts.specs.Seen.{IsSeen}
use Rattle.pw_top_answer.specs.declared.answer.Answer.{Answer}
use Rattle.pw_top_answer.specs.declared.answer.Answer.TheVariants.{Done, Refused, RefusedSource, LinkRefused, StoreFault, NoMemory, Undefined, UndefinedSource}
use Rattle.pw_top_answer.specs.declared.answer.Reply.{Reply}
use Rattle.pw_top_answer.specs.Answers.{line_text}
use Rattle.pw_top_answer.specs.Effects.{IsLeft, NamedFile, PutsFiles, after_puts}
use Rattle.pw_top_answer.specs.Outcomes.{IsLineDue, IsPrintAnswer, IsWhole, OutputCount, PutsOut, StoreCount, store_answer}
use Rattle.pw_build_files.specs.FromBuild.BuildFault.{BuildFault}
use Rattle.pw_build_files.specs.FromBuild.BuildFault.TheVariants as build
use Rattle.pw_build_files.specs.FromBuild.Unbuilt.{Unbuilt}
use Rattle.pw_build_files.specs.FromBuild.Phases.{IsLine, refused_line}
use Rattle.pw_build_files.specs.declared.report.Report.{Report}
use Rattle.pw_build_files.specs.Building.{Outcome, puts_of}
use Rattle.pw_build_files.specs.Lines.{report_lines, report_text}
use Rattle.pw_build_files.specs.Genuine.{KeepsGenuine}
use Rattle.pw_build_files.specs.Outcomes.{AnswersBuild, AnswersFault, IsLineOfBuild, ObeysBuild, PutsSome, Reports, fault_answer}
use Rattle.pw_build_files.specs.Driving.{outcome_lines}
use Rattle.pw_session_script.specs.Script.{LineValue, PutText, RemoveText, BuildProgram, RunProgram}
use Rattle.pw_build_opts.specs.declared.opts.RunOpts.{RunOpts}
use Rattle.pw_session.specs.Builds.{BuildsTo, TellsText}
use Rattle.pw_session.specs.Changes.{AreOwnChanges, Change, MakesChanges, MakesSome, Puts, Removes, after_changes}
use Rattle.pw_session.specs.Session.{LineEffect, Acts, SessionState, builds_as, changes_as, puts_out}
use Rattle.pw_session.specs.Outcomes.{DoesEffect, IsLineAnswer, IsLineObeyed, Leaves, ObeysLine, ObeysRun, SaysFault, SaysReply, SaysTold, StoresAlike}
use Rattle.pw_session.proofs.OutputLemmas.{puts_alone}
use Rattle.pw_session.proofs.BuildLemmas.{DoesBuild, IsFaultFound, does_build}
use Rattle.pw_session.proofs.ChangeLemmas.{front_none, makes_all, makes_some, own_puts, part_none, put_part, puts_make, puts_some}
use Rattle.pw_session.proofs.TurnLemmas.{say_store}

-- ---- a change of one file

-- all was changed
pub does_all : (output : List ℕ) (changes : List Change) (answer : Answer) (first new : Option Told) (taken taken' : Option (List ℕ)) → IfSome first (λ told. new ≡ Some (after_changes told changes)) → PutsOut output answer taken taken'
    → IfSome first (λ told. DoesEffect output changes answer told new taken taken')
does_all output changes answer None new taken taken' e out = tt
does_all output changes answer (Some told) new taken taken' e out = record { said = out; made = makes_all changes answer told new e }

-- nothing was, since memory ran out
pub does_none : (output : List ℕ) (changes : List Change) (first new : Option Told) (taken taken' : Option (List ℕ)) → IfSome first (λ told. new ≡ Some told) → taken' ≡ taken → IfSome first (λ told. DoesEffect output changes NoMemory told new taken taken')
does_none output changes None new taken taken' e same = tt
does_none output changes (Some told) new taken taken' e same = record { said = puts_alone output NoMemory taken taken' (λ more. tt) same; made = front_none changes told new e }

-- or the store failed
pub does_failed : (output : List ℕ) (changes : List Change) (first new : Option Told) (taken taken' : Option (List ℕ)) → IfSome first (λ told. new ≡ Some told) → taken' ≡ taken → IfSome first (λ told. DoesEffect output changes StoreFault told new taken taken')
does_failed output changes None new taken taken' e same = tt
does_failed output changes (Some told) new taken taken' e same = record { said = puts_alone output StoreFault taken taken' (λ more. tt) same; made = part_none changes told new e }

-- and the file was put in part
pub does_part : (output file text : List ℕ) (first new : Option Told) (taken taken' : Option (List ℕ)) → IfSome first (λ told. IsSomeAnd new (λ left. (left.puts ≡ told.puts) × LeavesFile told.files left.files file text)) → taken' ≡ taken
    → IfSome first (λ told. DoesEffect output (Puts (file, text) ∷ []) StoreFault told new taken taken')
does_part output file text None new taken taken' e same = tt
does_part output file text (Some told) new taken taken' e same =
    record { said = puts_alone output StoreFault taken taken' (λ more. tt) same; made = record { done = []; more = Puts (file, text) ∷ []; split = refl; left = inr e } }

-- ---- a build

-- the files that a build puts are its changes
act_changes : (s : SessionState) (line : List ℕ) (comes : Result Outcome BuildFault) → (builds_as s line comes).changes ≡ map Puts (puts_of comes)
act_changes s line (Ok outcome) = refl
act_changes s line (Err fault) = refl

report_said : (outcome : Outcome) (report : Report) → Reports outcome report → report_text report ≡ outcome_lines outcome
report_said outcome report r =
    ap (λ (names : List (List ℕ)). report_lines (length names) report.modules (length report.image.items) report.digest) r.rebuilt
    ∙ ap (λ (n : ℕ). report_lines (length outcome.rebuilt) n (length report.image.items) report.digest) r.modules
    ∙ ap (λ (image : List ℕ). report_lines (length outcome.rebuilt) outcome.modules (length image) report.digest) r.image
    ∙ ap (λ (digest : List ℕ). report_lines (length outcome.rebuilt) outcome.modules (length outcome.image) digest) r.digest

-- the effect of a program that was built
built_act : (opts : RunOpts) (s : SessionState) (line : List ℕ) (report : Report) (comes : Result Outcome BuildFault) (new : Option Told) (answer : Answer) (taken taken' : Option (List ℕ)) → AnswersBuild comes (Ok report) → PutsFiles (puts_of comes) Done s.told new
    → PutsOut (report_text report) answer taken taken' → DoesEffect (builds_as s line comes).output (builds_as s line comes).changes answer s.told new taken taken'
built_act opts s line report comes new answer taken taken' h puts out =
    let same : comes ≡ Ok h.0 = h.1 in
    let text = report_said h.0 report h.2 in
    let made : new ≡ Some (after_changes s.told (map Puts h.0.puts)) = puts_make h.0.puts Done s.told new (subst (λ (c : Result Outcome BuildFault). PutsFiles (puts_of c) Done s.told new) same puts) in
    subst (λ (c : Result Outcome BuildFault). DoesEffect (builds_as s line c).output (builds_as s line c).changes answer s.told new taken taken') (sym same)
    (record { said = subst (λ (t : List ℕ). PutsOut t answer taken taken') text out; made = makes_all (map Puts h.0.puts) answer s.told new made })

built_image : (s : SessionState) (line : List ℕ) (report : Report) (comes : Result Outcome BuildFault) → AnswersBuild comes (Ok report) → Some report.image.items ≡ (builds_as s line comes).image
built_image s line report comes h = ap (λ (i : List ℕ). Some i) h.2.image ∙ ap (λ (c : Result Outcome BuildFault). (builds_as s line c).image) (sym h.1)

built_line : (opts : RunOpts) (s : SessionState) (report : Report) (new : Option Told) (answer : Answer) (taken taken' image : Option (List ℕ)) → DoesBuild opts.build (Ok report) s.told new → PutsOut (report_text report) answer taken taken'
    → image ≡ Some report.image.items → ObeysLine opts s BuildProgram answer new taken taken' image
built_line opts s report new answer taken taken' image obeys out e = record {
  does = λ effect h. subst (λ (a : LineEffect). DoesEffect a.output a.changes answer s.told new taken taken') (sym h.4) (built_act opts s h.2 report h.0 new answer taken taken' (obeys.answers h.0 h.1) (obeys.puts h.0 h.1) out);
  keeps = λ effect h d. e ∙ built_image s h.2 report h.0 (obeys.answers h.0 h.1) ∙ ap (λ (a : LineEffect). a.image) (sym h.4);
  found = λ d. (builds_as s [] (Ok obeys.found.0), (Ok obeys.found.0, obeys.found.1, [], refl, refl), puts_make obeys.found.0.puts Done s.told new (obeys.puts (Ok obeys.found.0) obeys.found.1));
}

pub line_built : (opts : RunOpts) (built : Option (List ℕ)) (report : Report) (first new : Option Told) (answer : Answer) (taken taken' image : Option (List ℕ)) → IfSome first (λ told. ObeysBuild opts.build (Ok report) told new) → PutsOut (report_text report) answer taken taken'
    → image ≡ Some report.image.items → IfSome first (λ told. ObeysLine opts (record { told = told; image = built }) BuildProgram answer new taken taken' image)
line_built opts built report None new answer taken taken' image obeys out e = tt
line_built opts built report (Some told) new answer taken taken' image obeys out e = built_line opts (record { told = told; image = built }) report new answer taken taken' image (does_build opts.build (Ok report) told new obeys) out e

pub made_built : (may : List ℕ → Type 0) (first new : Option Told) (answer : Answer) → IfSome first (λ told. PutsSome Done told new) → IfSome first (λ told. MakesSome may answer told new)
made_built may None new answer some = tt
made_built may (Some told) new answer some = puts_some may some.0 answer told new some.1 some.2

-- ---- a build that is not done

-- the laws on which it stands
pub record Tellings : Type 0 where
  pub told : (files : Files) (answer told other : Answer) → TellsAnswer files answer told → TellsAnswer files answer other → told ≡ other
  pub shown : (files shown other : Files) → IsSeen files shown → IsSeen files other → shown ≡ other

-- every number that is due tells the same line
due_text : (told : Answer) (due number : Option ℕ) → IsLineDue due told number → line_text number told ≡ line_text due told
due_text (Refused name refusal) due number h = ap (λ (n : Option ℕ). line_text n (Refused name refusal)) h
due_text (RefusedSource name refusal) due number h = ap (λ (n : Option ℕ). line_text n (RefusedSource name refusal)) h
due_text (Undefined operation name token) due number h = ap (λ (n : Option ℕ). line_text n (Undefined operation name token)) h
due_text (UndefinedSource operation name token) due number h = ap (λ (n : Option ℕ). line_text n (UndefinedSource operation name token)) h
due_text _ due number h = refl

-- the line that was put out is the one that the refusal comes to
text_is : Tellings → (files : Files) (fault : BuildFault) (line : Option ℕ) (answer : Answer) (taken taken' : Option (List ℕ)) (text : List ℕ) → ((shown : Files) → IsSeen files shown → IsLine (refused_line (modules_of shown)) fault line)
    → (q : SaysTold files fault line answer taken taken') → TellsText files (Err fault) text → line_text q.number q.told ≡ text
text_is laws files fault line answer taken taken' text due q h =
    due_text q.told (refused_line (modules_of h.2)) q.number (q.due (refused_line (modules_of h.2)) (due h.2 h.3))
    ∙ ap (λ (a : Answer). line_text (refused_line (modules_of h.2)) a) (laws.told files (fault_answer fault) q.told h.0 q.tells h.1) ∙ sym h.4

-- a session's state, with the lines that refusals come to
module _ (laws : Tellings) (s : SessionState) (new : Option Told) (answer : Answer) (taken taken' : Option (List ℕ)) where
  stopped : (comes : Result Outcome BuildFault) (text : List ℕ) (y : Answer) → answer ≡ y → taken' ≡ taken → ((more : List ℕ) → IsWhole y more) → MakesChanges (map Puts (puts_of comes)) y s.told new
      → DoesEffect (builds_as s text comes).output (builds_as s text comes).changes answer s.told new taken taken'
  stopped comes text y e same stop made =
      subst (λ (a : Answer). DoesEffect (builds_as s text comes).output (builds_as s text comes).changes a s.told new taken taken') (sym e)
      (record { said = puts_alone (builds_as s text comes).output y taken taken' stop same; made = subst (λ (cs : List Change). MakesChanges cs y s.told new) (sym (act_changes s text comes)) made })

  left_alone : (text : List ℕ) (fault : BuildFault) → new ≡ Some s.told → Leaves answer taken taken' → DoesEffect (builds_as s text (Err fault)).output (builds_as s text (Err fault)).changes answer s.told new taken taken'
  left_alone text fault none leaves =
      ⊎_elim {C = DoesEffect (builds_as s text (Err fault)).output (builds_as s text (Err fault)).changes answer s.told new taken taken'}
      (λ e. stopped (Err fault) text StoreFault e leaves.1 (λ more. tt) (part_none [] s.told new none))
      (λ e. stopped (Err fault) text NoMemory e leaves.1 (λ more. tt) (front_none [] s.told new none)) leaves.0

  refused : (fault : BuildFault) (line : Option ℕ) (comes : Result Outcome BuildFault) (text : List ℕ) → comes ≡ Err fault → new ≡ Some s.told → ((shown : Files) → IsSeen s.told.files shown → IsLine (refused_line (modules_of shown)) fault line)
      → TellsText s.told.files comes text → Leaves answer taken taken' ⊎ SaysTold s.told.files fault line answer taken taken' → DoesEffect (builds_as s text comes).output (builds_as s text comes).changes answer s.told new taken taken'
  refused fault line comes text e none due tells q =
      let here : TellsText s.told.files (Err fault) text = subst (λ (c : Result Outcome BuildFault). TellsText s.told.files c text) e tells in
      subst (λ (c : Result Outcome BuildFault). DoesEffect (builds_as s text c).output (builds_as s text c).changes answer s.told new taken taken') (sym e)
      (⊎_elim {C = DoesEffect (builds_as s text (Err fault)).output (builds_as s text (Err fault)).changes answer s.told new taken taken'}
      (λ leaves. left_alone text fault none leaves)
      (λ t. record { said = subst (λ (x : List ℕ). PutsOut x answer taken taken') (text_is laws s.told.files fault line answer taken taken' text due t here) t.said; made = makes_all [] answer s.told new none }) q)

  nothing : (fault : BuildFault) (comes : Result Outcome BuildFault) (y : Answer) → comes ≡ Err fault → PutsFiles (puts_of comes) y s.told new → PutsFiles [] y s.told new
  nothing fault comes y e p = subst (λ (c : Result Outcome BuildFault). PutsFiles (puts_of c) y s.told new) e p

  fault_act : (fault : BuildFault) (line : Option ℕ) (comes : Result Outcome BuildFault) (text : List ℕ) → AnswersFault comes fault → PutsFiles (puts_of comes) (fault_answer fault) s.told new
      → ((shown : Files) → IsSeen s.told.files shown → IsLine (refused_line (modules_of shown)) fault line) → TellsText s.told.files comes text → SaysFault s.told.files fault line answer taken taken'
      → DoesEffect (builds_as s text comes).output (builds_as s text comes).changes answer s.told new taken taken'
  fault_act build.StoreFault line comes text c p l t q = stopped comes text StoreFault q.0 q.1 (λ more. tt) (puts_make (puts_of comes) StoreFault s.told new p)
  fault_act build.NoMemory line comes text c p l t q = stopped comes text NoMemory q.0 q.1 (λ more. tt) (puts_make (puts_of comes) NoMemory s.told new p)
  fault_act (build.Refused name refusal) line comes text c p l t q = refused (build.Refused name refusal) line comes text c (nothing (build.Refused name refusal) comes (Refused name refusal) c p) l t q
  fault_act (build.LinkRefused fault) line comes text c p l t q = refused (build.LinkRefused fault) line comes text c (nothing (build.LinkRefused fault) comes (LinkRefused fault) c p) l t q

store_is_no_done : ◌≡◌ {A = Answer} StoreFault Done → ⊥
store_is_no_done e = cc

memory_is_no_done : ◌≡◌ {A = Answer} NoMemory Done → ⊥
memory_is_no_done e = cc

no_leaves : (answer : Answer) (taken taken' : Option (List ℕ)) → Leaves answer taken taken' → IsLineObeyed answer → ⊥
no_leaves answer taken taken' h d = ⊎_elim {C = ⊥} (λ e. subst IsLineObeyed e d) (λ e. subst IsLineObeyed e d) h.0

told_here : (files : Files) (fault : BuildFault) (line : Option ℕ) (answer : Answer) (taken taken' : Option (List ℕ)) → Leaves answer taken taken' ⊎ SaysTold files fault line answer taken taken' → IsLineObeyed answer → SaysTold files fault line answer taken taken'
told_here files fault line answer taken taken' q d = ⊎_elim {C = SaysTold files fault line answer taken taken'} (λ leaves. absurd (no_leaves answer taken taken' leaves d)) (λ t. t) q

-- Where the line of a fault was told, or could not be put out, the build comes to it, and to that line, and nothing was put.
abbrev Found : RunOpts → SessionState → BuildFault → Option Told → Type 0
Found opts s fault new = BuildsTo s.told.files opts.build (Err fault) × ((text : List ℕ) × TellsText s.told.files (Err fault) text) × (new ≡ Some s.told)

seen_of : (opts : RunOpts) (files : Files) (comes : Result Outcome BuildFault) → BuildsTo files opts.build comes → (shown : Files) × IsSeen files shown
unfolding BuildsTo
seen_of opts files comes h = (h.0, h.1)

refusal_found : (opts : RunOpts) (s : SessionState) (fault : BuildFault) (line : Option ℕ) (new : Option Told) (answer : Answer) (taken taken' : Option (List ℕ)) → BuildsTo s.told.files opts.build (Err fault) → Leaves answer taken taken' ⊎ SaysTold s.told.files fault line answer taken taken'
    → IsLineObeyed answer → new ≡ Some s.told → Found opts s fault new
refusal_found opts s fault line new answer taken taken' is q d none =
    let t = told_here s.told.files fault line answer taken taken' q d in
    let shown = seen_of opts s.told.files (Err fault) is in
    (is, (line_text (refused_line (modules_of shown.0)) t.told, (t.told, t.tells, shown.0, shown.1, refl)), none)

fault_found : (opts : RunOpts) (s : SessionState) (fault : BuildFault) (line : Option ℕ) (new : Option Told) (answer : Answer) (taken taken' : Option (List ℕ)) → IsFaultFound s.told.files opts.build fault → SaysFault s.told.files fault line answer taken taken' → IsLineObeyed answer
    → ((comes : Result Outcome BuildFault) → BuildsTo s.told.files opts.build comes → PutsFiles (puts_of comes) (fault_answer fault) s.told new) → Found opts s fault new
fault_found opts s build.StoreFault line new answer taken taken' f q d puts = absurd (subst IsLineObeyed q.0 d)
fault_found opts s build.NoMemory line new answer taken taken' f q d puts = absurd (subst IsLineObeyed q.0 d)
fault_found opts s (build.Refused name refusal) line new answer taken taken' f q d puts = refusal_found opts s (build.Refused name refusal) line new answer taken taken' f q d (puts (Err (build.Refused name refusal)) f)
fault_found opts s (build.LinkRefused fault) line new answer taken taken' f q d puts = refusal_found opts s (build.LinkRefused fault) line new answer taken taken' f q d (puts (Err (build.LinkRefused fault)) f)

-- a refusal leaves the image
fault_image : (s : SessionState) (fault : BuildFault) (line : Option ℕ) (comes : Result Outcome BuildFault) (text : List ℕ) (answer : Answer) (taken taken' : Option (List ℕ)) → AnswersFault comes fault → SaysFault s.told.files fault line answer taken taken' → answer ≡ Done → s.image ≡ (builds_as s text comes).image
fault_image s build.StoreFault line comes text answer taken taken' c q d = absurd (store_is_no_done (sym q.0 ∙ d))
fault_image s build.NoMemory line comes text answer taken taken' c q d = absurd (memory_is_no_done (sym q.0 ∙ d))
fault_image s (build.Refused name refusal) line comes text answer taken taken' c q d = ap (λ (r : Result Outcome BuildFault). (builds_as s text r).image) (sym c)
fault_image s (build.LinkRefused fault) line comes text answer taken taken' c q d = ap (λ (r : Result Outcome BuildFault). (builds_as s text r).image) (sym c)

fault_said : Tellings → (opts : RunOpts) (s : SessionState) (unbuilt : Unbuilt) (new : Option Told) (answer : Answer) (taken taken' image : Option (List ℕ)) → DoesBuild opts.build (Err unbuilt) s.told new
    → ((shown : Files) → IsSeen s.told.files shown → IsLine (refused_line (modules_of shown)) unbuilt.fault unbuilt.line) → SaysFault s.told.files unbuilt.fault unbuilt.line answer taken taken' → image ≡ s.image → ObeysLine opts s BuildProgram answer new taken taken' image
fault_said laws opts s unbuilt new answer taken taken' image obeys line said e = record {
  does = λ effect h. subst (λ (a : LineEffect). DoesEffect a.output a.changes answer s.told new taken taken') (sym h.4) (fault_act laws s new answer taken taken' unbuilt.fault unbuilt.line h.0 h.2 (obeys.answers h.0 h.1) (obeys.puts h.0 h.1) line h.3 said);
  keeps = λ effect h d. e ∙ fault_image s unbuilt.fault unbuilt.line h.0 h.2 answer taken taken' (obeys.answers h.0 h.1) said d ∙ ap (λ (a : LineEffect). a.image) (sym h.4);
  found = λ d.
      let f = fault_found opts s unbuilt.fault unbuilt.line new answer taken taken' obeys.found said d obeys.puts in
      (builds_as s f.1.0 (Err unbuilt.fault), (Err unbuilt.fault, f.0, f.1.0, f.1.1, refl), f.2);
}

-- ---- behind a build the store tells something

left_some : (told : Told) (more : List NamedFile) (new : Option Told) → IsLeft told more new → (t : Told) × (new ≡ Some t)
left_some told [] new h = (told, h)
left_some told (file ∷ more) None h = ⊎_elim {C = (t : Told) × (◌≡◌ {A = Option Told} None (Some t))} (λ e. (told, e)) (λ n. absurd n) h
left_some told (file ∷ more) (Some left) h = (left, refl)

some_is : (fault : BuildFault) (told : Told) (new : Option Told) → PutsSome (fault_answer fault) told new → (t : Told) × (new ≡ Some t)
some_is build.StoreFault told new h = left_some (after_puts told h.2.done) h.2.more new h.2.left
some_is build.NoMemory told new h = (after_puts told h.0, h.2)
some_is (build.Refused name refusal) told new h = (told, h)
some_is (build.LinkRefused fault) told new h = (told, h)

later_is : (fault : BuildFault) (told : Told) (new later : Option Told) → PutsSome (fault_answer fault) told new → Keeps new later → later ≡ new
later_is fault told new later some same =
    let t = some_is fault told new some in
    let P : Option Told → Type 0 = λ o. Keeps o later in
    let e : later ≡ Some t.0 = subst P t.1 same in
    e ∙ sym t.1

said_over : (fault : BuildFault) (line : Option ℕ) (told : Told) (new : Option Told) (answer : Answer) (taken taken' : Option (List ℕ)) → PutsSome (fault_answer fault) told new → IfSome new (λ t. SaysFault t.files fault line answer taken taken') → SaysFault told.files fault line answer taken taken'
said_over build.StoreFault line told new answer taken taken' some q =
    let t = some_is build.StoreFault told new some in
    subst (λ (o : Option Told). IfSome o (λ u. SaysFault u.files build.StoreFault line answer taken taken')) t.1 q
said_over build.NoMemory line told new answer taken taken' some q =
    let t = some_is build.NoMemory told new some in
    subst (λ (o : Option Told). IfSome o (λ u. SaysFault u.files build.NoMemory line answer taken taken')) t.1 q
said_over (build.Refused name refusal) line told new answer taken taken' some q =
    subst (λ (o : Option Told). IfSome o (λ u. SaysFault u.files (build.Refused name refusal) line answer taken taken')) some q
said_over (build.LinkRefused fault) line told new answer taken taken' some q =
    subst (λ (o : Option Told). IfSome o (λ u. SaysFault u.files (build.LinkRefused fault) line answer taken taken')) some q

-- what the store tells behind the build it tells behind the line too
pub line_refused : Tellings → (opts : RunOpts) (built : Option (List ℕ)) (unbuilt : Unbuilt) (first new later : Option Told) (answer : Answer) (taken taken' image : Option (List ℕ)) → IfSome first (λ told. ObeysBuild opts.build (Err unbuilt) told new)
    → IfSome first (λ told. IsLineOfBuild told.files (Err unbuilt)) → IfSome first (λ told. PutsSome (fault_answer unbuilt.fault) told new) → IfSome new (λ told. SaysFault told.files unbuilt.fault unbuilt.line answer taken taken') → Keeps new later → image ≡ built
    → IfSome first (λ told. ObeysLine opts (record { told = told; image = built }) BuildProgram answer later taken taken' image)
line_refused laws opts built unbuilt None new later answer taken taken' image obeys line some said same e = tt
line_refused laws opts built unbuilt (Some told) new later answer taken taken' image obeys line some said same e =
    let s : SessionState = record { told = told; image = built } in
    let after : later ≡ new = later_is unbuilt.fault told new later some same in
    fault_said laws opts s unbuilt later answer taken taken' image
    (does_build opts.build (Err unbuilt) told later (subst (λ (o : Option Told). ObeysBuild opts.build (Err unbuilt) told o) (sym after) obeys)) line (said_over unbuilt.fault unbuilt.line told new answer taken taken' some said) e

some_refused : (may : List ℕ → Type 0) (told : Told) (fault : BuildFault) (line : Option ℕ) (new : Option Told) (answer : Answer) (taken taken' : Option (List ℕ)) → PutsSome (fault_answer fault) told new → SaysFault told.files fault line answer taken taken' → MakesSome may answer told new
some_refused may told build.StoreFault line new answer taken taken' some q = subst (λ (a : Answer). MakesSome may a told new) (sym q.0) (map Puts some.0, own_puts may some.0 some.1, put_part some.0 told new some.2)
some_refused may told build.NoMemory line new answer taken taken' some q = puts_some may some.0 answer told new some.1 some.2
some_refused may told (build.Refused name refusal) line new answer taken taken' some q = makes_some may [] answer told new tt (makes_all [] answer told new some)
some_refused may told (build.LinkRefused fault) line new answer taken taken' some q = makes_some may [] answer told new tt (makes_all [] answer told new some)

pub made_refused : (may : List ℕ → Type 0) (unbuilt : Unbuilt) (first new later : Option Told) (answer : Answer) (taken taken' : Option (List ℕ)) → IfSome first (λ told. PutsSome (fault_answer unbuilt.fault) told new)
    → IfSome new (λ told. SaysFault told.files unbuilt.fault unbuilt.line answer taken taken') → Keeps new later → IfSome first (λ told. MakesSome may answer told later)
made_refused may unbuilt None new later answer taken taken' some said same = tt
made_refused may unbuilt (Some told) new later answer taken taken' some said same =
    subst (λ (o : Option Told). MakesSome may answer told o) (sym (later_is unbuilt.fault told new later some same))
    (some_refused may told unbuilt.fault unbuilt.line new answer taken taken' some (said_over unbuilt.fault unbuilt.line told new answer taken taken' some said))

-- genuine objects stay so
pub genuine_refused : (unbuilt : Unbuilt) (first new later : Option Told) → IfSome first (λ told. PutsSome (fault_answer unbuilt.fault) told new) → IfSome first (λ told. KeepsGenuine told.files → IfSome new (λ now. KeepsGenuine now.files)) → Keeps new later
    → IfSome first (λ told. KeepsGenuine told.files → IfSome later (λ now. KeepsGenuine now.files))
genuine_refused unbuilt None new later some keeps same = tt
genuine_refused unbuilt (Some told) new later some keeps same = λ k.
    subst (λ (o : Option Told). IfSome o (λ now. KeepsGenuine now.files)) (sym (later_is unbuilt.fault told new later some same)) (keeps k)

-- ---- the other lines

-- a change of a file, as a line
change_line : (opts : RunOpts) (s : SessionState) (line : LineValue) (change : Change) (new : Option Told) (answer : Answer) (taken taken' image : Option (List ℕ)) → ((effect : LineEffect) → Acts opts s line effect → effect ≡ changes_as s change) → Acts opts s line (changes_as s change)
    → DoesEffect (codes "ok\n") (change ∷ []) answer s.told new taken taken' → (IsLineObeyed answer → new ≡ Some (after_changes s.told (change ∷ []))) → image ≡ s.image → ObeysLine opts s line answer new taken taken' image
change_line opts s line change new answer taken taken' image one is does made e = record {
  does = λ effect h. subst (λ (a : LineEffect). DoesEffect a.output a.changes answer s.told new taken taken') (sym (one effect h)) does;
  keeps = λ effect h d. e ∙ ap (λ (a : LineEffect). a.image) (sym (one effect h));
  found = λ d. (changes_as s change, is, made d);
}

pub line_put : (opts : RunOpts) (built : Option (List ℕ)) (file text : List ℕ) (first new : Option Told) (answer : Answer) (taken taken' image : Option (List ℕ)) → IfSome first (λ told. DoesEffect (codes "ok\n") (Puts (file, text) ∷ []) answer told new taken taken')
    → IfSome first (λ told. IsLineObeyed answer → new ≡ Some (after_changes told (Puts (file, text) ∷ []))) → image ≡ built → IfSome first (λ told. ObeysLine opts (record { told = told; image = built }) (PutText file text) answer new taken taken' image)
line_put opts built file text None new answer taken taken' image does made e = tt
line_put opts built file text (Some told) new answer taken taken' image does made e =
    change_line opts (record { told = told; image = built }) (PutText file text) (Puts (file, text)) new answer taken taken' image (λ effect h. h) refl does made e

pub line_removed : (opts : RunOpts) (built : Option (List ℕ)) (file : List ℕ) (first new : Option Told) (answer : Answer) (taken taken' image : Option (List ℕ)) → IfSome first (λ told. DoesEffect (codes "ok\n") (Removes file ∷ []) answer told new taken taken')
    → IfSome first (λ told. IsLineObeyed answer → new ≡ Some (after_changes told (Removes file ∷ []))) → image ≡ built → IfSome first (λ told. ObeysLine opts (record { told = told; image = built }) (RemoveText file) answer new taken taken' image)
line_removed opts built file None new answer taken taken' image does made e = tt
line_removed opts built file (Some told) new answer taken taken' image does made e =
    change_line opts (record { told = told; image = built }) (RemoveText file) (Removes file) new answer taken taken' image (λ effect h. h) refl does made e

pub does_some : (may : List ℕ → Type 0) (output : List ℕ) (changes : List Change) (first new : Option Told) (answer : Answer) (taken taken' : Option (List ℕ)) → AreOwnChanges may changes → IfSome first (λ told. DoesEffect output changes answer told new taken taken')
    → IfSome first (λ told. MakesSome may answer told new)
does_some may output changes None new answer taken taken' own does = tt
does_some may output changes (Some told) new answer taken taken' own does = makes_some may changes answer told new own does.made

-- of one text's file
pub put_some : (may : List ℕ → Type 0) (output file text : List ℕ) (first new : Option Told) (answer : Answer) (taken taken' : Option (List ℕ)) → is_text_file file ≡ true → IfSome first (λ told. DoesEffect output (Puts (file, text) ∷ []) answer told new taken taken')
    → IfSome first (λ told. MakesSome may answer told new)
put_some may output file text first new answer taken taken' own does = does_some may output (Puts (file, text) ∷ []) first new answer taken taken' (inl own, tt) does

pub removed_some : (may : List ℕ → Type 0) (output file : List ℕ) (first new : Option Told) (answer : Answer) (taken taken' : Option (List ℕ)) → may file → IfSome first (λ told. DoesEffect output (Removes file ∷ []) answer told new taken taken')
    → IfSome first (λ told. MakesSome may answer told new)
removed_some may output file first new answer taken taken' own does = does_some may output (Removes file ∷ []) first new answer taken taken' (own, tt) does

run_does : (opts : RunOpts) (s : SessionState) (input : List ℕ) (new : Option Told) (answer : Answer) (taken taken' image : Option (List ℕ)) → ObeysRun s.image opts.budget input answer taken taken' → new ≡ Some s.told → image ≡ s.image
    → ObeysLine opts s (RunProgram input) answer new taken taken' image
run_does opts s input new answer taken taken' image run same e = record {
  does = λ effect h. subst (λ (a : LineEffect). DoesEffect a.output a.changes answer s.told new taken taken') (sym h.2) (record { said = run.output h.0 h.1; made = makes_all [] answer s.told new same });
  keeps = λ effect h d. e ∙ ap (λ (a : LineEffect). a.image) (sym h.2);
  found = λ d. (puts_out s (run.found d).0, ((run.found d).0, (run.found d).1, refl), same);
}

pub line_run : (opts : RunOpts) (built : Option (List ℕ)) (input : List ℕ) (first : Option Told) (answer : Answer) (taken taken' image : Option (List ℕ)) → ObeysRun built opts.budget input answer taken taken' → image ≡ built
    → IfSome first (λ told. ObeysLine opts (record { told = told; image = built }) (RunProgram input) answer first taken taken' image)
line_run opts built input None answer taken taken' image run e = tt
line_run opts built input (Some told) answer taken taken' image run e = run_does opts (record { told = told; image = built }) input (Some told) answer taken taken' image run refl e

pub same_some : (may : List ℕ → Type 0) (first : Option Told) (answer : Answer) → IfSome first (λ told. MakesSome may answer told first)
same_some may None answer = tt
same_some may (Some told) answer = makes_some may [] answer told (Some told) tt (makes_all [] answer told (Some told) refl)

-- ---- over what the calls gave

pub line_put_so : (opts : RunOpts) (built : Option (List ℕ)) (file text f t : List ℕ) (first new : Option Told) (answer : Answer) (taken taken' image : Option (List ℕ)) → f ≡ file → t ≡ text → IfSome first (λ told. DoesEffect (codes "ok\n") (Puts (f, t) ∷ []) answer told new taken taken')
    → IfSome first (λ told. IsLineObeyed answer → new ≡ Some (after_changes told (Puts (f, t) ∷ []))) → image ≡ built
    → IfSome first (λ told. ObeysLine opts (record { told = told; image = built }) (PutText file text) answer new taken taken' image)
line_put_so opts built file text f t first new answer taken taken' image e h does made same =
    line_put opts built file text first new answer taken taken' image
    (subst (λ (x : List ℕ). IfSome first (λ told. DoesEffect (codes "ok\n") (Puts (x, text) ∷ []) answer told new taken taken')) e
    (subst (λ (y : List ℕ). IfSome first (λ told. DoesEffect (codes "ok\n") (Puts (f, y) ∷ []) answer told new taken taken')) h does))
    (subst (λ (x : List ℕ). IfSome first (λ told. IsLineObeyed answer → new ≡ Some (after_changes told (Puts (x, text) ∷ [])))) e
    (subst (λ (y : List ℕ). IfSome first (λ told. IsLineObeyed answer → new ≡ Some (after_changes told (Puts (f, y) ∷ [])))) h made)) same

pub line_removed_so : (opts : RunOpts) (built : Option (List ℕ)) (file f : List ℕ) (first new : Option Told) (answer : Answer) (taken taken' image : Option (List ℕ)) → f ≡ file → IfSome first (λ told. DoesEffect (codes "ok\n") (Removes f ∷ []) answer told new taken taken')
    → IfSome first (λ told. IsLineObeyed answer → new ≡ Some (after_changes told (Removes f ∷ []))) → image ≡ built
    → IfSome first (λ told. ObeysLine opts (record { told = told; image = built }) (RemoveText file) answer new taken taken' image)
line_removed_so opts built file f first new answer taken taken' image e does made same =
    line_removed opts built file first new answer taken taken' image (subst (λ (x : List ℕ). IfSome first (λ told. DoesEffect (codes "ok\n") (Removes x ∷ []) answer told new taken taken')) e does)
    (subst (λ (x : List ℕ). IfSome first (λ told. IsLineObeyed answer → new ≡ Some (after_changes told (Removes x ∷ [])))) e made) same

pub line_run_so : (opts : RunOpts) (built given : Option (List ℕ)) (input i : List ℕ) (first : Option Told) (answer : Answer) (taken taken' image : Option (List ℕ)) → given ≡ built → i ≡ input → ObeysRun given opts.budget i answer taken taken' → image ≡ built
    → IfSome first (λ told. ObeysLine opts (record { told = told; image = built }) (RunProgram input) answer first taken taken' image)
line_run_so opts built given input i first answer taken taken' image e h run same =
    line_run opts built input first answer taken taken' image
    (subst (λ (b : Option (List ℕ)). ObeysRun b opts.budget input answer taken taken') e (subst (λ (x : List ℕ). ObeysRun given opts.budget x answer taken taken') h run)) same

-- ---- faults of the store

pub put_error : (output file text : List ℕ) (error : StoreError) (answer : Answer) (first new : Option Told) (taken : Option (List ℕ)) → answer ≡ store_answer error → OnFailed {T = Unit {0}} (Err error) (PutsPart first new file text)
    → OnNoMemory {T = Unit {0}} (Err error) (Keeps first new) → IfSome first (λ told. DoesEffect output (Puts (file, text) ∷ []) answer told new taken taken)
put_error output file text store.Failed answer first new taken e part none =
    subst (λ (a : Answer). IfSome first (λ told. DoesEffect output (Puts (file, text) ∷ []) a told new taken taken)) (sym e) (does_part output file text first new taken taken part refl)
put_error output file text store.NoMemory answer first new taken e part none =
    subst (λ (a : Answer). IfSome first (λ told. DoesEffect output (Puts (file, text) ∷ []) a told new taken taken)) (sym e) (does_none output (Puts (file, text) ∷ []) first new taken taken none refl)

pub remove_error : (output file : List ℕ) (error : StoreError) (answer : Answer) (first new : Option Told) (taken : Option (List ℕ)) → answer ≡ store_answer error → Keeps first new → IfSome first (λ told. DoesEffect output (Removes file ∷ []) answer told new taken taken)
remove_error output file store.Failed answer first new taken e none =
    subst (λ (a : Answer). IfSome first (λ told. DoesEffect output (Removes file ∷ []) a told new taken taken)) (sym e) (does_failed output (Removes file ∷ []) first new taken taken none refl)
remove_error output file store.NoMemory answer first new taken e none =
    subst (λ (a : Answer). IfSome first (λ told. DoesEffect output (Removes file ∷ []) a told new taken taken)) (sym e) (does_none output (Removes file ∷ []) first new taken taken none refl)

pub error_count : (error : StoreError) (answer : Answer) (before now : ℕ) → answer ≡ store_answer error → HasStoreCause {T = Unit {0}} before now (Err error) → StoreCount before now answer
error_count store.Failed answer before now e h = subst (StoreCount before now) (sym e) h
error_count store.NoMemory answer before now e h = subst (StoreCount before now) (sym e) h

pub error_write : (error : StoreError) (answer : Answer) (count : ℕ) → answer ≡ store_answer error → OutputCount count count answer
error_write store.Failed answer count e = subst (OutputCount count count) (sym e) refl
error_write store.NoMemory answer count e = subst (OutputCount count count) (sym e) refl

pub error_made : (error : StoreError) (answer : Answer) (changes : List Change) (first new : Option Told) → answer ≡ store_answer error → IfSome first (λ told. IsLineObeyed answer → new ≡ Some (after_changes told changes))
error_made error answer changes None new e = tt
error_made store.Failed answer changes (Some told) new e = λ d. absurd (subst IsLineObeyed e d)
error_made store.NoMemory answer changes (Some told) new e = λ d. absurd (subst IsLineObeyed e d)

pub made_so : (answer : Answer) (changes : List Change) (first new : Option Told) → IfSome first (λ told. new ≡ Some (after_changes told changes)) → IfSome first (λ told. IsLineObeyed answer → new ≡ Some (after_changes told changes))
made_so answer changes None new e = tt
made_so answer changes (Some told) new e = λ d. e

pub error_is : (error : StoreError) (answer : Answer) → answer ≡ store_answer error → IsLineAnswer answer
error_is store.Failed answer e = subst IsLineAnswer (sym e) tt
error_is store.NoMemory answer e = subst IsLineAnswer (sym e) tt

-- ---- faults of a build

pub says_reply : (reply : Answer) (line : Option ℕ) (answer : Answer) (taken taken' : Option (List ℕ)) → (reply ≡ StoreFault → ⊥) → (reply ≡ NoMemory → ⊥) → PutsOut (line_text line reply) answer taken taken' → IsPrintAnswer answer → SaysReply reply line answer taken taken'
says_reply StoreFault line answer taken taken' a b out k = absurd (a refl)
says_reply NoMemory line answer taken taken' a b out k = absurd (b refl)
says_reply _ line answer taken taken' a b out k = (out, k)

pub stores_alike : (reply answer : Answer) → (reply ≡ StoreFault → ⊥) → IsPrintAnswer answer → StoresAlike reply answer
stores_alike StoreFault answer a k = absurd (a refl)
stores_alike _ answer a k = λ before now h. say_store answer before now k h

refusal_says : (files : Files) (name : List ℕ) (refusal : Refusal) (line number : Option ℕ) (told answer : Answer) (taken taken' : Option (List ℕ)) → TellsRefusal files name refusal told → ((due : Option ℕ) → line ≡ due → IsLineDue due told number)
    → SaysReply told number answer taken taken' → Leaves answer taken taken' ⊎ SaysTold files (build.Refused name refusal) line answer taken taken'
refusal_says files name refusal line number StoreFault answer taken taken' h due q = inl (inl q.0, q.1)
refusal_says files name refusal line number NoMemory answer taken taken' h due q = inl (inr q.0, q.1)
refusal_says files name refusal line number told answer taken taken' h due q = inr (record { told = told; tells = h; number = number; due = due; said = q.0; print = q.1 })

fault_says : (files : Files) (fault : BuildFault) (line number : Option ℕ) (told answer : Answer) (taken taken' : Option (List ℕ)) → TellsOrFails files (fault_answer fault) told → ((due : Option ℕ) → IsLineDue due (fault_answer fault) line → IsLineDue due told number)
    → SaysReply told number answer taken taken' → SaysFault files fault line answer taken taken'
fault_says files build.StoreFault line number told answer taken taken' h due q = subst (λ (a : Answer). SaysReply a number answer taken taken') h q
fault_says files build.NoMemory line number told answer taken taken' h due q = subst (λ (a : Answer). SaysReply a number answer taken taken') h q
fault_says files (build.Refused name refusal) line number told answer taken taken' h due q = refusal_says files name refusal line number told answer taken taken' h due q
fault_says files (build.LinkRefused fault) line number told answer taken taken' h due q =
    let said = subst (λ (a : Answer). SaysReply a number answer taken taken') h q in
    inr (record { told = LinkRefused fault; tells = refl; number = number; due = λ n l. tt; said = said.0; print = said.1 })

pub fault_is_said : (first : Option Told) (unbuilt : Unbuilt) (reply : Reply) (own : Answer) (answer : Answer) (taken taken' : Option (List ℕ)) → own ≡ fault_answer unbuilt.fault → IfSome first (λ t. TellsOrFails t.files own reply.answer)
    → ((due : Option ℕ) → IsLineDue due own unbuilt.line → IsLineDue due reply.answer reply.line) → SaysReply reply.answer reply.line answer taken taken' → IfSome first (λ t. SaysFault t.files unbuilt.fault unbuilt.line answer taken taken')
fault_is_said None unbuilt reply own answer taken taken' e h due q = tt
fault_is_said (Some t) unbuilt reply own answer taken taken' e h due q =
    let P : Answer → Type 0 = λ a. TellsOrFails t.files a reply.answer in
    let Q : Answer → Type 0 = λ a. (due : Option ℕ) → IsLineDue due a unbuilt.line → IsLineDue due reply.answer reply.line in
    fault_says t.files unbuilt.fault unbuilt.line reply.line reply.answer answer taken taken' (subst P e h) (subst Q e due) q

pub fault_counts : (reply own answer : Answer) (fault : BuildFault) (old new : ℕ) → own ≡ fault_answer fault → ((before : ℕ) → StoreCount before old own → StoreCount before new reply) → StoresAlike reply answer
    → (before : ℕ) → StoreCount before old (fault_answer fault) → StoreCount before new answer
fault_counts reply own answer fault old new e count alike before h = alike before new (count before (subst (λ (a : Answer). StoreCount before old a) (sym e) h))
