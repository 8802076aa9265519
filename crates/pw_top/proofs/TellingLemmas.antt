-- What a call did whose answer was told.
use Rattle.std.proofs.Common.{◌≡◌, ℕ, Bool, true, false, ◌⊎◌, ⊎_elim, inl, inr, List, [], Option, Some, None, Result, Ok, Err, refl, sym, ◌∙◌, subst}
use Rattle.std.specs.Prelude.{IfSome}
use Rattle.std.specs.FinMap as finite
use Rattle.pw_io.specs.Files.{Files, Told, Keeps}
use Rattle.pw_front_end.specs.Fronts.{HoldsNoWant}
use Rattle.pw_front_end.specs.declared.refusal.Refusal.{Refusal}
use Rattle.pw_store_modules.specs.Modules.{Source, modules_of}
use Rattle.pw_store_texts.specs.Names.{source_name}
use Rattle.pw_store_texts.specs.Seen.{IsSeen}
use Rattle.pw_top_answer.specs.declared.answer.Answer.{Answer}
use Rattle.pw_top_answer.specs.declared.answer.Reply.{Reply}
use Rattle.pw_top_answer.specs.declared.answer.Answer.TheVariants.{Usage, Refused, RefusedSource, Cpp, LinkRefused, StoreFault, NoMemory}
use Rattle.pw_top_answer.specs.Answers.{line_text}
use Rattle.pw_top_answer.specs.Effects.{PutsFiles}
use Rattle.pw_top_answer.specs.Outcomes.{InputCount, IsLineDue, LeavesStreams, OutputCount, StoreCount, ToldAs}
use Rattle.pw_commands_cpp.specs.Telling.{IsToldAnswer, IsToldOf, TellsOrFails}
use Rattle.pw_commands_interp.specs.Interpreting.{told_line}
use Rattle.pw_commands_phases.specs.First.{IsLineBy}
use Rattle.pw_go.specs.Going.{HasBuilt}
use Rattle.pw_law_session.specs.FromSession.FromBuild.BuildFault.{BuildFault}
use Rattle.pw_law_session.specs.FromSession.FromBuild.Phases.{refused_line}
use Rattle.pw_law_session.specs.FromSession.FromBuildFiles.Building.{Outcome, puts_of}
use Rattle.pw_law_session.specs.FromSession.FromBuildFiles.Driving.{KeepsUnput, Unput}
use Rattle.pw_law_session.specs.FromSession.FromBuildFiles.Genuine.{KeepsGenuine}
use Rattle.pw_law_session.specs.FromSession.FromBuildFiles.Outcomes.{AnswersOutcome}
use Rattle.pw_law_session.specs.FromSession.FromBuildFiles.Seen.{IsSeenLine}
use Rattle.pw_build_opts.specs.declared.opts.Opts.{Opts}
use Rattle.pw_build_opts.specs.declared.opts.RunOpts.{RunOpts}
use Rattle.pw_top_words.specs.declared.commands.Command.{Command}
use Rattle.pw_top_words.specs.declared.commands.Command.TheVariants.{Go, Build as BuildAll, Where, Interp, PhaseOne, Bench}
use Rattle.pw_top.specs.Answers.{HoldsNoLinkWant, HoldsNoWantOfMemory, IsNoUsage}
use Rattle.pw_top.specs.Commands.{BuildsFirst, BuildsWhole}
use Rattle.pw_top.specs.Does.{DoesAs}
use Rattle.pw_top.specs.Obeying.{CarriesOut, CarriesOutTold, Outside, outside_of}
use Rattle.pw_top.specs.Telling.{AnswersAs, BuildsAs, IsAnswered, IsLineTold, IsNoBuilder, IsToldBy, IsToldFor, builds_files}
use Rattle.pw_top.proofs.CommandLemmas.{none_due}
use Rattle.pw_top.proofs.GenuineLemmas.{kept_others, stays_genuine}

false_is_not_true : ◌≡◌ {A = Bool} false true → ⊥
false_is_not_true e = cc

true_is_not_false : ◌≡◌ {A = Bool} true false → ⊥
true_is_not_false e = cc

-- ---- one answer

-- What holds of an answer holds of what is told in its place, if it does so where a module is refused.
answer_told : (P : Answer → Type 0) → ((name : List ℕ) (refusal : Refusal) → P (Refused name refusal) → (told : Answer) → IsToldOf name refusal told → P told) → (answer told : Answer) → IsToldAnswer answer told → P answer → P told
answer_told P f (Refused name refusal) told h p = f name refusal p told h
answer_told P f answer told h p = subst P (sym h) p

proper_told : (name : List ℕ) (refusal : Refusal) → HoldsNoWantOfMemory (Refused name refusal) → (told : Answer) → IsToldOf name refusal told → HoldsNoWantOfMemory told
proper_told name refusal p (Refused other found) h = subst HoldsNoWant (sym h.1) p
proper_told name refusal p (RefusedSource other found) h = subst HoldsNoWant (sym h.1) p
proper_told name refusal p (Cpp fault) h = h
proper_told name refusal p (LinkRefused fault) h = subst HoldsNoLinkWant (sym h.1) tt
proper_told name refusal p StoreFault h = tt
proper_told name refusal p NoMemory h = tt
proper_told name refusal p _ h = absurd h

read_told : (before now : ℕ) (name : List ℕ) (refusal : Refusal) → InputCount before now (Refused name refusal) → (told : Answer) → IsToldOf name refusal told → InputCount before now told
read_told before now name refusal p (Refused other found) h = p
read_told before now name refusal p (RefusedSource other found) h = p
read_told before now name refusal p (Cpp fault) h = p
read_told before now name refusal p (LinkRefused fault) h = p
read_told before now name refusal p StoreFault h = p
read_told before now name refusal p NoMemory h = p
read_told before now name refusal p _ h = absurd h

write_told : (before now : ℕ) (name : List ℕ) (refusal : Refusal) → OutputCount before now (Refused name refusal) → (told : Answer) → IsToldOf name refusal told → OutputCount before now told
write_told before now name refusal p (Refused other found) h = p
write_told before now name refusal p (RefusedSource other found) h = p
write_told before now name refusal p (Cpp fault) h = p
write_told before now name refusal p (LinkRefused fault) h = p
write_told before now name refusal p StoreFault h = p
write_told before now name refusal p NoMemory h = p
write_told before now name refusal p _ h = absurd h

streams_told : (i i' o o' : Option (List ℕ)) (name : List ℕ) (refusal : Refusal) → LeavesStreams (Refused name refusal) i i' o o' → (told : Answer) → IsToldOf name refusal told → LeavesStreams told i i' o o'
streams_told i i' o o' name refusal p (Refused other found) h = p
streams_told i i' o o' name refusal p (RefusedSource other found) h = p
streams_told i i' o o' name refusal p (Cpp fault) h = p
streams_told i i' o o' name refusal p (LinkRefused fault) h = p
streams_told i i' o o' name refusal p StoreFault h = p
streams_told i i' o o' name refusal p NoMemory h = tt
streams_told i i' o o' name refusal p _ h = absurd h

usage_told : (name : List ℕ) (refusal : Refusal) → IsNoUsage (Refused name refusal) → (told : Answer) → IsToldOf name refusal told → IsNoUsage told
usage_told name refusal p Usage h = h
usage_told name refusal p _ h = tt

fault_told : (answer told : Answer) → IsToldAnswer answer told → answer ≡ StoreFault → told ≡ StoreFault
fault_told answer told h e = let P : Answer → Type 0 = λ a. IsToldAnswer a told in subst P e h

-- ---- where a module is refused, the store tells what it told

abbrev RefusedLeft : Answer → Told → Option Told → Type 0
RefusedLeft (Refused name refusal) told new = new ≡ Some told
RefusedLeft _ told new = Unit {0}

left_of : (comes : Result Outcome BuildFault) (name : List ℕ) (refusal : Refusal) (told : Told) (new : Option Told) → AnswersOutcome comes (Refused name refusal) → PutsFiles (puts_of comes) (Refused name refusal) told new → new ≡ Some told
left_of (Ok outcome) name refusal told new a p = absurd a
left_of (Err fault) name refusal told new a p = p

built_left : (opts : Opts) (answer : Answer) (told : Told) (new : Option Told) → HasBuilt opts answer told new → RefusedLeft answer told new
built_left opts (Refused name refusal) told new h = left_of h.found.0 name refusal told new (h.answers h.found.0 h.found.1) (h.puts h.found.0 h.found.1)
built_left opts _ told new h = tt

kept_left : (answer : Answer) (told : Told) (new : Option Told) → new ≡ Some told → RefusedLeft answer told new
kept_left (Refused name refusal) told new e = e
kept_left _ told new e = tt

tells_here : (answer result : Answer) (told : Told) (mid : Option Told) → RefusedLeft answer told mid → IsToldAnswer answer result → IfSome mid (λ t. TellsOrFails t.files answer result) → TellsOrFails told.files answer result
tells_here (Refused name refusal) result told mid left any h = subst (λ (o : Option Told). IfSome o (λ t. TellsOrFails t.files (Refused name refusal) result)) left h
tells_here answer result told mid left any h = any

-- ---- the store between the command and what is told

-- what was told in the place of an answer
pub record Telling (answer result : Answer) (number line : Option ℕ) (mid new : Option Told) (faults count : ℕ) : Type 0 where
  pub told : IfSome mid (λ t. TellsOrFails t.files answer result)
  pub any : IsToldAnswer answer result
  pub line_is : (due : Option ℕ) → IsLineDue due answer number → IsLineDue due result line
  pub kept : Keeps mid new
  pub counted : (before : ℕ) → StoreCount before faults answer → StoreCount before count result

later_is : (answer : Answer) (told : Told) (mid new : Option Told) → KeepsUnput answer told mid → Keeps mid new → new ≡ mid
later_is answer told None new h k = absurd h
later_is answer told (Some left) new h k = k

unput_by : (answer result : Answer) (told left : Told) → IsToldAnswer answer result → Unput answer told left → Unput result told left
unput_by answer result told left any h = record { put = h.put; failed = h.failed; own = h.own; one = h.one; none = λ ne. h.none (λ e. ne (fault_told answer result any e)); told_so = h.told_so; same = h.same }

unput_told : (answer result : Answer) (told : Told) (mid : Option Told) → IsToldAnswer answer result → KeepsUnput answer told mid → KeepsUnput result told mid
unput_told answer result told None any h = absurd h
unput_told answer result told (Some left) any h = unput_by answer result told left any h

-- two facts of what a store tells
over : (first : Option Told) (P Q R : Told → Type 0) → ((t : Told) → P t → Q t → R t) → IfSome first P → IfSome first Q → IfSome first R
over None P Q R f p q = tt
over (Some t) P Q R f p q = f t p q

pub go_told : (opts : RunOpts) (answer result : Answer) (number line : Option ℕ) (old : Outside) (mid new : Option Told) (rest taken : Option (List ℕ)) (faults count input output : ℕ)
    → CarriesOut (Some (Go opts)) answer number old (outside_of mid rest taken faults input output) → Telling answer result number line mid new faults count
    → CarriesOutTold (Some (Go opts)) result line old (outside_of new rest taken count input output)
go_told opts answer result number line old mid new rest taken faults count input output c t = record {
  answer = answer;
  told = over old.told (λ s. HasBuilt opts.build answer s mid) (λ s. HasBuilt opts.build answer s mid) (λ s. TellsOrFails s.files answer result) (λ s h k. tells_here answer result s mid (built_left opts.build answer s mid h) t.any t.told) c.built c.built;
  does = over old.told (λ s. KeepsUnput answer s mid) (λ s. IfSome old.rest (λ bytes. DoesAs (Some (Go opts)) answer s mid bytes rest old.taken taken)) (λ s. IfSome old.rest (λ bytes. DoesAs (Some (Go opts)) answer s new bytes rest old.taken taken))
      (λ s u d. subst (λ (o : Option Told). IfSome old.rest (λ bytes. DoesAs (Some (Go opts)) answer s o bytes rest old.taken taken)) (sym (later_is answer s mid new u t.kept)) d) c.others c.does;
  ends = tt;
  built = over old.told (λ s. KeepsUnput answer s mid) (λ s. HasBuilt opts.build answer s mid) (λ s. HasBuilt opts.build answer s new) (λ s u h. subst (λ (o : Option Told). HasBuilt opts.build answer s o) (sym (later_is answer s mid new u t.kept)) h) c.others c.built;
  proper = answer_told HoldsNoWantOfMemory proper_told answer result t.any c.proper;
  others = over old.told (λ s. KeepsUnput answer s mid) (λ s. KeepsUnput answer s mid) (λ s. KeepsUnput result s new) (λ s u h. subst (λ (o : Option Told). KeepsUnput result s o) (sym (later_is answer s mid new u t.kept)) (unput_told answer result s mid t.any u)) c.others c.others;
  genuine = over old.told (λ s. KeepsUnput answer s mid) (λ s. KeepsGenuine s.files → IfSome mid (λ now. KeepsGenuine now.files)) (λ s. KeepsGenuine s.files → IfSome new (λ now. KeepsGenuine now.files))
      (λ s u g. subst (λ (o : Option Told). KeepsGenuine s.files → IfSome o (λ now. KeepsGenuine now.files)) (sym (later_is answer s mid new u t.kept)) g) c.others c.genuine;
  reads = λ h. absurd h;
  store = t.counted old.store_faults c.store;
  read = answer_told (InputCount old.input_faults input) (read_told old.input_faults input) answer result t.any c.read;
  write = answer_told (OutputCount old.output_faults output) (write_told old.output_faults output) answer result t.any c.write;
  streams = λ h. answer_told (λ a. LeavesStreams a old.rest rest old.taken taken) (streams_told old.rest rest old.taken taken) answer result t.any (c.streams tt);
  line = over old.told (λ s. IsSeenLine s.files answer number) (λ s. IsSeenLine s.files answer number) (λ s. IsSeenLine s.files result line) (λ s l m. λ shown is. t.line_is (refused_line (modules_of shown)) (l shown is)) c.line c.line;
}

pub build_told : (opts : Opts) (answer result : Answer) (number line : Option ℕ) (old : Outside) (mid new : Option Told) (rest taken : Option (List ℕ)) (faults count input output : ℕ)
    → CarriesOut (Some (BuildAll opts)) answer number old (outside_of mid rest taken faults input output) → Telling answer result number line mid new faults count
    → CarriesOutTold (Some (BuildAll opts)) result line old (outside_of new rest taken count input output)
build_told opts answer result number line old mid new rest taken faults count input output c t = record {
  answer = answer;
  told = over old.told (λ s. HasBuilt opts answer s mid) (λ s. HasBuilt opts answer s mid) (λ s. TellsOrFails s.files answer result) (λ s h k. tells_here answer result s mid (built_left opts answer s mid h) t.any t.told) c.built c.built;
  does = over old.told (λ s. KeepsUnput answer s mid) (λ s. IfSome old.rest (λ bytes. DoesAs (Some (BuildAll opts)) answer s mid bytes rest old.taken taken)) (λ s. IfSome old.rest (λ bytes. DoesAs (Some (BuildAll opts)) answer s new bytes rest old.taken taken))
      (λ s u d. subst (λ (o : Option Told). IfSome old.rest (λ bytes. DoesAs (Some (BuildAll opts)) answer s o bytes rest old.taken taken)) (sym (later_is answer s mid new u t.kept)) d) c.others c.does;
  ends = tt;
  built = over old.told (λ s. KeepsUnput answer s mid) (λ s. HasBuilt opts answer s mid) (λ s. HasBuilt opts answer s new) (λ s u h. subst (λ (o : Option Told). HasBuilt opts answer s o) (sym (later_is answer s mid new u t.kept)) h) c.others c.built;
  proper = answer_told HoldsNoWantOfMemory proper_told answer result t.any c.proper;
  others = over old.told (λ s. KeepsUnput answer s mid) (λ s. KeepsUnput answer s mid) (λ s. KeepsUnput result s new) (λ s u h. subst (λ (o : Option Told). KeepsUnput result s o) (sym (later_is answer s mid new u t.kept)) (unput_told answer result s mid t.any u)) c.others c.others;
  genuine = over old.told (λ s. KeepsUnput answer s mid) (λ s. KeepsGenuine s.files → IfSome mid (λ now. KeepsGenuine now.files)) (λ s. KeepsGenuine s.files → IfSome new (λ now. KeepsGenuine now.files))
      (λ s u g. subst (λ (o : Option Told). KeepsGenuine s.files → IfSome o (λ now. KeepsGenuine now.files)) (sym (later_is answer s mid new u t.kept)) g) c.others c.genuine;
  reads = λ h. absurd h;
  store = t.counted old.store_faults c.store;
  read = answer_told (InputCount old.input_faults input) (read_told old.input_faults input) answer result t.any c.read;
  write = answer_told (OutputCount old.output_faults output) (write_told old.output_faults output) answer result t.any c.write;
  streams = λ h. answer_told (λ a. LeavesStreams a old.rest rest old.taken taken) (streams_told old.rest rest old.taken taken) answer result t.any (c.streams tt);
  line = over old.told (λ s. IsSeenLine s.files answer number) (λ s. IsSeenLine s.files answer number) (λ s. IsSeenLine s.files result line) (λ s l m. λ shown is. t.line_is (refused_line (modules_of shown)) (l shown is)) c.line c.line;
}

pub where_told : (k : ℕ) (opts : RunOpts) (answer result : Answer) (number line : Option ℕ) (old : Outside) (mid new : Option Told) (rest taken : Option (List ℕ)) (faults count input output : ℕ)
    → CarriesOut (Some (Where k opts)) answer number old (outside_of mid rest taken faults input output) → Telling answer result number line mid new faults count
    → CarriesOutTold (Some (Where k opts)) result line old (outside_of new rest taken count input output)
where_told k opts answer result number line old mid new rest taken faults count input output c t = record {
  answer = answer;
  told = over old.told (λ s. HasBuilt opts.build answer s mid) (λ s. HasBuilt opts.build answer s mid) (λ s. TellsOrFails s.files answer result) (λ s h k. tells_here answer result s mid (built_left opts.build answer s mid h) t.any t.told) c.built c.built;
  does = over old.told (λ s. KeepsUnput answer s mid) (λ s. IfSome old.rest (λ bytes. DoesAs (Some (Where k opts)) answer s mid bytes rest old.taken taken)) (λ s. IfSome old.rest (λ bytes. DoesAs (Some (Where k opts)) answer s new bytes rest old.taken taken))
      (λ s u d. subst (λ (o : Option Told). IfSome old.rest (λ bytes. DoesAs (Some (Where k opts)) answer s o bytes rest old.taken taken)) (sym (later_is answer s mid new u t.kept)) d) c.others c.does;
  ends = tt;
  built = over old.told (λ s. KeepsUnput answer s mid) (λ s. HasBuilt opts.build answer s mid) (λ s. HasBuilt opts.build answer s new) (λ s u h. subst (λ (o : Option Told). HasBuilt opts.build answer s o) (sym (later_is answer s mid new u t.kept)) h) c.others c.built;
  proper = answer_told HoldsNoWantOfMemory proper_told answer result t.any c.proper;
  others = over old.told (λ s. KeepsUnput answer s mid) (λ s. KeepsUnput answer s mid) (λ s. KeepsUnput result s new) (λ s u h. subst (λ (o : Option Told). KeepsUnput result s o) (sym (later_is answer s mid new u t.kept)) (unput_told answer result s mid t.any u)) c.others c.others;
  genuine = over old.told (λ s. KeepsUnput answer s mid) (λ s. KeepsGenuine s.files → IfSome mid (λ now. KeepsGenuine now.files)) (λ s. KeepsGenuine s.files → IfSome new (λ now. KeepsGenuine now.files))
      (λ s u g. subst (λ (o : Option Told). KeepsGenuine s.files → IfSome o (λ now. KeepsGenuine now.files)) (sym (later_is answer s mid new u t.kept)) g) c.others c.genuine;
  reads = λ h. absurd h;
  store = t.counted old.store_faults c.store;
  read = answer_told (InputCount old.input_faults input) (read_told old.input_faults input) answer result t.any c.read;
  write = answer_told (OutputCount old.output_faults output) (write_told old.output_faults output) answer result t.any c.write;
  streams = λ h. answer_told (λ a. LeavesStreams a old.rest rest old.taken taken) (streams_told old.rest rest old.taken taken) answer result t.any (c.streams tt);
  line = over old.told (λ s. IsSeenLine s.files answer number) (λ s. IsSeenLine s.files answer number) (λ s. IsSeenLine s.files result line) (λ s l m. λ shown is. t.line_is (refused_line (modules_of shown)) (l shown is)) c.line c.line;
}

-- `interp` puts nothing
told_due_of : (sources : List Source) (line : Option ℕ) (name : List ℕ) (refusal : Refusal) → (IsLineDue (refused_line sources) (Refused name refusal) line → IsLineDue (told_line sources (Refused name refusal)) (Refused name refusal) line)
    → (told : Answer) → IsToldOf name refusal told → IsLineDue (refused_line sources) told line → IsLineDue (told_line sources told) told line
told_due_of sources line name refusal p (Refused other found) h l = l
told_due_of sources line name refusal p (RefusedSource other found) h l = l
told_due_of sources line name refusal p (Cpp fault) h l = tt
told_due_of sources line name refusal p (LinkRefused fault) h l = tt
told_due_of sources line name refusal p StoreFault h l = tt
told_due_of sources line name refusal p NoMemory h l = tt
told_due_of sources line name refusal p _ h l = absurd h

told_due : (sources : List Source) (answer result : Answer) (number line : Option ℕ) → IsToldAnswer answer result → ((due : Option ℕ) → IsLineDue due answer number → IsLineDue due result line) → IsLineDue (told_line sources answer) answer number → IsLineDue (told_line sources result) result line
told_due sources (Refused name refusal) result number line any f l = answer_told (λ a. IsLineDue (refused_line sources) a line → IsLineDue (told_line sources a) a line) (told_due_of sources line) (Refused name refusal) result any (λ h. h) (f (refused_line sources) l)
told_due sources answer result number line any f l =
    subst (λ (a : Answer). IsLineDue (told_line sources a) a line) (sym any) (let P : Answer → Type 0 = λ a. IsLineDue (told_line sources answer) a line in subst P any (f (told_line sources answer) l))

same_on : (first mid new : Option Told) → Keeps first mid → Keeps mid new → Keeps first new
same_on None mid new h k = tt
same_on (Some t) mid new h k = let P : Option Told → Type 0 = λ o. Keeps o new in subst P h k

pub interp_told : (opts : RunOpts) (answer result : Answer) (number line : Option ℕ) (old : Outside) (mid new : Option Told) (rest taken : Option (List ℕ)) (faults count input output : ℕ)
    → CarriesOut (Some (Interp opts)) answer number old (outside_of mid rest taken faults input output) → Telling answer result number line mid new faults count
    → CarriesOutTold (Some (Interp opts)) result line old (outside_of new rest taken count input output)
interp_told opts answer result number line old mid new rest taken faults count input output c t =
    let same : Keeps old.told mid = c.reads tt in
    let kept : Keeps old.told new = same_on old.told mid new same t.kept in
    record {
      answer = answer;
      told = over old.told (λ s. mid ≡ Some s) (λ s. mid ≡ Some s) (λ s. TellsOrFails s.files answer result) (λ s h k. tells_here answer result s mid (kept_left answer s mid h) t.any t.told) same same;
      does = over old.told (λ s. (mid ≡ Some s) × (new ≡ Some s)) (λ s. IfSome old.rest (λ bytes. DoesAs (Some (Interp opts)) answer s mid bytes rest old.taken taken)) (λ s. IfSome old.rest (λ bytes. DoesAs (Some (Interp opts)) answer s new bytes rest old.taken taken))
          (λ s e d. subst (λ (o : Option Told). IfSome old.rest (λ bytes. DoesAs (Some (Interp opts)) answer s o bytes rest old.taken taken)) (e.0 ∙ sym e.1) d)
          (over old.told (λ s. mid ≡ Some s) (λ s. new ≡ Some s) (λ s. (mid ≡ Some s) × (new ≡ Some s)) (λ s h k. (h, k)) same kept) c.does;
      ends = tt;
      built = none_due old.told;
      proper = answer_told HoldsNoWantOfMemory proper_told answer result t.any c.proper;
      others = kept_others result old.told new kept;
      genuine = stays_genuine [] result old.told new (λ name. tt) (kept_others result old.told new kept);
      reads = λ h. kept;
      store = t.counted old.store_faults c.store;
      read = answer_told (InputCount old.input_faults input) (read_told old.input_faults input) answer result t.any c.read;
      write = answer_told (OutputCount old.output_faults output) (write_told old.output_faults output) answer result t.any c.write;
      streams = λ h. answer_told (λ a. LeavesStreams a old.rest rest old.taken taken) (streams_told old.rest rest old.taken taken) answer result t.any (c.streams tt);
      line = over old.told (λ s. (shown : Files) → IsSeen s.files shown → IsLineDue (told_line (modules_of shown) answer) answer number) (λ s. (shown : Files) → IsSeen s.files shown → IsLineDue (told_line (modules_of shown) answer) answer number)
          (λ s. (shown : Files) → IsSeen s.files shown → IsLineDue (told_line (modules_of shown) result) result line) (λ s l m. λ shown is. told_due (modules_of shown) answer result number line t.any t.line_is (l shown is)) c.line c.line;
    }

-- ---- every other command is told as it is

plain_here : (command : Option Command) (files : Files) (answer : Answer) → IsNoBuilder command → IsToldBy command files answer answer
plain_here (Some (Go opts)) files answer is = absurd is
plain_here (Some (BuildAll opts)) files answer is = absurd is
plain_here (Some (Where k opts)) files answer is = absurd is
plain_here (Some (Interp opts)) files answer is = absurd is
plain_here command files answer is = refl

pub plain_over : (command : Option Command) (first : Option Told) (answer : Answer) → IsNoBuilder command → IfSome first (λ t. IsToldBy command t.files answer answer)
plain_over command None answer is = tt
plain_over command (Some t) answer is = plain_here command t.files answer is

pub plain_told : (command : Option Command) (answer : Answer) (number : Option ℕ) (old new : Outside) → IsNoBuilder command → CarriesOut command answer number old new → CarriesOutTold command answer number old new
plain_told command answer number old new is c = record {
  answer = answer;
  told = plain_over command old.told answer is;
  does = c.does;
  ends = c.ends;
  built = c.built;
  proper = c.proper;
  others = c.others;
  genuine = c.genuine;
  reads = c.reads;
  store = c.store;
  read = c.read;
  write = c.write;
  streams = c.streams;
  line = c.line;
}

alone_told : (command : Option Command) (reply result : Reply) (old : Outside) (mid new : Option Told) (rest taken : Option (List ℕ)) (faults count input output : ℕ) → IsNoBuilder command → CarriesOut command reply.answer reply.line old (outside_of mid rest taken faults input output)
    → new ≡ mid → count ≡ faults → result ≡ reply → CarriesOutTold command result.answer result.line old (outside_of new rest taken count input output)
alone_told command reply result old mid new rest taken faults count input output is c t f r =
    let P : Reply → Option Told → ℕ → Type 0 = λ x o n. CarriesOutTold command x.answer x.line old (outside_of o rest taken n input output) in
    subst (λ x. P x new count) (sym r) (subst (λ n. P reply new n) (sym f) (subst (λ o. P reply o faults) (sym t) (plain_told command reply.answer reply.line old (outside_of mid rest taken faults input output) is c)))

-- ---- each command

pub command_told : (command : Command) (reply result : Reply) (old : Outside) (mid new : Option Told) (rest taken : Option (List ℕ)) (faults count input output : ℕ) → CarriesOut (Some command) reply.answer reply.line old (outside_of mid rest taken faults input output)
    → IfSome mid (λ t. IsToldBy (Some command) t.files reply.answer result.answer) → IsToldFor (Some command) reply.answer result.answer → ((due : Option ℕ) → IsLineDue due reply.answer reply.line → IsLineDue due result.answer result.line) → Keeps mid new
    → ((before : ℕ) → StoreCount before faults reply.answer → StoreCount before count result.answer) → (IsNoBuilder (Some command) → (new ≡ mid) × (count ≡ faults) × (result ≡ reply))
    → CarriesOutTold (Some command) result.answer result.line old (outside_of new rest taken count input output)
command_told (Go opts) reply result old mid new rest taken faults count input output c told any line kept counted alone =
    go_told opts reply.answer result.answer reply.line result.line old mid new rest taken faults count input output c (record { told = told; any = any; line_is = line; kept = kept; counted = counted })
command_told (BuildAll opts) reply result old mid new rest taken faults count input output c told any line kept counted alone =
    build_told opts reply.answer result.answer reply.line result.line old mid new rest taken faults count input output c (record { told = told; any = any; line_is = line; kept = kept; counted = counted })
command_told (Where k opts) reply result old mid new rest taken faults count input output c told any line kept counted alone =
    where_told k opts reply.answer result.answer reply.line result.line old mid new rest taken faults count input output c (record { told = told; any = any; line_is = line; kept = kept; counted = counted })
command_told (Interp opts) reply result old mid new rest taken faults count input output c told any line kept counted alone =
    interp_told opts reply.answer result.answer reply.line result.line old mid new rest taken faults count input output c (record { told = told; any = any; line_is = line; kept = kept; counted = counted })
command_told command reply result old mid new rest taken faults count input output c told any line kept counted alone =
    let a = alone tt in alone_told (Some command) reply result old mid new rest taken faults count input output tt c a.0 a.1 a.2

-- ---- by what a command builds

told_source_here : (command : Command) (files : Files) (answer told : Answer) → builds_files command ≡ true → TellsOrFails files answer told → IsToldBy (Some command) files answer told
told_source_here (Go opts) files answer told b h = h
told_source_here (BuildAll opts) files answer told b h = h
told_source_here (Where k opts) files answer told b h = h
told_source_here (Interp opts) files answer told b h = h
told_source_here _ files answer told b h = absurd (false_is_not_true b)

pub told_by_source : (command : Command) (first : Option Told) (answer told : Answer) → builds_files command ≡ true → IfSome first (λ t. TellsOrFails t.files answer told) → IfSome first (λ t. IsToldBy (Some command) t.files answer told)
told_by_source command None answer told b h = tt
told_by_source command (Some t) answer told b h = told_source_here command t.files answer told b h

pub told_for_source : (command : Command) (answer told : Answer) → builds_files command ≡ true → IsToldAnswer answer told → IsToldFor (Some command) answer told
told_for_source (Go opts) answer told b h = h
told_for_source (BuildAll opts) answer told b h = h
told_for_source (Where k opts) answer told b h = h
told_for_source (Interp opts) answer told b h = h
told_for_source _ answer told b h = absurd (false_is_not_true b)

builder_is : (command : Command) → builds_files command ≡ false → IsNoBuilder (Some command)
builder_is (Go opts) b = absurd (true_is_not_false b)
builder_is (BuildAll opts) b = absurd (true_is_not_false b)
builder_is (Where k opts) b = absurd (true_is_not_false b)
builder_is (Interp opts) b = absurd (true_is_not_false b)
builder_is _ b = tt

pub told_by_none : (command : Command) (first : Option Told) (answer : Answer) → builds_files command ≡ false → IfSome first (λ t. IsToldBy (Some command) t.files answer answer)
told_by_none command first answer b = plain_over (Some command) first answer (builder_is command b)

plain_for : (command : Option Command) (answer : Answer) → IsNoBuilder command → IsToldFor command answer answer
plain_for (Some (Go opts)) answer is = absurd is
plain_for (Some (BuildAll opts)) answer is = absurd is
plain_for (Some (Where k opts)) answer is = absurd is
plain_for (Some (Interp opts)) answer is = absurd is
plain_for command answer is = refl

pub told_for_none : (command : Command) (answer : Answer) → builds_files command ≡ false → IsToldFor (Some command) answer answer
told_for_none command answer b = plain_for (Some command) answer (builder_is command b)

pub no_builder : (command : Command) (P : Type 0) → builds_files command ≡ true → IsNoBuilder (Some command) → P
no_builder (Go opts) P b is = absurd is
no_builder (BuildAll opts) P b is = absurd is
no_builder (Where k opts) P b is = absurd is
no_builder (Interp opts) P b is = absurd is
no_builder _ P b is = absurd (false_is_not_true b)

pub usage_for : (command : Command) (answer told : Answer) → IsToldFor (Some command) answer told → IsNoUsage answer → IsNoUsage told
usage_for (Go opts) answer told h u = answer_told IsNoUsage usage_told answer told h u
usage_for (BuildAll opts) answer told h u = answer_told IsNoUsage usage_told answer told h u
usage_for (Where k opts) answer told h u = answer_told IsNoUsage usage_told answer told h u
usage_for (Interp opts) answer told h u = answer_told IsNoUsage usage_told answer told h u
usage_for command answer told h u = subst IsNoUsage (sym h) u

-- of want of memory nothing else is told
memory_here : (command : Option Command) (files : Files) → IsToldBy command files NoMemory NoMemory
memory_here (Some (Go opts)) files = refl
memory_here (Some (BuildAll opts)) files = refl
memory_here (Some (Where k opts)) files = refl
memory_here (Some (Interp opts)) files = refl
memory_here command files = refl

pub memory_is_told : (command : Option Command) (first : Option Told) → IfSome first (λ t. IsToldBy command t.files NoMemory NoMemory)
memory_is_told command None = tt
memory_is_told command (Some t) = memory_here command t.files

phase_memory : (files : Files) (name : List ℕ) (source : Option (List ℕ)) (line : Option ℕ) → IsLineBy files name source NoMemory line
phase_memory files name None line = tt
phase_memory files name (Some text) line = λ output comes. tt

line_memory : (command : Option Command) (files : Files) (line : Option ℕ) → IsLineTold command files NoMemory line
line_memory (Some (Go opts)) files line = λ shown is. tt
line_memory (Some (BuildAll opts)) files line = λ shown is. tt
line_memory (Some (Where k opts)) files line = λ shown is. tt
line_memory (Some (Interp opts)) files line = λ shown is. tt
line_memory (Some (Bench number opts)) files line = λ shown is. tt
line_memory (Some (PhaseOne name optimise)) files line = phase_memory files name (finite.get files (source_name name)) line
line_memory command files line = tt

pub memory_line : (command : Option Command) (first : Option Told) → IfSome first (λ t. IsLineTold command t.files NoMemory None)
memory_line command None = tt
memory_line command (Some t) = line_memory command t.files None

-- ---- the answer of the call

answered : (command : Option Command) (files : Files) (answer told result : Answer) → ToldAs told result → IsToldBy command files answer told → IsAnswered command files answer result
answered command files answer told result t h = ⊎_elim {C = IsAnswered command files answer result} (λ e. let P : Answer → Type 0 = λ a. IsToldBy command files answer a in inl (subst P (sym e) h)) (λ n. inr n.1) t

pub answers_as : (command : Option Command) (first new : Option Told) (old rest taken taken' : Option (List ℕ)) (answer told result : Answer) → ToldAs told result → IfSome first (λ t. IsToldBy command t.files answer told)
    → IfSome first (λ t. IfSome old (λ input. DoesAs command answer t new input rest taken taken')) → IfSome first (λ t. IfSome old (λ input. BuildsWhole command answer t new input rest taken taken'))
    → IfSome first (λ t. IfSome old (λ input. AnswersAs command result t new input rest taken taken'))
answers_as command None new old rest taken taken' answer told result t h does whole = tt
answers_as command (Some now) new None rest taken taken' answer told result t h does whole = tt
answers_as command (Some now) new (Some input) rest taken taken' answer told result t h does whole =
    record { answer = answer; answered = answered command now.files answer told result t h; does = does; whole = whole }

pub builds_as : (command : Option Command) (first new : Option Told) (answer told result : Answer) → ToldAs told result → IfSome first (λ t. IsToldBy command t.files answer told) → IfSome first (λ t. BuildsFirst command answer t new) → IfSome first (λ t. BuildsAs command result t new)
builds_as command None new answer told result t h built = tt
builds_as command (Some now) new answer told result t h built = record { answer = answer; answered = answered command now.files answer told result t h; built = built }

pub line_as : (command : Option Command) (first : Option Told) (told result : Answer) (line : Option ℕ) (Q : List ℕ → Type 0) → ToldAs told result → IfSome first (λ t. IsLineTold command t.files told line) → Q (line_text line result)
    → IfSome first (λ t. (number : Option ℕ) × IsLineTold command t.files result number × Q (line_text number result))
line_as command None told result line Q t l h = tt
line_as command (Some now) told result line Q t l h =
    let P : Answer → Type 0 = λ a. IsLineTold command now.files a line in
    (line, ⊎_elim {C = IsLineTold command now.files result line} (λ e. subst P (sym e) l) (λ n. subst P (sym n.1) (line_memory command now.files line)) t, h)
