-- What holds of the answer that is told: it is the answer, or want of memory for its line.
use Rattle.std.proofs.Common.{◌≡◌, ℕ, ◌⊎◌, ⊎_elim, inl, inr, List, [], Option, Some, None, Result, Ok, Err, refl, sym, ◌∙◌, subst}
use Rattle.std.specs.Prelude.{IfSome}
use Rattle.pw_io.specs.Files.{Told}
use Rattle.pw_top_answer.specs.declared.answer.Answer.{Answer}
use Rattle.pw_top_answer.specs.declared.answer.Answer.TheVariants.{Usage, Refused, RefusedSource, Cpp, LinkRefused, Halted, StoreFault, NoMemory, BadFile, BadScript, NoFrames, Undefined, UndefinedSource}
use Rattle.pw_top_answer.specs.Answers.{NeedsMemory}
use Rattle.pw_top_answer.specs.Outcomes.{InputCount, LeavesStreams, OutputCount, StoreCount, ToldAs}
use Rattle.pw_commands.specs.Others.{KeepsOthers}
use Rattle.pw_law_session.specs.FromSession.FromBuild.BuildFault.{BuildFault}
use Rattle.pw_law_session.specs.FromSession.FromBuildFiles.Building.{Outcome, puts_of}
use Rattle.pw_law_session.specs.FromSession.FromBuildFiles.Outcomes.{AnswersOutcome}
use Rattle.pw_build_opts.specs.declared.opts.Opts.{Opts}
use Rattle.pw_go.specs.Going.{HasBuilt}
use Rattle.pw_top_words.specs.declared.commands.Command.{Command}
use Rattle.pw_top_words.specs.declared.commands.Command.TheVariants.{Go, Build as BuildAll, Session, Where}
use Rattle.pw_law_session.specs.FromSession.FromBuildFiles.Driving.{KeepsUnput, Unput}
use Rattle.pw_law_session.specs.FromSession.Removals.{MayRemove}
use Rattle.pw_top.specs.Answers.{HoldsNoWantOfMemory}
use Rattle.pw_top.specs.Commands.{BuildsFirst, EndsScript, KeepsTheRest, files_put}
use Rattle.pw_top.specs.Does.{DoesAs}
use Rattle.pw_top.proofs.DoesLemmas.{memory_here}
use Rattle.pw_top.proofs.SessionLemmas.{left_memory, session_memory_here, some_memory}
use Rattle.pw_top.proofs.CommandLemmas.{Comes, Ends, comes_ends}

pub no_memory_is_no_usage : NoMemory ≡ Usage → ⊥
no_memory_is_no_usage e = cc

usage_needs_none : (answer : Answer) → answer ≡ Usage → NeedsMemory answer → ⊥
usage_needs_none answer e n = subst NeedsMemory e n

-- what holds of the answer told, where it holds of the answer, and of want of memory besides
pub told_by : (P : Answer → Type 0) (answer told : Answer) → ToldAs answer told → P answer → (NeedsMemory answer → P answer → P NoMemory) → P told
told_by P answer told t p q = ⊎_elim (λ e. subst P (sym e) p) (λ n. subst P (sym n.1) (q n.0 p)) t

-- ---- the words

pub usage_is : (answer told : Answer) (P : Type 0) → ToldAs answer told → (answer ≡ Usage → P) → told ≡ Usage → P
usage_is answer told P t h u = ⊎_elim (λ e. h (sym e ∙ u)) (λ n. absurd (no_memory_is_no_usage (sym n.1 ∙ u))) t

usage_told : (answer told : Answer) → ToldAs answer told → (answer ≡ Usage) ⊎ (answer ≡ NoMemory) → (told ≡ Usage) ⊎ (told ≡ NoMemory)
usage_told answer told t h = ⊎_elim {C = (told ≡ Usage) ⊎ (told ≡ NoMemory)} (λ e. ⊎_elim {C = (told ≡ Usage) ⊎ (told ≡ NoMemory)} (λ u. inl (e ∙ u)) (λ n. inr (e ∙ n)) h) (λ n. inr n.1) t

pub usage_comes : (answer told : Answer) (P : Type 0) → ToldAs answer told → (P → (answer ≡ Usage) ⊎ (answer ≡ NoMemory)) → P → (told ≡ Usage) ⊎ (told ≡ NoMemory)
usage_comes answer told P t h p = usage_told answer told t (h p)

-- ---- want of memory before the call did anything

memory_as : Ends → (command : Option Command) (told : Told) (input : List ℕ) (taken : Option (List ℕ)) → DoesAs command NoMemory told (Some told) input (Some input) taken taken
memory_as ends (Some (Session opts)) told input taken = session_memory_here opts told input taken
memory_as ends command told input taken = memory_here (Comes command told.files input) told input taken (λ e c. comes_ends ends command told.files input e c)

pub memory_does : Ends → (command : Option Command) (told : Option Told) (rest taken : Option (List ℕ)) → IfSome told (λ t. IfSome rest (λ input. DoesAs command NoMemory t told input rest taken taken))
memory_does ends command None rest taken = tt
memory_does ends command (Some t) None taken = tt
memory_does ends command (Some t) (Some input) taken = memory_as ends command t input taken

-- ---- the end of a session

pub memory_ends : (command : Option Command) (script : Option (List ℕ)) → EndsScript command script NoMemory
memory_ends (Some (Session opts)) None = tt
memory_ends (Some (Session opts)) (Some bytes) = tt
memory_ends command script = tt

pub ends_told : (command : Option Command) (script : Option (List ℕ)) (answer last : Answer) → ToldAs answer last → EndsScript command script answer → EndsScript command script last
ends_told command script answer last t h = told_by (EndsScript command script) answer last t h (λ n x. memory_ends command script)

-- ---- what `build` and `go` built first

comes_no_memory : (comes : Result Outcome BuildFault) → AnswersOutcome comes NoMemory
comes_no_memory (Ok outcome) = tt
comes_no_memory (Err fault) = tt

-- memory ran out before anything was put
nothing_built : (opts : Opts) (told : Told) → HasBuilt opts NoMemory told (Some told)
nothing_built opts told = record {
  found = tt;
  answers = λ comes b. comes_no_memory comes;
  puts = λ comes b. record { done = []; more = puts_of comes; split = refl; left = refl };
}

builds_nothing : (command : Option Command) (told : Told) → BuildsFirst command NoMemory told (Some told)
builds_nothing (Some (Go opts)) told = nothing_built opts.build told
builds_nothing (Some (Where k opts)) told = nothing_built opts.build told
builds_nothing (Some (BuildAll opts)) told = nothing_built opts told
builds_nothing command told = tt

pub memory_builds : (command : Option Command) (told : Option Told) → IfSome told (λ t. BuildsFirst command NoMemory t told)
memory_builds command None = tt
memory_builds command (Some t) = builds_nothing command t

pub told_proper : (answer last : Answer) → ToldAs answer last → HoldsNoWantOfMemory answer → HoldsNoWantOfMemory last
told_proper answer last t h = told_by HoldsNoWantOfMemory answer last t h (λ n x. tt)

-- ---- counts and streams

pub store_told : (before now : ℕ) (answer last : Answer) → ToldAs answer last → StoreCount before now answer → StoreCount before now last
store_told before now answer last t h = told_by (λ a. StoreCount before now a) answer last t h (λ n c. kept answer n c)
  where
    kept : (answer : Answer) → NeedsMemory answer → StoreCount before now answer → now ≡ before
    kept (Refused name refusal) n h = h
    kept (RefusedSource name refusal) n h = h
    kept (Cpp fault) n h = h
    kept (LinkRefused fault) n h = h
    kept (Halted halt at) n h = h
    kept (BadFile name at) n h = h
    kept (BadScript at) n h = h
    kept (NoFrames address) n h = h
    kept (Undefined operation home token) n h = h
    kept (UndefinedSource operation home token) n h = h
    kept _ n h = absurd n

pub input_told : (before now : ℕ) (answer last : Answer) → ToldAs answer last → InputCount before now answer → InputCount before now last
input_told before now answer last t h = told_by (λ a. InputCount before now a) answer last t h (λ n c. kept answer n c)
  where
    kept : (answer : Answer) → NeedsMemory answer → InputCount before now answer → now ≡ before
    kept (Refused name refusal) n h = h
    kept (RefusedSource name refusal) n h = h
    kept (Cpp fault) n h = h
    kept (LinkRefused fault) n h = h
    kept (Halted halt at) n h = h
    kept (BadFile name at) n h = h
    kept (BadScript at) n h = h
    kept (NoFrames address) n h = h
    kept (Undefined operation home token) n h = h
    kept (UndefinedSource operation home token) n h = h
    kept _ n h = absurd n

pub output_told : (before now : ℕ) (answer last : Answer) → ToldAs answer last → OutputCount before now answer → OutputCount before now last
output_told before now answer last t h = told_by (λ a. OutputCount before now a) answer last t h (λ n c. kept answer n c)
  where
    kept : (answer : Answer) → NeedsMemory answer → OutputCount before now answer → now ≡ before
    kept (Refused name refusal) n h = h
    kept (RefusedSource name refusal) n h = h
    kept (Cpp fault) n h = h
    kept (LinkRefused fault) n h = h
    kept (Halted halt at) n h = h
    kept (BadFile name at) n h = h
    kept (BadScript at) n h = h
    kept (NoFrames address) n h = h
    kept (Undefined operation home token) n h = h
    kept (UndefinedSource operation home token) n h = h
    kept _ n h = absurd n

pub streams_told : (P : Type 0) (answer last : Answer) (i i' o o' : Option (List ℕ)) → ToldAs answer last → (P → LeavesStreams answer i i' o o') → P → LeavesStreams last i i' o o'
streams_told P answer last i i' o o' t h p = told_by (λ a. LeavesStreams a i i' o o') answer last t (h p) (λ n c. tt)

-- ---- what stays

-- an answer with a line of its own is no fault of the store
needs_no_store : (answer : Answer) → NeedsMemory answer → answer ≡ StoreFault → ⊥
needs_no_store answer n e = subst NeedsMemory e n

unput_told : (answer : Answer) (told left : Told) → NeedsMemory answer → Unput answer told left → Unput NoMemory told left
unput_told answer told left n h = record { put = h.put; failed = h.failed; own = h.own; one = h.one; none = λ e. h.none (needs_no_store answer n); told_so = h.told_so; same = h.same }

unput_memory : (answer : Answer) (told : Told) (new : Option Told) → NeedsMemory answer → KeepsUnput answer told new → KeepsUnput NoMemory told new
unput_memory answer told None n h = absurd h
unput_memory answer told (Some left) n h = unput_told answer told left n h

puts_memory : (names : List (List ℕ)) (answer : Answer) (old new : Option Told) → NeedsMemory answer → KeepsOthers names answer old new → KeepsOthers names NoMemory old new
puts_memory names answer None new n h = tt
puts_memory names answer (Some told) None n h = absurd h
puts_memory names answer (Some told) (Some left) n h = record { put = h.put; failed = h.failed; own = h.own; one = h.one; none = λ e. h.none (needs_no_store answer n); told_so = h.told_so; same = h.same }

rest_memory : (command : Option Command) (script : Option (List ℕ)) (answer : Answer) (old new : Option Told) → NeedsMemory answer → KeepsTheRest command script answer old new → KeepsTheRest command script NoMemory old new
rest_memory (Some (Go opts)) script answer None new n h = tt
rest_memory (Some (Go opts)) script answer (Some told) new n h = unput_memory answer told new n h
rest_memory (Some (Where k opts)) script answer None new n h = tt
rest_memory (Some (Where k opts)) script answer (Some told) new n h = unput_memory answer told new n h
rest_memory (Some (BuildAll opts)) script answer None new n h = tt
rest_memory (Some (BuildAll opts)) script answer (Some told) new n h = unput_memory answer told new n h
rest_memory (Some (Session opts)) script answer None new n h = tt
rest_memory (Some (Session opts)) script answer (Some told) new n h = (some_memory (MayRemove script) answer told new n h.0, left_memory (MayRemove script) answer told new n h.1)
rest_memory command script answer old new n h = puts_memory (files_put command) answer old new n h

pub rest_told : (command : Option Command) (script : Option (List ℕ)) (old new : Option Told) (answer last : Answer) → ToldAs answer last → KeepsTheRest command script answer old new → KeepsTheRest command script last old new
rest_told command script old new answer last t h = told_by (λ a. KeepsTheRest command script a old new) answer last t h (λ n k. rest_memory command script answer old new n k)
