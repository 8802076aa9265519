-- What a session did, by its own clauses.
use Rattle.std.proofs.Common.{◌≡◌, ℕ, List, [], Option, Some, None, Result, Ok, Err, refl, sym, subst, arith, append-nil}
use Rattle.std.specs.Prelude.{IfSome, IsSomeAnd}
use Rattle.pw_io.specs.Files.{Told}
use Rattle.pw_top_answer.specs.declared.answer.Answer.{Answer}
use Rattle.pw_top_answer.specs.declared.answer.Answer.TheVariants.{Done, Usage, Refused, RefusedSource, Cpp, LinkRefused, Halted, ReadFault, WriteFault, StoreFault, NoMemory, BadFile, BadScript, NoFrames, Undefined, UndefinedSource}
use Rattle.pw_top_answer.specs.Answers.{NeedsMemory}
use Rattle.pw_top_answer.specs.Effects.{Effect, NamedFile, PutsFiles}
use Rattle.pw_top_answer.specs.Outcomes.{InputCount, StoreCount}
use Rattle.pw_law_session.specs.FromSession.FromBuild.BuildFault.{BuildFault}
use Rattle.pw_law_session.specs.FromSession.FromBuildFiles.Building.{Outcome}
use Rattle.pw_commands.specs.Outcome.{IsFound}
use Rattle.pw_build_opts.specs.declared.opts.RunOpts.{RunOpts}
use Rattle.pw_law_session.specs.FromSession.Bench.{BenchEffect, BenchOver, IsBenchAnswer, IsBenchFound, IsBenchLine, ObeysBench}
use Rattle.pw_law_session.specs.FromSession.Changes.{Change, ChangePrefix, MakesChanges, MakesSome}
use Rattle.pw_top.specs.Answers.{IsNoUsage}
use Rattle.pw_top.specs.Rest.{LeavesRest}
use Rattle.pw_law_session.specs.FromSession.Outcomes.{IsSessionAnswer, LeavesScript, ObeysSession}
use Rattle.pw_top.specs.Does.{Does, DoesSession}
use Rattle.pw_top.proofs.DoesLemmas.{Prints, left_so, none_out_yet, nothing_put, out_part}

-- ---- a session

pub session_does : (told new : Option Told) (old rest taken taken' : Option (List ℕ)) (opts : RunOpts) (answer : Answer)
    → IfSome told (λ t. IfSome old (λ script. ObeysSession opts t script answer new taken taken')) → IfSome old (λ script. LeavesScript script answer rest)
    → IfSome told (λ t. IfSome old (λ script. DoesSession opts answer t new script rest taken taken'))
session_does None new old rest taken taken' opts answer h left = tt
session_does (Some t) new None rest taken taken' opts answer h left = tt
session_does (Some t) new (Some script) rest taken taken' opts answer h left = record { obeys = h; rest = left }

pub session_no_usage : (answer : Answer) → IsSessionAnswer answer → IsNoUsage answer
session_no_usage Usage h = h
session_no_usage _ h = tt

-- what was changed, and what stays
abbrev pub LeaveOthers : (List ℕ → Type 0) → Type 0
LeaveOthers may = (answer : Answer) (told : Told) (new : Option Told) → MakesSome may answer told new → IsSomeAnd new (LeavesRest may answer told)

pub session_others : (may : List ℕ → Type 0) → LeaveOthers may → (first new : Option Told) (answer : Answer) → IfSome first (λ told. MakesSome may answer told new) → IfSome first (λ told. MakesSome may answer told new × IsSomeAnd new (LeavesRest may answer told))
session_others may law None new answer h = tt
session_others may law (Some told) new answer h = (h, law answer told new h)

pub rest_none : (may : List ℕ → Type 0) (answer : Answer) (told : Told) → LeavesRest may answer told told
rest_none may answer told = record { put = []; removed = []; failed = []; own = tt; lawful = tt; one = omega arith; none = λ h. refl; told_so = sym (append-nil told.puts); same = λ name h. refl }

needs_no_store : (answer : Answer) → NeedsMemory answer → answer ≡ StoreFault → ⊥
needs_no_store answer n e = subst NeedsMemory e n

pub left_memory : (may : List ℕ → Type 0) (answer : Answer) (told : Told) (new : Option Told) → NeedsMemory answer → IsSomeAnd new (LeavesRest may answer told) → IsSomeAnd new (LeavesRest may NoMemory told)
left_memory may answer told None n h = absurd h
left_memory may answer told (Some left) n h = record {
  put = h.put;
  removed = h.removed;
  failed = h.failed;
  own = h.own;
  lawful = h.lawful;
  one = h.one;
  none = λ e. h.none (needs_no_store answer n);
  told_so = h.told_so;
  same = h.same;
}

pub changes_none : (may : List ℕ → Type 0) (told : Told) → MakesSome may NoMemory told (Some told)
changes_none may told = ([], tt, refl)

pub some_memory : (may : List ℕ → Type 0) (answer : Answer) (told : Told) (new : Option Told) → NeedsMemory answer → MakesSome may answer told new → MakesSome may NoMemory told new
some_memory may (Refused name refusal) told new n h = h
some_memory may (RefusedSource name refusal) told new n h = h
some_memory may (Cpp fault) told new n h = h
some_memory may (LinkRefused fault) told new n h = h
some_memory may (Halted halt at) told new n h = h
some_memory may (BadFile name at) told new n h = h
some_memory may (BadScript at) told new n h = h
some_memory may (NoFrames address) told new n h = h
some_memory may (Undefined operation home token) told new n h = h
some_memory may (UndefinedSource operation home token) told new n h = h
some_memory may _ told new n h = absurd n

-- ---- want of memory in place of the answer's line

changes_front : (changes : List Change) (answer : Answer) (told : Told) (new : Option Told) → NeedsMemory answer → MakesChanges changes answer told new → ChangePrefix told changes new
changes_front changes (Refused name refusal) told new n h = record { done = changes; more = []; split = sym (append-nil changes); left = h }
changes_front changes (RefusedSource name refusal) told new n h = record { done = changes; more = []; split = sym (append-nil changes); left = h }
changes_front changes (Cpp fault) told new n h = record { done = changes; more = []; split = sym (append-nil changes); left = h }
changes_front changes (LinkRefused fault) told new n h = record { done = changes; more = []; split = sym (append-nil changes); left = h }
changes_front changes (Halted halt at) told new n h = record { done = changes; more = []; split = sym (append-nil changes); left = h }
changes_front changes (BadFile name at) told new n h = record { done = changes; more = []; split = sym (append-nil changes); left = h }
changes_front changes (BadScript at) told new n h = record { done = changes; more = []; split = sym (append-nil changes); left = h }
changes_front changes (NoFrames address) told new n h = record { done = changes; more = []; split = sym (append-nil changes); left = h }
changes_front changes (Undefined operation home token) told new n h = record { done = changes; more = []; split = sym (append-nil changes); left = h }
changes_front changes (UndefinedSource operation home token) told new n h = record { done = changes; more = []; split = sym (append-nil changes); left = h }
changes_front changes _ told new n h = absurd n

leaves_part : (script : List ℕ) (answer : Answer) (rest : Option (List ℕ)) → NeedsMemory answer → LeavesScript script answer rest → LeavesScript script NoMemory rest
leaves_part script Done rest n h = absurd n
leaves_part script _ rest n h = h

pub session_no_memory : (opts : RunOpts) (answer : Answer) (told : Told) (new : Option Told) (script : List ℕ) (rest taken taken' : Option (List ℕ)) → NeedsMemory answer → DoesSession opts answer told new script rest taken taken'
    → DoesSession opts NoMemory told new script rest taken taken'
session_no_memory opts answer told new script rest taken taken' n h = record {
  obeys = record {
    answers = tt;
    does = λ e d. record { said = out_part e.output answer taken taken' (h.obeys.does e d).said; made = changes_front e.changes answer told new n (h.obeys.does e d).made };
    found = tt;
  };
  rest = leaves_part script answer rest n h.rest;
}

-- before anything was done
pub session_memory_here : (opts : RunOpts) (told : Told) (script : List ℕ) (taken : Option (List ℕ)) → DoesSession opts NoMemory told (Some told) script (Some script) taken taken
session_memory_here opts told script taken = record {
  obeys = record {
    answers = tt;
    does = λ e d. record { said = none_out_yet e.output taken; made = record { done = []; more = e.changes; split = refl; left = refl } };
    found = tt;
  };
  rest = ([], refl);
}

-- ---- `bench`

bench_prints_over : (number budget : ℕ) (input : List ℕ) (comes : Result Outcome BuildFault) (e : Effect) → BenchOver number budget input comes e → Prints input e
bench_prints_over number budget input (Ok outcome) e h = subst (Prints input) (sym h.2) (record { puts = refl; rest = refl })
bench_prints_over number budget input (Err fault) e h = subst (Prints input) (sym h) (record { puts = refl; rest = refl })

pub bench_prints : (number : ℕ) (opts : RunOpts) (input : List ℕ) (e : Effect) → BenchEffect number opts input e → Prints input e
bench_prints number opts input e h = bench_prints_over number opts.budget input h.0 e h.2

bench_found : (comes : Effect → Type 0) (answer : Answer) → IsBenchFound comes answer → IsFound comes answer
bench_found comes ReadFault h = (h.0, h.1)
bench_found comes WriteFault h = h
bench_found comes StoreFault h = tt
bench_found comes NoMemory h = tt
bench_found comes _ h = h

pub bench_does : (told : Option Told) (rest taken taken' : Option (List ℕ)) (number : ℕ) (opts : RunOpts) (answer : Answer) → ((input : List ℕ) → ObeysBench (BenchEffect number opts input) answer taken taken')
    → IfSome told (λ t. IfSome rest (λ input. Does (BenchEffect number opts input) answer t told input rest taken taken'))
bench_does None rest taken taken' number opts answer h = tt
bench_does (Some t) None taken taken' number opts answer h = tt
bench_does (Some t) (Some input) taken taken' number opts answer h = record {
  answers = λ e d. (h input).answers e d;
  puts = λ e d. puts_none e d;
  output = λ e d. (h input).output e d;
  rest = λ e d. left_so answer e.rest input (bench_prints number opts input e d).rest;
  found = bench_found (BenchEffect number opts input) answer (h input).found;
}
  where
    puts_none : (e : Effect) (d : BenchEffect number opts input e) → PutsFiles e.puts answer t (Some t)
    puts_none e d = subst (λ (files : List NamedFile). PutsFiles files answer t (Some t)) (sym (bench_prints number opts input e d).puts) (nothing_put answer t (Some t) refl)

pub bench_no_usage : (answer : Answer) → IsBenchAnswer answer → IsNoUsage answer
bench_no_usage Usage h = h
bench_no_usage _ h = tt

pub bench_reads : (count : ℕ) (answer : Answer) → IsBenchAnswer answer → InputCount count count answer
bench_reads count ReadFault h = absurd h
bench_reads count _ h = refl

pub bench_stores : (count : ℕ) (answer : Answer) → IsBenchAnswer answer → StoreCount count count answer
bench_stores count StoreFault h = absurd h
bench_stores count _ h = refl

pub bench_line : (told : Option Told) (number : ℕ) (answer : Answer) (line : Option ℕ) → IsBenchLine number answer line → IfSome told (λ t. IsBenchLine number answer line)
bench_line None number answer line h = tt
bench_line (Some t) number answer line h = h
