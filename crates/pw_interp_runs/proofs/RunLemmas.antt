-- What a run of a program is answered as.
use Rattle.std.proofs.Common.{ℕ, ◌≡◌, List, [], ◌++◌, take, drop, Option, Some, None, Result, Ok, Err, refl, sym, ap, subst, append-nil}
use Rattle.std.specs.Prelude.{IfSome, IsSomeAnd}
use Rattle.std.proofs.lemmas.List.{take-append-drop}
use Rattle.pw_io.specs.Streams.{Appends}
use Rattle.pw_cmean.specs.SourceRun.{Run}
use Rattle.pw_cmean.specs.Worlds.{ProgramModule}
use Rattle.pw_interp_calls.specs.Frames.{frame_among}
use Rattle.pw_interp.specs.declared.ends.CEnd.{CEnd}
use Rattle.pw_interp.specs.declared.ends.CEnd.TheVariants as E
use Rattle.pw_interp.specs.declared.ends.InterpFault.{InterpFault}
use Rattle.pw_interp.specs.declared.ends.InterpFault.TheVariants as interp
use Rattle.pw_interp.specs.Streaming.{GivenUp, Interprets, LeftBy, ReadCount, WriteCount}
use Rattle.pw_top_answer.specs.declared.answer.Answer.{Answer}
use Rattle.pw_top_answer.specs.declared.answer.Answer.TheVariants as answer
use Rattle.pw_top_answer.specs.Outcomes.{InputCount, OutputCount, WasReadInPart}
use Rattle.pw_interp_runs.specs.Running.{RanAs, RunsAs, UnlessMemory, answer_of, end_answer}
use Rattle.pw_build_opts.specs.declared.opts.RunOpts.{RunOpts}

pub appends_none : (taken : Option (List ℕ)) → Appends taken taken []
appends_none None = tt
appends_none (Some before) = sym (append-nil before)

-- of what may be there, by what it is
pub if_some : {A : Type 0} {P : A → Type 0} (o : Option A) → ((a : A) → o ≡ Some a → P a) → IfSome o P
if_some None all = tt
if_some (Some a) all = all a refl

-- ---- the answer

given_as : (run : Run) (bytes : List ℕ) (rest' taken taken' : Option (List ℕ)) → GivenUp run bytes taken rest' taken' → WasReadInPart (drop run.read bytes) bytes rest'
given_as run bytes rest' taken taken' g =
    (g.front, g.unread, subst (λ (o : Option (List ℕ)). IsSomeAnd o (λ left. (bytes ≡ g.front ++ left) × (left ≡ g.unread ++ drop run.read bytes))) (sym g.rest_is) (g.read, g.behind))

pub ran_as : (run : Run) (bytes : List ℕ) (r : Result CEnd InterpFault) (rest' taken taken' : Option (List ℕ)) → LeftBy run bytes taken r rest' taken' → RanAs run bytes (answer_of r) rest' taken taken'
ran_as run bytes (Ok (E.Ended status)) rest' taken taken' h =
    record { answers = ap end_answer h.ends; output = record { output = run.out; more = []; taken = h.took; front = sym (append-nil run.out); whole = refl }; rest = h.left }
ran_as run bytes (Ok E.Stack) rest' taken taken' h =
    record { answers = ap end_answer h.ends; output = record { output = run.out; more = []; taken = h.took; front = sym (append-nil run.out); whole = refl }; rest = h.left }
ran_as run bytes (Ok (E.Undefined operation home token)) rest' taken taken' h =
    record { answers = ap end_answer h.ends; output = record { output = run.out; more = []; taken = h.took; front = sym (append-nil run.out); whole = refl }; rest = h.left }
ran_as run bytes (Ok E.Bound) rest' taken taken' h =
    record { answers = ap end_answer h.ends; output = record { output = run.out; more = []; taken = h.took; front = sym (append-nil run.out); whole = refl }; rest = h.left }
ran_as run bytes (Err interp.ReadFault) rest' taken taken' g =
    record { answers = tt; output = record { output = g.output; more = g.more; taken = g.took; front = g.written; whole = tt }; rest = given_as run bytes rest' taken taken' g }
ran_as run bytes (Err interp.WriteFault) rest' taken taken' g =
    record { answers = tt; output = record { output = g.output; more = g.more; taken = g.took; front = g.written; whole = tt }; rest = given_as run bytes rest' taken taken' g }
ran_as run bytes (Err interp.NoMemory) rest' taken taken' g =
    record { answers = tt; output = record { output = g.output; more = g.more; taken = g.took; front = g.written; whole = tt }; rest = given_as run bytes rest' taken taken' g }

-- a run over a source that may tell its bytes
pub runs_answered : (run : List ℕ → Run) (rest : Option (List ℕ)) (r : Result CEnd InterpFault) (a : Answer) (rest' taken taken' : Option (List ℕ)) → a ≡ answer_of r → Interprets run rest taken r rest' taken'
    → IfSome rest (λ bytes. RanAs (run bytes) bytes a rest' taken taken')
runs_answered run None r a rest' taken taken' is h = tt
runs_answered run (Some bytes) r a rest' taken taken' is h = subst (λ (x : Answer). RanAs (run bytes) bytes x rest' taken taken') (sym is) (ran_as (run bytes) bytes r rest' taken taken' h)

-- the same modules with the same frames run alike
pub runs_alike : (opts : RunOpts) (rest rest' taken taken' : Option (List ℕ)) (a : Answer) (ms ns : List ProgramModule) (fs gs : List (List ℕ × ℕ)) → ms ≡ ns → fs ≡ gs → RunsAs (record { modules = ms }) (frame_among fs) opts rest a rest' taken taken'
    → RunsAs (record { modules = ns }) (frame_among gs) opts rest a rest' taken taken'
runs_alike opts rest rest' taken taken' a ms ns fs gs e f h =
    subst (λ (x : List ProgramModule). RunsAs (record { modules = x }) (frame_among gs) opts rest a rest' taken taken') e
    (subst (λ (x : List (List ℕ × ℕ)). RunsAs (record { modules = ms }) (frame_among x) opts rest a rest' taken taken') f h)

-- nothing was read
pub untouched : (wanted more bytes : List ℕ) → bytes ≡ more ++ wanted → WasReadInPart wanted bytes (Some bytes)
untouched wanted more bytes is = ([], more, (refl, is))

-- no run began
pub not_run : (run : Run) (bytes : List ℕ) (rest taken : Option (List ℕ)) → rest ≡ Some bytes → RanAs run bytes answer.NoMemory rest taken taken
not_run run bytes rest taken is = record {
  answers = tt;
  output = record { output = []; more = run.out; taken = appends_none taken; front = refl; whole = tt };
  rest = subst (WasReadInPart (drop run.read bytes) bytes) (sym is) (untouched (drop run.read bytes) (take run.read bytes) bytes (sym (take-append-drop run.read bytes)));
}

-- ---- the counts

count_of_input : (before now : ℕ) (r : Result CEnd InterpFault) → ReadCount before now r → InputCount before now (answer_of r)
count_of_input before now (Ok (E.Ended status)) h = h
count_of_input before now (Ok E.Stack) h = h
count_of_input before now (Ok (E.Undefined operation home token)) h = h
count_of_input before now (Ok E.Bound) h = h
count_of_input before now (Err interp.ReadFault) h = h
count_of_input before now (Err interp.WriteFault) h = h
count_of_input before now (Err interp.NoMemory) h = h

pub input_count : (before now : ℕ) (r : Result CEnd InterpFault) (a : Answer) → a ≡ answer_of r → ReadCount before now r → InputCount before now a
input_count before now r a is h = subst (InputCount before now) (sym is) (count_of_input before now r h)

count_of_output : (before now : ℕ) (r : Result CEnd InterpFault) → WriteCount before now r → OutputCount before now (answer_of r)
count_of_output before now (Ok (E.Ended status)) h = h
count_of_output before now (Ok E.Stack) h = h
count_of_output before now (Ok (E.Undefined operation home token)) h = h
count_of_output before now (Ok E.Bound) h = h
count_of_output before now (Err interp.ReadFault) h = h
count_of_output before now (Err interp.WriteFault) h = h
count_of_output before now (Err interp.NoMemory) h = h

pub output_count : (before now : ℕ) (r : Result CEnd InterpFault) (a : Answer) → a ≡ answer_of r → WriteCount before now r → OutputCount before now a
output_count before now r a is h = subst (OutputCount before now) (sym is) (count_of_output before now r h)

-- ---- an answer to a run

pub unless_memory : (a : Answer) (P : Type 0) → P → UnlessMemory a P
unless_memory answer.NoMemory P p = tt
unless_memory _ P p = p
