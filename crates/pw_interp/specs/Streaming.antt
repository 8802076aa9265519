-- What a run over a source and a sink comes to, and what it leaves of them.
use Rattle.std.specs.Prelude.{ℕ, ◌≡◌, List, [], ◌++◌, drop, Option, Some, None, IfSome, Result, Ok, Err}
use Rattle.pw_io.specs.Faults.{Rose}
use Rattle.pw_io.specs.Streams.{Appends}
use Rattle.pw_cmean.specs.Worlds.{World, Body}
use Rattle.pw_cmean.specs.Acts.{Act, Outcome, State}
use Rattle.pw_cmean.specs.Lasting.{state_behind}
use Rattle.pw_cmean.specs.SourceRun.{Run}
use Rattle.pw_interp_state.specs.Shown.{Shown, Streams, all_shown}
use Rattle.pw_interp_state.specs.Runs.{Shows}
use Rattle.pw_interp_calls.specs.declared.ending.Ending.{Ending}
use Rattle.pw_interp_calls.specs.Endings.{view_ending}
use Rattle.pw_interp_machine.specs.declared.machine.Machine.{Machine}
use Rattle.pw_interp_machine.specs.Standing.{Stands}
use Rattle.pw_interp_lasting.specs.Going.{GoesOnFrom}
use Rattle.pw_interp.specs.declared.ends.CEnd.{CEnd}
use Rattle.pw_interp.specs.declared.ends.InterpFault.{InterpFault}
use Rattle.pw_interp.specs.declared.ends.InterpFault.TheVariants.{ReadFault, WriteFault, NoMemory}
use Rattle.pw_interp.specs.Ends.{view_end}

-- ---- the counts of faults

-- `ReadFault` comes only where the input's count rose; every other answer leaves it.
abbrev pub ReadCount : {T : Type 0} → ℕ → ℕ → Result T InterpFault → Type 0
ReadCount before now (Ok _) = now ≡ before
ReadCount before now (Err ReadFault) = Rose before now
ReadCount before now (Err WriteFault) = now ≡ before
ReadCount before now (Err NoMemory) = now ≡ before

-- `WriteFault` comes only where the output's count rose; every other answer leaves it.
abbrev pub WriteCount : {T : Type 0} → ℕ → ℕ → Result T InterpFault → Type 0
WriteCount before now (Ok _) = now ≡ before
WriteCount before now (Err ReadFault) = now ≡ before
WriteCount before now (Err WriteFault) = Rose before now
WriteCount before now (Err NoMemory) = now ≡ before

-- ---- a run

-- A run ended so: what it read was taken of a source that told these bytes, and the sink took what it wrote.
pub record EndsOver (run : Run) (bytes : List ℕ) (taken : Option (List ℕ)) (end : CEnd) (rest' taken' : Option (List ℕ)) : Type 0 where
  pub ends : run.end ≡ view_end end
  pub left : rest' ≡ Some (drop run.read bytes)
  pub took : Appends taken taken' run.out

-- A run was given up: the sink took a front of what it writes, and a front of what it reads was taken of the source.
pub record GivenUp (run : Run) (bytes : List ℕ) (taken rest' taken' : Option (List ℕ)) : Type 0 where
  pub output : List ℕ
  pub more : List ℕ
  pub written : run.out ≡ output ++ more
  pub took : Appends taken taken' output
  pub front : List ℕ
  pub left : List ℕ
  pub rest_is : rest' ≡ Some left
  pub read : bytes ≡ front ++ left
  pub unread : List ℕ
  pub behind : left ≡ unread ++ drop run.read bytes

abbrev pub LeftBy : Run → List ℕ → Option (List ℕ) → Result CEnd InterpFault → Option (List ℕ) → Option (List ℕ) → Type 0
LeftBy run bytes taken (Ok end) rest' taken' = EndsOver run bytes taken end rest' taken'
LeftBy run bytes taken (Err fault) rest' taken' = GivenUp run bytes taken rest' taken'

-- the same of a source that may tell nothing, of whose bytes then nothing is said
abbrev pub Interprets : (List ℕ → Run) → Option (List ℕ) → Option (List ℕ) → Result CEnd InterpFault → Option (List ℕ) → Option (List ℕ) → Type 0
Interprets run rest taken result rest' taken' = IfSome rest (λ bytes. LeftBy (run bytes) bytes taken result rest' taken')

-- ---- a run that goes on

-- the streams before a run
abbrev pub unread : List ℕ → Streams
unread bytes = record { rest = bytes; read = 0; out = [] }

-- so much of a source that told these bytes was read, and the sink took so much since
pub record Carried (bytes : List ℕ) (taken : Option (List ℕ)) (st : Streams) (rest' taken' : Option (List ℕ)) : Type 0 where
  pub left : rest' ≡ Some st.rest
  pub read : st.rest ≡ drop st.read bytes
  pub took : Appends taken taken' st.out

-- a machine stands where a run has got to that comes to this
pub record GoesOver (main : Body) (m : Machine) (now : Shown) (world : World) (end : Outcome (Unit {0})) (bytes : List ℕ) (taken rest' taken' : Option (List ℕ)) : Type 0 where
  pub streams : Streams
  pub carried : Carried bytes taken streams rest' taken'
  pub stands : Stands main world m (now, streams) end

-- a run that comes to this has ended so
pub record StopsOver (ending : Ending) (now : Shown) (world : World) (end : Outcome (Unit {0})) (bytes : List ℕ) (taken rest' taken' : Option (List ℕ)) : Type 0 where
  pub streams : Streams
  pub carried : Carried bytes taken streams rest' taken'
  pub shows : Shows world end (Err (view_ending ending)) (now, streams)

-- a run that comes to this was given up
pub record StandsStill (end : Outcome (Unit {0})) (bytes : List ℕ) (taken rest' taken' : Option (List ℕ)) : Type 0 where
  pub streams : Streams
  pub carried : Carried bytes taken streams rest' taken'
  pub later : GoesOnFrom streams (state_behind end)

-- what a turn leaves
abbrev pub TurnLeaves : Body → Result (Option Ending) InterpFault → Machine → Shown → World → Outcome (Unit {0}) → List ℕ → Option (List ℕ) → Option (List ℕ) → Option (List ℕ) → Type 0
TurnLeaves main (Ok None) m now world end bytes taken rest' taken' = GoesOver main m now world end bytes taken rest' taken'
TurnLeaves main (Ok (Some ending)) m now world end bytes taken rest' taken' = StopsOver ending now world end bytes taken rest' taken'
TurnLeaves main (Err fault) m now world end bytes taken rest' taken' = StandsStill end bytes taken rest' taken'

-- what a turn does, whatever was read and written before it
abbrev pub Turns : Body → Machine → Shown → Option (List ℕ) → Option (List ℕ) → Result (Option Ending) InterpFault → Machine → Shown → Option (List ℕ) → Option (List ℕ) → Type 0
Turns main old before rest taken' result new behind rest' taken'' =
    (world : World) (end : Outcome (Unit {0})) (bytes : List ℕ) (taken : Option (List ℕ)) → GoesOver main old before world end bytes taken rest taken' → TurnLeaves main result new behind world end bytes taken rest' taken''

-- how a run ended that came to this
abbrev pub Stopped : Result Ending InterpFault → Shown → World → Outcome (Unit {0}) → List ℕ → Option (List ℕ) → Option (List ℕ) → Option (List ℕ) → Type 0
Stopped (Ok ending) now world end bytes taken rest' taken' = StopsOver ending now world end bytes taken rest' taken'
Stopped (Err fault) now world end bytes taken rest' taken' = StandsStill end bytes taken rest' taken'

-- from a state with nothing read or written, over a source that told its bytes
abbrev pub RunsOver : World → Act (Unit {0}) → Shown → Option (List ℕ) → Option (List ℕ) → Result Ending InterpFault → Shown → Option (List ℕ) → Option (List ℕ) → Type 0
RunsOver world act before rest taken result behind rest' taken' =
    IfSome rest (λ bytes. (s : State) → all_shown world s ≡ (before, unread bytes) → Stopped result behind world (act s) bytes taken rest' taken')
