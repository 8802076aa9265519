-- What a turn of a run leaves.
use Rattle.std.proofs.Common.{ℕ, ◌≡◌, List, [], ◌∷◌, Option, Some, None, Result, Ok, Err, refl, subst, sym}
use Rattle.std.specs.Prelude.{IfErr}
use Rattle.pw_io.specs.declared.Failed.{Failed}
use Rattle.pw_io.specs.Streams.{TakesNext, Appends, AppendsPart}
use Rattle.pw_cmean.specs.Worlds.{World, Body}
use Rattle.pw_cmean.specs.Acts.{Outcome}
use Rattle.pw_cmean.specs.Lasting.{state_behind}
use Rattle.pw_interp_state.specs.Shown.{Shown, Streams}
use Rattle.pw_interp_state.specs.Runs.{Shows}
use Rattle.pw_interp_calls.specs.declared.ending.Ending.{Ending}
use Rattle.pw_interp_calls.specs.declared.ending.Stop.{Stop}
use Rattle.pw_interp_calls.specs.declared.ending.Stop.TheVariants as S
use Rattle.pw_interp_calls.specs.Endings.{view_ending}
use Rattle.pw_interp_calls.specs.Views.{view_env}
use Rattle.pw_interp_machine.specs.declared.machine.Machine.{Machine}
use Rattle.pw_interp_machine.specs.Standing.{Stands}
use Rattle.pw_interp_machine.specs.Stepping.{EndsSo, Steps}
use Rattle.pw_interp_machine.specs.Streaming.{IsRead, with_byte}
use Rattle.pw_interp_lasting.specs.Going.{GoesOnFrom}
use Rattle.pw_interp.specs.declared.ends.InterpFault.{InterpFault}
use Rattle.pw_interp.specs.declared.ends.InterpFault.TheVariants.{NoMemory}
use Rattle.pw_interp.specs.Ends.{ending_of}
use Rattle.pw_interp.specs.Streaming.{GoesOver, StandsStill, Stopped, TurnLeaves, Turns}
use Rattle.pw_interp.proofs.StreamLaws.{byte_carried, failed_read_carried, failed_write_carried, put_carried}

-- a stop that tells how the run ended
pub ended_shows : (world : World) (end : Outcome (Unit {0})) (now : Shown × Streams) (stop : Stop) (ending : Ending) → ending_of stop ≡ Ok ending → EndsSo world end stop now → Shows world end (Err (view_ending ending)) now
ended_shows world end now (S.Ended e) ending is so = let same : e ≡ ending = cc is in subst (λ x. Shows world end (Err (view_ending x)) now) same so
ended_shows world end now S.NoMemory ending is so = cc is

pub memory_alone : (stop : Stop) (fault : InterpFault) → ending_of stop ≡ Err fault → fault ≡ NoMemory
memory_alone (S.Ended e) fault is = cc is
memory_alone S.NoMemory fault is = cc is

pub only_memory : (stop : Stop) → IfErr (ending_of stop) (λ fault. fault ≡ NoMemory)
only_memory (S.Ended e) = tt
only_memory S.NoMemory = refl

-- a step of the machine that stands in this world
pub run_goes : {main : Body} {world : World} (old : Machine) {new : Machine} {before behind : Shown} {r : Result (Unit {0}) Stop} {end : Outcome (Unit {0})}
    → Steps main (view_env old.call.env).world old before r new behind → r ≡ Ok tt → (st : Streams) → Stands main world old (before, st) end → Stands main world new (behind, st) end
run_goes {main = main} {world = world} old {new = new} {before = before} {behind = behind} {r = r} {end = end} s is st at =
    let there : Steps main world old before (Ok tt) new behind =
    subst (λ x. Steps main world old before x new behind) is (subst (λ w. Steps main w old before r new behind) at.in_call.is_call.stands s) in
    there.goes st end at

pub run_ends : {main : Body} {world : World} (old : Machine) {new : Machine} {before behind : Shown} {r : Result (Unit {0}) Stop} {end : Outcome (Unit {0})} (why : Stop)
    → Steps main (view_env old.call.env).world old before r new behind → r ≡ Err why → (st : Streams) → Stands main world old (before, st) end → EndsSo world end why (behind, st)
run_ends {main = main} {world = world} old {new = new} {before = before} {behind = behind} {r = r} {end = end} why s is st at =
    let there : Steps main world old before (Err why) new behind =
    subst (λ x. Steps main world old before x new behind) is (subst (λ w. Steps main w old before r new behind) at.in_call.is_call.stands s) in
    there.stopped st end at

-- ---- turns

pub step_goes : {main : Body} (old new : Machine) (before behind : Shown) {r : Result (Unit {0}) Stop} (rest taken : Option (List ℕ)) → Steps main (view_env old.call.env).world old before r new behind → r ≡ Ok tt
    → Turns main old before rest taken (Ok None) new behind rest taken
step_goes old new before behind rest taken s is world end bytes first at =
    record { streams = at.streams; carried = at.carried; stands = run_goes old s is at.streams at.stands }

pub step_ends : {main : Body} (old new : Machine) (before behind : Shown) {r : Result (Unit {0}) Stop} (rest taken : Option (List ℕ)) (stop : Stop) (ending : Ending)
    → Steps main (view_env old.call.env).world old before r new behind → r ≡ Err stop → ending_of stop ≡ Ok ending → Turns main old before rest taken (Ok (Some ending)) new behind rest taken
step_ends old new before behind rest taken stop ending s is ends world end bytes first at =
    record { streams = at.streams; carried = at.carried; shows = ended_shows world end (behind, at.streams) stop ending ends (run_ends old stop s is at.streams at.stands) }

pub read_goes : (main : Body) (old new : Machine) (now : Shown) (rest rest' taken : Option (List ℕ)) (byte : Option ℕ) → TakesNext rest rest' (Ok byte)
    → ((world : World) (st after : Streams) (end : Outcome (Unit {0})) → IsRead st byte after → Stands main world old (now, st) end → Stands main world new (now, after) end)
    → Turns main old now rest taken (Ok None) new now rest' taken
read_goes main old new now rest rest' taken byte next received world end bytes first at =
    let c = byte_carried bytes first at.streams rest rest' taken byte at.carried next in
    record { streams = c.0; carried = c.2; stands = received world at.streams c.0 end c.1 at.stands }

pub write_goes : (main : Body) (old new : Machine) (now : Shown) (rest taken taken' : Option (List ℕ)) (byte : ℕ) → Appends taken taken' (byte ∷ [])
    → ((world : World) (st : Streams) (end : Outcome (Unit {0})) → Stands main world old (now, st) end → Stands main world new (now, with_byte byte st) end)
    → Turns main old now rest taken (Ok None) new now rest taken'
write_goes main old new now rest taken taken' byte put sent world end bytes first at =
    record { streams = with_byte byte at.streams; carried = put_carried bytes first at.streams rest taken taken' byte at.carried put; stands = sent world at.streams end at.stands }

-- ---- turns that give the run up

-- the law of what runs leave
abbrev pub MachinesGoOn : Type 0
MachinesGoOn = (main : Body) (world : World) (machine : Machine) (now : Shown × Streams) (end : Outcome (Unit {0})) → Stands main world machine now end → GoesOnFrom now.1 (state_behind end)

pub still : MachinesGoOn → (main : Body) (m : Machine) (now : Shown) (world : World) (end : Outcome (Unit {0})) (bytes : List ℕ) (taken rest' taken' : Option (List ℕ)) → GoesOver main m now world end bytes taken rest' taken'
    → StandsStill end bytes taken rest' taken'
still law main m now world end bytes taken rest' taken' at = record { streams = at.streams; carried = at.carried; later = law main world m (now, at.streams) end at.stands }

pub step_gives_up : MachinesGoOn → (main : Body) (old new : Machine) (before behind : Shown) (rest taken : Option (List ℕ)) (r : Result (Option Ending) InterpFault) (fault : InterpFault) → r ≡ Err fault → Turns main old before rest taken r new behind rest taken
step_gives_up law main old new before behind rest taken r fault is world end bytes first at =
    subst (λ (x : Result (Option Ending) InterpFault). TurnLeaves main x new behind world end bytes first rest taken) (sym is) (still law main old before world end bytes first rest taken at)

pub read_gives_up : MachinesGoOn → (main : Body) (old new : Machine) (now : Shown) (rest rest' taken : Option (List ℕ)) (fault : InterpFault) (why : Failed) → TakesNext rest rest' (Err why) → Turns main old now rest taken (Err fault) new now rest' taken
read_gives_up law main old new now rest rest' taken fault why next world end bytes first at =
    record { streams = at.streams; carried = failed_read_carried bytes first at.streams rest rest' taken why at.carried next; later = law main world old (now, at.streams) end at.stands }

pub write_gives_up : MachinesGoOn → (main : Body) (old new : Machine) (now : Shown) (rest taken taken' : Option (List ℕ)) (fault : InterpFault) (byte : ℕ) → AppendsPart taken taken' (byte ∷ []) → Turns main old now rest taken (Err fault) new now rest taken'
write_gives_up law main old new now rest taken taken' fault byte put world end bytes first at =
    record { streams = at.streams; carried = failed_write_carried bytes first at.streams rest taken taken' byte at.carried put; later = law main world old (now, at.streams) end at.stands }

-- ---- the turns of a run

-- what has not ended goes on
pub none_left : (o : Option Ending) → ((ending : Ending) → o ≡ Some ending → ⊥) → o ≡ None
none_left None other = refl
none_left (Some ending) other = absurd (other ending refl)

pub stopped_up : (r : Result Ending InterpFault) (fault : InterpFault) (now : Shown) (world : World) (end : Outcome (Unit {0})) (bytes : List ℕ) (taken rest' taken' : Option (List ℕ)) → r ≡ Err fault
    → StandsStill end bytes taken rest' taken' → Stopped r now world end bytes taken rest' taken'
stopped_up r fault now world end bytes taken rest' taken' is given = subst (λ (x : Result Ending InterpFault). Stopped x now world end bytes taken rest' taken') (sym is) given
