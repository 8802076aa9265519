-- What an act comes to, as far as it shows.
use Rattle.std.specs.Prelude.{ℕ, ◌≡◌, Result, Ok, Err, List}
use Rattle.pw_value.specs.Objects.{Object, ended}
use Rattle.pw_cmean.specs.Worlds.{World}
use Rattle.pw_cmean.specs.Acts.{Act, State, Ending, Outcome, Gives, Ends, Site}
use Rattle.pw_interp_state.specs.declared.fault.Fault.{Fault}
use Rattle.pw_interp_state.specs.Answers.{ending_of}
use Rattle.pw_interp_state.specs.Shown.{Shown, Streams, all_shown}

-- an outcome gives the value, or ends so, and its state shows this, with such input and output
abbrev pub Shows : {A : Type 0} → World → Outcome A → Result A Ending → Shown × Streams → Type 0
Shows world (Gives a s) result behind = (Ok a ≡ result) × (all_shown world s ≡ behind)
Shows world (Ends ending s) result behind = (Err ending ≡ result) × (all_shown world s ≡ behind)

-- From each state that shows the one, the act comes to the result in a state that shows the other; it neither reads nor writes.
pub record Runs {A : Type 0} (world : World) (act : Act A) (before : Shown) (result : Result A Ending) (behind : Shown) : Type 0 where
  pub comes : (st : Streams) (s : State) → all_shown world s ≡ (before, st) → Shows world (act s) result (behind, st)

-- an answer at a node
abbrev pub at_node : {A : Type 0} → Site → Result A Fault → Result A Ending
at_node site (Ok a) = Ok a
at_node site (Err fault) = Err (ending_of site fault)

-- new objects at a node: the result, and what shows
abbrev pub done_at : Site → Result (List Object) Fault → Result (Unit {0}) Ending
done_at site (Ok objects) = Ok tt
done_at site (Err fault) = Err (ending_of site fault)

abbrev pub with_new : Result (List Object) Fault → Shown → Shown
with_new (Ok objects) w = record w { objects = objects }
with_new (Err fault) w = w

-- behind a call that returned the caller's functions are active
abbrev pub behind_call : {A : Type 0} → Shown → Result A Ending → Shown → Shown
behind_call before (Ok a) behind = record behind { used = before.used }
behind_call before (Err ending) behind = behind

-- behind a block the object of its local has ended
abbrev pub behind_block : {A : Type 0} → ℕ → Result A Ending → Shown → Shown
behind_block number (Ok a) behind = record behind { objects = ended number behind.objects }
behind_block number (Err ending) behind = behind
