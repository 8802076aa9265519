-- A machine stands where a run has got to.
use Rattle.std.specs.Prelude.{◌≡◌, Option, List, [], ◌∷◌}
use Rattle.pw_value.specs.declared.value.Value.{Value}
use Rattle.pw_cmean.specs.Worlds.{World, Body, depth}
use Rattle.pw_cmean.specs.Acts.{Act, State, Outcome}
use Rattle.pw_cmean.specs.SourceRun.{finish}
use Rattle.pw_interp_state.specs.Shown.{Shown, Streams, all_shown}
use Rattle.pw_interp_calls.specs.Views.{view_env}
use Rattle.pw_interp_todo.specs.Resuming.{Rest, resume, control_act}
use Rattle.pw_interp_pushes.specs.declared.call.Call.{Call}
use Rattle.pw_interp_machine.specs.declared.machine.Machine.{Machine}
use Rattle.pw_interp_machine.specs.Waiting.{Active, ended, callers_act}

-- a call in this world, before which the active functions take so much of the stack
pub record IsCall (world : World) (c : Call) (a : Active) : Type 0 where
  pub room : depth world a.before ≡ c.before
  pub stands : (view_env c.env).world ≡ world

abbrev pub AreCalls : World → List Call → List Active → Type 0
AreCalls world [] [] = Unit {0}
AreCalls world [] (a ∷ others) = ⊥
AreCalls world (c ∷ more) [] = ⊥
AreCalls world (c ∷ more) (a ∷ others) = IsCall world c a × AreCalls world more others

-- The run comes to this from a call: from a state that shows what the code holds, with such input and output, the act is done,
-- then what the call has left to do, and then who waits for its result.
pub record InCall (world : World) (call : Call) (act : Rest → Act (Unit {0})) (next : Option Value → Act (Unit {0})) (now : Shown × Streams) (end : Outcome (Unit {0})) : Type 0 where
  pub active : Active
  pub state : State
  pub is_call : IsCall world call active
  pub shows : all_shown world state ≡ now
  pub comes : end ≡ act (resume call.todo.items (ended active next)) state

-- It comes to this from the call that runs, with these callers, of a program with this main.
pub record StandsAt (main : Body) (world : World) (call : Call) (callers : List Call) (act : Rest → Act (Unit {0})) (now : Shown × Streams) (end : Outcome (Unit {0})) : Type 0 where
  pub waiting : List Active
  pub are_calls : AreCalls world callers waiting
  pub in_call : InCall world call act (callers_act callers waiting (finish main)) now end

-- It comes to this from where the machine stands.
abbrev pub Stands : Body → World → Machine → Shown × Streams → Outcome (Unit {0}) → Type 0
Stands main world m = StandsAt main world m.call m.callers.items (control_act m.control (view_env m.call.env) m.call.bound)
