-- Steps of a machine.
use Rattle.std.specs.Prelude.{ℕ, ◌≡◌, Option, Result, Err, IfOk, IfErr, List}
use Rattle.pw_value.specs.declared.value.Value.{Value}
use Rattle.pw_types.specs.TypedTrees.{Statement}
use Rattle.pw_cmean.specs.Worlds.{World, Body}
use Rattle.pw_cmean.specs.Acts.{Act, State, Outcome, ◌>>=◌, ◌>>◌}
use Rattle.pw_cmean.specs.Execution.{Front, meaning}
use Rattle.pw_cmean.specs.SourceRun.{calls}
use Rattle.pw_interp_state.specs.Shown.{Shown, Streams, all_shown}
use Rattle.pw_interp_state.specs.Runs.{Shows}
use Rattle.pw_interp_calls.specs.declared.ending.Stop.{Stop}
use Rattle.pw_interp_calls.specs.declared.ending.Stop.TheVariants as S
use Rattle.pw_interp_calls.specs.Answers.{Stops}
use Rattle.pw_interp_calls.specs.Endings.{view_ending}
use Rattle.pw_interp_calls.specs.Views.{view_env}
use Rattle.pw_interp_todo.specs.Leading.{Leads}
use Rattle.pw_interp_todo.specs.Resuming.{Rest, Flowed, resume, control_act}
use Rattle.pw_interp_pushes.specs.declared.call.Call.{Call}
use Rattle.pw_interp_machine.specs.declared.machine.Machine.{Machine}
use Rattle.pw_interp_machine.specs.Waiting.{Active, leave, ended}
use Rattle.pw_interp_machine.specs.Standing.{InCall, StandsAt, Stands}

-- ---- a call that begins

-- the body of a function, and then what its call has left to do
unfoldable pub body_first : Statement → Call → Rest → Act (Unit {0})
body_first body c rest = meaning body Front (calls (view_env c.env).world c.bound) (view_env c.env) >>= λ flow. rest (view_env c.env) c.bound (Flowed flow)

-- What a function does while it is active, and then the return from it, comes from its body in this call.
pub record Opened (world : World) (act : Act (Option Value)) (body : Statement) (taken : ℕ) (before : Shown) (call : Call) (behind : Shown) : Type 0 where
  pub leads : (a : Active) (next : Option Value → Act (Unit {0})) → Leads world (act >>= λ v. leave a >> next v) before (body_first body call (resume call.todo.items (ended a next))) behind
  pub room : call.before ≡ taken
  pub stands : (view_env call.env).world ≡ world

pub record Opens (world : World) (act : Act (Option Value)) (body : Statement) (taken : ℕ) (before : Shown) (result : Result Call Stop) (behind : Shown) : Type 0 where
  pub opened : IfOk result (λ call. Opened world act body taken before call behind)
  pub stopped : IfErr result (λ stop. Stops world act before stop behind)

-- What a call of a function comes to, whoever waits for its result, comes from its body in this call.
pub record Begins (world : World) (act : Act (Option Value)) (body : Statement) (before : Shown) (result : Result Call Stop) (behind : Shown) : Type 0 where
  pub begun : IfOk result (λ call. (next : Option Value → Act (Unit {0})) (st : Streams) (s : State) → all_shown world s ≡ (before, st) → InCall world call (body_first body call) next (behind, st) ((act >>= next) s))
  pub stopped : IfErr result (λ stop. Stops world act before stop behind)

-- ---- a step of the machine

-- The run ends so; of want of memory nothing is said.
abbrev pub EndsSo : World → Outcome (Unit {0}) → Stop → Shown × Streams → Type 0
EndsSo world end (S.Ended ending) behind = Shows world end (Err (view_ending ending)) behind
EndsSo world end S.NoMemory behind = Unit {0}

-- What the run comes to by an act in a call with its callers it comes to from where the machine stands, or it has ended; nothing
-- is read or written.
pub record StepsAt (main : Body) (world : World) (call : Call) (callers : List Call) (act : Rest → Act (Unit {0})) (before : Shown) (result : Result (Unit {0}) Stop) (new : Machine) (behind : Shown) : Type 0 where
  pub goes : IfOk result (λ done. (st : Streams) (end : Outcome (Unit {0})) → StandsAt main world call callers act (before, st) end → Stands main world new (behind, st) end)
  pub stopped : IfErr result (λ stop. (st : Streams) (end : Outcome (Unit {0})) → StandsAt main world call callers act (before, st) end → EndsSo world end stop (behind, st))

-- From where the machine stood.
abbrev pub Steps : Body → World → Machine → Shown → Result (Unit {0}) Stop → Machine → Shown → Type 0
Steps main world old = StepsAt main world old.call old.callers.items (control_act old.control (view_env old.call.env) old.call.bound)

-- ---- a machine that starts

-- What a run comes to by an act it comes to from where the machine stands, or it has ended.
pub record Starts (main : Body) (world : World) (act : Act (Unit {0})) (before : Shown) (result : Result Machine Stop) (behind : Shown) : Type 0 where
  pub starts : IfOk result (λ m. (st : Streams) (s : State) → all_shown world s ≡ (before, st) → Stands main world m (behind, st) (act s))
  pub stopped : IfErr result (λ stop. Stops world act before stop behind)
