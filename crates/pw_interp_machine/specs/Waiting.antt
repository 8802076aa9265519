-- Calls that are not over, and who waits for them.
use Rattle.std.specs.Prelude.{ℕ, Option, List, [], ◌∷◌}
use Rattle.pw_value.specs.declared.value.Value.{Value}
use Rattle.pw_cmean.specs.Acts.{Act, Gives, Returned, ◌>>◌}
use Rattle.pw_interp_calls.specs.Views.{view_env}
use Rattle.pw_interp_todo.specs.Resuming.{Rest, Gave, on_value, resume}
pub use Rattle.pw_interp_pushes.specs.declared.call.Call.{Call}

-- What no code holds of a call that is not over: the function's full name, and the functions that were active before it.
pub record Active : Type 0 where
  pub name : List ℕ
  pub before : List (List ℕ)

-- a call returns: the functions are active that were before it
unfoldable pub leave : Active → Act (Unit {0})
leave a s = Gives tt (record s { active = a.before; moments = Returned a.name s.objects ∷ s.moments })

-- behind the last that a function has left to do its result goes to who waits for it
unfoldable pub ended : Active → (Option Value → Act (Unit {0})) → Rest
ended a next e n told = on_value told (λ v. leave a >> next v)

-- a caller goes on with the result, and behind it who waits for that
unfoldable pub goes_on : Call → Active → (Option Value → Act (Unit {0})) → Option Value → Act (Unit {0})
goes_on c a next v = resume c.todo.items (ended a next) (view_env c.env) c.bound (Gave v)

-- the callers, of which the last comes first, and then this
abbrev pub callers_act : List Call → List Active → (Option Value → Act (Unit {0})) → Option Value → Act (Unit {0})
callers_act [] actives next = next
callers_act (c ∷ more) [] next = next
callers_act (c ∷ more) (a ∷ others) next = callers_act more others (goes_on c a next)
