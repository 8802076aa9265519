-- What is left to do in a call of a function: what each of a list says that comes behind, and the whole list.
use Rattle.std.specs.Prelude.{ℕ, zero, suc, Option, List, [], ◌∷◌, slice_set}
use Rattle.pw_value.specs.declared.value.Value.{Value}
use Rattle.pw_typed.specs.Views.{view_exprs}
use Rattle.pw_cmean.specs.Acts.{Act, ◌>>=◌, ◌>>◌, give, wrong, end_object}
use Rattle.pw_cmean.specs.Evaluation.{Env, site, used, values_of}
use Rattle.pw_cmean.specs.Execution.{Flow}
use Rattle.pw_cmean.specs.SourceRun.{calls, result_of}
use Rattle.pw_interp_todo.specs.declared.todo.Control.{Control}
use Rattle.pw_interp_todo.specs.declared.todo.Control.TheVariants as C
use Rattle.pw_interp_todo.specs.declared.todo.Todo.{Todo}
use Rattle.pw_interp_todo.specs.declared.todo.Todo.TheVariants as T
use Rattle.pw_interp_todo.specs.Asking.{asked_act}
use Rattle.pw_interp_todo.specs.Flows.{view_flow}
use Rattle.pw_interp_todo.specs.Operands.{behind, call_behind}
use Rattle.pw_interp_todo.specs.Parts.{doing_act}
use Rattle.pw_interp_todo.specs.Going.{remainder_act, use_act}
use Rattle.pw_interp_todo.specs.Transfers.{transfer_act}

-- what was done has given this: a result, what comes of a statement, or the values of a call's arguments
pub data Told : Type 0 where
  Gave : Option Value → Told
  Flowed : Flow → Told
  Listed : List Value → Told

-- What is left to do, from where the function stands, with the bound of now and what is told.
abbrev pub Rest : Type 0
Rest = Env → ℕ → Told → Act (Unit {0})

unfoldable pub on_value : Told → (Option Value → Act (Unit {0})) → Act (Unit {0})
on_value (Gave given) next = next given
on_value (Flowed flow) next = wrong
on_value (Listed vs) next = wrong

unfoldable pub on_flow : Told → (Flow → Act (Unit {0})) → Act (Unit {0})
on_flow (Gave given) next = wrong
on_flow (Flowed flow) next = next flow
on_flow (Listed vs) next = wrong

unfoldable pub on_list : Told → (List Value → Act (Unit {0})) → Act (Unit {0})
on_list (Gave given) next = wrong
on_list (Flowed flow) next = wrong
on_list (Listed vs) next = next vs

-- a local that goes out of scope has what it had before
abbrev pub put_back : ℕ → Option ℕ → Env → Env
put_back k before e = record e { numbers = slice_set e.numbers k before }

-- so many objects from a number on end, the last one first
unfoldable pub end_objects : ℕ → ℕ → Act (Unit {0})
end_objects zero number = give tt
end_objects (suc count) number = end_objects count (suc number) >> end_object number

-- what one of the list says, and the rest behind it
unfoldable pub after : Todo → Rest → Rest
after (T.Operand operand) rest e n told = on_value told (λ given. behind operand given e n >>= λ r. rest e n (Gave r))
after (T.Argument args token) rest e n told = on_value told (λ given. do
  v ← used (site e token) given
  vs ← values_of (view_exprs args.now) token (calls e.world n) e
  rest e n (Listed (v ∷ vs)))
after (T.Held v) rest e n told = on_list told (λ vs. rest e n (Listed (v ∷ vs)))
after (T.Call callee) rest e n told = on_list told (λ vs. call_behind callee vs e n >>= λ r. rest e n (Gave r))
after (T.Value what bound) rest e n told = on_value told (λ given. use_act what e n given >>= λ flow. rest e bound (Flowed flow))
after (T.Flow what bound) rest e n told = on_flow told (λ flow. remainder_act what e n flow >>= λ f. rest e bound (Flowed f))
after (T.EndLocal local number before) rest e n told = end_object number >> rest (put_back local before e) n told
after T.Returned rest e n told = on_flow told (λ flow. result_of flow >>= λ r. rest e n (Gave r))
after (T.EndParameters count number) rest e n told = end_objects count number >> rest e n told

-- the whole list, of which the last comes first
abbrev pub resume : List Todo → Rest → Rest
resume [] rest = rest
resume (first ∷ more) rest = resume more (after first rest)

-- what is done now, and the rest behind it
unfoldable pub control_act : Control → Env → ℕ → Rest → Act (Unit {0})
control_act (C.Ask asked) e n rest = asked_act asked e n >>= λ r. rest e n (Gave r)
control_act (C.Do what bound) e n rest = doing_act what e n >>= λ flow. rest e bound (Flowed flow)
control_act (C.Arguments args token) e n rest = values_of (view_exprs args.now) token (calls e.world n) e >>= λ vs. rest e n (Listed vs)
control_act (C.Gave given) e n rest = rest e n (Gave given)
control_act (C.Flowed flow) e n rest = rest e n (Flowed (view_flow flow))
control_act C.Listed e n rest = rest e n (Listed [])
control_act (C.Outside transfer) e n rest = transfer_act transfer >>= λ r. rest e n (Gave r)
