-- Loops by their forms (ISO C90 6.6.5). What is no loop is left at its top.
use Rattle.std.specs.Prelude.{Bool, true, false, [], ◌∷◌}
use Rattle.pw_types.specs.TypedTrees.{Statement, While, Do, For}
use Rattle.pw_cmean.specs.Acts.{Act, Bound, ◌>>=◌, ◌>>◌, give, stop, branch}
use Rattle.pw_cmean.specs.Evaluation.{Env, Calls}
use Rattle.pw_cmean.specs.Execution as execution
use Rattle.pw_cmean.specs.Execution.{Entry, Front, Flow, Normal, always, condition, for_condition, drop_value, meaning, turn, after_body}

-- what is tested at the top
abbrev pub ahead_of : Statement → Env → Calls → Act Bool
ahead_of (While t c body) e cs = condition c cs e
ahead_of (Do t body c) e cs = always cs
ahead_of (For t first c third body) e cs = for_condition c cs e
ahead_of _ e cs = give false

abbrev pub body_of : Statement → Env → Entry → Calls → Act Flow
body_of (While t c body) e at cs = meaning body at cs e
body_of (Do t body c) e at cs = meaning body at cs e
body_of (For t first c third body) e at cs = meaning body at cs e
body_of _ e at cs = give Normal

-- what stands behind the body
abbrev pub behind_of : Statement → Env → Calls → Act Bool
behind_of (While t c body) e cs = always cs
behind_of (Do t body c) e cs = condition c cs e
behind_of (For t first c third body) e cs = drop_value third cs e >> give true
behind_of _ e cs = give false

-- a loop from its top
abbrev pub loop_act : Statement → Env → Calls → Act Flow
loop_act s e cs = execution.loop (ahead_of s e) (body_of s e) (behind_of s e) cs

-- back at the top, with a bound that is one smaller
unfoldable pub top_act : Statement → Env → Calls → Act Flow
top_act s e [] = stop Bound
top_act s e (c ∷ cs) = loop_act s e cs

-- where what is tested at the top says so, the body and what stands behind it
unfoldable pub turn_or_leave : Statement → Env → Calls → Bool → Act Flow
turn_or_leave s e cs more = branch more (turn (body_of s e) (behind_of s e) Front cs (top_act s e cs)) (give Normal)

-- where what stands behind the body says so, the way back to the top
unfoldable pub top_or_leave : Statement → Env → Calls → Bool → Act Flow
top_or_leave s e cs more = branch more (top_act s e cs) (give Normal)

-- behind the body
unfoldable pub body_behind : Statement → Env → Calls → Flow → Act Flow
body_behind s e cs flow = after_body (behind_of s e cs >>= top_or_leave s e cs) flow
