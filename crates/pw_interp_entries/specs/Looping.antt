-- Loops as they are met (ISO C90 6.6.5).
use Rattle.std.specs.Prelude.{Bool, true, false, Option, Some, None}
use Rattle.pw_types.specs.TypedTrees.{Expression, Statement, While, Do, For}
use Rattle.pw_typed.specs.Views.{view_expr, view_optional}
use Rattle.pw_cmean.specs.Acts.{Act, ◌>>◌, give}
use Rattle.pw_cmean.specs.Evaluation.{Env, Calls}
use Rattle.pw_cmean.specs.Execution.{Entry, Front, At_label, Flow, turn, meet_loop, always, condition, for_condition, drop_value}
use Rattle.pw_interp_entries.specs.declared.loops.Ahead.{Ahead}
use Rattle.pw_interp_entries.specs.declared.loops.Ahead.TheVariants as A
use Rattle.pw_interp_entries.specs.declared.loops.Tail.{Tail}
use Rattle.pw_interp_entries.specs.declared.loops.Tail.TheVariants as T
use Rattle.pw_interp_todo.specs.Loops.{ahead_of, behind_of, body_of, top_act}

-- the body
abbrev pub body_in : Statement → Option Statement
body_in (While t c body) = Some body
body_in (Do t body c) = Some body
body_in (For t first c third body) = Some body
body_in _ = None

-- the body, met there, and what stands behind it
abbrev pub body_act : Statement → Env → Entry → Calls → Act Flow
body_act s e at cs = turn (body_of s e) (behind_of s e) at cs (top_act s e cs)

abbrev pub met_act : Statement → Env → Entry → Calls → Act Flow
met_act s e at cs = meet_loop (ahead_of s e) (body_of s e) (behind_of s e) at cs

-- with a first part, which comes at its beginning
unfoldable pub counting_act : Option Expression → Statement → Env → Entry → Calls → Act Flow
counting_act first s e Front cs = drop_value first cs e >> met_act s e Front cs
counting_act first s e (At_label l) cs = met_act s e (At_label l) cs

-- what is tested at the top, and what stands behind the body
abbrev pub ahead_act : Ahead → Env → Calls → Act Bool
ahead_act (A.Condition c) e cs = condition (view_expr c.now) cs e
ahead_act A.Always e cs = always cs
ahead_act (A.Optional c) e cs = for_condition (view_optional c.now) cs e
ahead_act A.Never e cs = give false

abbrev pub tail_act : Tail → Env → Calls → Act Bool
tail_act (T.Condition c) e cs = condition (view_expr c.now) cs e
tail_act T.Always e cs = always cs
tail_act (T.Third a) e cs = drop_value (view_optional a.now) cs e >> give true
tail_act T.Never e cs = give false
