-- Where statements are met (ISO C90 6.6.1).
use Rattle.std.specs.Prelude.{ℕ, Bool, true, false, List}
use Rattle.pw_types.specs.TypedTrees.{Statement, Block, If, Label, Arms, Otherwise}
use Rattle.pw_types.specs.Labels.{labels_in}
use Rattle.pw_cmean.specs.Acts.{Act, ◌>>=◌, branch}
use Rattle.pw_cmean.specs.Evaluation.{Env, Calls}
use Rattle.pw_cmean.specs.Execution.{Entry, Front, At_label, Flow, holds, meaning}
use Rattle.pw_interp_todo.specs.Going.{arm_behind}
use Rattle.pw_interp_todo.specs.Parts.{met_arms}

-- whether a statement with these labels is met
abbrev pub is_met : List ℕ → Entry → Bool
is_met labels Front = true
is_met labels (At_label l) = holds labels l

-- an arm that is entered at a label, or those behind it
unfoldable pub arm_or_later : Statement → Arms → Otherwise → ℕ → Env → Calls → Act Flow
arm_or_later body rest otherwise l e cs = branch (holds (labels_in body) l) (meaning body (At_label l) cs e >>= arm_behind rest otherwise e cs) (met_arms rest otherwise e (At_label l) cs)

-- a statement that takes up gotos to labels in it
abbrev pub takes_up : Statement → Bool
takes_up (Block t first count initialisers list) = true
takes_up (If t list otherwise) = true
takes_up (Label t labels body) = true
takes_up _ = false
