-- The plain data that where an expression stands shows.
use Rattle.pw_typed.specs.Views.{view_locals}
use Rattle.pw_cmean.specs.Evaluation as evaluation
use Rattle.pw_interp_world.specs.Views.{view_part}
use Rattle.pw_interp_calls.specs.declared.env.Env.{Env}
use Rattle.pw_interp_calls.specs.WorldViews.{view_world}

abbrev pub view_env : Env → evaluation.Env
view_env e = record { world = view_world e.world.now; home = view_part e.home; locals = view_locals e.locals.now; numbers = e.numbers.items }
