use Rattle.std.proofs.Common.{rules, refl}
use Rattle.pw_check_state.specs.StateViews.{view_state}
use Rattle.pw_tree.specs.Views.{view_expr, view_inits}
use Rattle.pw_check_walk.proofs.CallLaws.{step_ok, step_err}
use Rattle.pw_check_init_parts.specs.FilledViews.{view_context}
use Rattle.pw_check_init.specs.Views.{view_reading}
use Rattle.pw_check_init_parts.proofs.WalkLemmas.{same_walk, done_with}
use Rattle.pw_check_init.proofs.ReadingLemmas.{value_joined}
use Rattle.pw_check_init.proofs.readings.value_turn.Goals as goal

pub returns-in_err-listed-clause-turn : goal.returns-in_err-listed-clause-turn
returns-in_err-listed-clause-turn g c = same_walk (value_joined (view_context c.args.cx.now) (view_reading c.args.x) (view_expr c.args.expr.now) (view_inits c.args.rest.now) (view_state c.args.state.now)) (step_err _ c.listed_form.ensures c.in_err-listed.was (search rules))

pub returns-clause-turn : goal.returns-clause-turn
returns-clause-turn g c = same_walk (value_joined (view_context c.args.cx.now) (view_reading c.args.x) (view_expr c.args.expr.now) (view_inits c.args.rest.now) (view_state c.args.state.now)) (step_ok _ c.listed_form.ensures c.in_ok-listed.was (done_with refl refl refl))
