use Rattle.std.proofs.Common.{rules, sym, ap, ◌∙◌, arith}
use Rattle.std.proofs.lemmas.Grind.{common_steps}
use Rattle.pw_check_state.specs.StateViews.{view_state}
use Rattle.pw_check_init_parts.specs.PlaceViews.{view_cursor}
use Rattle.pw_tree.specs.Views.{view_inits}
use Rattle.pw_check_walk.proofs.CallLaws.{step_err}
use Rattle.pw_check_init_parts.specs.FilledViews.{view_context, view_filled}
use Rattle.pw_check_init.specs.Views.{view_outer, view_reading}
use Rattle.pw_check_walk.specs.Walks.{outcome}
use Rattle.pw_check_walk.proofs.BindLaws.{bind_made}
use Rattle.pw_check_walk.proofs.CallLaws.{made_by}
use Rattle.pw_check_init.specs.Readings.{reading_rule, turn_rule}
use Rattle.pw_check_init_parts.proofs.WalkLemmas.{same_end}
use Rattle.pw_check_init.proofs.ReadingLemmas.{reading_begun, reading_over, turn_then}
use Rattle.pw_check_init.proofs.readings.inits_rule.Goals as goal

pub loop-alloc-preserved : goal.loop-alloc-preserved
loop-alloc-preserved g c =
    c.loop-alloc.invariant
    ∙ ap outcome (turn_then (view_context c.args.cx.now) (view_reading c.loop-alloc.x) (view_state c.loop-alloc.state))
    ∙ bind_made (turn_rule (view_context c.args.cx.now) (view_reading c.loop-alloc.x) (view_state c.loop-alloc.state)) (λ t. reading_rule (view_context c.args.cx.now) t.0 t.1) _ (made_by c.turn.ensures.turn c.in_ok-x.was)

pub returns-in_err-x : goal.returns-in_err-x
returns-in_err-x g c =
    same_end (c.loop-alloc.invariant ∙ ap outcome (turn_then (view_context c.args.cx.now) (view_reading c.loop-alloc.x) (view_state c.loop-alloc.state)))
    (step_err _ c.turn.ensures.turn c.in_err-x.was (search rules))

pub returns : goal.returns
returns g c =
    record {
      made = c.loop-alloc.invariant ∙ reading_over (view_context c.args.cx.now) (view_reading c.loop-alloc.x) (view_state c.loop-alloc.state) (grind (arith, common_steps));
      told = tt;
    }

pub loop-alloc-init : goal.loop-alloc-init
loop-alloc-init g c =
    sym (ap outcome (reading_begun (view_context c.args.cx.now)
    (record { items = view_inits c.args.items.now; outer = view_outer c.new.result.items; cursor = view_cursor c.args.before.cursor.items; filled = view_filled c.args.before.filled })
    (view_state c.args.state.now) (ap view_outer c.new.ensures.items)))
