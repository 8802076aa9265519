use Rattle.std.proofs.Common.{rules, refl}
use Rattle.pw_check_state.specs.StateViews.{view_state}
use Rattle.pw_check_init_parts.specs.PlaceViews.{view_target}
use Rattle.pw_tree.specs.Views.{view_words}
use Rattle.pw_check_walk.proofs.CallLaws.{step_ok, step_err}
use Rattle.pw_check_init_parts.specs.FilledViews.{view_context, view_filled}
use Rattle.pw_check_init.specs.Views.{view_around, view_outer}
use Rattle.pw_check_init_parts.proofs.WalkLemmas.{same_walk, done_with}
use Rattle.pw_check_init.proofs.ReadingLemmas.{string_joined}
use Rattle.pw_check_init.proofs.readings.string_turn.Goals as goal

pub returns-in_err-filled-clause-turn : goal.returns-in_err-filled-clause-turn
returns-in_err-filled-clause-turn c = same_walk (string_joined (view_context c.args.cx.now) (view_words c.args.words.now) (view_around c.args.around) (view_outer c.args.outer.items) (view_target c.args.target.now) (view_filled c.args.filled) (view_state c.args.state.now)) (step_err _ c.string_filled.ensures c.in_err-filled.was (search rules))

pub returns-clause-turn : goal.returns-clause-turn
returns-clause-turn c =
    same_walk (string_joined (view_context c.args.cx.now) (view_words c.args.words.now) (view_around c.args.around) (view_outer c.args.outer.items) (view_target c.args.target.now) (view_filled c.args.filled) (view_state c.args.state.now)) (step_ok _ c.string_filled.ensures c.in_ok-filled.was (done_with refl (cc (c.in_ok-behind_list.ensures, c.records.ensures)) refl))
