use Rattle.std.proofs.Common.{rules}
use Rattle.pw_check_state.specs.StateViews.{view_state}
use Rattle.pw_check_init_parts.specs.PlaceViews.{view_target}
use Rattle.pw_tree.specs.Views.{view_words}
use Rattle.pw_check_walk.proofs.CallLaws.{step_ok, step_err}
use Rattle.pw_check_init_parts.specs.FilledViews.{view_context, view_filled}
use Rattle.pw_check_init_parts.proofs.WalkLemmas.{same_walk}
use Rattle.pw_check_init_parts.proofs.StringLemmas.{string_behind}
use Rattle.pw_check_init_parts.proofs.strings.string_filled.Goals as goal

pub returns-in_err-bytes : goal.returns-in_err-bytes
returns-in_err-bytes c =
    same_walk (string_behind (view_context c.args.cx.now) (view_words c.args.words.now) (view_target c.args.target.now) (view_filled c.args.filled) (view_state c.args.state.now))
    (step_err _ c.string_bytes.ensures c.in_err-bytes.was (search rules))

pub returns : goal.returns
returns c =
    same_walk (string_behind (view_context c.args.cx.now) (view_words c.args.words.now) (view_target c.args.target.now) (view_filled c.args.filled) (view_state c.args.state.now))
    (step_ok _ c.string_bytes.ensures c.in_ok-bytes.was c.bytes_filled.ensures)
