use Rattle.std.proofs.Common.{arith}
use Rattle.std.proofs.lemmas.Grind.{common_steps}
use Rattle.pw_check_state.specs.StateViews.{view_state}
use Rattle.pw_check_init_parts.specs.PlaceViews.{view_cursor}
use Rattle.pw_tree.specs.Views.{view_expr, view_words}
use Rattle.pw_check_init_parts.specs.FilledViews.{view_context, view_filled}
use Rattle.pw_check_init_parts.proofs.WalkLemmas.{same_walk}
use Rattle.pw_check_rules.specs.Initialisers.{string_form}
use Rattle.pw_check_init.proofs.ListLemmas.{string_listed, text_listed}
use Rattle.pw_check_init.proofs.lists.listed_form.Goals as goal

pub returns-in-Some : goal.returns-in-Some
returns-in-Some g c = same_walk (string_listed (view_context c.args.cx.now) (view_cursor c.args.before.cursor.items) (view_filled c.args.before.filled) (view_expr c.args.expr.now) (view_state c.args.state.now) (string_form (view_expr c.args.expr.now)) (view_words c.in-Some.words.now) (grind (arith, common_steps)) (grind (arith, common_steps))) c.listed_string.ensures

pub returns-in-None : goal.returns-in-None
returns-in-None g c = same_walk (text_listed (view_context c.args.cx.now) (view_cursor c.args.before.cursor.items) (view_filled c.args.before.filled) (view_expr c.args.expr.now) (view_state c.args.state.now) (string_form (view_expr c.args.expr.now)) (grind (arith, common_steps))) c.listed_expression.ensures
