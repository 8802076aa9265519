use Rattle.std.proofs.Common.{sym, ap, ◌∙◌}
use Rattle.pw_check_state.specs.StateViews.{view_state}
use Rattle.pw_tree.specs.Views.{view_inits}
use Rattle.pw_types.specs.Views.{view_qtype}
use Rattle.pw_check_init_parts.specs.FilledViews.{view_context}
use Rattle.pw_check_init_parts.proofs.WalkLemmas.{same_walk}
use Rattle.pw_tree.specs.Trees as tree
use Rattle.pw_check_rules.specs.Initialisers.{object_rule}
use Rattle.pw_check_init.proofs.ObjectLemmas.{shown_value, shown_list}
use Rattle.pw_check_init.proofs.object.object_rule.Goals as goal

pub returns-in-Value : goal.returns-in-Value
returns-in-Value g c = same_walk (shown_value (view_context c.args.cx.now) (view_qtype c.args.q) (view_state c.args.state.now) c.args.init.now c.in-Value.e c.in-Value.is) c.object_expression.ensures

pub returns-in-List : goal.returns-in-List
returns-in-List g c =
    same_walk (shown_list (view_context c.args.cx.now) (view_qtype c.args.q) (view_state c.args.state.now) c.args.init.now c.in-List.token c.in-List.items c.in-List.trailing_comma c.in-List.is
    (c.statements_show_their_lists.ensures.braces c.in-List.token c.in-List.items c.in-List.trailing_comma)
    ∙ ap (λ ws. object_rule (view_context c.args.cx.now) (view_qtype c.args.q) (tree.Braces c.in-List.token (view_inits ws) c.in-List.trailing_comma) (view_state c.args.state.now)) (sym c.deref.ensures.value))
    (c.object_braces.ensures _ _)
