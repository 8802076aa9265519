use Rattle.std.proofs.Common.{sym, ap, ◌∙◌}
use Rattle.pw_check_state.specs.StateViews.{view_state}
use Rattle.pw_tree.specs.Views.{view_inits, view_words}
use Rattle.pw_types.specs.Views.{view_qtype}
use Rattle.pw_check_init_parts.specs.FilledViews.{view_context}
use Rattle.pw_check_init_parts.proofs.WalkLemmas.{same_walk}
use Rattle.pw_check_rules.specs.Initialisers.{fills_characters, words_in}
use Rattle.pw_types.specs.TypeTrees.{type_of}
use Rattle.pw_check_init.proofs.ObjectLemmas.{braced_object, list_object}
use Rattle.pw_check_init.proofs.object.object_braces.Goals as goal

pub returns-in-Some : goal.returns-in-Some
returns-in-Some g c token trailing =
    same_walk (braced_object (view_context c.args.cx.now) (view_qtype c.args.q) (view_state c.args.state.now) token (view_inits c.args.items.now) trailing (view_words c.in-Some.words.now)
    (ap (fills_characters (type_of (view_qtype c.args.q))) (sym c.braced_string.ensures) ∙ c.in-Some.ensures.filled) (ap words_in (sym c.braced_string.ensures) ∙ c.in-Some.ensures.words))
    c.object_string.ensures

pub returns-in-None : goal.returns-in-None
returns-in-None g c token trailing =
    same_walk (list_object (view_context c.args.cx.now) (view_qtype c.args.q) (view_state c.args.state.now) token (view_inits c.args.items.now) trailing (ap (fills_characters (type_of (view_qtype c.args.q))) (sym c.braced_string.ensures) ∙ c.in-None.ensures.other)) c.object_list.ensures
