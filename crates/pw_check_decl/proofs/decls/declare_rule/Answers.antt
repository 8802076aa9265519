use Rattle.std.proofs.Common.{ap}
use Rattle.pw_check_state.specs.PhraseViews.{view_specified}
use Rattle.pw_check_state.specs.StateViews.{view_state}
use Rattle.pw_tree.specs.Views.{view_initializer, view_word}
use Rattle.pw_types.specs.Views.{view_qtype}
use Rattle.pw_check_init_parts.proofs.WalkLemmas.{same_walk}
use Rattle.pw_check_decl_names.specs.Views.{view_sort}
use Rattle.pw_check_rules.specs.Declarations.{declare_rule}
use Rattle.pw_check_decl.proofs.decls.declare_rule.Goals as goal

pub returns-in-ATypedef : goal.returns-in-ATypedef
returns-in-ATypedef g c spot =
    same_walk (ap (λ sort. declare_rule (view_sort sort) (view_word c.args.word.now) (view_specified c.args.specified.now) spot (view_qtype c.args.q) (view_initializer c.args.initializer.now) (view_state c.args.state.now)) c.in-ATypedef.is)
    (c.typedef_only.ensures (view_specified c.args.specified.now) spot (view_initializer c.args.initializer.now))
