use Rattle.std.proofs.Common.{◌≡◌, drop}
use Rattle.pw_check_walk.specs.Walks.{outcome}
use Rattle.pw_check_state.specs.PhraseViews.{view_specified}
use Rattle.pw_check_state.specs.StateViews.{view_state}
use Rattle.pw_check_rules.specs.Declarations.{init_declarators_rule}
use Rattle.pw_tree.specs.Views.{view_init_declarators}
use Rattle.pw_check_decl.specs.Views.{view_made}
use Rattle.pw_check_decl.proofs.DeclLemmas.{over_declarators}
use Rattle.pw_check_decl.proofs.decls.init_declarators_rule.Given as goal

-- what is left of the list comes to what all of it does
abbrev pub invariant-loop-d : goal.invariant-loop-d
invariant-loop-d g l =
    outcome (init_declarators_rule (view_specified l.specified) (view_init_declarators l.declarators) (view_state l.initial.state))
    ≡ outcome (over_declarators (view_specified l.specified) (drop l.d-index l.declarators) (view_made l.made) (view_state l.state))
