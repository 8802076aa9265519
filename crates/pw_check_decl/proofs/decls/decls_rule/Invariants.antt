use Rattle.std.proofs.Common.{◌≡◌, drop}
use Rattle.pw_check_walk.specs.Walks.{outcome}
use Rattle.pw_check_state.specs.StateViews.{view_state}
use Rattle.pw_check_rules.specs.Declarations.{decls_rule}
use Rattle.pw_tree.specs.Views.{view_decls}
use Rattle.pw_check_decl.specs.Views.{view_made}
use Rattle.pw_check_decl.proofs.DeclLemmas.{over_decls}
use Rattle.pw_check_decl.proofs.decls.decls_rule.Given as goal

-- what is left of the list comes to what all of it does
abbrev pub invariant-loop-decl : goal.invariant-loop-decl
invariant-loop-decl g l =
    outcome (decls_rule (view_decls l.decls) (view_state l.initial.state))
    ≡ outcome (over_decls (drop l.decl-index l.decls) (view_made l.made) (view_state l.state))
